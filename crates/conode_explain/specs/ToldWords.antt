-- What is said of SDO transfers: of their frames, and of those that ended.
use Rattle.std.specs.Prelude.{ℕ, Bool, List, [], ◌++◌, codes, decimal, Option, Some, None, option_and_then, option_map, unwrap_or}
use Rattle.co_value.specs.declared.key.Key.{Key}
use Rattle.co_value.specs.KeyTexts.{key_text}
use Rattle.co_frame.specs.declared.sdo_response.SdoResponse.{SdoResponse}
use Rattle.co_frame.specs.declared.sdo_response.SdoResponse.TheVariants.{DownloadDone}
use Rattle.co_frame.specs.SdoResponses.{response_in}
use Rattle.co_sheet_changes.specs.Names.{Names, entry_of, shown_name}
use Rattle.co_text.specs.Printed.{digits_text}
use Rattle.conode_record.specs.declared.content.Content.{Content}
use Rattle.conode_record.specs.declared.content.Content.TheVariants.{Data}
use Rattle.conode_record.specs.declared.fields.Identifier.{Identifier}
use Rattle.conode_explain_entries.specs.declared.further.ChannelIds.{ChannelIds}
use Rattle.conode_explain_transfers.specs.declared.told.Part.{Part}
use Rattle.conode_explain_transfers.specs.declared.told.Told.{Told}
use Rattle.conode_explain_services.specs.declared.last.Last.{Last}
use Rattle.conode_explain_transfers.specs.declared.ended.Ended.{Ended}
use Rattle.conode_explain_transfers.specs.declared.ended.Ending.{Ending}
use Rattle.conode_explain_transfers.specs.declared.ended.Ending.TheVariants.{Aborted}
use Rattle.conode_explain_transfers.specs.declared.kinds.Side.{Side}
use Rattle.conode_explain_transfers.specs.declared.kinds.Side.TheVariants.{Server}
use Rattle.conode_explain_transfers.specs.declared.kinds.What.{What}
use Rattle.conode_explain_transfers.specs.declared.kinds.What.TheVariants as whats
use Rattle.conode_explain_cob_ids.specs.declared.claim.Claim.{Claim}
use Rattle.conode_explain_cob_ids.specs.Buses.{Bus, names_at}
use Rattle.conode_explain_entries.specs.Ends.{end_text, quoted, transfer_text}
use Rattle.conode_explain_entries.specs.Frames.{after_text, segment_number, segment_text}
use Rattle.conode_explain_forms.specs.EndedValues.{end_value}
use Rattle.conode_explain_forms.specs.Refusals.{refusal_note}
use Rattle.conode_explain.specs.AbortWords.{words_of}
use Rattle.conode_explain.specs.FrameWords.{words_of_content}
use Rattle.conode_explain.specs.Transfers.{service_text}

-- the name of a node's entry; empty where it has none
unfoldable pub name_bytes : Names → ℕ → Key → List ℕ
name_bytes names node key = unwrap_or (option_and_then shown_name (entry_of names node key)) []

-- ---- frames

abbrev pub name_in : Names → ℕ → Option Key → List ℕ
name_in names node None = []
name_in names node (Some key) = name_bytes names node key

-- a segment of a sub-block has its number, every other frame its own text
abbrev pub part_front : Bus → List Claim → Bool → Last → Identifier → Content → ℕ → Side → Option ℕ → List ℕ
part_front bus claims named last id content node side None = words_of_content bus claims named last id content
part_front bus claims named last id content node side (Some number) = segment_text side node number

unfoldable pub part_words : Bus → List Claim → Bool → Last → Identifier → Content → ℕ → Part → List ℕ
part_words bus claims named last id content node part =
    part_front bus claims named last id content node part.side (segment_number part.what) ++ after_text part.what part.of (name_in (names_at bus node) node part.of)

-- The response to the initiate request of a segmented download has the bytes of the one that ends an expedited
-- download (CiA 301, 7.2.4.3.3): by itself a frame doesn't show whether the download is done with it.
abbrev pub key_of_response : SdoResponse → Option Key
key_of_response (DownloadDone key) = Some key
key_of_response other = None

abbrev pub response_key : Content → Option Key
response_key (Data bytes) = option_and_then key_of_response (response_in bytes)
response_key other = None

-- the server's next frame of the open transfer; a client's request of a segment has the same specifier, 3
abbrev pub part_key : Side → What → Content → Option Key
part_key Server whats.Part content = response_key content
part_key side other content = None

-- the entry of a download that goes on with the frame that is such a response
abbrev pub accepted_key : Side → What → Option Ended → Content → Option Key
accepted_key side what None content = part_key side what content
accepted_key side what (Some ended) content = None

unfoldable pub accepted_words : ℕ → Key → List ℕ → List ℕ
accepted_words node key name =
    service_text (codes "SDO answer node ") node (codes " download ") ++ key_text key ++ codes " accepted" ++ quoted name

abbrev pub accepted_in : Bus → ℕ → Key → List ℕ
accepted_in bus node key = accepted_words node key (name_bytes (names_at bus node) node key)

abbrev pub words_in : Bus → List Claim → Bool → Last → Identifier → Content → ℕ → Option Ended → Option Part → List ℕ
words_in bus claims named last id content node ended None = words_of_content bus claims named last id content
words_in bus claims named last id content node ended (Some part) =
    unwrap_or (option_map (accepted_in bus node) (accepted_key part.side part.what ended content))
    (part_words bus claims named last id content node part)

-- what a frame says that is read as one with this identifier, by what its SDO channel says about it,
-- where the last frames of its node had this
abbrev pub told_words : Bus → List Claim → Bool → Last → Identifier → Content → Option Told → List ℕ
told_words bus claims named last id content None = words_of_content bus claims named last id content
told_words bus claims named last id content (Some told) = words_in bus claims named last id content told.node told.ended told.part

-- ---- transfers that ended

-- what the code of an abort means
abbrev pub ending_words : Ending → List ℕ
ending_words (Aborted by code) = words_of code.0
ending_words _ = []

-- the identifiers of a channel other than the default one
abbrev pub channel_words : Option ChannelIds → List ℕ
channel_words None = []
channel_words (Some ids) = codes " channel " ++ digits_text 16 3 ids.request ++ codes "/" ++ digits_text 16 3 ids.answer

-- what was transferred, the value of the entry where no frame's line has it, how it ended, and a note
-- where our rules refuse it
unfoldable pub transfer_words : Names → ℕ → Ended → List ℕ
transfer_words names node e =
    transfer_text e (name_bytes names node e.key) ++ end_value names node e ++ end_text e (ending_words e.ending) ++ refusal_note names node e

-- with its node, and its channel where that isn't the default one
unfoldable pub ended_words : Names → ℕ → Option ChannelIds → Ended → List ℕ
ended_words names node ids e =
    codes "node " ++ decimal node ++ channel_words ids ++ codes "  " ++ transfer_words names node e

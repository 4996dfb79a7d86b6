-- What a frame says.
use Rattle.std.specs.Prelude.{ℕ, ◌/◌, ◌%◌, ◌==◌, nat_lt, Bool, not, ◌&&◌, ◌||◌, if◌then◌else◌, List, [], ◌∷◌, ◌++◌, codes, decimal, length, unwrap_or}
use Rattle.co_sheet_changes.specs.Names.{Names}
use Rattle.conode_decode.specs.Texts.{text_of_frame}
use Rattle.conode_record.specs.declared.content.Content.{Content}
use Rattle.conode_record.specs.declared.content.Content.TheVariants.{Data, Remote, Fd}
use Rattle.conode_record.specs.declared.fields.Identifier.{Identifier}
use Rattle.conode_record.specs.declared.fields.Identifier.TheVariants.{Base, Extended, Error}
use Rattle.co_frame.specs.FrameContent.{FrameContent}
use Rattle.conode_explain.specs.AbortWords.{abort_words}
use Rattle.conode_explain.specs.OwnWords.{own_words}
use Rattle.conode_explain.specs.Transfers.{transfer_words}
use Rattle.conode_explain_cob_ids.specs.declared.claim.Claim.{Claim}
use Rattle.conode_explain_cob_ids.specs.Buses.{Bus, names_at}
use Rattle.conode_explain_cob_ids.specs.Devices.{is_drive_at}
use Rattle.conode_explain_pdo.specs.Pdos.{pdos_text}
use Rattle.conode_explain_services.specs.declared.last.Last.{Last}
use Rattle.conode_explain_services.specs.ErrorFrames.{error_words}
use Rattle.conode_explain_services.specs.Nodes.{is_emergency}
use Rattle.conode_explain_services.specs.Services.{remote_words, service_words, state_words}

-- an identifier of a PDO in the pre-defined connection set (CiA 301, 7.3.3)
abbrev pub is_default_pdo : ℕ → Bool
is_default_pdo id = (nat_lt 0x180 id && nat_lt id 0x580) && not (id % 0x80 == 0)

-- an identifier of SYNC, of emergencies or of TIME in that set
abbrev pub is_default_service : ℕ → Bool
is_default_service id = nat_lt 0x07F id && nat_lt id 0x101

-- that set may not be in force: no sheet and no transfer says whose the identifier is
abbrev pub assumed_mark : Bool → ℕ → List ℕ
assumed_mark named id = if is_default_pdo id || (is_default_service id && not named) then codes "~" else []

-- the text of a frame, what an abort's code means, and the NMT state of its node
abbrev pub decoded_words : Names → Last → FrameContent → List ℕ
decoded_words names last frame = text_of_frame names frame ++ abort_words frame ++ state_words last frame

-- words of its own, where there are some, else these
abbrev pub plain_words : Names → Last → FrameContent → List ℕ
plain_words names last frame = unwrap_or (own_words names frame) (decoded_words names last frame)

-- by its service, where its node is a drive or isn't and its last frames had this, else by its text
unfoldable pub served_words : Names → Bool → Last → FrameContent → List ℕ
served_words names drive last frame = unwrap_or (service_words drive last frame) (plain_words names last frame)

-- an emergency of a drive
abbrev pub is_of_drive : Bus → FrameContent → Bool
is_of_drive bus frame = is_emergency frame && is_drive_at bus (frame.id % 128)

-- as the PDOs that have its identifier, else by its service or its text, with the identifier of the
-- pre-defined connection set; whether a COB-ID names it
unfoldable pub other_words : Bus → List Claim → Bool → Last → FrameContent → List ℕ
other_words bus [] named last frame = assumed_mark named frame.id ++ served_words (names_at bus (frame.id % 128)) (is_of_drive bus frame) last frame
other_words bus (claim ∷ claims) named last frame = pdos_text bus frame.bytes (claim ∷ claims)

-- what a frame with an identifier of 11 bits says: the entry of an expedited transfer with its
-- value, where the sheet has the entry; else the entries of PDOs with theirs, or its text
unfoldable pub frame_words : Bus → List Claim → Bool → Last → FrameContent → List ℕ
frame_words bus claims named last frame =
    unwrap_or (transfer_words bus frame) (other_words bus claims named last frame)

-- a PDO of that set of which no more is known: its number, by its identifier in steps of 128, and its node
abbrev pub assumed_front : ℕ → List ℕ
assumed_front step =
    if step == 3 then codes "~TPDO1 node "
    else (if step == 4 then codes "~RPDO1 node "
    else (if step == 5 then codes "~TPDO2 node "
    else (if step == 6 then codes "~RPDO2 node "
    else (if step == 7 then codes "~TPDO3 node "
    else (if step == 8 then codes "~RPDO3 node "
    else (if step == 9 then codes "~TPDO4 node " else codes "~RPDO4 node "))))))

unfoldable pub assumed_words : ℕ → List ℕ
assumed_words id = assumed_front (id / 128) ++ decimal (id % 128)

-- SYNC without a counter
abbrev pub is_bare_sync : ℕ → List ℕ → Bool
is_bare_sync id bytes = (id == 0x080) && (length bytes == 0)

-- which a COB-ID names or not
abbrev pub sync_words : Bool → List ℕ
sync_words named = if named then codes "SYNC" else codes "~SYNC"

-- what data say, by the identifier
abbrev pub data_words : Bus → List Claim → Bool → Last → Identifier → List ℕ → List ℕ
data_words bus claims named last (Base id) bytes = frame_words bus claims named last (record { id = id; bytes = bytes })
data_words bus claims named last (Extended id) bytes = codes "frame with an identifier of 29 bits"
data_words bus claims named last (Error class) bytes = error_words class bytes

-- what a remote frame says, by the identifier
abbrev pub remote_content : Identifier → List ℕ
remote_content (Base id) = remote_words id
remote_content (Extended id) = codes "remote frame"
remote_content (Error class) = codes "remote frame"

-- what a frame says, where the last frames of its node had this
unfoldable pub words_of_content : Bus → List Claim → Bool → Last → Identifier → Content → List ℕ
words_of_content bus claims named last id (Data bytes) = data_words bus claims named last id bytes
words_of_content bus claims named last id (Remote count) = remote_content id
words_of_content bus claims named last id (Fd flags bytes) = codes "CAN FD frame"

-- The line of an SDO transfer that ended as an object of JSON, in tokens (RFC 8259).
use Rattle.std.specs.Prelude.{ℕ, ◌-◌, List, [], ◌∷◌, ◌++◌, pos, codes, Some}
use Rattle.std.specs.List.{flat_map}
use Rattle.json.specs.Token.{Token, begin_object, end_object}
use Rattle.json.specs.Print.{print}
use Rattle.conode_json.specs.Members.{number_member, text_member}
use Rattle.conode_explain_transfers.specs.declared.ended.Ended.{Ended}
use Rattle.conode_explain_transfers.specs.declared.ended.Ending.{Ending}
use Rattle.conode_explain_transfers.specs.declared.ended.Ending.TheVariants.{Done, Aborted, Unanswered, Repeated, Interrupted, Unfinished, Irregular, SizeDiffers, CrcDiffers, NotFollowed}
use Rattle.conode_explain_transfers.specs.declared.kinds.Protocol.{Protocol}
use Rattle.conode_explain_transfers.specs.declared.kinds.Protocol.TheVariants.{Undecided, Expedited, Segmented, Block}
use Rattle.conode_explain_entries.specs.Ends.{direction_text, side_text}
use Rattle.conode_explain_entries.specs.Numbers.{hexadecimal}
use Rattle.conode_explain_filter.specs.declared.kind.Kind.TheVariants.{Sdo}
use Rattle.conode_explain_text.specs.Lines.{Part}
use Rattle.conode_explain_forms.specs.JsonLines.{kind_members, part_tokens}

-- the protocol, if it is known: the answer to an upload decides it
abbrev pub protocol_members : Protocol → List Token
protocol_members Undecided = []
protocol_members Expedited = text_member (codes "protocol") (codes "expedited")
protocol_members Segmented = text_member (codes "protocol") (codes "segmented")
protocol_members Block = text_member (codes "protocol") (codes "block")

-- how it ended, in a word
abbrev pub result_name : Ending → List ℕ
result_name (Done crc) = codes "done"
result_name (Aborted by code) = codes "aborted"
result_name Unanswered = codes "unanswered"
result_name Repeated = codes "repeated"
result_name Interrupted = codes "interrupted"
result_name Unfinished = codes "unfinished"
result_name Irregular = codes "irregular"
result_name (SizeDiffers indicated) = codes "sizeDiffers"
result_name (CrcDiffers came computed) = codes "crcDiffers"
result_name (NotFollowed next) = codes "notFollowed"

-- who aborted it, and the abort code in hexadecimal digits
abbrev pub abort_members : Ending → List Token
abort_members (Aborted by code) =
    text_member (codes "abortedBy") (side_text by) ++ text_member (codes "abortCode") (hexadecimal 8 code.0)
abort_members other = []

-- the entry, the direction and the protocol
unfoldable pub subject_members : Ended → List Token
subject_members e =
    number_member (codes "index") (pos e.key.index) ++ number_member (codes "subIndex") (pos e.key.sub)
    ++ text_member (codes "direction") (direction_text e.direction) ++ protocol_members e.protocol

-- how it ended, how much was transferred in how many frames, and the microseconds from its first frame
-- to the end, 0 where the end has the earlier stamp
unfoldable pub result_members : Ended → List Token
result_members e =
    text_member (codes "result") (result_name e.ending) ++ number_member (codes "bytes") (pos e.bytes)
    ++ number_member (codes "frames") (pos e.frames) ++ number_member (codes "duration") (pos (e.end - e.begun))
    ++ abort_members e.ending

-- the object of the line, of these parts
unfoldable pub end_tokens : ℕ → Ended → List Part → List Token
end_tokens node e parts =
    begin_object ∷ (flat_map part_tokens parts ++ kind_members Sdo (Some node) ++ subject_members e ++ result_members e ++ end_object ∷ [])

-- its text, and a line feed
unfoldable pub end_json_line : ℕ → Ended → List Part → List ℕ
end_json_line node e parts = print (end_tokens node e parts) ++ 10 ∷ []

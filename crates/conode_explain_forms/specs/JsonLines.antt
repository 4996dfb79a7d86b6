-- A line of an explained recording as an object of JSON, in tokens (RFC 8259).
use Rattle.std.specs.Prelude.{ℕ, true, List, [], ◌∷◌, ◌++◌, length, ℤ, pos, ◌-ℤ◌, codes, Option, Some, None}
use Rattle.std.specs.List.{flat_map}
use Rattle.std.specs.Option.{option_map_or}
use Rattle.json.specs.Token.{Token, begin_object, end_object}
use Rattle.json.specs.Print.{print}
use Rattle.co_text.specs.Printed.{byte_text}
use Rattle.conode_record.specs.declared.content.Content.{Content}
use Rattle.conode_record.specs.declared.content.Content.TheVariants.{Data, Remote, Fd}
use Rattle.conode_record.specs.declared.fields.Identifier.{Identifier}
use Rattle.conode_record.specs.declared.fields.Identifier.TheVariants.{Base, Extended, Error}
use Rattle.conode_record.specs.declared.line.Record.{Record}
use Rattle.conode_json.specs.Characters.{utf8_of}
use Rattle.conode_json.specs.Members.{flag_member, number_if, number_member, numbers_member, text_member}
use Rattle.conode_explain_filter.specs.declared.kind.Kind.{Kind}
use Rattle.conode_explain_filter.specs.declared.kind.Kind.TheVariants.{Sdo, Pdo, Emergency, Nmt, Heartbeat, Sync, Other}
use Rattle.conode_explain_text.specs.declared.so_far.Times.{Times}
use Rattle.conode_explain_text.specs.declared.stamps.StampForm.{StampForm}
use Rattle.conode_explain_text.specs.declared.stamps.StampForm.TheVariants.{Relative, Absolute, Delta, Date as AsDate}
use Rattle.conode_explain_text.specs.Columns.{escaped_name, id_text}
use Rattle.conode_explain_text.specs.Lines.{Part, stamp, gap, interface, identifier, content, said, note}
use Rattle.conode_explain_text.specs.SoFar.{SoFar}
use Rattle.conode_explain_text.specs.Stamps.{moment_text}

-- ---- the parts of a line

-- a stamp in microseconds, where it isn't a date
abbrev pub stamp_number : StampForm → Times → Option ℤ
stamp_number Relative times = Some (pos times.now -ℤ pos times.first)
stamp_number Absolute times = Some (pos times.now)
stamp_number Delta times = Some (pos times.now -ℤ pos times.before)
stamp_number AsDate times = None

unfoldable pub stamp_member : StampForm → Times → List Token
stamp_member form times =
    option_map_or (number_member (codes "stamp")) (stamp_number form times) (text_member (codes "stamp") (moment_text times.now))

-- the length, the bytes as numbers, and in hexadecimal digits
unfoldable pub data_members : ℕ → List ℕ → List Token
data_members count bytes =
    number_member (codes "length") (pos count) ++ numbers_member (codes "data") bytes
    ++ text_member (codes "raw") (flat_map byte_text bytes)

-- which sort of frame it is, its flags, where it has some, its length and its data
abbrev pub frame_members : List ℕ → Option ℤ → ℕ → List ℕ → List Token
frame_members sort flags count bytes =
    text_member (codes "frame") sort ++ number_if (codes "flags") flags ++ data_members count bytes

-- a remote frame has a length alone, a CAN FD frame flags
abbrev pub content_members : Content → List Token
content_members (Data bytes) = frame_members (codes "data") None (length bytes) bytes
content_members (Remote count) = frame_members (codes "remote") None count []
content_members (Fd flags bytes) = frame_members (codes "fd") (Some (pos flags)) (length bytes) bytes

-- an identifier as it is printed; that of an error frame has its class, and is marked
abbrev pub id_members : Identifier → List Token
id_members (Base id) = text_member (codes "id") (id_text (Base id))
id_members (Extended id) = text_member (codes "id") (id_text (Extended id))
id_members (Error class) = text_member (codes "id") (id_text (Error class)) ++ flag_member (codes "error") true

-- what is said is in UTF-8: of a data sheet that isn't, by Windows-1252
abbrev pub part_tokens : Part → List Token
part_tokens (stamp form times) = stamp_member form times
part_tokens (gap times) = number_member (codes "gap") (pos times.now -ℤ pos times.before)
part_tokens (interface name) = text_member (codes "interface") (escaped_name name)
part_tokens (identifier id) = id_members id
part_tokens (content has) = content_members has
part_tokens (said words) = text_member (codes "text") (utf8_of words)
part_tokens (note words) = text_member (codes "note") words

-- ---- the line

-- the word for a kind, which `--kind` takes
abbrev pub kind_name : Kind → List ℕ
kind_name Sdo = codes "sdo"
kind_name Pdo = codes "pdo"
kind_name Emergency = codes "emcy"
kind_name Nmt = codes "nmt"
kind_name Heartbeat = codes "heartbeat"
kind_name Sync = codes "sync"
kind_name Other = codes "other"

-- the kind and the node, where it is of one; 0 is all nodes
unfoldable pub kind_members : Kind → Option ℕ → List Token
kind_members kind node =
    text_member (codes "kind") (kind_name kind)
    ++ option_map_or (λ n. number_member (codes "node") (pos n)) node []

-- the object of a line of these parts
unfoldable pub line_tokens : Kind → Option ℕ → List Part → List Token
line_tokens kind node parts =
    begin_object ∷ (flat_map part_tokens parts ++ kind_members kind node ++ end_object ∷ [])

-- an object has its interface always, as a line of text has where frames of several interfaces came
abbrev pub of_several : SoFar → SoFar
of_several so_far = record so_far { several = true }

-- of a frame, up to what it says
unfoldable pub front_tokens : StampForm → Times → Record → List Token
front_tokens form times frame =
    part_tokens (stamp form times) ++ part_tokens (gap times) ++ part_tokens (interface frame.interface)
    ++ part_tokens (identifier frame.id) ++ part_tokens (content frame.content)

-- its text, and a line feed
unfoldable pub json_line : Kind → Option ℕ → List Part → List ℕ
json_line kind node parts = print (line_tokens kind node parts) ++ 10 ∷ []

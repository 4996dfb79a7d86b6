-- Findings as one document of JSON, in tokens (RFC 8259).
use Rattle.std.specs.Prelude.{ℕ, Bool, List, [], ◌∷◌, ◌++◌, codes}
use Rattle.std.specs.List.{flat_map}
use Rattle.json.specs.Token.{Token, begin_object, end_object, end_array}
use Rattle.conode_json.specs.Characters.{utf8_of}
use Rattle.conode_json.specs.Members.{array_begin, count_member, flag_member, object_begin, text_member}
use Rattle.conode_lint_text.specs.Findings.{column_of, fix_of, help_of, message_of, severity_name}
use Rattle.conode_lint_text.specs.Members.{member_name}
use Rattle.conode_lint_text.specs.TextForm.{left_out_text}
use Rattle.conode_lint_text.specs.declared.finding.Finding.{Finding}
use Rattle.conode_lint_text.specs.declared.parts.Part.{Part}
use Rattle.conode_lint_text.specs.declared.parts.Part.TheVariants.{BeginObject, EndObject, EndArray, Object, Array, Text, Severity, Message, Help, LeftOut, Line, Number, Column, Flag}

-- a member that is an object with a text
abbrev pub message_member : List ℕ → List ℕ → List Token
message_member name text = object_begin name ++ text_member (codes "text") text ++ end_object ∷ []

-- the tokens of a part
abbrev pub part_tokens : Part → List Token
part_tokens BeginObject = begin_object ∷ []
part_tokens EndObject = end_object ∷ []
part_tokens EndArray = end_array ∷ []
part_tokens (Object member) = object_begin (member_name member)
part_tokens (Array member) = array_begin (member_name member)
part_tokens (Text member text) = text_member (member_name member) text.now
part_tokens (Severity member severity) = text_member (member_name member) (severity_name severity)
part_tokens (Message member finding) = text_member (member_name member) (message_of finding.now)
part_tokens (Help member rule) =
    text_member (member_name member) (help_of rule.now.fix.now rule.now.subject.now)
part_tokens (LeftOut member more) = text_member (member_name member) (left_out_text more)
part_tokens (Line member line) = text_member (member_name member) (utf8_of line.now)
part_tokens (Number member count) = count_member (member_name member) count
part_tokens (Column member finding) = count_member (member_name member) (column_of finding.now)
part_tokens (Flag member is) = flag_member (member_name member) is

abbrev pub place_members : Finding → List Token
place_members finding =
    count_member (codes "line") finding.line
    ++ count_member (codes "column") (column_of finding)
    ++ text_member (codes "severity") (severity_name finding.severity)

abbrev pub word_members : Finding → List Token
word_members finding =
    text_member (codes "name") finding.name.now
    ++ text_member (codes "meaning") (message_of finding)
    ++ text_member (codes "text") (utf8_of finding.text.now)
    ++ text_member (codes "fix") (fix_of finding)
    ++ text_member (codes "subject") finding.subject.now

-- a finding
unfoldable pub finding_tokens : Finding → List Token
finding_tokens finding =
    begin_object ∷ (place_members finding ++ word_members finding ++ end_object ∷ [])

-- how many errors and warnings there are
abbrev pub count_members : ℕ → ℕ → List Token
count_members errors warnings =
    count_member (codes "errors") errors ++ count_member (codes "warnings") warnings

-- a file before its findings: whether it could be read, how many errors and warnings it has, and
-- how many findings are left out
abbrev pub file_members : List ℕ → Bool → ℕ → ℕ → ℕ → List Token
file_members name is_read errors warnings more =
    text_member (codes "file") name ++ flag_member (codes "read") is_read
    ++ count_members errors warnings ++ count_member (codes "more") more

-- a file with its findings
unfoldable pub file_tokens : List ℕ → Bool → ℕ → ℕ → ℕ → List Finding → List Token
file_tokens name is_read errors warnings more findings =
    begin_object ∷ (file_members name is_read errors warnings more
    ++ array_begin (codes "findings") ++ flat_map finding_tokens findings
    ++ (end_array ∷ end_object ∷ []))

-- what comes before the files, and what after them
unfoldable pub document_head : List Token
document_head = begin_object ∷ (count_member (codes "version") 1 ++ array_begin (codes "files"))

unfoldable pub document_end : ℕ → ℕ → List Token
document_end errors warnings = end_array ∷ (count_members errors warnings ++ end_object ∷ [])

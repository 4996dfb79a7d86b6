-- The differences that are listed, in JSON. Stamps are in microseconds.
use Rattle.std.specs.Prelude.{ℕ, List, [], ◌∷◌, ◌++◌, pos, codes}
use Rattle.std.specs.List.{flat_map}
use Rattle.json.specs.Token.{Token, begin_object, end_object, end_array}
use Rattle.conode_json.specs.Characters.{utf8_of}
use Rattle.conode_json.specs.Members.{array_begin, number_member, text_member}
use Rattle.conode_compare_text.specs.FindingTexts.{finding_text}
use Rattle.conode_compare_report.specs.declared.noted.Noted.{Noted}
use Rattle.conode_compare_report.specs.Contexts.{KeptLine, around}
use Rattle.conode_compare_report.specs.Kinds.{kind_name, kind_of, kind_rule}
use Rattle.conode_compare_documents.specs.Parts.{joined}

-- a line of the recording
unfoldable pub context_tokens : KeptLine → List Token
context_tokens line =
    joined ((begin_object ∷ []) ∷ number_member (codes "line") (pos line.number) ∷ [])
    ++ text_member (codes "text") (utf8_of line.bytes) ++ end_object ∷ []

-- the lines around a difference
unfoldable pub context_member : List KeptLine → List Token
context_member lines = array_begin (codes "context") ++ flat_map context_tokens lines ++ end_array ∷ []

-- where and when, what was found, its kind, and what CiA 301 prescribes
unfoldable pub said_tokens : Noted → List ℕ → List Token
said_tokens noted text =
    joined ((begin_object ∷ []) ∷ number_member (codes "line") (pos noted.line) ∷ number_member (codes "stamp") (pos noted.micros)
    ∷ text_member (codes "kind") (kind_name (kind_of noted.finding)) ∷ [])
    ++ text_member (codes "text") text
    ++ joined (text_member (codes "rule") (kind_rule (kind_of noted.finding)) ∷ [])

-- a difference
unfoldable pub noted_tokens : List KeptLine → Noted → List Token
noted_tokens context noted =
    said_tokens noted (finding_text noted.details noted.finding) ++ context_member (around context noted) ++ end_object ∷ []

unfoldable pub findings_member : List KeptLine → List Noted → List Token
findings_member context noted =
    array_begin (codes "findings") ++ flat_map (noted_tokens context) noted ++ end_array ∷ []

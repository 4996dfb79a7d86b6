-- What is written about files, in each form.
use Rattle.std.specs.Prelude.{◌≡◌, ℕ, ◌==◌, nat_lt, Bool, true, false, if◌then◌else◌, List, [], ◌∷◌, ◌++◌, map, codes, min, ◌+◌, ◌-◌, ◌^◌, Option, Some, option_map, string_bytes}
use Rattle.std.specs.List.{flat_map}
use Rattle.json.specs.Print.{print}
use Rattle.json.specs.Token.{Token}
use Rattle.percent_encoding.specs.Percent.{percent_encode}
use Rattle.conode_text.specs.Appended.{Appended}
use Rattle.conode_json.specs.Characters.{characters_of}
use Rattle.conode_lint_text.specs.JsonForm.{document_end, document_head, file_tokens}
use Rattle.conode_lint_text.specs.SarifForm.{log_end, log_head, result_tokens}
use Rattle.conode_lint_text.specs.TextForm.{finding_lines, more_line, summary_line}
use Rattle.conode_lint_text.specs.declared.finding.Rule.{Rule}
use Rattle.conode_lint.specs.declared.report.TheConstants.{ESCAPED}
use Rattle.conode_lint.specs.declared.linted_text.Linted.{Linted}
use Rattle.conode_lint.specs.declared.report.Counts.{Counts}
use Rattle.conode_lint.specs.declared.report.Form.{Form}
use Rattle.conode_lint.specs.declared.report.Form.TheVariants.{Text, Json, Sarif}
use Rattle.conode_lint.specs.declared.report.Report.{Report}
use Rattle.conode_lint.specs.declared.rules.TheConstants.{SUBJECTS}
use Rattle.conode_lint.specs.Rules.{rule_of, seen_rule}

-- ---- of one file, which has this name

-- the line that counts the findings that aren't listed, if there are any
abbrev pub more_lines : List ℕ → ℕ → List ℕ
more_lines file more = if nat_lt 0 more then more_line file more else []

-- the lines of its findings, where its name has these characters
abbrev pub lines_from : Bool → List ℕ → Linted → List ℕ
lines_from colours file linted =
    flat_map (finding_lines colours file) linted.findings.items ++ more_lines file linted.more

abbrev pub file_lines : Bool → List ℕ → Linted → List ℕ
file_lines colours name linted = lines_from colours (characters_of name) linted

-- its URI: of a relative path a reference. All is escaped but letters, digits and five bytes, as
-- `kept` of proofs/ReportExamples.antt lists them
abbrev pub scheme_of : List ℕ → List ℕ
scheme_of [] = []
scheme_of (byte ∷ rest) = if byte == 47 then codes "file://" else []

unfoldable pub uri_of : List ℕ → List ℕ
uri_of path = scheme_of path ++ percent_encode ESCAPED path

-- the lines of what is found in it, in this form
abbrev pub found_lines : Form → List ℕ → Linted → List ℕ
found_lines (Text colours) name linted = file_lines colours name linted
found_lines Json name linted = []
found_lines Sarif name linted = []

-- the tokens of the same
abbrev pub found_tokens : Form → List ℕ → Linted → List Token
found_tokens (Text colours) name linted = []
found_tokens Json name linted =
    file_tokens name true linted.errors linted.warnings linted.more linted.findings.items
found_tokens Sarif name linted = flat_map (result_tokens (uri_of name)) linted.findings.items

-- the tokens of one that can't be read
abbrev pub unread_tokens : Form → List ℕ → List Token
unread_tokens (Text colours) name = []
unread_tokens Json name = file_tokens name false 0 0 0 []
unread_tokens Sarif name = []

-- ---- how much was found

-- a sum, which stops at the greatest number that the program holds
abbrev pub sum_to : ℕ → ℕ → ℕ
sum_to count more = min (count + more) (2 ^ 64 - 1)

-- with what is found in one more text
abbrev pub with_found : Counts → Linted → Counts
with_found counts linted = record {
  errors = sum_to counts.errors linted.errors;
  warnings = sum_to counts.warnings linted.warnings;
  more = sum_to counts.more linted.more;
  files = sum_to counts.files 1;
  unread = counts.unread;
}

-- with one more that can't be read
abbrev pub with_unread : Counts → Counts
with_unread counts = record counts { unread = sum_to counts.unread 1 }

-- ---- what a report has so far

-- nothing yet
abbrev pub IsEmptyReport : Form → Report → Type 0
IsEmptyReport form report =
    (report.form ≡ form) × (string_bytes report.text ≡ []) × (report.document ≡ Some [])

-- it grew by these lines, and its document by these tokens, unless memory ran out
pub record Grows (lines : List ℕ) (tokens : List Token) (old new : Report) : Type 0 where
  pub form : new.form ≡ old.form
  pub text : string_bytes new.text ≡ string_bytes old.text ++ lines
  pub document : Appended old.document tokens new.document

-- ---- its beginning and its end

-- the rules of a log of SARIF: all kinds of findings, with their words
abbrev pub AreRules : List Rule → Type 0
AreRules rules = map seen_rule rules ≡ map rule_of SUBJECTS

-- what a document begins with
abbrev pub IsHead : Form → List ℕ → List Token → Type 0
IsHead (Text colours) version head = head ≡ []
IsHead Json version head = head ≡ document_head
IsHead Sarif version head = (rules : List Rule) × AreRules rules × (head ≡ log_head version rules)

-- a document grew by a head, unless memory ran out
abbrev pub GrowsByHead : Form → List ℕ → Option (List Token) → Option (List Token) → Type 0
GrowsByHead form version old new = (all : List Token) → new ≡ Some all →
    (head : List Token) × IsHead form version head
    × (option_map (λ tokens. tokens ++ head) old ≡ Some all)

abbrev pub BeginsLog : List ℕ → Option (List Token) → Option (List Token) → Type 0
BeginsLog version old new = GrowsByHead Sarif version old new

-- it was begun: its lines are the same, and its document grew by a head, unless memory ran out
pub record Begins (version : List ℕ) (old new : Report) : Type 0 where
  pub form : new.form ≡ old.form
  pub text : string_bytes new.text ≡ string_bytes old.text
  pub document : GrowsByHead old.form version old.document new.document

-- a document of these tokens and this end, as it is handed over; none if memory ran out
abbrev pub ended_by : List Token → Option (List Token) → Option (List ℕ)
ended_by end tokens = option_map (λ all. print (all ++ end) ++ 10 ∷ []) tokens

-- the last bytes of a report with these lines and these tokens, which counts this
abbrev pub last_bytes : Form → List ℕ → Option (List Token) → Counts → Option (List ℕ)
last_bytes (Text colours) lines tokens counts =
    Some (lines ++ summary_line counts.errors counts.warnings counts.files)
last_bytes Json lines tokens counts = ended_by (document_end counts.errors counts.warnings) tokens
last_bytes Sarif lines tokens counts = ended_by (log_end counts.more) tokens

-- All kinds of findings.
use Rattle.std.specs.Prelude.{ℕ, Bool, List, codes}
use Rattle.std.specs.List.{list_any}
use Rattle.std.specs.Str.{bytes_eq}
use Rattle.conode_lint_text.specs.declared.finding.Rule.{Rule}
use Rattle.conode_lint_text.specs.declared.finding.Severity.{Severity}
use Rattle.conode_lint_marks.specs.declared.mark.Subject.{Subject}
use Rattle.conode_lint_marks.specs.declared.mark.Subject.TheVariants.{Format}
use Rattle.conode_lint.specs.declared.rules.TheConstants.{SUBJECTS}
use Rattle.conode_lint.specs.Words as words

-- a kind, with its texts as bytes
pub record SeenRule : Type 0 where
  pub name : List ℕ
  pub severity : Severity
  pub meaning : List ℕ
  pub fix : List ℕ
  pub subject : List ℕ

abbrev pub seen_rule : Rule → SeenRule
seen_rule rule = record {
  name = rule.name.now;
  severity = rule.severity;
  meaning = rule.meaning.now;
  fix = rule.fix.now;
  subject = rule.subject.now;
}

-- what is wrong, and how to fix it, of a kind: of a text of another format without saying which
abbrev pub rule_meaning : Subject → List ℕ
rule_meaning (Format format) =
    codes "this is no EDS of CANopen: it is XML, an EDS of EtherNet/IP or DeviceNet, in UTF-16, with CR alone at line ends, or without a section; or its lines end with CR, CR and LF"
rule_meaning subject = words.meaning_at 1 subject

abbrev pub rule_fix : Subject → List ℕ
rule_fix (Format format) = codes "export or ask for an EDS of CANopen, in ASCII"
rule_fix subject = words.fix_of subject

-- the rule of a kind
unfoldable pub rule_of : Subject → SeenRule
rule_of subject = record {
  name = words.name_of subject;
  severity = words.severity_of subject;
  meaning = rule_meaning subject;
  fix = rule_fix subject;
  subject = words.subject_of subject;
}

-- findings of one of these kinds have this name
abbrev pub is_name_of : List Subject → List ℕ → Bool
is_name_of subjects name = list_any (λ subject. bytes_eq (words.name_of subject) name) subjects

-- findings of some kind have it
abbrev pub is_known : List ℕ → Bool
is_known name = is_name_of SUBJECTS name

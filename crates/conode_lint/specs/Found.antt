-- What is found at the lines of a text.
use Rattle.std.specs.Prelude.{ℕ, List, Option}
use Rattle.co_sheet_text.specs.Sections.{TextSection}
use Rattle.conode_lint_text.specs.declared.finding.About.{About}
use Rattle.conode_lint_text.specs.declared.finding.Finding.{Finding}
use Rattle.conode_lint_text.specs.declared.finding.Place.{Place}
use Rattle.conode_lint_text.specs.declared.finding.Severity.{Severity}
use Rattle.conode_lint_marks.specs.Lines.{line_at}
use Rattle.conode_lint_marks.specs.declared.mark.Mark.{Mark}
use Rattle.conode_lint.specs.Words as words

-- a finding, with its texts as bytes
pub record Seen : Type 0 where
  pub line : ℕ
  pub place : Place
  pub about : About
  pub severity : Severity
  pub name : List ℕ
  pub meaning : List ℕ
  pub fix : List ℕ
  pub subject : List ℕ
  pub text : List ℕ

abbrev pub seen : Finding → Seen
seen finding = record {
  line = finding.line;
  place = finding.place;
  about = finding.about;
  severity = finding.severity;
  name = finding.name.now;
  meaning = finding.meaning.now;
  fix = finding.fix.now;
  subject = finding.subject.now;
  text = finding.text.now;
}

-- the finding of a mark, among these lines and sections, by the node-ID that is given
unfoldable pub finding_of : List (List ℕ) → List TextSection → Option ℕ → Mark → Seen
finding_of lines sections node mark = record {
  line = mark.line;
  place = words.place_of mark.subject;
  about = words.about_of sections mark.line (line_at lines mark.line) mark.subject;
  severity = words.severity_of mark.subject;
  name = words.name_of mark.subject;
  meaning =
      words.meaning_with node sections (line_at lines mark.line) mark.line mark.subject;
  fix = words.fix_of mark.subject;
  subject = words.subject_of mark.subject;
  text = line_at lines mark.line;
}

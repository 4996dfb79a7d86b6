use Rattle.std.proofs.Common.{List, map, sym, ap, ◌∙◌, subst}
use Rattle.std.proofs.lemmas.Result.{IfOk-weaker}
use Rattle.std.specs.Prelude.{IfErr}
use Rattle.co_sheet_text.specs.SectionLaws.{IsParsed}
use Rattle.co_sheet_text.specs.Sections.{TextSection}
use Rattle.co_sheet_text.specs.Views.{section_view}
use Rattle.co_sheet.specs.Checks.{checks}
use Rattle.co_sheet.specs.Accepted.{first_found, IsAnswered}
use Rattle.co_sheet.specs.Content.{Row, ObjectRow, SheetContent, IsSheetOf, IsWholeOf}
use Rattle.co_sheet.specs.private.SheetReadings.{IsReadOf}
use Rattle.co_sheet.proofs.AcceptedLemmas.{row_keys, object_indices}
use Rattle.co_sheet.proofs.sheet.Sheet.of_sections.Goals as goal

module _ (sections : List TextSection) (s : SheetContent) (read : IsReadOf sections s) where
  is_sheet : IsSheetOf sections s
  is_sheet = record { accepted = read.accepted; content = read.content }

  is_whole : IsWholeOf sections s
  is_whole = record {
    keys = ap (λ (t : SheetContent). map (λ (r : Row). r.key) t.rows) read.content ∙ row_keys sections read.kept;
    indices = ap (λ (t : SheetContent). map (λ (o : ObjectRow). o.index) t.objects) read.content ∙ object_indices sections read.accepted;
  }

pub sheet_in-requires : goal.sheet_in-requires
sheet_in-requires c = subst IsParsed (sym c.in_ok-tables.ensures) c.requires

pub returns-clause-sheet : goal.returns-clause-sheet
returns-clause-sheet c =
    IfOk-weaker c.sheet_in.result _ _ (λ s read. is_sheet (map section_view c.args.sections.now) s (subst (λ ss. IsReadOf ss s) c.in_ok-tables.ensures read)) c.sheet_in.ensures.read

pub returns-clause-whole : goal.returns-clause-whole
returns-clause-whole c =
    IfOk-weaker c.sheet_in.result _ _ (λ s read. is_whole (map section_view c.args.sections.now) s (subst (λ ss. IsReadOf ss s) c.in_ok-tables.ensures read)) c.sheet_in.ensures.read

pub returns-clause-err : goal.returns-clause-err
returns-clause-err c = subst (λ ss. IfErr c.sheet_in.result (IsAnswered (first_found checks ss))) c.in_ok-tables.ensures c.sheet_in.ensures.err

use Rattle.std.proofs.Common.{◌∙◌, Bool, Option, Some, None, sym, ap}
use Rattle.std.specs.Prelude.{option_map, if◌then◌else◌}
use Rattle.co_sheet_text.specs.declared.section_kind.SectionKind.{SectionKind}
use Rattle.co_sheet_text.specs.declared.fault.TextFaultKind.{TextFaultKind}
use Rattle.co_sheet_text.specs.declared.fault.TextFaultKind.TheVariants.{BadLine}
use Rattle.co_sheet_text.specs.Names.{is_read}
use Rattle.co_sheet_text.specs.Sections.{TextSection, fault_at, malformed}
use Rattle.co_sheet_text.specs.LinesRead.{fault_within}
use Rattle.co_sheet_text.specs.SectionsKept.{sections_kept}
use Rattle.co_sheet_text.proofs.SectionsReadLemmas.{with_last-same}
use Rattle.co_sheet_text.proofs.SectionsKeptLemmas.{last_kept}
use Rattle.co_sheet_text.proofs.sections_read.SectionsRead.take_malformed.Goals as goal

abbrev bad_if : Bool → Option TextFaultKind
bad_if b = if b then Some BadLine else None

pub returns-in-Some-2-clause-ok : goal.returns-in-Some-2-clause-ok
returns-in-Some-2-clause-ok c =
    let s = c.args.self.now in (
      ap (λ (o : Option TextSection). fault_within o malformed) (last_kept s.closed.items s.current c.in-Some.section c.in-Some.is)
          ∙ ap (λ (k : SectionKind). bad_if (is_read k)) (sym c.kind.ensures)
          ∙ ap bad_if (sym c.if-is_read.ensures),
      sym (with_last-same (sections_kept s.closed.items s.current)),
    )

pub returns-in-Some-clause-err : goal.returns-in-Some-clause-err
returns-in-Some-clause-err c =
    let s = c.args.self.now in
    ap (λ (o : Option TextSection). option_map (fault_at c.args.line) (fault_within o malformed)) (last_kept s.closed.items s.current c.in-Some.section c.in-Some.is)
    ∙ ap (λ (k : SectionKind). option_map (fault_at c.args.line) (bad_if (is_read k))) (sym c.kind.ensures)
    ∙ ap (λ (b : Bool). option_map (fault_at c.args.line) (bad_if b)) (sym c.if-is_read.ensures)

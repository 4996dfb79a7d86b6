use Rattle.std.proofs.Common.{ℕ, Bool, Option, ap, sym, ◌∙◌, not, eqb}
use Rattle.std.specs.Prelude.{option_map}
use Rattle.co_sheet_rows.specs.declared.fault.FaultKind.TheVariants.{MissingSub0}
use Rattle.co_sheet.specs.declared.checks.findings.Finding.{Finding}
use Rattle.co_sheet.specs.Accepted.{least_fault}
use Rattle.co_sheet.specs.Checks.{fault_if}
use Rattle.co_sheet.specs.Entries.{Entry}
use Rattle.co_sheet.specs.SectionViews.{entry_view}
use Rattle.co_sheet.specs.private.Findings.{found_by}
use Rattle.co_sheet.proofs.ObjectReadingLemmas.{any-view}
use Rattle.co_sheet.proofs.checks.objects.missing_sub_index_0.Goals as goal

-- what is found, by whether sub-index 0 is there
abbrev without : Bool → ℕ → Option Finding
without there line = option_map (found_by 9) (least_fault (fault_if (not there) MissingSub0 line))

pub returns-then-has_sub_index_0 : goal.returns-then-has_sub_index_0
returns-then-has_sub_index_0 c =
    ap (λ b. without b c.args.line) (sym c.if-has_sub_index_0.true ∙ c.has_sub_index_0.ensures ∙ any-view entry_view (λ (e : Entry). eqb e.key.sub 0) c.args.parts.now)

pub returns : goal.returns
returns c =
    ap (λ b. without b c.args.line) (sym c.if-has_sub_index_0.false ∙ c.has_sub_index_0.ensures ∙ any-view entry_view (λ (e : Entry). eqb e.key.sub 0) c.args.parts.now)

use Rattle.std.proofs.Common.{ℕ, Bool, Option, sym, ap, ◌∙◌, map}
use Rattle.std.specs.Prelude.{option_map}
use Rattle.co_sheet_rows.specs.declared.fault.FaultKind.TheVariants.{BadList}
use Rattle.co_sheet_text.specs.Views.{section_view}
use Rattle.co_sheet.specs.declared.checks.findings.Finding.{Finding}
use Rattle.co_sheet.specs.Accepted.{least_fault}
use Rattle.co_sheet.specs.Checks.{fault_if}
use Rattle.co_sheet.specs.private.Findings.{found_by}
use Rattle.co_sheet.specs.private.ListReadings.{listing_view}
use Rattle.co_sheet.proofs.ListReadingLemmas.{list-read, list-named}
use Rattle.co_sheet.proofs.checks.lists.read_section.Goals as goal

-- what is found, by whether the list is bad
abbrev bad_list : Bool → ℕ → Option Finding
bad_list is_bad line = option_map (found_by 3) (least_fault (fault_if is_bad BadList line))

pub returns-then-not-is_bad-clause-finding : goal.returns-then-not-is_bad-clause-finding
returns-then-not-is_bad-clause-finding c =
    ap (λ b. bad_list b c.args.section.now.line) (sym c.if-not-is_bad.true)
    ∙ list-read (section_view c.args.section.now) c.in_ok-is_bad.is_bad (sym c.has_numbers.ensures ∙ c.if-not-has_numbers.false) (sym c.is_list.ensures ∙ c.if-not-is_list.false) (sym c.unread_numbers.ensures ∙ c.in_default.is) c.in_ok-is_bad.ensures.bad

pub returns-clause-finding : goal.returns-clause-finding
returns-clause-finding c =
    ap (λ b. bad_list b c.args.section.now.line) (sym c.if-not-is_bad.false)
    ∙ list-read (section_view c.args.section.now) c.in_ok-is_bad.is_bad (sym c.has_numbers.ensures ∙ c.if-not-has_numbers.false) (sym c.is_list.ensures ∙ c.if-not-is_list.false) (sym c.unread_numbers.ensures ∙ c.in_default.is) c.in_ok-is_bad.ensures.bad

pub returns-then-not-is_bad-clause-named : goal.returns-then-not-is_bad-clause-named
returns-then-not-is_bad-clause-named c = λ none.
    list-named (section_view c.args.section.now) (map listing_view c.args.listings.now.items) (map listing_view c.read_list.new.listings.items) (sym c.is_list.ensures ∙ c.if-not-is_list.false) c.in_ok-is_bad.ensures.named

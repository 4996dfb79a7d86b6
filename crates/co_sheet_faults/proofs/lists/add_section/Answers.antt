use Rattle.std.proofs.Common.{◌≡◌, ◌++◌, ◌∙◌, sym, ap, true, false}
use Rattle.co_sheet_text.specs.Names.{is_list}
use Rattle.co_sheet_text.specs.Views.{section_view}
use Rattle.co_sheet_faults.specs.private.Collected.{numbers_collected, section_collected}
use Rattle.co_sheet_faults.proofs.EntryCodeLemmas.{added}
use Rattle.co_sheet_faults.proofs.ListingLemmas.{section-listed, section-other}
use Rattle.co_sheet_faults.proofs.lists.add_section.Goals as goal

pub returns-then-not-is_list-clause-found : goal.returns-then-not-is_list-clause-found
returns-then-not-is_list-clause-found c =
    let s = section_view c.args.section.now in
    let other : is_list s.kind ≡ false = sym c.is_list.ensures ∙ c.if-not-is_list.true in
    c.in-Ok.ensures ∙ ap (λ fs. c.args.faults.now.items ++ fs) (sym (section-other s other))

pub returns-clause-found : goal.returns-clause-found
returns-clause-found c =
    let s = section_view c.args.section.now in
    let listed : is_list s.kind ≡ true = sym c.is_list.ensures ∙ c.if-not-is_list.false in
    added c.add_bad_list.new.faults.items c.add_numbers.new.faults.items c.args.faults.now.items (numbers_collected s) _ (section_collected s)
    c.in-Ok-add_bad_list.ensures c.in-Ok.ensures (section-listed s listed)

use Rattle.std.proofs.Common.{subst}
use Rattle.co_sheet.specs.SectionViews.{entry_view}
use Rattle.co_sheet.specs.private.EntryReadings.{IsStatedAt}
use Rattle.co_sheet.proofs.EntryReadingLemmas.{text-values}
use Rattle.co_sheet.proofs.tables.EntrySection.text_values.Goals as goal

pub returns : goal.returns
returns c =
    let t = c.args.data_type in
    text-values t (entry_view c.args.self.now) c.text_default.result c.text_default-2.result c.requires.read c.requires.other
    (subst (λ k. IsStatedAt t k c.text_default.result) c.property-default_given.ensures c.text_default.ensures)
    (subst (λ k. IsStatedAt t k c.text_default-2.result) c.property-parameter_given.ensures c.text_default-2.ensures)

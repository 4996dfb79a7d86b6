use Rattle.std.proofs.Common.{◌∙◌, sym, ap, List, drop}
use Rattle.std.specs.List.{list_any}
use Rattle.co_sheet_text.specs.declared.text_section.Property.{Property as CodeProperty}
use Rattle.co_sheet_text.specs.Text.{same_name}
use Rattle.co_sheet_text.proofs.PropertyLemmas.{number_given, list_any-find}
use Rattle.co_sheet_text.proofs.open_section.OpenSection.has.Goals as goal

pub returns-then-all_digits : goal.returns-then-all_digits
returns-then-all_digits c =
    let s = c.args.self.now in
    c.contains.ensures ∙ number_given c.args.name.now s.numbers.keys (drop s.first s.properties.items) (sym c.if-all_digits.ensures) s.indexed

pub returns-else-all_digits : goal.returns-else-all_digits
returns-else-all_digits c =
    let s = c.args.self.now in
    c.is_among.ensures
    ∙ ap (λ (own : List CodeProperty). list_any (λ k. same_name k.name.now c.args.name.now) own) c.own_properties.ensures
    ∙ list_any-find (λ name. same_name name c.args.name.now) (drop s.first s.properties.items)

use Rattle.std.proofs.Common.{◌≡◌, drop, map}
use Rattle.std.specs.Prelude.{find}
use Rattle.co_sheet_text.specs.Text.{same_name}
use Rattle.co_sheet_text.specs.Views.{property_view}
use Rattle.co_sheet_text.proofs.text_section.TextSection.property.Given as goal

-- what is found in the rest is found in all
abbrev pub invariant-loop-property : goal.invariant-loop-property
invariant-loop-property l =
    find (λ k. same_name k.name l.name) (map property_view (drop l.property-index l.property-items)) ≡ find (λ k. same_name k.name l.name) (map property_view l.property-items)

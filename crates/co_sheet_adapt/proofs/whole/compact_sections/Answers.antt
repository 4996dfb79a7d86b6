use Rattle.std.proofs.Common.{List, ◌≡◌, ℕ, map}
use Rattle.std.specs.Prelude.{IfOk, option_map}
use Rattle.co_sheet_changes.specs.Views.{group_view}
use Rattle.co_sheet_adapt.specs.Expanded.{if_fits}
use Rattle.co_sheet_adapt.proofs.ExpandedLemmas.{by_tables}
use Rattle.co_sheet_adapt.proofs.whole.compact_sections.Goals as goal

pub returns : goal.returns
returns c =
    by_tables (λ (sections : List ℕ). IfOk c.given.result (λ made. option_map (λ v. v.items) made ≡ if_fits sections))
    (map group_view c.args.groups.now) _ _ _ _ c.in-Ok.ensures.own c.in-Ok.ensures.names c.in-Ok.ensures.values c.in-Ok.ensures.pdos c.given.ensures

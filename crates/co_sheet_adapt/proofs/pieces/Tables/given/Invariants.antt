use Rattle.std.proofs.Common.{◌≡◌, ◌++◌, ◌≤◌, drop, length, map}
use Rattle.std.specs.List.{flat_map}
use Rattle.std.specs.Prelude.{option_map}
use Rattle.co_sheet_adapt.specs.Expanded.{given_by}
use Rattle.co_sheet_adapt.specs.private.Pdos.{form_view}
use Rattle.co_sheet_changes.specs.Views.{group_view}
use Rattle.co_sheet_adapt.specs.private.Named.{texts_at}
use Rattle.co_sheet_adapt.proofs.pieces.Tables.given.Given as goal

-- those so far, and after them those of the rest; they aren't too large
abbrev pub invariant-loop-group : goal.invariant-loop-group
invariant-loop-group l = record {
  so_far : l.text.items ++ flat_map (given_by (texts_at l.self.own) (texts_at l.self.names) (texts_at l.self.values) (option_map form_view l.self.pdos)) (map group_view (drop l.group-index l.groups))
      ≡ flat_map (given_by (texts_at l.self.own) (texts_at l.self.names) (texts_at l.self.values) (option_map form_view l.self.pdos)) (map group_view l.groups);
  small : length l.text.items ≤ 1048576;
}

use Rattle.std.proofs.Common.{◌≡◌, ◌++◌, map, take}
use Rattle.std.specs.List.{flat_map}
use Rattle.co_sheet_adapt.specs.Pieces.{group_pieces}
use Rattle.co_sheet_changes.specs.Pieces.{piece_view}
use Rattle.std.specs.Prelude.{option_map}
use Rattle.co_sheet_adapt.specs.private.Pdos.{form_view}
use Rattle.co_sheet_changes.specs.Views.{group_view}
use Rattle.co_sheet_adapt.specs.private.Named.{texts_at}
use Rattle.co_sheet_adapt.proofs.pieces.Tables.push_groups.Given as goal

-- those so far
abbrev pub invariant-loop-group : goal.invariant-loop-group
invariant-loop-group l = map piece_view l.pieces.items ≡ map piece_view l.fn.pieces.items ++ flat_map (group_pieces (texts_at l.self.own) (texts_at l.self.names) (texts_at l.self.values) (option_map form_view l.self.pdos)) (map group_view (take l.group-index l.groups))

use Rattle.std.proofs.Common.{◌≡◌, map, drop}
use Rattle.conode_show_text.specs.Names.{name_among, row_view}
use Rattle.conode_show_text.proofs.names.name_among.Given as goal

-- what the rest gives is what all give
abbrev pub invariant-loop-row : goal.invariant-loop-row
invariant-loop-row l =
    name_among l.number (map row_view (drop l.row-index l.rows)) ≡ name_among l.number (map row_view l.rows)

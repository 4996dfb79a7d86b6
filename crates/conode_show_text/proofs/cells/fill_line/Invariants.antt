use Rattle.std.proofs.Common.{◌≡◌, map, take}
use Rattle.std.specs.List.{fold}
use Rattle.conode_show_text.specs.Cells.{cell_part}
use Rattle.conode_show_text.specs.Layout.{begun, placed}
use Rattle.conode_show_text.proofs.cells.fill_line.Given as goal

-- the cells so far
abbrev pub invariant-loop-cell : goal.invariant-loop-cell
invariant-loop-cell l =
    l.line.items ≡ fold (λ line part. placed l.format part.column line part.text) (begun l.format) (map (cell_part l.node) (take l.cell-index l.cells))

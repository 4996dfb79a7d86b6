use Rattle.std.proofs.Common.{◌≡◌, ◌++◌, drop, map}
use Rattle.conode_explain_cob_ids.specs.Known.{known_view}
use Rattle.conode_explain.specs.Sheets.{of_kind, read_view}
use Rattle.conode_explain.proofs.sheets.add_kind.Given as goal

-- those so far, and after them those of the rest
abbrev pub invariant-loop-sheet : goal.invariant-loop-sheet
invariant-loop-sheet l =
    map known_view l.known.items ++ of_kind l.node l.interface (map read_view (drop l.sheet-index l.sheets))
    ≡ map known_view l.fn.known.items ++ of_kind l.node l.interface (map read_view l.sheets)

use Rattle.std.proofs.Common.{◌≡◌, drop, map}
use Rattle.conode_explain_cob_ids.specs.Known.{known_view, sheet_for}
use Rattle.conode_explain_cob_ids.proofs.known.sheet_for.Given as goal

-- it is none of those so far
abbrev pub invariant-loop-sheet : goal.invariant-loop-sheet
invariant-loop-sheet l =
    sheet_for (map known_view (drop l.sheet-index l.sheets)) l.interface l.node ≡ sheet_for (map known_view l.sheets) l.interface l.node

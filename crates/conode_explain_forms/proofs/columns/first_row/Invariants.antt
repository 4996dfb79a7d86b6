use Rattle.std.proofs.Common.{◌≡◌, drop, map}
use Rattle.conode_explain_cob_ids.specs.Known.{known_view}
use Rattle.conode_explain_forms.specs.Lines.{first_row}
use Rattle.conode_explain_forms.proofs.columns.first_row.Given as goal

-- on none of those so far
abbrev pub invariant-loop-sheet : goal.invariant-loop-sheet
invariant-loop-sheet l =
    first_row (map known_view l.sheets) l.signal (map known_view (drop l.sheet-index l.sheets))
    ≡ first_row (map known_view l.sheets) l.signal (map known_view l.sheets)

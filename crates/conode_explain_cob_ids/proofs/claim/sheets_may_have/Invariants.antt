use Rattle.std.proofs.Common.{◌≡◌, drop, map}
use Rattle.std.specs.List.{list_any}
use Rattle.conode_explain_cob_ids.specs.Claims.{sheet_may_have}
use Rattle.conode_explain_cob_ids.specs.Known.{known_view}
use Rattle.conode_explain_cob_ids.proofs.claim.sheets_may_have.Given as goal

-- it is none of those so far
abbrev pub invariant-loop-sheet : goal.invariant-loop-sheet
invariant-loop-sheet l =
    list_any (sheet_may_have l.id) (map known_view (drop l.sheet-index l.sheets)) ≡ list_any (sheet_may_have l.id) (map known_view l.sheets)

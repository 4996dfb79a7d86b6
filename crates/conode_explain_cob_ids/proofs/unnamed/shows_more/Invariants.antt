use Rattle.std.proofs.Common.{◌≡◌, drop}
use Rattle.conode_explain_cob_ids.specs.Shown.{shows_more}
use Rattle.conode_explain_cob_ids.proofs.unnamed.shows_more.Given as goal

-- none of those so far is one
abbrev pub invariant-loop-shown : goal.invariant-loop-shown
invariant-loop-shown l = shows_more (drop l.shown-index l.entries) ≡ shows_more l.entries

use Rattle.std.proofs.Common.{◌≡◌, drop, map}
use Rattle.conode_explain_cob_ids.specs.Known.{known_view}
use Rattle.conode_explain_forms.specs.Lines.{first_missing}
use Rattle.conode_explain_forms.proofs.columns.first_missing.Given as goal

-- it is none of those so far
abbrev pub invariant-loop-signal : goal.invariant-loop-signal
invariant-loop-signal l =
    first_missing (map known_view l.sheets) (drop l.signal-index l.signals) ≡ first_missing (map known_view l.sheets) l.signals

use Rattle.std.proofs.Common.{◌≡◌, ◌++◌, map, take, drop}
use Rattle.conode_explain_entries.specs.Histories.{stored_value}
use Rattle.conode_explain_entries.proofs.state.PdoValues.stored.Given as goal

-- those so far are changed, and with the rest changed all are
abbrev pub invariant-loop-value : goal.invariant-loop-value
invariant-loop-value l =
    take l.value-index l.value-items ++ map (stored_value l.certain) (drop l.value-index l.value-items) ≡ map (stored_value l.certain) l.self.mapping

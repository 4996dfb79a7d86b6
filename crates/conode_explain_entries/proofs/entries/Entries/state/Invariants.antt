use Rattle.std.proofs.Common.{◌≡◌, drop}
use Rattle.conode_explain_entries.specs.Tables.{state_in}
use Rattle.conode_explain_entries.proofs.entries.Entries.state.Given as goal

-- it is none of those so far
abbrev pub invariant-loop-pdo : goal.invariant-loop-pdo
invariant-loop-pdo l = state_in (drop l.pdo-index l.pdos) l.interface l.node l.index ≡ state_in l.pdos l.interface l.node l.index

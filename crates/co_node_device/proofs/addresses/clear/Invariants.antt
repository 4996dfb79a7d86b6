use Rattle.std.proofs.Common.{◌≡◌, ℕ, ◌<◌, get_or}
use Rattle.std.specs.Prelude.{Option, None}
use Rattle.co_node_device.proofs.addresses.clear.Given as goal

-- the places before the index are empty
abbrev pub invariant-loop-number : goal.invariant-loop-number
invariant-loop-number l = (id : ℕ) (d : Option ℕ) → id < l.number-index → get_or l.numbers id d ≡ None

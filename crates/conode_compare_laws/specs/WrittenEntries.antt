-- What the laws about entries ask of what the application writes.
use Rattle.std.specs.Prelude.{List}
use Rattle.std.specs.List.{AllByRecursion}
use Rattle.co_value.specs.Numbers.{AreBytes}
use Rattle.co_node_model.specs.Inputs.{Applied, ChangedAt, Cleared, EventOn, Framed, InputView, Raised, Ticked, Written}
use Rattle.conode_compare_laws.specs.Recordings.{Stamped}

-- what the application writes into an entry are bytes, numbers below 256
abbrev pub WritesBytes : InputView → Type 0
WritesBytes (Framed frame) = Unit {0}
WritesBytes Ticked = Unit {0}
WritesBytes (Applied (Written key bytes)) = AreBytes bytes
WritesBytes (Applied (EventOn n)) = Unit {0}
WritesBytes (Applied (ChangedAt key)) = Unit {0}
WritesBytes (Applied (Raised code bits manufacturer)) = Unit {0}
WritesBytes (Applied (Cleared bits)) = Unit {0}

-- at each of these inputs
abbrev pub WriteBytes : List Stamped → Type 0
WriteBytes inputs = AllByRecursion (λ s. WritesBytes s.input) inputs

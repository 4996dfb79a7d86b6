-- Kinds of inputs.
use Rattle.std.specs.Prelude.{Bool, true, false}
use Rattle.co_node_model.specs.Inputs.{InputView, Framed, Ticked, Applied}
use Rattle.co_node_model.specs.declared.address.Address.{Address}
use Rattle.co_node_model.specs.declared.address.Address.TheVariants.{Nmt, Sync, Channel, Rpdo, ErrorControl, Nobody}

-- a frame that is neither for an SDO channel nor SYNC: an NMT command, an RPDO, error control, or
-- one for nobody
abbrev pub is_unanswered : Address → Bool
is_unanswered Nmt = true
is_unanswered Sync = false
is_unanswered (Channel j) = false
is_unanswered (Rpdo n) = true
is_unanswered (ErrorControl node) = true
is_unanswered Nobody = true

-- an input is a tick
abbrev pub is_tick : InputView → Bool
is_tick (Framed frame) = false
is_tick Ticked = true
is_tick (Applied event) = false

-- The turns at which the schedule is asked which TPDOs are due.
use Rattle.std.specs.Prelude.{Bool, true, false}
use Rattle.co_node_model.specs.declared.turn.Turn.{Turn}
use Rattle.co_node_model.specs.declared.turn.Turn.TheVariants.{Quiet, StartAll, Start, Sync, Asked, Tick}

-- a SYNC, application events of TPDOs, or a tick
abbrev pub is_asked : Turn → Bool
is_asked Quiet = false
is_asked StartAll = false
is_asked (Start n part) = false
is_asked (Sync counter) = true
is_asked (Asked asked) = true
is_asked Tick = true

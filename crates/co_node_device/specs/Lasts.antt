-- The last input: what an application may want to know of it, and which heartbeats were lost at it.
use Rattle.std.specs.Prelude.{ℕ, List, [], ◌∷◌}
use Rattle.co_frame.specs.declared.nmt.NmtService.{NmtService}
use Rattle.co_frame.specs.declared.nmt.NmtService.TheVariants.{Start, Stop, EnterPreOperational, ResetNode, ResetCommunication}
use Rattle.co_node_model.specs.Inputs.{Inputs}
use Rattle.co_node_model.specs.declared.mark.Mark.{Mark}
use Rattle.co_node_model.specs.declared.mark.Mark.TheVariants as was
use Rattle.co_node_model.specs.Moments.{Constants, History}
use Rattle.co_node_model.specs.Device.{moments}
use Rattle.co_node_device.specs.declared.seen.Seen.{Seen}
use Rattle.co_node_device.specs.declared.seen.Seen.TheVariants as seen

-- what is seen of an NMT command for this node or for all nodes: the resets (7.2.8.2.1)
abbrev pub seen_command : NmtService → Seen
seen_command Start = seen.Nothing
seen_command Stop = seen.Nothing
seen_command EnterPreOperational = seen.Nothing
seen_command ResetNode = seen.ResetNode
seen_command ResetCommunication = seen.ResetCommunication

-- what is seen of a mark
abbrev pub seen_of : Mark → Seen
seen_of was.Quiet = seen.Nothing
seen_of (was.Command service) = seen_command service
seen_of (was.Written key) = seen.Nothing
seen_of (was.Sync frame) = seen.Sync
seen_of (was.Rpdo frame) = seen.Rpdo
seen_of (was.Heard node) = seen.Heartbeat node
seen_of (was.Tick timed_out) = seen.Nothing
seen_of (was.Asked asked) = seen.Nothing

-- what is seen of the last input of a history; nothing before the first
abbrev pub seen_at : History → Seen
seen_at [] = seen.Nothing
seen_at (m ∷ history) = seen_of m.mark

-- the sub-indices of 1016h whose heartbeat was lost at it, increasing (7.5.2.19)
abbrev pub losses_at : History → List ℕ
losses_at [] = []
losses_at (m ∷ history) = m.lost

-- the same after inputs, newest first
abbrev pub last_seen : Constants → Inputs → Seen
last_seen k inputs = seen_at (moments k inputs)

abbrev pub last_losses : Constants → Inputs → List ℕ
last_losses k inputs = losses_at (moments k inputs)

-- What is seen of marks, evaluated.
use Rattle.std.proofs.Common.{◌≡◌, [], ◌∷◌, map, true, refl}
use Rattle.co_frame.specs.declared.nmt.NmtService.TheVariants.{Start, Stop, EnterPreOperational, ResetNode, ResetCommunication}
use Rattle.co_node_model.specs.declared.mark.Mark.TheVariants as was
use Rattle.co_node_device.specs.declared.seen.Seen.TheVariants as seen
use Rattle.co_node_device.specs.Lasts.{seen_of}

-- resets
resets : map seen_of (was.Command ResetNode ∷ was.Command ResetCommunication ∷ []) ≡ seen.ResetNode ∷ seen.ResetCommunication ∷ []
resets = refl

-- a SYNC, a heartbeat of node 7
others : map seen_of (was.Sync (record { id = 0x80; bytes = [] }) ∷ was.Heard 7 ∷ []) ≡ seen.Sync ∷ seen.Heartbeat 7 ∷ []
others = refl

-- other commands, a tick
nothing : map seen_of (was.Command Start ∷ was.Command Stop ∷ was.Command EnterPreOperational ∷ was.Tick true ∷ was.Quiet ∷ []) ≡ seen.Nothing ∷ seen.Nothing ∷ seen.Nothing ∷ seen.Nothing ∷ seen.Nothing ∷ []
nothing = refl

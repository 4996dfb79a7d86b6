-- NMT commands with more than two bytes: they are a kind of frame of their own, or none for the device.
use Rattle.std.proofs.Common.{ℕ, Bool, true, false, Option, Some, None}
use Rattle.std.specs.Prelude.{if◌then◌else◌, ◌==◌, ◌||◌}
use Rattle.co_frame.specs.declared.nmt.NmtCommand.{NmtCommand}
use Rattle.co_frame.specs.declared.nmt.NmtService.{NmtService}
use Rattle.conode_compare_rules.specs.declared.kind.FrameKind.{FrameKind}
use Rattle.conode_compare_rules.specs.declared.kind.FrameKind.TheVariants.{LongCommand, Other}
use Rattle.conode_compare_rules.specs.FrameKinds.{long_to}

pub long_such : (P : FrameKind → Type 0) (node : ℕ) (long : Option NmtCommand) → ((service : NmtService) → P (LongCommand service)) → P Other → P (long_to node long)
long_such P node None some none = none
long_such P node (Some command) some none = by (command.node == 0 || command.node == node)
  where
    by : (b : Bool) → P (if b then LongCommand command.service else Other)
    by true = some command.service
    by false = none

use Rattle.std.proofs.Common.{◌≡◌, ◌++◌, length}
use Rattle.conode_device.proofs.loop_file.collected.Given as goal

-- the bytes so far, and those left
abbrev pub invariant-loop-byte : goal.invariant-loop-byte
invariant-loop-byte l = l.bytes.items ++ l.left ≡ l.initial.left

abbrev pub decreases-loop-byte : goal.decreases-loop-byte
decreases-loop-byte l = length l.left

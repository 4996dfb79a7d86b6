use Rattle.std.proofs.Common.{map, take}
use Rattle.conode_trace.specs.Printed.{frame_line}
use Rattle.conode_io.specs.Written.{WritesLines}
use Rattle.conode_device.proofs.frames.write_frames.Given as goal

abbrev pub invariant-loop-frame : goal.invariant-loop-frame
invariant-loop-frame g l = WritesLines (g.W.Write.contents l.fn.writer) (g.W.Write.contents l.writer) (map (frame_line 0) (take l.frame-index l.frames))

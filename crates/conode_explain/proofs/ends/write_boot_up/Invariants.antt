use Rattle.std.proofs.Common.{take}
use Rattle.std.specs.List.{flat_map}
use Rattle.conode_io.specs.Written.{WritesLines}
use Rattle.conode_explain.specs.Explained.{interrupted_in}
use Rattle.conode_explain.specs.Sheets.{sheets_of}
use Rattle.conode_explain.proofs.ends.write_boot_up.Given as goal

-- the lines of the channels so far are written
abbrev pub invariant-loop-channel : goal.invariant-loop-channel
invariant-loop-channel g l =
    WritesLines (g.W.Write.contents l.fn.out) (g.W.Write.contents l.out)
    (flat_map (interrupted_in l.settings.form (sheets_of l.settings) l.seen l.micros l.name l.node) (take l.channel-index l.channels))

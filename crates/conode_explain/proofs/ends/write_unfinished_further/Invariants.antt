use Rattle.std.proofs.Common.{take}
use Rattle.std.specs.List.{flat_map}
use Rattle.conode_io.specs.Written.{WritesLines}
use Rattle.conode_explain.specs.Explained.{unfinished_on}
use Rattle.conode_explain.specs.Sheets.{sheets_of}
use Rattle.conode_explain.proofs.ends.write_unfinished_further.Given as goal

-- the lines of the channels so far are written
abbrev pub invariant-loop-channel : goal.invariant-loop-channel
invariant-loop-channel g l =
    WritesLines (g.W.Write.contents l.fn.out) (g.W.Write.contents l.out)
    (flat_map (unfinished_on l.settings.form (sheets_of l.settings) l.progress.seen) (take l.channel-index l.progress.further))

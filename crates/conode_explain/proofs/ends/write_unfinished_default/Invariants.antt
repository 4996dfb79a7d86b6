use Rattle.std.proofs.Common.{take}
use Rattle.std.specs.List.{flat_map}
use Rattle.conode_io.specs.Written.{WritesLines}
use Rattle.conode_explain.specs.Explained.{unfinished_in}
use Rattle.conode_explain.specs.Sheets.{sheets_of}
use Rattle.conode_explain.proofs.ends.write_unfinished_default.Given as goal

-- the lines of the channels so far are written
abbrev pub invariant-loop-track : goal.invariant-loop-track
invariant-loop-track g l =
    WritesLines (g.W.Write.contents l.fn.out) (g.W.Write.contents l.out)
    (flat_map (unfinished_in l.settings.form (sheets_of l.settings) l.progress.seen) (take l.track-index l.progress.channels))

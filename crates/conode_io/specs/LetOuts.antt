-- Whether what was written went out.
use Rattle.std.specs.Prelude.{Bool, true, false}
use Rattle.conode_io.specs.declared.trace_lines.LetOut.{LetOut}
use Rattle.conode_io.specs.declared.trace_lines.LetOut.TheVariants.{NotNeeded, Done}

-- the writer was flushed
abbrev pub is_done : LetOut → Bool
is_done NotNeeded = false
is_done (Done flushed) = true

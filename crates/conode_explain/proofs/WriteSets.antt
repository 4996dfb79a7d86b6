-- A line that is written where it is asked for.
use Rattle.conode_io.proofs.WriteLemmas.{line_alone}
use Rattle.conode_explain.proofs.WriteLemmas.{are_shown, are_hidden}

pub ruleset one_line = (line_alone, are_shown, are_hidden)

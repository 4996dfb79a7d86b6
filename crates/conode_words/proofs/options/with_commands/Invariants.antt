use Rattle.std.proofs.Common.{take}
use Rattle.clap.specs.Words.{App}
use Rattle.conode_words.specs.Commands.{IsCommand}
use Rattle.conode_words.specs.Tables.{with_commands}
use Rattle.conode_words.proofs.options.with_commands.Given as goal

abbrev pub invariant-loop-row : goal.invariant-loop-row
invariant-loop-row l = (app : App) → IsCommand l.initial.command app → IsCommand l.command (with_commands app (take l.row-index l.rows))

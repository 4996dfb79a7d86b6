use Rattle.std.proofs.Common.{take}
use Rattle.clap.specs.Words.{App}
use Rattle.conode_words.specs.Commands.{IsCommand}
use Rattle.conode_words.specs.Tables.{with_words}
use Rattle.conode_words.proofs.options.with_words.Given as goal

abbrev pub invariant-loop-word : goal.invariant-loop-word
invariant-loop-word l = (app : App) → IsCommand l.initial.command app → IsCommand l.command (with_words app (take l.word-index l.words))

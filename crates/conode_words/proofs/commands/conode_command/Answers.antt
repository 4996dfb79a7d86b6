use Rattle.std.proofs.lemmas.Result.{IfOk-weaker}
use Rattle.conode_words.proofs.commands.conode_command.Goals as goal

pub returns : goal.returns
returns c = IfOk-weaker c.with_commands.result _ _ (λ command h. h _ c.only_conode.ensures) c.with_commands.ensures

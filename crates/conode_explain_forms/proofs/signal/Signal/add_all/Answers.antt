use Rattle.std.proofs.Common.{arith}
use Rattle.conode_explain_forms.proofs.Readings.{ends, fails_at, fails_last, goes_on, onto_none}
use Rattle.conode_explain_forms.proofs.signal.Signal.add_all.Goals as goal

pub loop-word-init : goal.loop-word-init
loop-word-init c = grind (arith, onto_none)

pub loop-word-preserved : goal.loop-word-preserved
loop-word-preserved c = grind (arith, goes_on)

pub returns-in_default-read-clause-err : goal.returns-in_default-read-clause-err
returns-in_default-read-clause-err c = grind (arith, fails_at)

pub returns-in_default-read-2-clause-err : goal.returns-in_default-read-2-clause-err
returns-in_default-read-2-clause-err c = grind (arith, fails_last)

pub returns-in-Ok-push-clause-ok : goal.returns-in-Ok-push-clause-ok
returns-in-Ok-push-clause-ok c = grind (arith, ends)

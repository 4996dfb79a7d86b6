use Rattle.std.proofs.Common.{sym, subst}
use Rattle.std.proofs.lemmas.List.{take_all}
use Rattle.std.proofs.lemmas.List.Sums.{fold_more}
use Rattle.clap.specs.Words.{with_rule}
use Rattle.conode_words.specs.Commands.{IsCommand}
use Rattle.conode_words.specs.Tables.{rule_by, with_words}
use Rattle.conode_words.proofs.CommandLemmas.{with_arg}
use Rattle.conode_words.proofs.options.with_words.Goals as goal

pub loop-word-preserved : goal.loop-word-preserved
loop-word-preserved c = λ app is.
    let step = with_arg _ _ _ _ _ c.in-Ok.ensures (c.loop-word.invariant app is) c.arg_of.ensures.rule c.arg_of.ensures.local in
    subst (IsCommand c.in-Ok.next) (sym (fold_more (λ a word. with_rule a (rule_by word)) app c.args.words.now c.loop-word.word-index _ c.loop-word-test.true)) step

pub returns : goal.returns
returns c = λ app is.
    subst (λ words. IsCommand c.loop-word.command (with_words app words)) (take_all c.loop-word.word-index c.args.words.now c.loop-word-test.false) (c.loop-word.invariant app is)

use Rattle.std.proofs.Common.{sym}
use Rattle.conode_trace.proofs.Words.{one_word, first_of_words}
use Rattle.conode_trace.proofs.event_line.first_word.Goals as goal

pub returns-in-Some : goal.returns-in-Some
returns-in-Some c =
    first_of_words c.args.text.now c.in-Some.word.now c.in-Some.rest.now (sym c.in-Some.ensures.some) c.in-Some.ensures.before c.in-Some.ensures.after

pub returns-in-None : goal.returns-in-None
returns-in-None c = one_word c.args.text.now (sym c.in-None.ensures.some)

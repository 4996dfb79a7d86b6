use Rattle.conode_explain_text.proofs.LineLemmas.{line_written}
use Rattle.conode_explain_text.proofs.line.set_line.Goals as goal

pub returns : goal.returns
returns c = rw (line_written c.args.form c.args.seen.now c.args.frame.now c.args.words.now) c.write_line.ensures

use Rattle.conode_explain.proofs.AbortLemmas.{words_found}
use Rattle.conode_explain.proofs.abort_words.words_of.Goals as goal

pub returns : goal.returns
returns c = words_found c.args.code c.abort_text.result.now c.abort_text.ensures.known c.abort_text.ensures.unknown

use Rattle.std.proofs.Common.{arith}
use Rattle.conode_sheets.proofs.SheetWordLemmas.{cut_is}
use Rattle.conode_sheets.proofs.sheet_word.at_colon.Goals as goal

pub returns : goal.returns
returns c = cut_is 58 c.args.word.now c.split_once.result c.split_once.ensures.cases (omega arith)

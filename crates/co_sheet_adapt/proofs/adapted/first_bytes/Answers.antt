use Rattle.std.proofs.Common.{sym, arith}
use Rattle.std.proofs.lemmas.List.{take_all}
use Rattle.co_sheet_adapt.proofs.adapted.first_bytes.Goals as goal

-- a text that is short stays as it is
pub returns-in-None : goal.returns-in-None
returns-in-None c = sym (take_all 256 c.args.text.now (omega (arith, c.in-None.ensures.cases)))

use Rattle.std.proofs.Common.{rules}
use Rattle.co_sheet_text.proofs.NumeralLemmas.{by_value}
use Rattle.co_sheet_text.proofs.numeral.decimal_number.Goals as goal

pub returns-in-Some-eq48 : goal.returns-in-Some-eq48
returns-in-Some-eq48 c = by_value c.args.text.now _ (search rules)

pub returns-in-Some-default : goal.returns-in-Some-default
returns-in-Some-default c = by_value c.args.text.now _ (search rules)

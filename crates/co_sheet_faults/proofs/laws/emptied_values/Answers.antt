use Rattle.std.specs.Str.Lines.{lines}
use Rattle.co_sheet_text.specs.Text.{without_mark}
use Rattle.co_sheet_text.proofs.SectionLawLemmas.{numbers-rise}
use Rattle.co_sheet_faults.proofs.EmptiedLemmas.{limits-gone, defaults-gone}
use Rattle.co_sheet_faults.proofs.laws.emptied_values.Goals as goal

pub returns-clause-numbered : goal.returns-clause-numbered
returns-clause-numbered c = λ text. numbers-rise 1 (lines (without_mark text))

pub returns-clause-limits : goal.returns-clause-limits
returns-clause-limits c = limits-gone

pub returns-clause-defaults : goal.returns-clause-defaults
returns-clause-defaults c = defaults-gone

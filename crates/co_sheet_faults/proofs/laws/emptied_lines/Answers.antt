use Rattle.co_sheet_faults.proofs.AllLemmas.{kind-gone}
use Rattle.co_sheet_faults.proofs.laws.emptied_lines.Goals as goal

pub returns : goal.returns
returns c = record { gone = kind-gone }

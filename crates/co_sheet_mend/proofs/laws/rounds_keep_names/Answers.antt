use Rattle.co_sheet_mend.proofs.ReadableNameLemmas.{readable-named}
use Rattle.co_sheet_mend.proofs.laws.rounds_keep_names.Goals as goal

pub returns : goal.returns
returns c = record { name = readable-named }

use Rattle.conode_compare_laws.proofs.SheetClients.{all_told}
use Rattle.conode_compare_laws.proofs.kept_times.told_of_sheet.Goals as goal

pub returns : goal.returns
returns c = λ plan k inputs built lawful given shown. all_told plan k built lawful given shown inputs

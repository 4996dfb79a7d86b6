use Rattle.co_sdo_loss_laws.proofs.Laws.{download_sets}
use Rattle.co_sdo_loss_laws.proofs.disturbed.download.Goals as goal

pub returns : goal.returns
returns c = record { entry = download_sets }

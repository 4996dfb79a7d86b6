use Rattle.co_sdo_loss_laws.proofs.Laws.{block_download_sets}
use Rattle.co_sdo_loss_laws.proofs.disturbed.block_download.Goals as goal

pub returns : goal.returns
returns c = record { entry = block_download_sets }

use Rattle.co_sdo_loss_laws.proofs.Laws.{block_upload_gives}
use Rattle.co_sdo_loss_laws.proofs.disturbed.block_upload.Goals as goal

pub returns : goal.returns
returns c = record { value = block_upload_gives }

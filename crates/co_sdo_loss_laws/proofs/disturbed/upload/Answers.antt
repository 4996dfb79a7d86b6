use Rattle.co_sdo_loss_laws.proofs.Laws.{upload_gives}
use Rattle.co_sdo_loss_laws.proofs.disturbed.upload.Goals as goal

pub returns : goal.returns
returns c = record { value = upload_gives }

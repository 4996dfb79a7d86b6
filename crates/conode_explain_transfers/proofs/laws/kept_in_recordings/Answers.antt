-- What is kept after every log.
use Rattle.std.proofs.Common.{◌≡◌, ℕ, List}
use Rattle.std.specs.Prelude.{Option, Some, None, IfSome}
use Rattle.conode_explain_transfers.specs.declared.transfer.Transfer.{Transfer}
use Rattle.conode_explain_transfers.specs.Digests.{digest_of}
use Rattle.conode_explain_transfers.specs.HeardData.{heard_after, heard_data}
use Rattle.conode_explain_transfers.proofs.DataLemmas.{StaysOpen}
use Rattle.conode_explain_transfers.proofs.HeardLemmas.{heard_open}
use Rattle.conode_explain_transfers.proofs.laws.kept_in_recordings.Goals as goal

kept_of : (current : Option Transfer) (bytes : List ℕ) → StaysOpen current bytes → IfSome current (λ transfer. transfer.taken ≡ digest_of bytes)
kept_of None bytes h = tt
kept_of (Some transfer) bytes h = h.taken

pub returns : goal.returns
returns c = λ log. kept_of (heard_after log).transfer (heard_data log) (heard_open log)

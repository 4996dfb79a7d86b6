-- What is kept after every log.
use Rattle.std.proofs.Common.{◌≡◌, ℕ, List}
use Rattle.std.specs.Prelude.{Option, Some, None, IfSome}
use Rattle.conode_explain_transfers.specs.declared.transfer.Transfer.{Transfer}
use Rattle.conode_explain_transfers.specs.Data.{data_after}
use Rattle.conode_explain_transfers.specs.Digests.{digest_of}
use Rattle.conode_explain_transfers.specs.Followed.{following_after}
use Rattle.conode_explain_transfers.proofs.DataLemmas.{StaysOpen, open_after}
use Rattle.conode_explain_transfers.proofs.laws.kept_data.Goals as goal

kept_of : (current : Option Transfer) (bytes : List ℕ) → StaysOpen current bytes → IfSome current (λ transfer. transfer.taken ≡ digest_of bytes)
kept_of None bytes h = tt
kept_of (Some transfer) bytes h = h.taken

pub returns : goal.returns
returns c = λ log. kept_of (following_after log).transfer (data_after log) (open_after log)

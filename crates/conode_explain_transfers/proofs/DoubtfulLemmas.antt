-- A transfer whose newest frame of the client can't be a request.
use Rattle.std.proofs.Common.{◌≡◌, ℕ, List, [], ◌∷◌, Some, None, refl}
use Rattle.conode_explain_transfers.specs.declared.kinds.Side.TheVariants.{Client, Server}
use Rattle.conode_explain_transfers.specs.declared.transfer.Transfer.{Transfer}
use Rattle.conode_explain_transfers.specs.Doubtful.{begun_by, if_answered, shown_by}
use Rattle.conode_explain_transfers.specs.Readings.{plain_reading}
use Rattle.co_value.specs.declared.key.Key.{Key}

by_bytes : (transfer : Transfer) (key : Key) (own bytes : List ℕ) → own ≡ [] → if_answered (begun_by (plain_reading Client own) transfer) key bytes ≡ None
by_bytes transfer key [] bytes e = refl
by_bytes transfer key (x ∷ xs) bytes e = absurd (cc)

pub shown_none : (transfer : Transfer) (bytes : List ℕ) → transfer.doubtful.bytes ≡ [] → shown_by (Some transfer) Server bytes ≡ None
shown_none transfer bytes e = by_bytes transfer transfer.key transfer.doubtful.bytes bytes e

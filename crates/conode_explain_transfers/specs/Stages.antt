-- How far a transfer is.
use Rattle.std.specs.Prelude.{ℕ, Bool, true, false, Option, Some, None}
use Rattle.conode_explain_transfers.specs.declared.stage.Stage.{Stage}
use Rattle.conode_explain_transfers.specs.declared.stage.Stage.TheVariants.{Initiated, Confirmed}

-- the response to initiate is awaited
abbrev pub is_initiated : Stage → Bool
is_initiated Initiated = true
is_initiated _ = false

-- the last confirmation came, with the CRC to compare, if there is one
abbrev pub confirmed_with : Stage → Option (Option ℕ)
confirmed_with (Confirmed crc) = Some crc
confirmed_with _ = None

-- What a recording shows of the identity object (CiA 301, 7.5.2.21).
use Rattle.std.specs.Prelude.{ℕ, ◌==◌, Bool, true, false, ◌&&◌, if◌then◌else◌, Option, None}
use Rattle.conode_explain_transfers.specs.declared.ended.Ended.{Ended}
use Rattle.conode_explain_transfers.specs.declared.kinds.Direction.{Direction}
use Rattle.conode_explain_transfers.specs.declared.kinds.Direction.TheVariants.{Download, Upload}
use Rattle.conode_compare_values.specs.SheetValues.{shown_number}
use Rattle.conode_compare_report.specs.declared.identity.Identity.{Identity}
use Rattle.conode_compare_report.specs.Occasions.{is_done}

abbrev pub no_identity : Identity
no_identity = record { revision = None; serial = None }

abbrev pub is_upload : Direction → Bool
is_upload Upload = true
is_upload Download = false

-- an upload of the identity object, that was confirmed, of four bytes
abbrev pub is_identity_read : Ended → Bool
is_identity_read ended = (ended.key.index == 0x1018) && is_upload ended.direction && is_done ended.ending && (ended.bytes == 4)

-- the revision number has the sub-index 3, the serial number 4
abbrev pub identity_at : ℕ → Option ℕ → Identity → Identity
identity_at sub number identity =
    if sub == 3 then record identity { revision = number }
    else (if sub == 4 then record identity { serial = number } else identity)

-- of each the newest
abbrev pub identity_with : Ended → Identity → Identity
identity_with ended identity =
    if is_identity_read ended then identity_at ended.key.sub (shown_number 4 ended.first.items) identity else identity

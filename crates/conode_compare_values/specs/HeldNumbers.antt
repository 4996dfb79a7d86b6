-- What was written to the entries that are held, and where an upload shows another number.
use Rattle.std.specs.Prelude.{ℕ, ◌+◌, ◌==◌, nat_le, Bool, true, false, ◌&&◌, ◌||◌, if◌then◌else◌, List, [], ◌∷◌, length, replicate, slice_index_or, slice_set, Option, Some, None, is_some, option_and_then}
use Rattle.std.specs.Option.{option_map_or}
use Rattle.co_value.specs.declared.key.Key.{Key}
use Rattle.conode_explain_transfers.specs.declared.ended.Ended.{Ended}
use Rattle.conode_explain_transfers.specs.declared.ended.Ending.{Ending}
use Rattle.conode_explain_transfers.specs.declared.ended.Ending.TheVariants.{Done}
use Rattle.conode_explain_transfers.specs.declared.kinds.Direction.{Direction}
use Rattle.conode_explain_transfers.specs.declared.kinds.Direction.TheVariants.{Download, Upload}
use Rattle.conode_compare_transfers.specs.declared.dialogue.Asked.{Asked}
use Rattle.conode_compare_transfers.specs.Dialogues.{is_timed}
use Rattle.conode_compare_values.specs.SheetValues.{shown_number}
use Rattle.conode_compare_values.specs.declared.entries.HeldEntry.{HeldEntry}
use Rattle.conode_compare_values.specs.declared.written.HeldMismatch.{HeldMismatch}
use Rattle.conode_compare_values.specs.declared.written.Written.{Written}
use Rattle.conode_compare_values.specs.HeldWords.{entry_of, place_of}

-- ---- the numbers that are known

unfoldable pub nothing_written : Written
nothing_written = record { numbers = replicate 64 None }

-- by the place of an entry among those that are held
abbrev pub number_at : Written → Option ℕ → Option ℕ
number_at written None = None
number_at written (Some place) = slice_index_or written.numbers place None

abbrev pub with_number : Written → Option ℕ → Option ℕ → Written
with_number written None number = written
with_number written (Some place) number = record { numbers = slice_set written.numbers place number }

-- ---- what a transfer shows

-- a transfer that is done, in one frame, in segments or in blocks
abbrev pub is_done : Ending → Bool
is_done (Done crc) = true
is_done ending = false

-- the number that a download wrote has as many bytes as the type of its entry
abbrev pub number_written : ℕ → List ℕ → Option ℕ
number_written width bytes = if length bytes == width then shown_number width bytes else None

abbrev pub downloaded : List HeldEntry → Bool → Ended → Option ℕ
downloaded entries certain ended =
    if certain && is_done ended.ending
    then option_and_then (λ entry. number_written entry.width ended.first.items) (entry_of entries ended.key)
    else None

-- of an upload that doesn't show how many of its bytes count, the first do
abbrev pub uploaded : List HeldEntry → Bool → Ended → Option ℕ
uploaded entries certain ended =
    if certain && is_done ended.ending
    then option_and_then (λ entry. shown_number entry.width ended.first.items) (entry_of entries ended.key)
    else None

-- ---- differences

abbrev pub differs : Key → Option ℕ → Option ℕ → Option HeldMismatch
differs key None written = None
differs key (Some shown) None = None
differs key (Some shown) (Some number) = if shown == number then None else Some (record { key = key; shown = shown; written = number })

abbrev pub upload_mismatch : List HeldEntry → Written → Bool → Ended → Option HeldMismatch
upload_mismatch entries written certain ended =
    differs ended.key (uploaded entries certain ended) (number_at written (place_of entries ended.key))

abbrev pub mismatch_of : List HeldEntry → Written → Bool → Direction → Ended → Option HeldMismatch
mismatch_of entries written certain Upload ended = upload_mismatch entries written certain ended
mismatch_of entries written certain Download ended = None

-- `value-held`: an upload shows another number than the last download wrote
unfoldable pub held_mismatch : List HeldEntry → Written → Bool → Option Ended → Option HeldMismatch
held_mismatch entries written certain ended = option_and_then (λ e. mismatch_of entries written certain e.direction e) ended

-- an upload could show another number than was written, and doesn't: after a difference the number
-- that was written is unknown
abbrev pub is_known : Option ℕ → Option ℕ → Bool
is_known shown written = is_some shown && is_some written

abbrev pub is_kept_by : List HeldEntry → Written → Bool → Direction → Ended → Bool
is_kept_by entries after certain Upload ended = is_known (uploaded entries certain ended) (number_at after (place_of entries ended.key))
is_kept_by entries after certain Download ended = false

abbrev pub is_kept : List HeldEntry → Written → Bool → Option Ended → Bool
is_kept entries after certain None = false
is_kept entries after certain (Some ended) = is_kept_by entries after certain ended.direction ended

-- ---- frames of the channel

-- a transfer ended: after a difference the number is unknown, so that it is one
abbrev pub after_end_of : List HeldEntry → Written → Bool → Direction → Ended → Written
after_end_of entries written certain Download ended = with_number written (place_of entries ended.key) (downloaded entries certain ended)
after_end_of entries written certain Upload ended =
    if is_some (upload_mismatch entries written certain ended) then with_number written (place_of entries ended.key) None else written

abbrev pub after_end : List HeldEntry → Written → Bool → Ended → Written
after_end entries written certain ended = after_end_of entries written certain ended.direction ended

abbrev pub with_end : List HeldEntry → Written → Bool → Option Ended → Written
with_end entries written certain None = written
with_end entries written certain (Some ended) = after_end entries written certain ended

-- A download is requested: what its entry has is unknown until it ends. A write that restores
-- parameters, or loads a program, may change any entry.
abbrev pub after_request : List HeldEntry → Written → Key → Written
after_request entries written key = if is_timed key then with_number written (place_of entries key) None else nothing_written

abbrev pub with_request : List HeldEntry → Written → Option Asked → Written
with_request entries written None = written
with_request entries written (Some asked) = if asked.writes then after_request entries written asked.key else written

unfoldable pub written_heard : List HeldEntry → Written → Bool → Option Ended → Option Asked → Written
written_heard entries written certain ended asked = with_request entries (with_end entries written certain ended) asked

-- ---- PDOs

-- CAN-IDs that CiA 301 restricts (7.3.5): neither a PDO nor a SYNC has one
abbrev pub is_restricted : ℕ → Bool
is_restricted id =
    nat_le id 0x7F
    || ((nat_le 0x101 id && nat_le id 0x180)
    || ((nat_le 0x581 id && nat_le id 0x5FF) || ((nat_le 0x601 id && nat_le id 0x67F)
    || ((nat_le 0x6E0 id && nat_le id 0x6FF) || nat_le 0x701 id))))

-- what entries have that a PDO may have is unknown, from the one at a place on
unfoldable pub unmapped_from : ℕ → List HeldEntry → Written → Written
unmapped_from place [] written = written
unmapped_from place (entry ∷ more) written =
    unmapped_from (place + 1) more (if entry.mappable then with_number written (Some place) None else written)

abbrev pub unmapped : List HeldEntry → Written → Written
unmapped entries written = unmapped_from 0 entries written

-- what an entry has is unknown, if a PDO may have it
abbrev pub is_mappable : List HeldEntry → Key → Bool
is_mappable entries key = option_map_or (λ entry. entry.mappable) (entry_of entries key) false

abbrev pub unmapped_at : List HeldEntry → Written → Key → Written
unmapped_at entries written key = if is_mappable entries key then with_number written (place_of entries key) None else written

-- A data frame came that is none of the device. An RPDO writes what is mapped into it; with a SYNC an
-- earlier one may take effect.
abbrev pub with_process : List HeldEntry → Written → ℕ → Written
with_process entries written id = if is_restricted id then written else unmapped entries written

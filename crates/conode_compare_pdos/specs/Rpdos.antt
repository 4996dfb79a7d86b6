-- The first four RPDOs of a device in a recording: their parameters (CiA 301, 7.5.2.35 and
-- 7.5.2.36), as far as the data sheet and transfers show them.
use Rattle.std.specs.Prelude.{ℕ, ◌+◌, ◌*◌, ◌-◌, ◌/◌, ◌%◌, ◌==◌, nat_lt, nat_le, Bool, true, false, not, ◌&&◌, ◌||◌, if◌then◌else◌, List, [], ◌∷◌, replicate, slice_set, Option, Some, None, is_some, is_none, option_and_then}
use Rattle.std.specs.Option.{option_map_or}
use Rattle.std.specs.List.{list_any}
use Rattle.co_sheet.specs.Content.{Row}
use Rattle.co_value.specs.declared.key.Key.{Key}
use Rattle.co_value.specs.Keys.{same_key}
use Rattle.co_sheet_changes.specs.Names.{row_at}
use Rattle.conode_explain_transfers.specs.declared.ended.Ended.{Ended}
use Rattle.conode_explain_transfers.specs.declared.kinds.Direction.{Direction}
use Rattle.conode_explain_transfers.specs.declared.kinds.Direction.TheVariants.{Download, Upload}
use Rattle.conode_compare_pdos.specs.declared.rpdo.Rpdo.{Rpdo}
use Rattle.conode_compare_pdos.specs.declared.rpdos.Rpdos.{Rpdos}
use Rattle.conode_compare_pdos.specs.Deviations.{is_event_driven}
use Rattle.conode_compare_pdos.specs.Identifiers.{may_be}
use Rattle.conode_compare_pdos.specs.PdoParameters.{first_byte, key_of, mapped_bytes, summed}
use Rattle.conode_compare_pdos.specs.SheetNumbers.{first_word, number_of, preset_at, small, tiny}
use Rattle.conode_compare_pdos.specs.Tpdos.{shows_bytes}

-- 1400h and 1600h, of the first RPDO
abbrev pub rpdo_communication : ℕ → ℕ
rpdo_communication number = 0x1400 + number

abbrev pub rpdo_mapping : ℕ → ℕ
rpdo_mapping number = 0x1600 + number

-- a COB-ID whose bit 31 is set: the PDO doesn't exist
abbrev pub no_pdo : ℕ
no_pdo = 0x80000000

abbrev pub unknown_rpdo : Rpdo
unknown_rpdo = record { cob_id = None; kind = None; inhibit = None; count = None; objects = replicate 8 None; changed = None }

-- ---- a data sheet

-- A COB-ID whose 11 bits are 0 says nothing of where a PDO is: it may stand in a sheet for one that was
-- left out (CompactPDO).
abbrev pub placed : Option ℕ → Option ℕ
placed None = None
placed (Some cob_id) = if cob_id % 0x800 == 0 then None else Some cob_id

-- An RPDO that the data sheet doesn't have doesn't exist. `certain`: the values of the sheet are in
-- force.
abbrev pub sheet_cob_id : List Row → ℕ → Bool → ℕ → Option ℕ
sheet_cob_id rows node certain index =
    option_map_or (λ row. if certain then placed (number_of node row.default) else None) (row_at rows (key_of index 1)) (Some no_pdo)

abbrev pub sheet_inhibit : List Row → ℕ → Bool → ℕ → Option ℕ
sheet_inhibit rows node certain index =
    option_map_or (λ row. if certain then small (number_of node row.default) else None) (row_at rows (key_of index 3)) (Some 0)

abbrev pub sheet_number : List Row → ℕ → Bool → ℕ → ℕ → Option ℕ
sheet_number rows node certain index sub = if certain then preset_at rows node (key_of index sub) else None

-- after a boot-up
unfoldable pub rpdo_of : List Row → ℕ → Bool → ℕ → Rpdo
rpdo_of rows node certain number = record {
  cob_id = sheet_cob_id rows node certain (rpdo_communication number);
  kind = tiny (sheet_number rows node certain (rpdo_communication number) 2);
  inhibit = sheet_inhibit rows node certain (rpdo_communication number);
  count = tiny (sheet_number rows node certain (rpdo_mapping number) 0);
  objects = sheet_number rows node certain (rpdo_mapping number) 1 ∷ sheet_number rows node certain (rpdo_mapping number) 2
      ∷ sheet_number rows node certain (rpdo_mapping number) 3 ∷ sheet_number rows node certain (rpdo_mapping number) 4
      ∷ sheet_number rows node certain (rpdo_mapping number) 5 ∷ sheet_number rows node certain (rpdo_mapping number) 6
      ∷ sheet_number rows node certain (rpdo_mapping number) 7 ∷ sheet_number rows node certain (rpdo_mapping number) 8 ∷ [];
  changed = None;
}

-- 1404:01 to 15FF:01, the COB-IDs of the fifth RPDO and of further ones
abbrev pub is_further : Row → Bool
is_further row = (nat_le 0x1404 row.key.index && nat_lt row.key.index 0x1600) && (row.key.sub == 1)

-- the data sheet has RPDOs, and none but the first four
unfoldable pub has_few_rpdos : List Row → Bool
has_few_rpdos rows =
    (is_some (row_at rows (key_of 0x1400 1)) || (is_some (row_at rows (key_of 0x1401 1))
    || (is_some (row_at rows (key_of 0x1402 1)) || is_some (row_at rows (key_of 0x1403 1)))))
    && not (list_any is_further rows)

-- ---- transfers

-- the object at a sub-index of the mapping
abbrev pub with_object_at : List (Option ℕ) → ℕ → Option ℕ → List (Option ℕ)
with_object_at objects sub word = if nat_le 1 sub && nat_le sub 8 then slice_set objects (sub - 1) word else objects

-- between a request to write a sub-index and its answer both values may hold
abbrev pub rpdo_asked : Rpdo → ℕ → Rpdo
rpdo_asked rpdo sub =
    if sub == 1 then record rpdo { cob_id = None }
    else (if sub == 2 then record rpdo { kind = None }
    else (if sub == 3 then record rpdo { inhibit = None } else rpdo))

-- a mapping that is written is in force again once its sub-index 0 is
abbrev pub mapping_asked : Rpdo → ℕ → Rpdo
mapping_asked rpdo sub = record rpdo { count = None; objects = with_object_at rpdo.objects sub None }

-- a download is requested
abbrev pub rpdo_requested : Key → ℕ → ℕ → Rpdo → Rpdo
rpdo_requested key micros number rpdo =
    if key.index == rpdo_communication number then record (rpdo_asked rpdo key.sub) { changed = Some micros }
    else (if key.index == rpdo_mapping number then record (mapping_asked rpdo key.sub) { changed = Some micros } else rpdo)

-- the number of four bytes
abbrev pub double_word : List ℕ → Option ℕ
double_word (a ∷ b ∷ c ∷ d ∷ []) = Some (a + b * 0x100 + c * 0x10000 + d * 0x1000000)
double_word other = None

abbrev pub rpdo_shown : Rpdo → ℕ → List ℕ → Rpdo
rpdo_shown rpdo sub bytes =
    if sub == 1 then record rpdo { cob_id = double_word bytes }
    else (if sub == 2 then record rpdo { kind = first_byte bytes }
    else (if sub == 3 then record rpdo { inhibit = first_word bytes } else rpdo))

-- an upload of sub-index 0 doesn't show whether the objects that were written are in force
abbrev pub count_shown : Rpdo → Direction → List ℕ → Rpdo
count_shown rpdo Download bytes = record rpdo { count = first_byte bytes }
count_shown rpdo Upload bytes = rpdo

abbrev pub mapping_shown : Rpdo → Direction → ℕ → List ℕ → Rpdo
mapping_shown rpdo direction sub bytes =
    if sub == 0 then count_shown rpdo direction bytes
    else record rpdo { objects = with_object_at rpdo.objects sub (double_word bytes) }

-- a transfer in one frame is done: it shows what its entry has
abbrev pub rpdo_ended : Ended → ℕ → ℕ → Rpdo → Rpdo
rpdo_ended ended micros number rpdo =
    if ended.key.index == rpdo_communication number
    then record (rpdo_shown rpdo ended.key.sub ended.first.items) { changed = Some micros }
    else (if ended.key.index == rpdo_mapping number
    then record (mapping_shown rpdo ended.direction ended.key.sub ended.first.items) { changed = Some micros } else rpdo)

abbrev pub rpdo_transferred : Ended → ℕ → ℕ → Rpdo → Rpdo
rpdo_transferred ended micros number rpdo =
    if shows_bytes ended.protocol ended.ending then rpdo_ended ended micros number rpdo else rpdo

-- ---- the mapping in force

-- the bytes with those of the object at a place, where the mapping has so many
abbrev pub with_place : ℕ → ℕ → Option ℕ → Option ℕ → Option ℕ
with_place count place word bytes = if nat_lt place count then summed bytes (option_and_then mapped_bytes word) else bytes

-- the bytes of the objects from one on, with those before them
unfoldable pub mapped_from : ℕ → ℕ → List (Option ℕ) → Option ℕ → Option ℕ
mapped_from count place [] bytes = bytes
mapped_from count place (word ∷ more) bytes = mapped_from count (place + 1) more (with_place count place word bytes)

abbrev pub mapped_by : Rpdo → Option ℕ → Option ℕ
mapped_by rpdo None = None
mapped_by rpdo (Some count) = if nat_le 1 count && nat_le count 8 then mapped_from count 0 rpdo.objects (Some 0) else None

-- how many bytes are mapped, one to eight objects of whole bytes
abbrev pub mapped_length : Rpdo → Option ℕ
mapped_length rpdo = mapped_by rpdo rpdo.count

-- the entry of an object of a mapping
abbrev pub object_key : ℕ → Key
object_key word = record { index = word / 0x10000 % 0x10000; sub = word / 0x100 % 0x100 }

abbrev pub is_object_of : Key → Option ℕ → Bool
is_object_of key word = option_map_or (λ w. same_key (object_key w) key) word false

-- an object of the mapping may be that of an entry: one that isn't known may be any
abbrev pub may_have_object : Rpdo → Key → Option ℕ → Bool
may_have_object rpdo key None = true
may_have_object rpdo key (Some count) =
    nat_lt 0 count && (is_none (mapped_length rpdo) || list_any (is_object_of key) rpdo.objects)

-- it may exist, and map an entry
abbrev pub may_map : Key → Rpdo → Bool
may_map key rpdo = option_map_or (λ cob_id. nat_lt cob_id no_pdo) rpdo.cob_id true && may_have_object rpdo key rpdo.count

-- ---- identifiers

-- it may be received with this identifier
abbrev pub may_receive : ℕ → Rpdo → Bool
may_receive id rpdo = may_be id rpdo.cob_id

-- What it receives takes effect at once: its transmission type is 254 or 255, and it has no inhibit
-- time, whose meaning is the device's own.
abbrev pub is_immediate : Rpdo → Bool
is_immediate rpdo = is_event_driven rpdo.kind && option_map_or (λ inhibit. inhibit == 0) rpdo.inhibit false

-- ---- the first four

abbrev pub unknown_rpdos : Rpdos
unknown_rpdos = record { first = unknown_rpdo; second = unknown_rpdo; third = unknown_rpdo; fourth = unknown_rpdo }

abbrev pub each_rpdo : (ℕ → Rpdo → Rpdo) → Rpdos → Rpdos
each_rpdo change rpdos = record {
  first = change 0 rpdos.first;
  second = change 1 rpdos.second;
  third = change 2 rpdos.third;
  fourth = change 3 rpdos.fourth;
}

abbrev pub rpdos_of : List Row → ℕ → Bool → Rpdos
rpdos_of rows node certain = record {
  first = rpdo_of rows node certain 0;
  second = rpdo_of rows node certain 1;
  third = rpdo_of rows node certain 2;
  fourth = rpdo_of rows node certain 3;
}

abbrev pub rpdos_requested : Rpdos → Key → ℕ → Rpdos
rpdos_requested rpdos key micros = each_rpdo (rpdo_requested key micros) rpdos

abbrev pub rpdos_transferred : Rpdos → Ended → ℕ → Rpdos
rpdos_transferred rpdos ended micros = each_rpdo (rpdo_transferred ended micros) rpdos

-- one of them may be received with an identifier
abbrev pub any_receives : ℕ → Rpdos → Bool
any_receives id rpdos =
    may_receive id rpdos.first || (may_receive id rpdos.second || (may_receive id rpdos.third || may_receive id rpdos.fourth))

-- another one than those that may be received with an identifier may map an entry
abbrev pub maps_apart : ℕ → Key → Rpdo → Bool
maps_apart id key rpdo = not (may_receive id rpdo) && may_map key rpdo

abbrev pub another_maps : ℕ → Key → Rpdos → Bool
another_maps id key rpdos =
    maps_apart id key rpdos.first || (maps_apart id key rpdos.second || (maps_apart id key rpdos.third || maps_apart id key rpdos.fourth))

-- those that may be received with it take effect at once
abbrev pub takes_at_once : ℕ → Rpdo → Bool
takes_at_once id rpdo = not (may_receive id rpdo) || is_immediate rpdo

abbrev pub all_at_once : ℕ → Rpdos → Bool
all_at_once id rpdos =
    takes_at_once id rpdos.first && (takes_at_once id rpdos.second && (takes_at_once id rpdos.third && takes_at_once id rpdos.fourth))

-- the one that may be received with an identifier, where no other may be
abbrev pub receiver_by : Bool → Bool → Bool → Bool → Rpdos → Option Rpdo
receiver_by first second third fourth rpdos =
    if first && not (second || (third || fourth)) then Some rpdos.first
    else (if second && not (first || (third || fourth)) then Some rpdos.second
    else (if third && not (first || (second || fourth)) then Some rpdos.third
    else (if fourth && not (first || (second || third)) then Some rpdos.fourth else None)))

abbrev pub receiver : ℕ → Rpdos → Option Rpdo
receiver id rpdos =
    receiver_by (may_receive id rpdos.first) (may_receive id rpdos.second) (may_receive id rpdos.third) (may_receive id rpdos.fourth) rpdos

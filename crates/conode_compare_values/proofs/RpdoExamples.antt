-- What RPDOs write to the entries that are held, and when that is known, on both sides of each edge, computed from the definitions.
use Rattle.std.proofs.Common.{◌≡◌, ℕ, true, false, List, [], ◌∷◌, map, Option, Some, None, refl}
use Rattle.std.specs.Prelude.{ℤ, neg_ℤ, pos, slice_index_or}
use Rattle.co_profile.specs.declared.access.Access.TheVariants.{Constant, Ro, Rw, Rwr, Rww, Wo}
use Rattle.co_sheet.specs.Content.{Row}
use Rattle.co_sheet.specs.Limits.{absent}
use Rattle.co_value.specs.declared.data_type.DataType.{DataType}
use Rattle.co_value.specs.declared.data_type.DataType.TheVariants.{Boolean, Unsigned8, Unsigned16}
use Rattle.conode_compare_pdos.specs.declared.rpdo.Rpdo.{Rpdo}
use Rattle.conode_compare_pdos.specs.declared.rpdos.Rpdos.{Rpdos}
use Rattle.conode_compare_pdos.specs.Rpdos.{mapped_from}
use Rattle.conode_compare_values.specs.declared.entries.HeldEntry.{HeldEntry}
use Rattle.conode_compare_values.specs.declared.rpdo_writes.Brought.TheVariants.{Nothing, Unclear, Number}
use Rattle.conode_compare_values.specs.declared.rpdo_writes.RpdoValue.{RpdoValue}
use Rattle.conode_compare_values.specs.declared.rpdo_writes.RpdoWrites.{RpdoWrites}
use Rattle.conode_compare_values.specs.HeldNumbers.{nothing_written, number_at, unmapped_at, with_number}
use Rattle.conode_compare_values.specs.RpdoWrites.{all_fit, brought_from, brought_to, fits_from, forgotten, mapped_to, no_writes, received, settled, settled_from, taken_from, without_values}

abbrev row : ℕ → DataType → Option ℤ → Row
row index data_type high = record {
  key = record { index = index; sub = 0 };
  data_type = data_type;
  access = Rw;
  low = None;
  high = high;
  default = absent;
  mappable = true;
  name = None;
  line = 1;
}

-- two bytes, one byte up to 100, and one byte more
abbrev rows : List Row
rows = row 0x1500 Unsigned8 None ∷ row 0x2000 Unsigned16 None ∷ row 0x2001 Unsigned8 (Some (pos 100)) ∷ row 0x2002 Unsigned8 None ∷ []

abbrev entry : ℕ → ℕ → HeldEntry
entry index width = record { key = record { index = index; sub = 0 }; width = width; mappable = true }

abbrev word : HeldEntry
word = entry 0x2000 2

abbrev byte : HeldEntry
byte = entry 0x2001 1

-- 2002:00, 2000:00 and 2001:00
abbrev rpdo : Rpdo
rpdo = record {
  cob_id = Some 0x205;
  kind = Some 255;
  inhibit = Some 0;
  count = Some 3;
  objects = Some 0x20020008 ∷ Some 0x20000010 ∷ Some 0x20010008 ∷ Some 0x20030008 ∷ None ∷ None ∷ None ∷ None ∷ [];
  changed = None;
}

-- ---- what a frame brings

-- bytes past the mapping don't count
brought : map (λ bytes. mapped_to word rpdo bytes) ((9 ∷ 2 ∷ 1 ∷ 7 ∷ []) ∷ (9 ∷ 2 ∷ 1 ∷ 7 ∷ 8 ∷ []) ∷ []) ≡ Number 0x102 ∷ Number 0x102 ∷ []
unfolding brought_from
brought = refl

-- the fourth object isn't mapped, where there are three
not_mapped : map (λ count. mapped_to (entry 0x2003 1) (record rpdo { count = count }) (9 ∷ 2 ∷ 1 ∷ 7 ∷ 8 ∷ [])) (Some 3 ∷ Some 4 ∷ None ∷ []) ≡ Nothing ∷ Number 8 ∷ Nothing ∷ []
unfolding brought_from
not_mapped = refl

-- mapped with another length than the entry's, twice, or another sub-index
other_length : map (λ length. mapped_to word (record rpdo { objects = Some length ∷ []; count = Some 1 }) (2 ∷ 1 ∷ 7 ∷ [])) (0x20000008 ∷ 0x20000010 ∷ 0x20000018 ∷ []) ≡ Unclear ∷ Number 0x102 ∷ Unclear ∷ []
unfolding brought_from
other_length = refl

twice : mapped_to word (record rpdo { objects = Some 0x20000010 ∷ Some 0x20010008 ∷ Some 0x20000010 ∷ [] }) (2 ∷ 1 ∷ 7 ∷ 2 ∷ 1 ∷ []) ≡ Unclear
unfolding brought_from
twice = refl

other_sub : mapped_to word (record rpdo { objects = Some 0x20000110 ∷ []; count = Some 1 }) (2 ∷ 1 ∷ []) ≡ Nothing
unfolding brought_from
other_sub = refl

-- another RPDO maps the entry too, or it doesn't exist
abbrev no_rpdo : Rpdo
no_rpdo = record rpdo { cob_id = Some 0x80000000 }

abbrev rpdos : Rpdos
rpdos = record { first = rpdo; second = no_rpdo; third = no_rpdo; fourth = no_rpdo }

shared : map (λ other. brought_to word (record rpdos { second = other }) 0x205 rpdo (9 ∷ 2 ∷ 1 ∷ 7 ∷ [])) (no_rpdo ∷ record rpdo { cob_id = Some 0x305 } ∷ []) ≡ Number 0x102 ∷ Unclear ∷ []
unfolding brought_from mapped_from
shared = refl

-- ---- which frames count

-- up to the limit of an object, and past it; the one past the mapping doesn't count
limited : map (λ bytes. all_fit rows rpdo bytes) ((9 ∷ 2 ∷ 1 ∷ 100 ∷ []) ∷ (9 ∷ 2 ∷ 1 ∷ 101 ∷ []) ∷ (9 ∷ 2 ∷ 1 ∷ []) ∷ []) ≡ true ∷ false ∷ false ∷ []
unfolding fits_from
limited = refl

-- a BOOLEAN has 0 and 1 alone, the byte of another type any number
bits : map (λ data_type. map (λ byte. all_fit (row 0x2000 data_type None ∷ []) (record rpdo { count = Some 1; objects = Some 0x20000008 ∷ [] }) (byte ∷ [])) (0 ∷ 1 ∷ 2 ∷ 255 ∷ [])) (Boolean ∷ Unsigned8 ∷ [])
    ≡ (true ∷ true ∷ false ∷ false ∷ []) ∷ (true ∷ true ∷ true ∷ true ∷ []) ∷ []
unfolding fits_from
bits = refl

-- down to a limit, and past it; a limit that can't be meant counts too
lowest : map (λ first. all_fit (record (row 0x2000 Unsigned8 None) { low = Some (pos 10) } ∷ []) (record rpdo { count = Some 1; objects = Some 0x20000008 ∷ [] }) (first ∷ [])) (10 ∷ 9 ∷ []) ≡ true ∷ false ∷ []
unfolding fits_from
lowest = refl

below_zero : all_fit (row 0x2000 Unsigned8 (Some (neg_ℤ (pos 1))) ∷ []) (record rpdo { count = Some 1; objects = Some 0x20000008 ∷ [] }) (0 ∷ []) ≡ false
unfolding fits_from
below_zero = refl

-- an object that isn't in the sheet, a dummy, one that isn't known, one below 2000h
objects : map (λ object. all_fit rows (record rpdo { count = Some 2; objects = Some 0x20020008 ∷ object ∷ [] }) (9 ∷ 2 ∷ [])) (Some 0x20010008 ∷ Some 0x20030008 ∷ Some 0x00050008 ∷ None ∷ Some 0x15000008 ∷ []) ≡ true ∷ false ∷ false ∷ false ∷ false ∷ []
unfolding fits_from
objects = refl

-- another length than the entry's
lengths : map (λ object. all_fit rows (record rpdo { count = Some 1; objects = Some object ∷ [] }) (9 ∷ 2 ∷ 1 ∷ [])) (0x20000008 ∷ 0x20000010 ∷ 0x20000018 ∷ []) ≡ false ∷ true ∷ false ∷ []
unfolding fits_from
lengths = refl

-- who may write it; whether a PDO may have it
accesses : map (λ access. all_fit (record (row 0x2000 Unsigned16 None) { access = access } ∷ []) (record rpdo { count = Some 1; objects = Some 0x20000010 ∷ [] }) (9 ∷ 2 ∷ [])) (Rw ∷ Rww ∷ Wo ∷ Rwr ∷ Ro ∷ Constant ∷ [])
    ≡ true ∷ true ∷ true ∷ false ∷ false ∷ false ∷ []
unfolding fits_from
accesses = refl

not_mappable : all_fit (record (row 0x2000 Unsigned16 None) { mappable = false } ∷ []) (record rpdo { count = Some 1; objects = Some 0x20000010 ∷ [] }) (9 ∷ 2 ∷ []) ≡ false
unfolding fits_from
not_mappable = refl

-- ---- what is known

abbrev entries : List HeldEntry
entries = byte ∷ word ∷ []

abbrev at : RpdoWrites → List (Option ℕ)
at writes = number_at writes.written (Some 0) ∷ number_at writes.written (Some 1) ∷ []

abbrev values : RpdoWrites → List (Option RpdoValue)
values writes = slice_index_or writes.values 0 None ∷ slice_index_or writes.values 1 None ∷ []

abbrev value : ℕ → ℕ → Option RpdoValue
value number since = Some (record { number = number; since = since })

-- 0102h is known of the second, 5 of the first
abbrev both : RpdoWrites
both = record no_writes { written = with_number (with_number nothing_written (Some 1) (Some 0x102)) (Some 0) (Some 5) }

-- the first has another number, the second the same
abbrev after : RpdoWrites
after = received entries both rpdos 0x205 rpdo (9 ∷ 2 ∷ 1 ∷ 7 ∷ []) 1000

other_number : at after ≡ None ∷ Some 0x102 ∷ []
unfolding nothing_written no_writes brought_from mapped_from taken_from
other_number = refl

brought_value : values after ≡ value 7 1000 ∷ None ∷ []
unfolding nothing_written no_writes brought_from mapped_from taken_from
brought_value = refl

-- the same again, and another one
again : values (received entries after rpdos 0x205 rpdo (9 ∷ 2 ∷ 1 ∷ 7 ∷ []) 2000) ≡ value 7 1000 ∷ None ∷ []
unfolding nothing_written no_writes brought_from mapped_from taken_from
again = refl

another : values (received entries after rpdos 0x205 rpdo (9 ∷ 2 ∷ 1 ∷ 8 ∷ []) 2000) ≡ value 8 2000 ∷ None ∷ []
unfolding nothing_written no_writes brought_from mapped_from taken_from
another = refl

-- where it is mapped twice nothing is known
unclear : (values (received entries after rpdos 0x205 (record rpdo { objects = Some 0x20010008 ∷ Some 0x20000010 ∷ Some 0x20010008 ∷ [] }) (7 ∷ 2 ∷ 1 ∷ 7 ∷ []) 2000) ≡ None ∷ None ∷ [])
    × (at (received entries both rpdos 0x205 (record rpdo { objects = Some 0x20010008 ∷ Some 0x20000010 ∷ Some 0x20010008 ∷ [] }) (7 ∷ 2 ∷ 1 ∷ 7 ∷ []) 2000) ≡ None ∷ Some 0x102 ∷ [])
unfolding nothing_written no_writes brought_from mapped_from taken_from
unclear = (refl, refl)

-- a request comes: 10 ms after the frame the heartbeat may show what was before it, later it doesn't; and where there was none
settles : map (λ beat. at (settled entries after 10 beat)) (None ∷ Some 900 ∷ Some 11000 ∷ Some 11001 ∷ [])
    ≡ (None ∷ Some 0x102 ∷ []) ∷ (None ∷ Some 0x102 ∷ []) ∷ (None ∷ Some 0x102 ∷ []) ∷ (Some 7 ∷ Some 0x102 ∷ []) ∷ []
unfolding nothing_written no_writes brought_from mapped_from taken_from settled_from
settles = refl

settled_once : (values (settled entries after 10 (Some 11001)) ≡ None ∷ None ∷ []) × (values (settled entries after 10 (Some 11000)) ≡ value 7 1000 ∷ None ∷ [])
unfolding nothing_written no_writes brought_from mapped_from taken_from settled_from
settled_once = (refl, refl)

forgets : (values (forgotten entries after byte.key) ≡ None ∷ None ∷ []) × (values (forgotten entries after word.key) ≡ value 7 1000 ∷ None ∷ []) × (values (without_values after) ≡ None ∷ None ∷ [])
unfolding nothing_written no_writes brought_from mapped_from taken_from
forgets = (refl, refl, refl)

-- a download whose entry a PDO may have, and one that it may not
in_doubt : (number_at (unmapped_at entries both.written byte.key) (Some 0) ≡ None) × (number_at (unmapped_at entries both.written byte.key) (Some 1) ≡ Some 0x102)
    × (number_at (unmapped_at (record byte { mappable = false } ∷ []) both.written byte.key) (Some 0) ≡ Some 5)
unfolding nothing_written no_writes
in_doubt = (refl, refl, refl)

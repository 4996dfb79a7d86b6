-- What RPDOs write to the entries that are held (CiA 301, 7.2.2.2 and 7.5.2.36).
use Rattle.std.specs.Prelude.{ℕ, ◌+◌, ◌/◌, ◌%◌, ◌==◌, nat_lt, nat_le, Bool, true, false, not, ◌&&◌, ◌||◌, if◌then◌else◌, List, [], ◌∷◌, length, take, drop, replicate, slice_index_or, slice_set, Option, Some, None}
use Rattle.std.specs.Option.{option_map_or}
use Rattle.co_profile.specs.declared.access.Access.{Access}
use Rattle.co_profile.specs.declared.access.Access.TheVariants.{Rw, Rww, Wo}
use Rattle.co_sheet.specs.Content.{Row}
use Rattle.co_value.specs.declared.key.Key.{Key}
use Rattle.co_value.specs.Numbers.{unsigned_of}
use Rattle.co_sheet_changes.specs.Names.{row_at}
use Rattle.conode_compare_pdos.specs.declared.rpdo.Rpdo.{Rpdo}
use Rattle.conode_compare_pdos.specs.declared.rpdos.Rpdos.{Rpdos}
use Rattle.conode_compare_pdos.specs.Rpdos.{another_maps, is_object_of, object_key}
use Rattle.conode_compare_transfers.specs.Times.{is_past}
use Rattle.conode_compare_values.specs.SheetValues.{is_boolean, is_within}
use Rattle.conode_compare_values.specs.declared.entries.HeldEntry.{HeldEntry}
use Rattle.conode_compare_values.specs.declared.rpdo_writes.Brought.{Brought}
use Rattle.conode_compare_values.specs.declared.rpdo_writes.Brought.TheVariants.{Nothing, Unclear, Number}
use Rattle.conode_compare_values.specs.declared.rpdo_writes.RpdoValue.{RpdoValue}
use Rattle.conode_compare_values.specs.declared.rpdo_writes.RpdoWrites.{RpdoWrites}
use Rattle.conode_compare_values.specs.HeldNumbers.{nothing_written, number_at, with_number}
use Rattle.conode_compare_values.specs.HeldWords.{place_of}

-- ---- what a frame brings an entry

-- how many bytes an object of a mapping has
abbrev pub object_bytes : Option ℕ → ℕ
object_bytes word = option_map_or (λ w. w % 0x100 / 8) word 0

-- the first bytes, and those after them, as many as there are
abbrev pub first_bytes : ℕ → List ℕ → List ℕ
first_bytes count bytes = if nat_le count (length bytes) then take count bytes else bytes

abbrev pub later_bytes : ℕ → List ℕ → List ℕ
later_bytes count bytes = if nat_le count (length bytes) then drop count bytes else []

-- who may write it may do so by an RPDO, but to what is for TPDOs
abbrev pub is_received : Access → Bool
is_received Rw = true
is_received Rww = true
is_received Wo = true
is_received other = false

-- the byte of a BOOLEAN is 0 or 1: of another one a device may refuse the frame, or take a bit
abbrev pub is_bit : List ℕ → Bool
is_bit (byte ∷ []) = nat_le byte 1
is_bit other = false

abbrev pub is_value : Row → List ℕ → Bool
is_value row bytes = not (is_boolean row.data_type) || is_bit bytes

-- The sheet has the entry of an object with its length, an RPDO may have it, and the number is one of
-- its type and within its limits: a device may refuse a frame with a number that isn't, and map nothing
-- of a mapping with another object.
abbrev pub takes : Row → List ℕ → Bool
takes row bytes =
    (row.mappable && (is_received row.access && nat_le 0x2000 row.key.index)) && (is_value row bytes && is_within row bytes)

abbrev pub fits : List Row → ℕ → List ℕ → Bool
fits rows word bytes = option_map_or (λ row. takes row bytes) (row_at rows (object_key word)) false

-- an object, if it is one of those that are mapped: it has the first of these bytes
abbrev pub fits_at : List Row → Bool → Option ℕ → List ℕ → Bool
fits_at rows is_mapped word bytes =
    not is_mapped || option_map_or (λ w. fits rows w (first_bytes (object_bytes word) bytes)) word false

unfoldable pub fits_from : List Row → ℕ → ℕ → List (Option ℕ) → List ℕ → Bool
fits_from rows count place [] bytes = true
fits_from rows count place (word ∷ more) bytes =
    fits_at rows (nat_lt place count) word bytes && fits_from rows count (place + 1) more (later_bytes (object_bytes word) bytes)

abbrev pub count_of : Rpdo → ℕ
count_of rpdo = option_map_or (λ count. count) rpdo.count 0

-- all objects of a mapping, with the bytes of a frame
abbrev pub all_fit : List Row → Rpdo → List ℕ → Bool
all_fit rows rpdo bytes = fits_from rows (count_of rpdo) 0 rpdo.objects bytes

-- the bytes of an object are as many as the entry's type has
abbrev pub brought_by : HeldEntry → List ℕ → Brought
brought_by entry bytes = if (length bytes == entry.width) && nat_le entry.width 8 then Number (unsigned_of bytes) else Unclear

-- where an entry is mapped twice, it is unclear which object is its last
abbrev pub twice : Brought → Brought → Brought
twice Nothing brought = brought
twice Unclear brought = Unclear
twice (Number number) brought = Unclear

abbrev pub with_brought : HeldEntry → Bool → Option ℕ → List ℕ → Brought → Brought
with_brought entry is_mapped word bytes brought =
    if is_mapped && is_object_of entry.key word then twice brought (brought_by entry (first_bytes (object_bytes word) bytes)) else brought

unfoldable pub brought_from : HeldEntry → ℕ → ℕ → List (Option ℕ) → List ℕ → Brought → Brought
brought_from entry count place [] bytes brought = brought
brought_from entry count place (word ∷ more) bytes brought =
    brought_from entry count (place + 1) more (later_bytes (object_bytes word) bytes) (with_brought entry (nat_lt place count) word bytes brought)

abbrev pub mapped_to : HeldEntry → Rpdo → List ℕ → Brought
mapped_to entry rpdo bytes = brought_from entry (count_of rpdo) 0 rpdo.objects bytes Nothing

-- where another RPDO may map the entry too, a device may take their frames in another order
abbrev pub alone : Bool → Brought → Brought
alone shared Nothing = Nothing
alone shared Unclear = Unclear
alone shared (Number number) = if shared then Unclear else Number number

-- of the RPDO with an identifier
abbrev pub brought_to : HeldEntry → Rpdos → ℕ → Rpdo → List ℕ → Brought
brought_to entry rpdos id rpdo bytes = alone (another_maps id entry.key rpdos) (mapped_to entry rpdo bytes)

-- ---- what is known of the entries

abbrev pub no_values : List (Option RpdoValue)
no_values = replicate 64 None

unfoldable pub no_writes : RpdoWrites
no_writes = record { written = nothing_written; values = no_values }

abbrev pub without_values : RpdoWrites → RpdoWrites
without_values writes = record writes { values = no_values }

abbrev pub with_value : RpdoWrites → ℕ → Option RpdoValue → RpdoWrites
with_value writes place value = record writes { values = slice_set writes.values place value }

abbrev pub forgotten_at : RpdoWrites → Option ℕ → RpdoWrites
forgotten_at writes None = writes
forgotten_at writes (Some place) = with_value writes place None

-- nothing is known of what the RPDOs write to an entry
abbrev pub forgotten : List HeldEntry → RpdoWrites → Key → RpdoWrites
forgotten entries writes key = forgotten_at writes (place_of entries key)

-- ---- a frame of an RPDO

abbrev pub is_same : Option ℕ → ℕ → Bool
is_same (Some known) number = known == number
is_same None number = false

-- the same number again: it holds since its first frame
abbrev pub value_after : Option RpdoValue → ℕ → ℕ → RpdoValue
value_after None number micros = record { number = number; since = micros }
value_after (Some value) number micros = if value.number == number then value else record { number = number; since = micros }

abbrev pub without_number : RpdoWrites → ℕ → RpdoWrites
without_number writes place = record writes { written = with_number writes.written (Some place) None }

abbrev pub numbered_at : RpdoWrites → ℕ → ℕ → ℕ → RpdoWrites
numbered_at writes place number micros =
    if is_same (number_at writes.written (Some place)) number then writes
    else with_value (without_number writes place) place (Some (value_after (slice_index_or writes.values place None) number micros))

abbrev pub taken_at : RpdoWrites → ℕ → Brought → ℕ → RpdoWrites
taken_at writes place Nothing micros = writes
taken_at writes place Unclear micros = with_value (without_number writes place) place None
taken_at writes place (Number number) micros = numbered_at writes place number micros

-- the entries from a place on
unfoldable pub taken_from : Rpdos → ℕ → Rpdo → List ℕ → ℕ → ℕ → List HeldEntry → RpdoWrites → RpdoWrites
taken_from rpdos id rpdo bytes micros place [] writes = writes
taken_from rpdos id rpdo bytes micros place (entry ∷ more) writes =
    taken_from rpdos id rpdo bytes micros (place + 1) more (taken_at writes place (brought_to entry rpdos id rpdo bytes) micros)

abbrev pub received : List HeldEntry → RpdoWrites → Rpdos → ℕ → Rpdo → List ℕ → ℕ → RpdoWrites
received entries writes rpdos id rpdo bytes micros = taken_from rpdos id rpdo bytes micros 0 entries writes

-- ---- a request

-- A value is known once a heartbeat, later than the tolerance after its frame, shows the device
-- operational: from operational it may fall back by itself (1029h), and then takes no RPDO.
abbrev pub is_shown : ℕ → Option ℕ → RpdoValue → Bool
is_shown tolerance operational value = option_map_or (λ beat. is_past value.since tolerance beat) operational false

abbrev pub settled_at : ℕ → Option ℕ → RpdoWrites → ℕ → Option RpdoValue → RpdoWrites
settled_at tolerance operational writes place None = writes
settled_at tolerance operational writes place (Some value) =
    if is_shown tolerance operational value
    then with_value (record writes { written = with_number writes.written (Some place) (Some value.number) }) place None else writes

abbrev pub settled_place : ℕ → Option ℕ → RpdoWrites → ℕ → RpdoWrites
settled_place tolerance operational writes place = settled_at tolerance operational writes place (slice_index_or writes.values place None)

unfoldable pub settled_from : ℕ → Option ℕ → ℕ → List HeldEntry → RpdoWrites → RpdoWrites
settled_from tolerance operational place [] writes = writes
settled_from tolerance operational place (entry ∷ more) writes =
    settled_from tolerance operational (place + 1) more (settled_place tolerance operational writes place)

-- what is known as a transfer is requested
abbrev pub settled : List HeldEntry → RpdoWrites → ℕ → Option ℕ → RpdoWrites
settled entries writes tolerance operational = settled_from tolerance operational 0 entries writes

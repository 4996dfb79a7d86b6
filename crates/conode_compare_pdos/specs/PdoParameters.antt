-- The parameters of a TPDO (CiA 301, 7.5.2.37 and 7.5.2.38), as far as the data sheet and a
-- recording show them.
use Rattle.std.specs.Prelude.{ℕ, ◌+◌, ◌*◌, ◌/◌, ◌%◌, ◌==◌, nat_lt, nat_le, ◌&&◌, if◌then◌else◌, List, [], ◌∷◌, Option, Some, None, option_and_then}
use Rattle.co_sheet.specs.Content.{Row}
use Rattle.co_value.specs.declared.key.Key.{Key}
use Rattle.conode_compare_pdos.specs.declared.parameters.Parameters.{Parameters}
use Rattle.conode_compare_pdos.specs.SheetNumbers.{first_word, preset_at, time_at, tiny}

abbrev pub nothing_known : Parameters
nothing_known = record { id = None; kind = None; inhibit = None; timer = None; length = None }

-- 1800h and 1A00h, of the first TPDO
abbrev pub communication : ℕ → ℕ
communication number = 0x1800 + number

abbrev pub mapping : ℕ → ℕ
mapping number = 0x1A00 + number

abbrev pub key_of : ℕ → ℕ → Key
key_of index sub = record { index = index; sub = sub }

-- ---- a data sheet

-- the identifier of 11 bits in a COB-ID: bit 31, the PDO doesn't exist, and bit 29, an identifier
-- of 29 bits, aren't set
abbrev pub identifier_of : ℕ → Option ℕ
identifier_of number = if nat_lt number 0x80000000 && (number / 0x20000000 % 2 == 0) then Some (number % 0x800) else None

-- the bytes of a mapped object by its length in bits; finer mappings aren't judged
abbrev pub mapped_bytes : ℕ → Option ℕ
mapped_bytes word = if (word % 256) % 8 == 0 then Some ((word % 256) / 8) else None

-- the bytes of both; a PDO has at most eight
abbrev pub summed : Option ℕ → Option ℕ → Option ℕ
summed (Some first) (Some second) = if nat_le (first + second) 8 then Some (first + second) else None
summed first second = None

-- the bytes with those of one object more, where the mapping has so many
abbrev pub with_object : List Row → ℕ → ℕ → ℕ → ℕ → Option ℕ → Option ℕ
with_object rows node index count sub bytes =
    if nat_le sub count then summed bytes (option_and_then mapped_bytes (preset_at rows node (key_of index sub))) else bytes

-- the bytes of the first objects of a mapping, at most eight; that of a device that multiplexes
-- PDOs has more
unfoldable pub counted_bytes : List Row → ℕ → ℕ → ℕ → Option ℕ
counted_bytes rows node index count =
    with_object rows node index count 8 (with_object rows node index count 7 (with_object rows node index count 6
    (with_object rows node index count 5 (with_object rows node index count 4 (with_object rows node index count 3
    (with_object rows node index count 2 (with_object rows node index count 1 (Some 0))))))))

abbrev pub length_by : List Row → ℕ → ℕ → Option ℕ → Option ℕ
length_by rows node index None = None
length_by rows node index (Some count) =
    if nat_le 1 count && nat_le count 8 then counted_bytes rows node index count else None

unfoldable pub length_of : List Row → ℕ → ℕ → Option ℕ
length_of rows node index = length_by rows node index (preset_at rows node (key_of index 0))

-- what a data sheet has, where nothing was stored
unfoldable pub parameters_of : List Row → ℕ → ℕ → Parameters
parameters_of rows node number = record {
  id = option_and_then identifier_of (preset_at rows node (key_of (communication number) 1));
  kind = tiny (preset_at rows node (key_of (communication number) 2));
  inhibit = time_at rows node (key_of (communication number) 3);
  timer = time_at rows node (key_of (communication number) 5);
  length = length_of rows node (mapping number);
}

-- ---- a recording

-- between a request to write a sub-index and its answer both values may hold
abbrev pub asked_to_write : Parameters → ℕ → Parameters
asked_to_write parameters sub =
    if sub == 1 then record parameters { id = None }
    else (if sub == 2 then record parameters { kind = None }
    else (if sub == 3 then record parameters { inhibit = None }
    else (if sub == 5 then record parameters { timer = None } else parameters)))

-- a COB-ID by its four bytes, and a number of one byte
abbrev pub shown_identifier : List ℕ → Option ℕ
shown_identifier (a ∷ b ∷ c ∷ d ∷ []) = identifier_of (a + b * 0x100 + c * 0x10000 + d * 0x1000000)
shown_identifier other = None

abbrev pub first_byte : List ℕ → Option ℕ
first_byte [] = None
first_byte (byte ∷ rest) = Some byte

-- an expedited transfer of a sub-index that is done shows what it has
abbrev pub shown : Parameters → ℕ → List ℕ → Parameters
shown parameters sub bytes =
    if sub == 1 then record parameters { id = shown_identifier bytes }
    else (if sub == 2 then record parameters { kind = first_byte bytes }
    else (if sub == 3 then record parameters { inhibit = first_word bytes }
    else (if sub == 5 then record parameters { timer = first_word bytes } else parameters)))

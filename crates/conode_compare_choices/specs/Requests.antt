-- The initiate request that a refusal answers, and the code by which our device would refuse it (CiA
-- 301, 7.2.4.3).
use Rattle.std.specs.Prelude.{ℕ, ◌-◌, ◌*◌, ◌/◌, ◌%◌, ◌==◌, nat_le, nat_lt, Bool, false, not, ◌&&◌, ◌||◌, if◌then◌else◌, List, [], ◌∷◌, take, Option, Some, None, is_some, option_and_then}
use Rattle.std.specs.Option.{option_map_or, option_or}
use Rattle.co_frame_aborts.specs.AbortCodes.{above_high_limit, below_low_limit, not_mappable, not_storable, object_missing, sub_index_missing, too_long, too_short}
use Rattle.co_frame.specs.FrameContent.{FrameContent}
use Rattle.co_profile.specs.Indices.{restore_parameters, store_parameters}
use Rattle.co_sheet.specs.Content.{Row}
use Rattle.co_value.specs.declared.key.Key.{Key}
use Rattle.co_value.specs.Numbers.{unsigned_of}
use Rattle.co_value.specs.Types.{width_of}
use Rattle.co_sheet_changes.specs.Names.{row_at}
use Rattle.conode_compare_transfers.specs.Breaches.{byte_at}
use Rattle.conode_compare_values.specs.declared.mismatch.Mismatch.{Mismatch}
use Rattle.conode_compare_values.specs.declared.mismatch.Mismatch.TheVariants.{AboveLimit, BelowLimit}
use Rattle.conode_compare_values.specs.SheetValues.{beyond_mismatch}
use Rattle.conode_compare_choices.specs.declared.request.Request.{Request}

abbrev pub nothing_requested : Request
nothing_requested = record { first = 0; rest = 0 ∷ 0 ∷ 0 ∷ 0 ∷ [] }

abbrev pub request_of : FrameContent → Request
request_of frame = record {
  first = byte_at frame 0;
  rest = byte_at frame 4 ∷ byte_at frame 5 ∷ byte_at frame 6 ∷ byte_at frame 7 ∷ [];
}

-- ---- how many bytes are to be written

-- initiate of a download with its bytes: ccs = 1, e = 1
abbrev pub is_expedited : Request → Bool
is_expedited request = (request.first / 32 == 1) && (request.first / 2 % 2 == 1)

-- with s = 1: of an expedited download four bytes less n, else the number in the last four bytes
abbrev pub download_size : Request → Option ℕ
download_size request =
    if request.first % 2 == 0 then None
    else (if request.first / 2 % 2 == 1 then Some (4 - request.first / 4 % 4) else Some (unsigned_of request.rest))

-- of a block download, with s = 1
abbrev pub block_size : Request → Option ℕ
block_size request = if request.first / 2 % 2 == 1 then Some (unsigned_of request.rest) else None

-- by the client command specifier
abbrev pub indicated_size : Request → Option ℕ
indicated_size request =
    if request.first / 32 == 1 then download_size request
    else (if request.first / 32 == 6 then block_size request else None)

-- ---- the code for it

abbrev pub length_code : ℕ → ℕ → Option ℕ
length_code width size =
    if nat_lt width size then Some too_long else (if nat_lt size width then Some too_short else None)

abbrev pub size_code : Request → ℕ → Option ℕ
size_code request width = option_and_then (length_code width) (indicated_size request)

-- ---- limits

abbrev pub limit_code : Option Mismatch → Option ℕ
limit_code (Some (AboveLimit key)) = Some above_high_limit
limit_code (Some (BelowLimit key)) = Some below_low_limit
limit_code other = None

-- a number beyond limits that can be meant
abbrev pub value_code : Request → Row → ℕ → Option ℕ
value_code request row width =
    if is_expedited request && nat_le width 4 then limit_code (beyond_mismatch row (take width request.rest)) else None

-- ---- the rule of its own that an entry has

-- of an entry that the data sheet doesn't have; each object has sub-index 0
abbrev pub missing_code : List Row → Key → ℕ
missing_code rows key = if is_some (row_at rows (record { index = key.index; sub = 0 })) then sub_index_missing else object_missing

-- 1600h to 17FFh and 1A00h to 1BFFh, the mappings of PDOs
abbrev pub is_mapping : ℕ → Bool
is_mapping index = (nat_le 0x1600 index && nat_lt index 0x1800) || (nat_le 0x1A00 index && nat_lt index 0x1C00)

-- a number of so many bits
abbrev pub has_width : Row → ℕ → Bool
has_width row bits = option_map_or (λ width. 8 * width == bits) (width_of row.data_type) false

abbrev pub mapped_row_code : List Row → Key → ℕ → Option Row → Option ℕ
mapped_row_code rows key bits None = Some (missing_code rows key)
mapped_row_code rows key bits (Some row) = if row.mappable && has_width row bits then None else Some not_mappable

-- an entry is mapped with so many bits
abbrev pub mapped_code : List Row → Key → ℕ → Option ℕ
mapped_code rows key bits = mapped_row_code rows key bits (row_at rows key)

-- a word of a mapping: bits 31 to 16 are the index, 15 to 8 the sub-index, 7 to 0 the length in bits.
-- Below 1000h there are dummy entries, and 0 maps nothing.
abbrev pub word_code : List Row → ℕ → Option ℕ
word_code rows word =
    if nat_lt (word / 0x10000) 0x1000 || nat_le 0x10000 (word / 0x10000) then None
    else mapped_code rows (record { index = word / 0x10000; sub = word / 0x100 % 0x100 }) (word % 0x100)

-- 1010h and 1011h: our device stores nothing
abbrev pub own_code : Request → List Row → Key → Option ℕ
own_code request rows key =
    if (key.sub == 0) || not (is_expedited request) then None
    else (if (key.index == store_parameters) || (key.index == restore_parameters) then Some not_storable
    else (if is_mapping key.index then word_code rows (unsigned_of request.rest) else None))

-- ---- the first of them

abbrev pub number_code : Request → List Row → Row → ℕ → Option ℕ
number_code request rows row width =
    option_or (option_or (size_code request width) (value_code request row width)) (own_code request rows row.key)

-- of an entry that can be written
unfoldable pub request_code : Request → List Row → Row → Option ℕ
request_code request rows row = option_and_then (number_code request rows row) (width_of row.data_type)

-- Values of the communication profile that don't work together (CiA 301, TPDO, heartbeat consumer).
use Rattle.std.specs.Prelude.{
  ℕ,
  ◌+◌,
  ◌/◌,
  ◌%◌,
  ◌^◌,
  Bool,
  false,
  not,
  ◌&&◌,
  ◌||◌,
  ◌==◌,
  nat_le,
  nat_lt,
  if◌then◌else◌,
  List,
  [],
  ◌∷◌,
  find,
  ℤ,
  pos,
  Option,
  Some,
  None,
  option_and_then,
}
use Rattle.std.specs.List.{list_any}
use Rattle.std.specs.Option.{option_map_or}
use Rattle.std.specs.Result.{result_ok}
use Rattle.co_value.specs.declared.data_type.DataType.TheVariants.{Unsigned32}
use Rattle.co_sheet_text.specs.declared.section_kind.SectionKind.{SectionKind}
use Rattle.co_sheet_text.specs.declared.section_kind.SectionKind.TheVariants.{SubIndex}
use Rattle.co_sheet_text.specs.Sections.{Property, TextSection}
use Rattle.co_sheet_text.specs.Properties.{property_number}
use Rattle.co_sheet.specs.Entries.{Entry, sub_indices}
use Rattle.co_sheet.specs.Limits.{Default, node_id, number, numeric_default, value_property}
use Rattle.co_sheet_text_warnings.specs.Ranges.{is_within}

-- what the entry at a sub-index of an object begins with, and its number
abbrev pub value_at_sub : ℕ → List Entry → Option Property
value_at_sub sub entries = option_and_then value_property (find (λ e. e.key.sub == sub) entries)

abbrev pub number_at_sub : ℕ → List Entry → Option ℕ
number_at_sub sub entries = option_and_then property_number (value_at_sub sub entries)

-- a property where its number passes a test
abbrev pub line_if : (ℕ → Bool) → Property → List ℕ
line_if test k = if option_map_or test (property_number k) false then k.line ∷ [] else []

-- a number of 32 bits
abbrev pub word_with : ℤ → Option ℕ
word_with (pos n) = if nat_lt n (2 ^ 32) then Some n else None
word_with other = None

-- the word that an entry begins with; a sum with `$NODEID` is one for a node-ID alone
abbrev pub word_of_default : Option ℕ → Default → Option ℕ
word_of_default given (number n) = word_with n
word_of_default (Some node) (node_id n) = word_with (pos (n + node))
word_of_default given other = None

abbrev pub word_of : Option ℕ → Property → Option ℕ
word_of given k =
    option_and_then (word_of_default given) (result_ok (numeric_default Unsigned32 k.value))

-- a word of a COB-ID with bit 31, by which the TPDO isn't used; a sum with `$NODEID` has it by its number
abbrev pub is_disabled_word : ℕ → Bool
is_disabled_word word = nat_le (2 ^ 31) word

abbrev pub is_disabled : List Entry → Bool
is_disabled entries =
    option_map_or is_disabled_word (option_and_then (word_of (Some 0)) (value_at_sub 1 entries)) false

-- transmission types 0 to 240 and 252 wait for a SYNC, and an inhibit time isn't used then; of a TPDO
-- that isn't used nothing is said
abbrev pub is_synchronous : ℕ → Bool
is_synchronous transmission = nat_le transmission 240 || (transmission == 252)

abbrev pub is_some_time : ℕ → Bool
is_some_time time = nat_lt 0 time

abbrev pub inhibit_time_of : List Entry → Entry → List ℕ
inhibit_time_of entries e =
    if (e.key.sub == 3) && is_within 0x1800 0x19FF e.key.index && not (is_disabled entries)
    && option_map_or is_synchronous (number_at_sub 2 entries) false
    then option_map_or (line_if is_some_time) (value_property e) []
    else []

abbrev pub inhibit_time : List TextSection → TextSection → SectionKind → List ℕ
inhibit_time sections s (SubIndex key) =
    inhibit_time_of (sub_indices sections key.index) (record { key = key; section = s })
inhibit_time sections s kind = []

-- a word of 1016h: bits 23 to 16 have a node-ID and bits 15 to 0 a time; without a time, or with a
-- node-ID that is none of 1 to 127, it isn't used (CiA 301, consumer heartbeat time)
abbrev pub node_of_word : ℕ → ℕ
node_of_word word = word / 65536 % 256

abbrev pub is_used_word : ℕ → Bool
is_used_word word = not (word % 65536 == 0) && is_within 1 127 (node_of_word word)

abbrev pub consumes : ℕ → ℕ → Bool
consumes node word = is_used_word word && (node_of_word word == node)

-- a property where its word passes a test
abbrev pub line_of_word : Option ℕ → (ℕ → Bool) → Property → List ℕ
line_of_word given test k = if option_map_or test (word_of given k) false then k.line ∷ [] else []

-- the heartbeat of the device's own node
abbrev pub own_heartbeat_of : ℕ → Entry → List ℕ
own_heartbeat_of node e =
    if (e.key.index == 0x1016) && nat_lt 0 e.key.sub
    then option_map_or (line_of_word (Some node) (consumes node)) (value_property e) []
    else []

abbrev pub own_heartbeat : Option ℕ → TextSection → SectionKind → List ℕ
own_heartbeat (Some node) s (SubIndex key) =
    own_heartbeat_of node (record { key = key; section = s })
own_heartbeat given s kind = []

-- an entry with a smaller sub-index consumes the heartbeat of the same node
abbrev pub consumes_before : Option ℕ → ℕ → ℕ → Entry → Bool
consumes_before given sub word e =
    nat_lt 0 e.key.sub && nat_lt e.key.sub sub
    && option_map_or (consumes (node_of_word word))
    (option_and_then (word_of given) (value_property e)) false

abbrev pub is_consumed_twice : Option ℕ → List Entry → ℕ → ℕ → Bool
is_consumed_twice given entries sub word =
    is_used_word word && list_any (consumes_before given sub word) entries

abbrev pub heartbeat_twice_of : Option ℕ → List Entry → Entry → List ℕ
heartbeat_twice_of given entries e =
    if e.key.index == 0x1016
    then option_map_or (line_of_word given (is_consumed_twice given entries e.key.sub))
    (value_property e) []
    else []

abbrev pub heartbeat_twice : Option ℕ → List TextSection → TextSection → SectionKind → List ℕ
heartbeat_twice given sections s (SubIndex key) =
    heartbeat_twice_of given (sub_indices sections key.index) (record { key = key; section = s })
heartbeat_twice given sections s kind = []

-- What comes twice where it should come once: an identifier (CiA 301, COB-IDs), a name, and the
-- node-ID of a heartbeat (CiA 301, heartbeat consumer).
use Rattle.std.specs.Prelude.{
  ℕ,
  ◌+◌,
  ◌%◌,
  ◌^◌,
  ◌==◌,
  nat_le,
  nat_lt,
  nat_eq,
  Bool,
  false,
  ◌&&◌,
  ◌||◌,
  if◌then◌else◌,
  List,
  [],
  ◌∷◌,
  ◌++◌,
  filter_map,
  codes,
  Option,
  Some,
  None,
  option_and_then,
  option_map,
  ℤ,
  pos,
}
use Rattle.std.specs.List.{list_any}
use Rattle.std.specs.Option.{option_or}
use Rattle.std.specs.Result.{result_ok}
use Rattle.std.specs.Str.{bytes_eq}
use Rattle.co_value.specs.declared.data_type.DataType.TheVariants.{Unsigned32}
use Rattle.co_sheet_text.specs.declared.section_kind.SectionKind.{SectionKind}
use Rattle.co_sheet_text.specs.declared.section_kind.SectionKind.TheVariants.{Object, SubIndex}
use Rattle.co_sheet_text.specs.Sections.{Property, TextSection, property_at}
use Rattle.co_sheet.specs.Limits.{Default, number, node_id, numeric_default}
use Rattle.co_sheet_warnings.specs.declared.repeats.CobIdUse.{CobIdUse}
use Rattle.co_sheet_warnings.specs.declared.repeats.CobIdUse.TheVariants.{Sync, Time, Other}
use Rattle.co_sheet_warnings.specs.declared.repeats.ComparedNumber.{ComparedNumber}
use Rattle.co_sheet_text_warnings.specs.declared.warning.WarningKind.{WarningKind}
use Rattle.co_sheet_text_warnings.specs.declared.warning.WarningKind.TheVariants.{SharedCobId, HeartbeatTwice, EqualNames}
use Rattle.co_sheet_warnings.specs.Communication.{is_used_word, node_of_word, word_of}
use Rattle.co_sheet_text_warnings.specs.Ranges.{is_within}

-- a thing, and its line
pub record Placed (K : Type 0) : Type 0 where
  pub key : K
  pub line : ℕ

-- the lines of things that equal an earlier one
abbrev pub repeats : {K : Type 0} → (K → K → Bool) → List K → List (Placed K) → List ℕ
repeats same before [] = []
repeats same before (x ∷ xs) =
    if list_any (same x.key) before then x.line ∷ repeats same before xs
    else repeats same (before ++ x.key ∷ []) xs

-- ---- identifiers

-- the entries with the COB-ID of SYNC, of TIME, of EMCY, of a PDO, or of one way of an SDO channel
abbrev pub has_cob_id : SectionKind → Bool
has_cob_id (Object index) = (index == 0x1005) || (index == 0x1012) || (index == 0x1014)
has_cob_id (SubIndex key) =
    ((key.sub == 1) && (is_within 0x1400 0x15FF key.index || is_within 0x1800 0x19FF key.index))
    || (((key.sub == 1) || (key.sub == 2)) && is_within 0x1200 0x12FF key.index)
has_cob_id kind = false

-- the COB-ID of SYNC is always used: its bit 31 has no meaning; that of TIME where its bit 31 is set, by
-- which the device receives TIME, or bit 30, by which it sends TIME; any other where bit 31, which
-- disables it, isn't set (CiA 301, COB-ID SYNC message, COB-ID time stamp object, COB-ID EMCY)
abbrev pub use_of : SectionKind → CobIdUse
use_of (Object index) = if index == 0x1005 then Sync else if index == 0x1012 then Time else Other
use_of kind = Other

abbrev pub is_used : CobIdUse → ℕ → Bool
is_used Sync word = nat_lt word (2 ^ 32)
is_used Time word = nat_le (2 ^ 30) word && nat_lt word (2 ^ 32)
is_used Other word = nat_lt word (2 ^ 31)

abbrev pub if_used : CobIdUse → ℕ → Option ℕ
if_used by word = if is_used by word then Some word else None

abbrev pub used_number : CobIdUse → ℤ → Option ℕ
used_number by (pos n) = if_used by n
used_number by other = None

-- the COB-ID that a value is for a node
abbrev pub cob_id_for : ℕ → CobIdUse → Default → Option ℕ
cob_id_for node by (number n) = used_number by n
cob_id_for node by (node_id n) = if_used by (n + node)
cob_id_for node by other = None

abbrev pub used_cob_id : ℕ → CobIdUse → List ℕ → Option ℕ
used_cob_id node by value =
    option_and_then (cob_id_for node by) (result_ok (numeric_default Unsigned32 value))

-- its identifier, with bit 29, which tells 29 bits from 11; 0 is none
abbrev pub identifier_with : ℕ → Option ℕ
identifier_with word = if word % 2 ^ 30 == 0 then None else Some (word % 2 ^ 30)

abbrev pub identifier_of : ℕ → CobIdUse → Property → Option (Placed ℕ)
identifier_of node by k =
    option_map (λ n. record { key = n; line = k.line })
    (option_and_then identifier_with (used_cob_id node by k.value))

-- what states the value that an entry begins with: ParameterValue, or where it is absent
-- DefaultValue
abbrev pub value_in : TextSection → Option Property
value_in s =
    option_or (property_at (codes "ParameterValue") s) (property_at (codes "DefaultValue") s)

abbrev pub identifier_in : ℕ → TextSection → Option (Placed ℕ)
identifier_in node s =
    if has_cob_id s.kind then option_and_then (identifier_of node (use_of s.kind)) (value_in s)
    else None

abbrev pub identifiers_in : ℕ → List TextSection → List (Placed ℕ)
identifiers_in node sections = filter_map (identifier_in node) sections

-- the words whose identifier an earlier one has, for the node-ID that is given
abbrev pub shared_cob_ids : Option ℕ → List TextSection → List ℕ
shared_cob_ids None sections = []
shared_cob_ids (Some node) sections = repeats nat_eq [] (identifiers_in node sections)

-- ---- names

-- a name among those of objects, or of the sub-indices of one object
pub record ScopedName : Type 0 where
  pub scope : ℕ
  pub text : List ℕ

abbrev pub same_scoped : ScopedName → ScopedName → Bool
same_scoped a b = nat_eq a.scope b.scope && bytes_eq a.text b.text

-- the scope of a name: the object's index for sub-indices, a number above all indices for objects
abbrev pub scope_of : SectionKind → Option ℕ
scope_of (Object index) = Some 0x10000
scope_of (SubIndex key) = Some key.index
scope_of kind = None

abbrev pub name_placed : ℕ → Property → Placed ScopedName
name_placed scope k = record { key = record { scope = scope; text = k.value }; line = k.line }

abbrev pub name_with : TextSection → ℕ → Option (Placed ScopedName)
name_with s scope = option_map (name_placed scope) (property_at (codes "ParameterName") s)

abbrev pub name_in : TextSection → Option (Placed ScopedName)
name_in s = option_and_then (name_with s) (scope_of s.kind)

-- names that equal an earlier one
abbrev pub equal_names : List TextSection → List ℕ
equal_names sections = repeats same_scoped [] (filter_map name_in sections)

-- ---- the first of what comes twice

-- an identifier, or a node-ID, as a name
abbrev pub id_name : ℕ → ScopedName
id_name n = record { scope = n; text = [] }

abbrev pub as_name : Placed ℕ → Placed ScopedName
as_name p = record { key = id_name p.key; line = p.line }

abbrev pub identifier_name : ℕ → TextSection → Option (Placed ScopedName)
identifier_name node s = option_map as_name (identifier_in node s)

-- the node-ID of a word of 1016h that is used
abbrev pub node_used : ℕ → Option ℕ
node_used word = if is_used_word word then Some (node_of_word word) else None

abbrev pub node_consumed : Option ℕ → Property → Option (Placed ScopedName)
node_consumed given k =
    option_map (λ n. record { key = id_name n; line = k.line })
    (option_and_then node_used (word_of given k))

abbrev pub is_consumer : SectionKind → Bool
is_consumer (SubIndex key) = (key.index == 0x1016) && nat_lt 0 key.sub
is_consumer kind = false

abbrev pub consumed_in : Option ℕ → TextSection → Option (Placed ScopedName)
consumed_in given s =
    if is_consumer s.kind then option_and_then (node_consumed given) (value_in s) else None

-- what a kind of warning compares, of a section that has it: identifiers, or the node-IDs of words of
-- 1016h
abbrev pub compared_as : Placed ScopedName → ComparedNumber
compared_as p = record { number = p.key.scope; line = p.line }

abbrev pub compared : WarningKind → TextSection → Option ComparedNumber
compared (SharedCobId node) s = option_map compared_as (identifier_name node s)
compared (HeartbeatTwice given) s = option_map compared_as (consumed_in given s)
compared kind s = None

-- the first of what sections have that passes a test
abbrev pub passing :
    (Placed ScopedName → Bool) → Option (Placed ScopedName) → Option (Placed ScopedName)
passing test None = None
passing test (Some p) = if test p then Some p else None

abbrev pub first_passing :
    (Placed ScopedName → Bool) → (TextSection → Option (Placed ScopedName)) → List TextSection
    → Option (Placed ScopedName)
first_passing test placed [] = None
first_passing test placed (s ∷ sections) =
    option_or (passing test (placed s)) (first_passing test placed sections)

-- what is at a line, and what has a name before a line
abbrev pub is_at : ℕ → Placed ScopedName → Bool
is_at line p = p.line == line

abbrev pub is_before : ℕ → ScopedName → Placed ScopedName → Bool
is_before line name p = same_scoped name p.key && nat_lt p.line line

abbrev pub first_line : (TextSection → Option (Placed ScopedName)) → ℕ → List TextSection → Option ℕ
first_line placed line sections =
    option_map (λ first. first.line)
    (option_and_then (λ p. first_passing (is_before line p.key) placed sections)
    (first_passing (is_at line) placed sections))

-- of a kind that is about what comes twice: the line of the first of what is at a line, if it is
-- before that line
abbrev pub first_equal : WarningKind → ℕ → List TextSection → Option ℕ
first_equal (SharedCobId node) line sections = first_line (identifier_name node) line sections
first_equal (HeartbeatTwice given) line sections = first_line (consumed_in given) line sections
first_equal EqualNames line sections = first_line name_in line sections
first_equal kind line sections = None

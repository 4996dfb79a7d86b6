-- What the tables of a text say, without where its bytes lie in memory.
use Rattle.std.specs.Prelude.{ℕ, Bool, false, if◌then◌else◌, List, [], ◌∷◌, ◌++◌, filter_map, codes, Option, Some, None}
use Rattle.std.specs.List.{list_any}
use Rattle.std.specs.Option.{option_map_or}
use Rattle.co_sheet_warnings.specs.declared.repeats.Once.{Once}
use Rattle.co_sheet_warnings.specs.declared.repeats.Once.TheVariants.{Identifiers, Consumed, Names}
use Rattle.co_sheet_warnings.specs.declared.repeats.PlacedName.{PlacedName}
use Rattle.co_sheet_warnings.specs.declared.repeats.ScopedName.{ScopedName as CodeName}
use Rattle.co_sheet_warnings.specs.declared.repeats.Sought.{Sought}
use Rattle.co_sheet_warnings.specs.declared.repeats.Sought.TheVariants.{At, Before}
use Rattle.co_sheet_text_warnings.specs.declared.warning.WarningKind.{WarningKind}
use Rattle.co_sheet_text_warnings.specs.declared.warning.WarningKind.TheVariants.{
  SubNumber,
  SubIndex0,
  VarSubIndices,
  MandatoryForm,
  FileInfoKeys,
  DeviceInfoKeys,
  PdoCount,
  WrongList,
  UncountedKey,
  Unlisted,
  IdentityNumber,
  FixedCobId,
  NodeIdPlace,
  NodeIdSum,
  NegativeLimit,
  ReservedValue,
  WrongAccess,
  WrongType,
  MisspeltSection,
  MisspeltKey,
  SharedCobId,
  InhibitTime,
  OwnHeartbeat,
  HeartbeatTwice,
  NoErrorControl,
  LongLine,
  Utf8,
  NotAscii,
  NodeId,
  ListOrder,
  EqualNames,
  MissingName,
  UnknownKey,
  DateFormat,
  LineEnds,
}
use Rattle.co_sheet_text.specs.Sections.{TextSection, property_at}
use Rattle.co_sheet_warnings.specs.Repeats.{Placed, ScopedName, consumed_in, equal_names, identifier_name, is_at, is_before, name_in, repeats, same_scoped, shared_cob_ids}
use Rattle.co_sheet_warnings.specs.SubIndices.{is_constant_word}

-- the row of a kind in the tables of words
abbrev pub kind_row : WarningKind → ℕ
kind_row SubNumber = 0
kind_row SubIndex0 = 1
kind_row VarSubIndices = 2
kind_row MandatoryForm = 3
kind_row (FileInfoKeys missing) = 4
kind_row (DeviceInfoKeys missing) = 5
kind_row PdoCount = 6
kind_row WrongList = 7
kind_row UncountedKey = 8
kind_row Unlisted = 9
kind_row (IdentityNumber sub) = 10
kind_row FixedCobId = 11
kind_row NodeIdPlace = 12
kind_row NodeIdSum = 13
kind_row NegativeLimit = 14
kind_row ReservedValue = 15
kind_row WrongAccess = 16
kind_row WrongType = 17
kind_row MisspeltSection = 18
kind_row (MisspeltKey meant) = 19
kind_row (SharedCobId node) = 20
kind_row InhibitTime = 21
kind_row OwnHeartbeat = 22
kind_row (HeartbeatTwice given) = 23
kind_row NoErrorControl = 24
kind_row LongLine = 25
kind_row Utf8 = 26
kind_row NotAscii = 27
kind_row NodeId = 28
kind_row ListOrder = 29
kind_row EqualNames = 30
kind_row MissingName = 31
kind_row UnknownKey = 32
kind_row DateFormat = 33
kind_row LineEnds = 34

-- an entry that nobody writes, by its section
abbrev pub is_constant_section : TextSection → Bool
is_constant_section s =
    option_map_or (λ k. is_constant_word k.value) (property_at (codes "AccessType") s) false

-- a name among others, with its line
abbrev pub scoped_view : CodeName → ScopedName
scoped_view n = record { scope = n.scope; text = n.text.now }

abbrev pub name_view : PlacedName → Placed ScopedName
name_view n = record { key = scoped_view n.name; line = n.line }

-- what a section has of what should come once, and the lines of what comes again
abbrev pub placed_in : Once → TextSection → Option (Placed ScopedName)
placed_in (Identifiers node) s = identifier_name node s
placed_in (Consumed given) s = consumed_in given s
placed_in Names s = name_in s

-- whether it is what is looked for
abbrev pub is_sought : Sought → Placed ScopedName → Bool
is_sought (At line) p = is_at line p
is_sought (Before line name) p = is_before line (scoped_view name) p

-- where what a section has is among what earlier ones have, and what they have together
abbrev pub again_at : List ScopedName → Option (Placed ScopedName) → List ℕ
again_at before None = []
again_at before (Some p) = if list_any (same_scoped p.key) before then p.line ∷ [] else []

abbrev pub kept_with : List ScopedName → Option (Placed ScopedName) → List ScopedName
kept_with before None = before
kept_with before (Some p) =
    if list_any (same_scoped p.key) before then before else before ++ p.key ∷ []

abbrev pub repeats_of : Once → List TextSection → List ℕ
repeats_of (Identifiers node) sections = shared_cob_ids (Some node) sections
repeats_of (Consumed given) sections = repeats same_scoped [] (filter_map (consumed_in given) sections)
repeats_of Names sections = equal_names sections

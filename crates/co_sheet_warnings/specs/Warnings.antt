-- All that is legal in a data sheet and suspicious: the places of each kind of warning (CiA 306-1,
-- CiA 301).
use Rattle.std.specs.Prelude.{
  ◌≡◌,
  ℕ,
  ◌==◌,
  nat_lt,
  Bool,
  false,
  if◌then◌else◌,
  List,
  [],
  ◌∷◌,
  ◌++◌,
  length,
  flat_map,
  filter,
  filter_map,
  replicate,
  Option,
  None,
}
use Rattle.std.specs.List.Sorted.{IsNonDecreasingBy}
use Rattle.co_sheet_text_warnings.specs.declared.warning.WarningKind.{WarningKind}
use Rattle.co_sheet_text_warnings.specs.declared.warning.WarningKind.TheVariants.{
  SubNumber,
  SubIndex0,
  VarSubIndices,
  MandatoryForm,
  FileInfoKeys,
  DeviceInfoKeys,
  PdoCount,
  WrongList,
  UncountedKey,
  Unlisted,
  IdentityNumber,
  FixedCobId,
  NodeIdPlace,
  NodeIdSum,
  NegativeLimit,
  ReservedValue,
  WrongAccess,
  WrongType,
  MisspeltSection,
  SharedCobId,
  InhibitTime,
  OwnHeartbeat,
  HeartbeatTwice,
  NoErrorControl,
  LongLine,
  Utf8,
  NotAscii,
  NodeId,
  ListOrder,
  EqualNames,
  MissingName,
  UnknownKey,
  DateFormat,
  LineEnds,
}
use Rattle.co_sheet_text_warnings.specs.declared.warning.Warning.{Warning}
use Rattle.co_sheet_text.specs.Sections.{TextSection}
use Rattle.co_sheet.specs.Entries.{sub_indices}
use Rattle.co_sheet_text_warnings.specs.ReadTexts.{ReadText, read_text}
use Rattle.co_sheet_warnings.specs.SubIndices.{
  sub_number,
  sub_index_0,
  var_sub_indices,
  mandatory_form,
  unlisted,
  missing_name,
}
use Rattle.co_sheet_text_warnings.specs.Lists.{wrong_lists, uncounted_keys, list_orders}
use Rattle.co_sheet_warnings.specs.CobIds.{fixed_cob_id, node_id_place}
use Rattle.co_sheet_warnings.specs.Accesses.{wrong_access}
use Rattle.co_sheet_warnings.specs.Types.{wrong_type}
use Rattle.co_sheet_warnings.specs.Limits.{negative_limit}
use Rattle.co_sheet_warnings.specs.ReservedValues.{reserved_value}
use Rattle.co_sheet_text_warnings.specs.SectionNames.{misspelt_section}
use Rattle.co_sheet_warnings.specs.Communication.{inhibit_time, own_heartbeat, heartbeat_twice}
use Rattle.co_sheet_text_warnings.specs.NodeIds.{no_node_id}
use Rattle.co_sheet_warnings.specs.NodeIdSums.{node_id_sum}
use Rattle.co_sheet_text_warnings.specs.Lines.{long_lines}
use Rattle.co_sheet_text_warnings.specs.InText.{kind_in, place_in_text}
use Rattle.co_sheet_text_warnings.specs.MisspeltKeys.{misspelt}
use Rattle.co_sheet_text_warnings.specs.Places.{warnings_at}
use Rattle.co_sheet_text_warnings.specs.Infos.{pdo_counts, date_formats}
use Rattle.co_sheet_warnings.specs.Identities.{identity_number}
use Rattle.co_sheet_warnings.specs.Repeats.{shared_cob_ids, equal_names}

-- the lines of a section where a kind applies, of the kinds that are about a section
unfoldable pub places_in : ReadText → WarningKind → TextSection → List ℕ
places_in t SubNumber s = sub_number t.sections s s.kind
places_in t SubIndex0 s = sub_index_0 t.sections s s.kind
places_in t VarSubIndices s = var_sub_indices t.sections s s.kind
places_in t MandatoryForm s = mandatory_form t.sections s s.kind
places_in t Unlisted s = unlisted t.sections s s.kind
places_in t FixedCobId s = fixed_cob_id t.sections s
places_in t NodeIdPlace s = node_id_place s
places_in t NodeIdSum s = node_id_sum t.node s
places_in t NegativeLimit s = negative_limit s
places_in t ReservedValue s = reserved_value s
places_in t WrongAccess s = wrong_access s
places_in t WrongType s = wrong_type t.sections s
places_in t MisspeltSection s = misspelt_section t.sections s
places_in t InhibitTime s = inhibit_time t.sections s s.kind
places_in t OwnHeartbeat s = own_heartbeat t.node s s.kind
places_in t (HeartbeatTwice given) s = heartbeat_twice t.node t.sections s s.kind
places_in t NodeId s = no_node_id s s.kind
places_in t MissingName s = missing_name s
places_in t kind s = []

-- its lines, of a kind that applies at one line at most or in sections
abbrev pub other_places : ReadText → WarningKind → List ℕ
other_places t kind = place_in_text t kind ++ flat_map (places_in t kind) t.sections

-- the same, and of the kinds that are about the keys of DeviceInfo and FileInfo
unfoldable pub few_places : ReadText → WarningKind → List ℕ
few_places t PdoCount = pdo_counts t.keys t.sections
few_places t (IdentityNumber sub) = identity_number t.keys (sub_indices t.sections 0x1018) sub
few_places t DateFormat = date_formats t.keys
few_places t kind = other_places t kind

-- the lines of a text where a kind applies
unfoldable pub places_of : ReadText → WarningKind → List ℕ
places_of t WrongList = wrong_lists t.sections
places_of t UncountedKey = uncounted_keys t.sections
places_of t ListOrder = list_orders t.sections
places_of t (SharedCobId node) = shared_cob_ids t.node t.sections
places_of t EqualNames = equal_names t.sections
places_of t LongLine = long_lines t.lines
places_of t kind = few_places t kind

-- the kinds, in the order in which the sheets of vendors show them: those before misspelt keys,
-- those after them, and those of taste; what a kind says of a text is still open
abbrev pub first_kinds : List WarningKind
first_kinds =
    SubNumber ∷ SubIndex0 ∷ VarSubIndices ∷ MandatoryForm ∷ FileInfoKeys (replicate 10 false)
    ∷ DeviceInfoKeys (replicate 22 false) ∷ PdoCount ∷ WrongList ∷ UncountedKey ∷ Unlisted
    ∷ IdentityNumber 1 ∷ IdentityNumber 2 ∷ IdentityNumber 3 ∷ FixedCobId ∷ NodeIdPlace
    ∷ NodeIdSum ∷ NegativeLimit ∷ ReservedValue ∷ WrongAccess ∷ WrongType ∷ MisspeltSection
    ∷ []

abbrev pub last_kinds : List WarningKind
last_kinds =
    SharedCobId 0 ∷ InhibitTime ∷ OwnHeartbeat ∷ HeartbeatTwice None ∷ NoErrorControl ∷ LongLine
    ∷ Utf8 ∷ NotAscii ∷ NodeId ∷ []

abbrev pub quiet_kinds : List WarningKind
quiet_kinds =
    ListOrder ∷ EqualNames ∷ MissingName ∷ UnknownKey ∷ DateFormat ∷ LineEnds ∷ []

-- the warnings of a kind, and of kinds
abbrev pub warnings_with : ReadText → WarningKind → List Warning
warnings_with t kind = warnings_at kind (places_of t kind)

abbrev pub warnings_in : ReadText → WarningKind → List Warning
warnings_in t kind = warnings_with t (kind_in t kind)

abbrev pub warnings_of_kinds : ReadText → List WarningKind → List Warning
warnings_of_kinds t kinds = flat_map (warnings_in t) kinds

-- those of taste, on request
abbrev pub asked_kinds : Bool → List WarningKind
asked_kinds all = if all then quiet_kinds else []

-- all warnings, kind by kind
unfoldable pub all_warnings : Bool → ReadText → List Warning
all_warnings all t =
    warnings_of_kinds t first_kinds ++ filter_map misspelt t.keys ++ warnings_of_kinds t last_kinds
    ++ warnings_of_kinds t (asked_kinds all)

-- the warnings of a text for the node-ID that is given or else its own, those of taste too or
-- without them; a text that is too large isn't read
abbrev pub warnings_of : List ℕ → Option ℕ → Bool → List Warning
warnings_of text node all =
    if nat_lt 1048576 (length text) then [] else all_warnings all (read_text text node)

-- these warnings by line: line numbers never decrease, and each line has its warnings in their
-- order
pub record IsByLine (warnings sorted : List Warning) : Type 0 where
  pub rises : IsNonDecreasingBy (λ w. w.line) sorted
  pub same : (n : ℕ) → filter (λ w. w.line == n) sorted ≡ filter (λ w. w.line == n) warnings

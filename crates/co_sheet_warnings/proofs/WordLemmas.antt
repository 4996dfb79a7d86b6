-- The tables of words have each kind's words in its row.
use Rattle.std.proofs.Common.{◌≡◌, ◌<◌, ℕ, List, [], get_or, map, refl, arith}
use Rattle.co_sheet_text_warnings.specs.declared.warning.WarningKind.{WarningKind}
use Rattle.co_sheet_text_warnings.specs.declared.warning.WarningKind.TheVariants.{SubNumber, SubIndex0, VarSubIndices, MandatoryForm, FileInfoKeys, DeviceInfoKeys, PdoCount, WrongList, UncountedKey, Unlisted, IdentityNumber, FixedCobId, NodeIdPlace, NodeIdSum, NegativeLimit, ReservedValue, WrongAccess, WrongType, MisspeltSection, MisspeltKey, SharedCobId, InhibitTime, OwnHeartbeat, HeartbeatTwice, NoErrorControl, LongLine, Utf8, NotAscii, NodeId, ListOrder, EqualNames, MissingName, UnknownKey, DateFormat, LineEnds}
use Rattle.co_sheet_warnings.specs.declared.words.TheConstants.{NAMES, MEANINGS, FIXES, SUBJECTS}
use Rattle.co_sheet_warnings.specs.WarningWords.{name_of, meaning_of, fix_of, subject_of}
use Rattle.co_sheet_warnings.specs.private.Views.{kind_row}

abbrev pub names : List (List ℕ)
names = map (λ text. text.now) NAMES

abbrev pub meanings : List (List ℕ)
meanings = map (λ text. text.now) MEANINGS

abbrev pub fixes : List (List ℕ)
fixes = map (λ text. text.now) FIXES

abbrev pub subjects : List (List ℕ)
subjects = map (λ text. text.now) SUBJECTS

pub named : (kind : WarningKind) → get_or names (kind_row kind) [] ≡ name_of kind
named SubNumber = refl
named SubIndex0 = refl
named VarSubIndices = refl
named MandatoryForm = refl
named (FileInfoKeys missing) = refl
named (DeviceInfoKeys missing) = refl
named PdoCount = refl
named WrongList = refl
named UncountedKey = refl
named Unlisted = refl
named (IdentityNumber sub) = refl
named FixedCobId = refl
named NodeIdPlace = refl
named NodeIdSum = refl
named NegativeLimit = refl
named ReservedValue = refl
named WrongAccess = refl
named WrongType = refl
named MisspeltSection = refl
named (MisspeltKey key) = refl
named (SharedCobId node) = refl
named InhibitTime = refl
named OwnHeartbeat = refl
named (HeartbeatTwice given) = refl
named NoErrorControl = refl
named LongLine = refl
named Utf8 = refl
named NotAscii = refl
named NodeId = refl
named ListOrder = refl
named EqualNames = refl
named MissingName = refl
named UnknownKey = refl
named DateFormat = refl
named LineEnds = refl

pub meant : (kind : WarningKind) → get_or meanings (kind_row kind) [] ≡ meaning_of kind
meant SubNumber = refl
meant SubIndex0 = refl
meant VarSubIndices = refl
meant MandatoryForm = refl
meant (FileInfoKeys missing) = refl
meant (DeviceInfoKeys missing) = refl
meant PdoCount = refl
meant WrongList = refl
meant UncountedKey = refl
meant Unlisted = refl
meant (IdentityNumber sub) = refl
meant FixedCobId = refl
meant NodeIdPlace = refl
meant NodeIdSum = refl
meant NegativeLimit = refl
meant ReservedValue = refl
meant WrongAccess = refl
meant WrongType = refl
meant MisspeltSection = refl
meant (MisspeltKey key) = refl
meant (SharedCobId node) = refl
meant InhibitTime = refl
meant OwnHeartbeat = refl
meant (HeartbeatTwice given) = refl
meant NoErrorControl = refl
meant LongLine = refl
meant Utf8 = refl
meant NotAscii = refl
meant NodeId = refl
meant ListOrder = refl
meant EqualNames = refl
meant MissingName = refl
meant UnknownKey = refl
meant DateFormat = refl
meant LineEnds = refl

pub ruled : (kind : WarningKind) → get_or subjects (kind_row kind) [] ≡ subject_of kind
ruled SubNumber = refl
ruled SubIndex0 = refl
ruled VarSubIndices = refl
ruled MandatoryForm = refl
ruled (FileInfoKeys missing) = refl
ruled (DeviceInfoKeys missing) = refl
ruled PdoCount = refl
ruled WrongList = refl
ruled UncountedKey = refl
ruled Unlisted = refl
ruled (IdentityNumber sub) = refl
ruled FixedCobId = refl
ruled NodeIdPlace = refl
ruled NodeIdSum = refl
ruled NegativeLimit = refl
ruled ReservedValue = refl
ruled WrongAccess = refl
ruled WrongType = refl
ruled MisspeltSection = refl
ruled (MisspeltKey key) = refl
ruled (SharedCobId node) = refl
ruled InhibitTime = refl
ruled OwnHeartbeat = refl
ruled (HeartbeatTwice given) = refl
ruled NoErrorControl = refl
ruled LongLine = refl
ruled Utf8 = refl
ruled NotAscii = refl
ruled NodeId = refl
ruled ListOrder = refl
ruled EqualNames = refl
ruled MissingName = refl
ruled UnknownKey = refl
ruled DateFormat = refl
ruled LineEnds = refl

pub fixed : (kind : WarningKind) → get_or fixes (kind_row kind) [] ≡ fix_of kind
fixed SubNumber = refl
fixed SubIndex0 = refl
fixed VarSubIndices = refl
fixed MandatoryForm = refl
fixed (FileInfoKeys missing) = refl
fixed (DeviceInfoKeys missing) = refl
fixed PdoCount = refl
fixed WrongList = refl
fixed UncountedKey = refl
fixed Unlisted = refl
fixed (IdentityNumber sub) = refl
fixed FixedCobId = refl
fixed NodeIdPlace = refl
fixed NodeIdSum = refl
fixed NegativeLimit = refl
fixed ReservedValue = refl
fixed WrongAccess = refl
fixed WrongType = refl
fixed MisspeltSection = refl
fixed (MisspeltKey key) = refl
fixed (SharedCobId node) = refl
fixed InhibitTime = refl
fixed OwnHeartbeat = refl
fixed (HeartbeatTwice given) = refl
fixed NoErrorControl = refl
fixed LongLine = refl
fixed Utf8 = refl
fixed NotAscii = refl
fixed NodeId = refl
fixed ListOrder = refl
fixed EqualNames = refl
fixed MissingName = refl
fixed UnknownKey = refl
fixed DateFormat = refl
fixed LineEnds = refl

-- no row past the last
pub few_rows : (kind : WarningKind) → kind_row kind < 35
few_rows SubNumber = omega arith
few_rows SubIndex0 = omega arith
few_rows VarSubIndices = omega arith
few_rows MandatoryForm = omega arith
few_rows (FileInfoKeys missing) = omega arith
few_rows (DeviceInfoKeys missing) = omega arith
few_rows PdoCount = omega arith
few_rows WrongList = omega arith
few_rows UncountedKey = omega arith
few_rows Unlisted = omega arith
few_rows (IdentityNumber sub) = omega arith
few_rows FixedCobId = omega arith
few_rows NodeIdPlace = omega arith
few_rows NodeIdSum = omega arith
few_rows NegativeLimit = omega arith
few_rows ReservedValue = omega arith
few_rows WrongAccess = omega arith
few_rows WrongType = omega arith
few_rows MisspeltSection = omega arith
few_rows (MisspeltKey key) = omega arith
few_rows (SharedCobId node) = omega arith
few_rows InhibitTime = omega arith
few_rows OwnHeartbeat = omega arith
few_rows (HeartbeatTwice given) = omega arith
few_rows NoErrorControl = omega arith
few_rows LongLine = omega arith
few_rows Utf8 = omega arith
few_rows NotAscii = omega arith
few_rows NodeId = omega arith
few_rows ListOrder = omega arith
few_rows EqualNames = omega arith
few_rows MissingName = omega arith
few_rows UnknownKey = omega arith
few_rows DateFormat = omega arith
few_rows LineEnds = omega arith

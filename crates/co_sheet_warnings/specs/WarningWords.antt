-- Each warning in words: its name, what it means, how to fix it, and where the standard says so (by
-- the name of its subject, since the numbers differ by edition).
use Rattle.std.specs.Prelude.{ℕ, Bool, true, false, List, codes}
use Rattle.co_sheet_text_warnings.specs.declared.warning.WarningKind.{WarningKind}
use Rattle.co_sheet_text_warnings.specs.declared.warning.WarningKind.TheVariants.{
  SubNumber,
  SubIndex0,
  VarSubIndices,
  MandatoryForm,
  FileInfoKeys,
  DeviceInfoKeys,
  PdoCount,
  WrongList,
  UncountedKey,
  Unlisted,
  IdentityNumber,
  FixedCobId,
  NodeIdPlace,
  NodeIdSum,
  NegativeLimit,
  ReservedValue,
  WrongAccess,
  WrongType,
  MisspeltSection,
  MisspeltKey,
  SharedCobId,
  InhibitTime,
  OwnHeartbeat,
  HeartbeatTwice,
  NoErrorControl,
  LongLine,
  Utf8,
  NotAscii,
  NodeId,
  ListOrder,
  EqualNames,
  MissingName,
  UnknownKey,
  DateFormat,
  LineEnds,
}

-- its name
abbrev pub name_of : WarningKind → List ℕ
name_of SubNumber = codes "SubNumber"
name_of SubIndex0 = codes "SubIndex0"
name_of VarSubIndices = codes "VarSubIndices"
name_of MandatoryForm = codes "MandatoryForm"
name_of (FileInfoKeys missing) = codes "FileInfoKeys"
name_of (DeviceInfoKeys missing) = codes "DeviceInfoKeys"
name_of PdoCount = codes "PdoCount"
name_of WrongList = codes "WrongList"
name_of UncountedKey = codes "UncountedKey"
name_of Unlisted = codes "Unlisted"
name_of (IdentityNumber sub) = codes "IdentityNumber"
name_of FixedCobId = codes "FixedCobId"
name_of NodeIdPlace = codes "NodeIdPlace"
name_of NodeIdSum = codes "NodeIdSum"
name_of NegativeLimit = codes "NegativeLimit"
name_of ReservedValue = codes "ReservedValue"
name_of WrongAccess = codes "WrongAccess"
name_of WrongType = codes "WrongType"
name_of MisspeltSection = codes "MisspeltSection"
name_of (MisspeltKey meant) = codes "MisspeltKey"
name_of (SharedCobId node) = codes "SharedCobId"
name_of InhibitTime = codes "InhibitTime"
name_of OwnHeartbeat = codes "OwnHeartbeat"
name_of (HeartbeatTwice given) = codes "HeartbeatTwice"
name_of NoErrorControl = codes "NoErrorControl"
name_of LongLine = codes "LongLine"
name_of Utf8 = codes "Utf8"
name_of NotAscii = codes "NotAscii"
name_of NodeId = codes "NodeId"
name_of ListOrder = codes "ListOrder"
name_of EqualNames = codes "EqualNames"
name_of MissingName = codes "MissingName"
name_of UnknownKey = codes "UnknownKey"
name_of DateFormat = codes "DateFormat"
name_of LineEnds = codes "LineEnds"

-- what is suspicious
abbrev pub meaning_of : WarningKind → List ℕ
meaning_of SubNumber = codes "SubNumber isn't the number of the object's sub-index sections"
meaning_of SubIndex0 = codes "sub-index 0 isn't the highest sub-index of the object"
meaning_of VarSubIndices =
    codes "the object is a VAR or a DOMAIN, so its sub-index sections aren't read"
meaning_of MandatoryForm =
    codes "CiA 301 has 1000h and 1001h as a VAR, 1018h as a RECORD with sub-index 1, the vendor-ID"
meaning_of (FileInfoKeys missing) = codes "FileInfo is missing, or a key that it has to have"
meaning_of (DeviceInfoKeys missing) = codes "DeviceInfo is missing, or a key that it has to have"
meaning_of PdoCount = codes "this isn't the number of PDOs that the sheet has"
meaning_of WrongList = codes "the object belongs in another list, or in none"
meaning_of UncountedKey = codes "SupportedObjects doesn't count this key, so it isn't read"
meaning_of Unlisted = codes "no list names the object, so it isn't read"
meaning_of (IdentityNumber sub) = codes "the identity object has another number"
meaning_of FixedCobId =
    codes "the COB-ID doesn't depend on the node-ID, so two such devices disturb each other"
meaning_of NodeIdPlace = codes "$NODEID comes after the number, which other tools don't read"
meaning_of NodeIdSum =
    codes "the default with $NODEID is outside the type or the limits for every node-ID"
meaning_of NegativeLimit =
    codes "this HighLimit is -1 at its type, so no number from 0 on is permitted"
meaning_of ReservedValue = codes "CiA 301 reserves this value"
meaning_of WrongAccess = codes "CiA 301 has another access for this entry"
meaning_of WrongType = codes "CiA 301 has another data type for this entry"
meaning_of MisspeltSection =
    codes "nothing reads a section of this name, and the standard has one like it"
meaning_of (MisspeltKey meant) = codes "the standard has no such key, but one like it"
meaning_of (SharedCobId node) = codes "an entry before it has the same identifier, for this node-ID"
meaning_of InhibitTime = codes "a synchronous TPDO has an inhibit time, which isn't used"
meaning_of OwnHeartbeat = codes "the consumer waits for the heartbeat of its own node"
meaning_of (HeartbeatTwice given) = codes "two words of the consumer have the same node-ID"
meaning_of NoErrorControl = codes "the device has neither a heartbeat nor node guarding"
meaning_of LongLine = codes "the line has more than 255 characters, which other tools may cut"
meaning_of Utf8 =
    codes "the text has bytes above 7Fh, in UTF-8, which older tools read as Windows-1252"
meaning_of NotAscii =
    codes "the text has bytes above 7Fh and isn't UTF-8, so it is read as Windows-1252"
meaning_of NodeId = codes "NodeID isn't 1 to 127, so the sheet has no node-ID"
meaning_of ListOrder = codes "an index of the list is smaller than the one before it"
meaning_of EqualNames = codes "an object or sub-index before it has the same name"
meaning_of MissingName = codes "the object or sub-index has no ParameterName"
meaning_of UnknownKey = codes "the standard has no such key, so it is passed over"
meaning_of DateFormat = codes "the date isn't mm-dd-yyyy, or the time isn't hh:mmAM or hh:mmPM"
meaning_of LineEnds = codes "the line ends otherwise than line 1: CR and LF, or LF alone"

-- how it is fixed
abbrev pub fix_of : WarningKind → List ℕ
fix_of SubNumber = codes "count the sections; one may be missing, or its name misspelt"
fix_of SubIndex0 = codes "give it the highest sub-index, or describe the one that is missing"
fix_of VarSubIndices = codes "give it ObjectType=0x8 or 0x9, or take these sections out"
fix_of MandatoryForm =
    codes "give 1000h and 1001h ObjectType=7; give 1018h ObjectType=9, and describe [1018sub1]"
fix_of (FileInfoKeys missing) = codes "add the missing section or keys"
fix_of (DeviceInfoKeys missing) = codes "add the missing section or keys"
fix_of PdoCount =
    codes "count the objects 1400h to 15FFh for NrOfRXPDO, 1800h to 19FFh for NrOfTXPDO"
fix_of WrongList =
    codes "list 1000h, 1001h and 1018h as mandatory, 2000h to 5FFFh as the manufacturer's, all others from 1000h on as optional"
fix_of UncountedKey =
    codes "number all keys of the list without a gap and count them, or take this one out"
fix_of Unlisted = codes "list it, or take its section out"
fix_of (IdentityNumber sub) =
    codes "give VendorNumber as in 1018:01, ProductNumber as in 1018:02, RevisionNumber as in 1018:03"
fix_of FixedCobId = codes "write $NODEID+ and the number of the predefined connection set"
fix_of NodeIdPlace = codes "write $NODEID first, as $NODEID+0x180"
fix_of NodeIdSum = codes "correct the default or the limits"
fix_of NegativeLimit =
    codes "give the greatest number of the type, as 0x7F or 0x7FFF, or take the limit out"
fix_of ReservedValue =
    codes "give a transmission type of 0 to 240 or from 254 on, of a TPDO also 252 or 253; to 1019h 0 or 2 to 240"
fix_of WrongAccess = codes "give the entry that access"
fix_of WrongType = codes "give the entry that type"
fix_of MisspeltSection = codes "write the name as the standard has it, as [DeviceInfo], [1018sub1]"
fix_of (MisspeltKey meant) = codes "write the key as the standard has it"
fix_of (SharedCobId node) =
    codes "give each an identifier of its own; or disable a PDO, an SDO channel or EMCY by bit 31, TIME by bits 31 and 30 clear"
fix_of InhibitTime = codes "set it to 0, or take a transmission type from 254 on"
fix_of OwnHeartbeat = codes "give the node-ID of another node, or set the word to 0"
fix_of (HeartbeatTwice given) = codes "take one of the two out"
fix_of NoErrorControl = codes "add 1017h, or 100Ch and 100Dh"
fix_of LongLine = codes "shorten the line"
fix_of Utf8 = codes "write ASCII alone"
fix_of NotAscii = codes "write ASCII alone"
fix_of NodeId = codes "give the node-ID of the device"
fix_of ListOrder = codes "sort the list by index"
fix_of EqualNames = codes "give each object, and each sub-index of an object, a name of its own"
fix_of MissingName = codes "add ParameterName"
fix_of UnknownKey = codes "take it out, or put it into a section of the manufacturer's own"
fix_of DateFormat = codes "write it as 02-11-2020, as 10:22AM"
fix_of LineEnds = codes "end all lines alike"

-- the subject of the standard
abbrev pub subject_of : WarningKind → List ℕ
subject_of SubNumber = codes "CiA 306-1, object description"
subject_of SubIndex0 = codes "CiA 301, sub-index 0 of arrays and records"
subject_of VarSubIndices = codes "CiA 306-1, object description"
subject_of MandatoryForm = codes "CiA 301, mandatory objects"
subject_of (FileInfoKeys missing) = codes "CiA 306-1, file information"
subject_of (DeviceInfoKeys missing) = codes "CiA 306-1, device information"
subject_of PdoCount = codes "CiA 306-1, device information"
subject_of WrongList = codes "CiA 306-1, object lists"
subject_of UncountedKey = codes "CiA 306-1, object lists"
subject_of Unlisted = codes "CiA 306-1, object lists"
subject_of (IdentityNumber sub) = codes "CiA 306-1, device information"
subject_of FixedCobId = codes "CiA 301, predefined connection set"
subject_of NodeIdPlace = codes "CiA 306-1, object description"
subject_of NodeIdSum = codes "CiA 306-1, object description"
subject_of NegativeLimit = codes "CiA 306-1, object description"
subject_of ReservedValue =
    codes "CiA 301, transmission types and synchronous counter overflow value"
subject_of WrongAccess = codes "CiA 301, objects of the communication profile"
subject_of WrongType =
    codes "CiA 301, objects of the communication profile and sub-index 0 of arrays and records"
subject_of MisspeltSection = codes "CiA 306-1, structure of an EDS"
subject_of (MisspeltKey meant) = codes "CiA 306-1, structure of an EDS"
subject_of (SharedCobId node) = codes "CiA 301, COB-IDs"
subject_of InhibitTime = codes "CiA 301, TPDO communication parameter"
subject_of OwnHeartbeat = codes "CiA 301, heartbeat consumer"
subject_of (HeartbeatTwice given) = codes "CiA 301, heartbeat consumer"
subject_of NoErrorControl = codes "CiA 301, error control"
subject_of LongLine = codes "CiA 306-1, structure of an EDS"
subject_of Utf8 = codes "CiA 306-1, structure of an EDS"
subject_of NotAscii = codes "CiA 306-1, structure of an EDS"
subject_of NodeId = codes "CiA 306-1, device commissioning"
subject_of ListOrder = codes "CiA 306-1, object lists"
subject_of EqualNames = codes "CiA 306-1, object description"
subject_of MissingName = codes "CiA 306-1, object description"
subject_of UnknownKey = codes "CiA 306-1, structure of an EDS"
subject_of DateFormat = codes "CiA 306-1, file information"
subject_of LineEnds = codes "CiA 306-1, structure of an EDS"

-- a matter of taste, which is reported only on request
abbrev pub is_quiet : WarningKind → Bool
is_quiet ListOrder = true
is_quiet EqualNames = true
is_quiet MissingName = true
is_quiet UnknownKey = true
is_quiet DateFormat = true
is_quiet LineEnds = true
is_quiet kind = false

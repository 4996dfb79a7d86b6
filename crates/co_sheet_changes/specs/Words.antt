-- What a change is called.
use Rattle.std.specs.Prelude.{ℕ, List, codes}
use Rattle.co_sheet_changes.specs.declared.change.ChangeKind.{ChangeKind}
use Rattle.co_sheet_changes.specs.declared.change.ChangeKind.TheVariants.{SectionName, ListKey, SubIndex0, CompactSubObj, CompactPdo, ListCount, DataType, RealLimit, RealValue, UnicodeValue, UnsignedLimit, SignExtended, OctetBlanks, EndMark, LeadingZero, ForcedLimit, ForcedMapping, ForcedSync}

abbrev pub change_name : ChangeKind → List ℕ
change_name SectionName = codes "blanks in a section's name"
change_name ListKey = codes "zeros before a list's key"
change_name SubIndex0 = codes "sub-index 0 without its type or access"
change_name (CompactSubObj index count) = codes "sub-indices in compact form"
change_name (CompactPdo count subs) = codes "PDOs in compact form"
change_name ListCount = codes "objects of PDOs in the list"
change_name DataType = codes "data type"
change_name RealLimit = codes "limit of a REAL"
change_name RealValue = codes "value of a REAL by its bits"
change_name UnicodeValue = codes "text in UTF-16"
change_name UnsignedLimit = codes "unsigned limit of a signed number"
change_name SignExtended = codes "value with its sign extended"
change_name OctetBlanks = codes "blanks between bytes"
change_name EndMark = codes "end-of-file mark"
change_name LeadingZero = codes "leading zero"
change_name ForcedLimit = codes "limit against its type"
change_name ForcedMapping = codes "mapping at fault"
change_name ForcedSync = codes "bit 30 of the SYNC's COB-ID"

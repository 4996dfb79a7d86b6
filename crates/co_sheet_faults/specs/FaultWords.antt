-- Each fault in words: what it means, how to fix it, and where the standard says so (by the name of
-- its subject, since the numbers differ by edition).
use Rattle.std.specs.Prelude.{ℕ, ◌==◌, if◌then◌else◌, List, [], codes}
use Rattle.co_sheet_rows.specs.declared.fault.FaultKind.{FaultKind}
use Rattle.co_sheet_rows.specs.declared.fault.FaultKind.TheVariants.{TooLarge, BadLine, KeyOutsideSection, DuplicateSection, DuplicateKey, MissingSection, BadNumber, AmbiguousNumber, BadList, ListedTwice, MissingKey, BadType, LeftOutType, BadAccess, BadLimits, BadDefault, MissingSub0, CompactForm, MissingMandatory, Memory}
use Rattle.co_sheet_rows.specs.declared.fault.SheetFault.{SheetFault}

-- what is wrong at a line
abbrev pub meaning_at_line : FaultKind → List ℕ
meaning_at_line TooLarge = codes "the line has more than 512 bytes"
meaning_at_line BadLine = codes "the line is no whole section line and no key=value"
meaning_at_line KeyOutsideSection = codes "the line comes before the first section"
meaning_at_line DuplicateSection =
    codes "the section comes a second time, perhaps spelled otherwise"
meaning_at_line DuplicateKey = codes "the key comes a second time in its section"
meaning_at_line MissingSection = codes "the listed object has no section"
meaning_at_line BadNumber = codes "the value is no whole number of at most 64 bits"
meaning_at_line AmbiguousNumber = codes "the leading zero may mean octal"
meaning_at_line BadList =
    codes "SupportedObjects and the keys don't agree, or an index is above 0xFFFF"
meaning_at_line ListedTwice = codes "the index is in the object lists on an earlier line too"
meaning_at_line MissingKey = codes "the entry has no DataType or no AccessType"
meaning_at_line BadType = codes "the code is none that this object or entry may have"
meaning_at_line LeftOutType = codes "the data type isn't supported"
meaning_at_line BadAccess = codes "the access is none of ro, wo, rw, rwr, rww and const"
meaning_at_line BadLimits =
    codes "the limit is outside the type's range, or LowLimit is above HighLimit"
meaning_at_line BadDefault =
    codes "the value is outside the type or the limits, or not in the type's form"
meaning_at_line MissingSub0 = codes "the ARRAY or RECORD has no sub-index 0"
meaning_at_line CompactForm = codes "the compact form isn't read"
meaning_at_line MissingMandatory = codes "1000h, 1001h or 1018h is in no object list"
meaning_at_line Memory = codes "memory ran out"

-- and where no line is to blame
abbrev pub meaning_without_line : FaultKind → List ℕ
meaning_without_line TooLarge = codes "the text has more than 1,048,576 bytes"
meaning_without_line MissingSection = codes "there is no section [MandatoryObjects]"
meaning_without_line kind = meaning_at_line kind

abbrev pub meaning_of : SheetFault → List ℕ
meaning_of fault =
    if fault.line == 0 then meaning_without_line fault.kind else meaning_at_line fault.kind

-- how it is fixed, at a line
abbrev pub fix_at_line : FaultKind → List ℕ
fix_at_line TooLarge = codes "shorten the line; take out comments and sections that are passed over"
fix_at_line BadLine = codes "put the missing `[`, `]` or `=`, or `;` before a comment"
fix_at_line KeyOutsideSection = codes "move it after the line of its section; put `;` before a comment"
fix_at_line DuplicateSection = codes "take one of the two out, or give it the index that was meant"
fix_at_line DuplicateKey = codes "take one of the two out"
fix_at_line MissingSection =
    codes "add the section, as [1019]; or take the object out of its list, unless it is mandatory"
fix_at_line BadNumber = codes "write decimal digits, or 0x and hexadecimal digits"
fix_at_line AmbiguousNumber =
    codes "write the number without the zero or in hexadecimal, or try conode adapt --leading-zeros"
fix_at_line BadList = codes "number the keys 1, 2, 3 without a gap or leading zeros, and count them"
fix_at_line ListedTwice = codes "take one of the two out, and renumber that list"
fix_at_line MissingKey = codes "add it; to an ARRAY or a RECORD add ObjectType=8 or ObjectType=9"
fix_at_line BadType =
    codes
    "give the code that the device has, with ObjectType=2 DataType=0x000F; take an object of ObjectType=5 or 6 out of its list"
fix_at_line LeftOutType =
    codes "try conode adapt, which may give it a supported type; or take the object out of its list"
fix_at_line BadAccess = codes "choose one of the six"
fix_at_line BadLimits = codes "correct the limit; leave it out if the end of the type's range is meant"
fix_at_line BadDefault = codes "correct the value or the limit"
fix_at_line MissingSub0 = codes "describe sub-index 0; an object without sub-indices has ObjectType=7"
fix_at_line CompactForm =
    codes "try conode adapt, or have the sheet's editor write each sub-index as a section of its own"
fix_at_line MissingMandatory = codes "list the three, with their sections"
fix_at_line Memory = codes "run it again with more memory"

-- and where no line is to blame
abbrev pub fix_without_line : FaultKind → List ℕ
fix_without_line TooLarge = codes "take out comments and sections that are passed over"
fix_without_line MissingSection = codes "add it, with 1000h, 1001h and 1018h"
fix_without_line kind = fix_at_line kind

abbrev pub fix_of : SheetFault → List ℕ
fix_of fault = if fault.line == 0 then fix_without_line fault.kind else fix_at_line fault.kind

-- the subject of the standard; none for out of memory
abbrev pub subject_of : FaultKind → List ℕ
subject_of TooLarge = codes "CiA 306-1, structure of an EDS"
subject_of BadLine = codes "CiA 306-1, structure of an EDS"
subject_of KeyOutsideSection = codes "CiA 306-1, structure of an EDS"
subject_of DuplicateSection = codes "CiA 306-1, structure of an EDS"
subject_of DuplicateKey = codes "CiA 306-1, structure of an EDS"
subject_of MissingSection = codes "CiA 306-1, object lists"
subject_of BadNumber = codes "CiA 306-1, numerals"
subject_of AmbiguousNumber = codes "CiA 306-1, numerals"
subject_of BadList = codes "CiA 306-1, object lists"
subject_of ListedTwice = codes "CiA 306-1, object lists"
subject_of MissingKey = codes "CiA 306-1, object description"
subject_of BadType = codes "CiA 301, object codes and data types"
subject_of LeftOutType = codes "CiA 301, data types"
subject_of BadAccess = codes "CiA 306-1, object description"
subject_of BadLimits = codes "CiA 306-1, object description"
subject_of BadDefault = codes "CiA 306-1, object description"
subject_of MissingSub0 = codes "CiA 301, sub-index 0 of arrays and records"
subject_of CompactForm = codes "CiA 306-1, compact storage"
subject_of MissingMandatory = codes "CiA 301, mandatory objects"
subject_of Memory = []

-- The sentence of a fact: what a sheet has where a finding is.
use Rattle.std.specs.Prelude.{ℕ, ℤ, pos, Bool, true, false, List, [], ◌∷◌, ◌++◌, codes, decimal, unwrap_or}
use Rattle.std.specs.Fmt.{digits, signed_decimal}
use Rattle.co_value.specs.declared.data_type.DataType.{DataType}
use Rattle.co_value.specs.Types.{least_of, greatest_of}
use Rattle.co_sheet_text_warnings.specs.declared.known_key.KnownKey.{KnownKey}
use Rattle.co_sheet_text_warnings.specs.Infos.{device_keys, file_keys}
use Rattle.co_sheet_text_warnings.specs.KnownKeys.{key_text}
use Rattle.co_text.specs.Printed.{digits_text}
use Rattle.conode_text.specs.Filled.{filled}
use Rattle.conode_lint_text.specs.MeantSections.{meant_text}
use Rattle.conode_lint_text.specs.declared.fact.Fact.{Fact}
use Rattle.conode_lint_text.specs.declared.fact.Part.{Part}
use Rattle.conode_lint_text.specs.declared.fact.Part.TheVariants.{Number, Code, Hexadecimal, Signed}
use Rattle.conode_lint_text.specs.declared.fact.Fact.TheVariants.{NoCount, ListCount, ListGap, HighIndex, NoMandatoryList, NotListed, LargeText, NoValue, NoMapping, NotOctal, OpenSection, UnopenedSection, Unsupported, ManyEntries, NoObjectType, NoDataType, TypeName, ReservedOfTpdo, ReservedOfRpdo, ReservedCounter, MeantSection, ByteOrderMark, CommentInValue, QuotedValue, NoPairs, DecimalIndex, LowDecimal, LowIndex, FixedType, StandardType, NoType, NoAccess, NoTypeOrAccess, NoFileInfo, FileInfoLacks, NoDeviceInfo, DeviceInfoLacks, NoSubNumber, SubNumber, SubIndex0, DecimalName, RpdoCount, TpdoCount, NoRpdoCount, NoTpdoCount, Identity, NoIdentity, BelowLow, AboveHigh, AboveNegative, ValueOutside, LimitOutside, LimitsCrossed, NegativeHigh, EndMark, Truth, OtherNumber}

-- a number as sheets have it, in hexadecimal digits
unfoldable pub hexadecimal : ℕ → List ℕ
hexadecimal number = codes "0x" ++ digits 16 true number

-- a value in a sentence: a number in decimal digits, the code of a type, a number as sheets have it, a
-- number with its sign
abbrev pub part_text : Part → List ℕ
part_text (Number number) = decimal number
part_text (Code code) = digits_text 16 4 code
part_text (Hexadecimal number) = hexadecimal number
part_text (Signed number) = signed_decimal number

-- of keys those that are missing, after these words, with commas between them
unfoldable pub missing_text : List ℕ → List KnownKey → List Bool → List ℕ
missing_text words (key ∷ keys) (true ∷ missing) =
    words ++ key_text key ++ missing_text (codes ", ") keys missing
missing_text words (key ∷ keys) (false ∷ missing) = missing_text words keys missing
missing_text words keys missing = []

-- which of 1000h, 1001h and 1018h no object list names
abbrev pub not_listed : Bool → Bool → Bool → List ℕ
not_listed true true true = codes "no object list names 1000h, 1001h and 1018h"
not_listed true true false = codes "no object list names 1000h and 1001h"
not_listed true false true = codes "no object list names 1000h and 1018h"
not_listed false true true = codes "no object list names 1001h and 1018h"
not_listed true false false = codes "no object list names 1000h"
not_listed false true false = codes "no object list names 1001h"
not_listed false false identity = codes "no object list names 1018h"

-- the words of a fact, with places for its values; those before the keys that are missing
unfoldable pub words_of : Fact → List ℕ
words_of NoCount = codes "the list has no SupportedObjects"
words_of (ListCount number other) = codes "the list counts % objects and has % of the keys 1 to %"
words_of (ListGap number other third) =
    codes "the list has % of the keys 1 to % that it counts: key % is missing"
words_of (HighIndex number) = codes "the index of line % is above 0xFFFF"
words_of NoMandatoryList = codes "there is no section [MandatoryObjects]"
words_of (NotListed device error identity) = not_listed device error identity
words_of LargeText = codes "the text has more than 1,048,576 bytes"
words_of NoValue = codes "the value is no whole number of at most 64 bits"
words_of NoMapping = codes "PDOMapping is a number, and this is none"
words_of NotOctal =
    codes "a leading zero means octal, which has no digits 8 and 9"
words_of OpenSection = codes "the section line has no `]`"
words_of UnopenedSection = codes "the section line has no `[`"
words_of Unsupported = codes "CiA 301 defines this code, but it isn't supported"
words_of ManyEntries = codes "CiA 301 has an object with sub-indices here"
words_of NoObjectType = codes "ObjectType is a number, and this is none"
words_of NoDataType = codes "DataType is a number, and this is none"
words_of (TypeName code) = codes "DataType is a number: this name's is 0x%"
words_of ReservedOfTpdo = codes "CiA 301 reserves this transmission type of a TPDO"
words_of ReservedOfRpdo = codes "CiA 301 reserves this transmission type of an RPDO"
words_of ReservedCounter = codes "CiA 301 reserves this synchronous counter overflow value"
words_of (MeantSection section) = meant_text section
words_of ByteOrderMark =
    codes "the text begins with a byte order mark of UTF-8, which older tools read as characters"
words_of CommentInValue =
    codes "`;` begins a comment only at the beginning of a line, so it belongs to the value"
words_of QuotedValue = codes "the value is in quotes, which belong to it"
words_of EndMark = codes "the line is a DOS end-of-file mark (1Ah) or NUL bytes"
words_of Truth = codes "TRUE and FALSE are no numbers"
words_of OtherNumber = codes "this is no number of its type"
words_of NoPairs = codes "an OCTET_STRING is pairs of hexadecimal digits"
words_of (DecimalIndex number) =
    codes "the listed object % has no section: % is decimal, 0x% is hexadecimal"
words_of (LowDecimal number) =
    codes "% is below 0x1000, so it isn't read: % is decimal, 0x% is hexadecimal"
words_of (LowIndex number) = codes "% is below 0x1000, so it isn't read"
words_of (FixedType number) = codes "CiA 301 has DataType=0x% here"
words_of (StandardType number) = codes "CiA 301 has DataType=0x% here"
words_of (NoType is_sub) = codes "the entry has no DataType"
words_of (NoAccess is_sub) = codes "the entry has no AccessType"
words_of (NoTypeOrAccess is_sub) = codes "the entry has neither DataType nor AccessType"
words_of (NoFileInfo missing) = codes "there is no section [FileInfo]; it has to have "
words_of (FileInfoLacks missing) = codes "FileInfo lacks "
words_of (NoDeviceInfo missing) = codes "there is no section [DeviceInfo]; it has to have "
words_of (DeviceInfoLacks missing) = codes "DeviceInfo lacks "
words_of (NoSubNumber number) =
    codes "SubNumber is no number, and the number of the object's sub-index sections is %"
words_of (SubNumber number other) =
    codes "SubNumber is %, and the number of the object's sub-index sections is %"
words_of (SubIndex0 number other) =
    codes "sub-index 0 is %, and the highest sub-index of the object is %"
words_of (DecimalName number other) =
    codes "sub-index 0 is %, and the highest sub-index of the object is %: the name sub% is hexadecimal"
words_of (RpdoCount number other) = codes "NrOfRXPDO is %, and the number of the sheet's RPDOs is %"
words_of (TpdoCount number other) = codes "NrOfTXPDO is %, and the number of the sheet's TPDOs is %"
words_of (NoRpdoCount number) =
    codes "NrOfRXPDO is no number, and the number of the sheet's RPDOs is %"
words_of (NoTpdoCount number) =
    codes "NrOfTXPDO is no number, and the number of the sheet's TPDOs is %"
words_of (Identity number other) = codes "the number is %, and that of the identity object is %"
words_of (NoIdentity number) =
    codes "the number can't be read, and that of the identity object is %"
words_of (BelowLow line number) =
    codes "the value is below the LowLimit of line %, which is %"
words_of (AboveHigh line number) =
    codes "the value is above the HighLimit of line %, which is %"
words_of (AboveNegative line number) =
    codes "the value is above the HighLimit of line %, which is a negative number, %"
words_of (ValueOutside t) = codes "the value is outside the type's range, % to %"
words_of (LimitOutside t) = codes "the limit is outside the type's range, % to %"
words_of (LimitsCrossed number) = codes "HighLimit is below the LowLimit of line %"
words_of (NegativeHigh number) =
    codes "HighLimit is a negative number, below the LowLimit of line %"

-- three numbers in the places of words; those past the last place aren't written
abbrev pub numbers : ℕ → ℕ → ℕ → List (List ℕ)
numbers first second third = decimal first ∷ decimal second ∷ decimal third ∷ []

-- the line and the number of a limit; the range of a numeric type
abbrev pub bound_texts : ℕ → ℤ → List (List ℕ)
bound_texts line number = decimal line ∷ signed_decimal number ∷ decimal 0 ∷ []

abbrev pub range_texts : DataType → List (List ℕ)
range_texts t =
    signed_decimal (unwrap_or (least_of t) (pos 0))
    ∷ signed_decimal (unwrap_or (greatest_of t) (pos 0)) ∷ decimal 0 ∷ []

-- the texts in the places of a fact's words
unfoldable pub texts_of : Fact → List (List ℕ)
texts_of (ListCount counted has) = numbers counted has counted
texts_of (ListGap counted has missing) = numbers has counted missing
texts_of (SubNumber number has) = numbers number has 0
texts_of (RpdoCount number has) = numbers number has 0
texts_of (TpdoCount number has) = numbers number has 0
texts_of (SubIndex0 number highest) = numbers number highest 0
texts_of (DecimalName number highest) = numbers number highest number
texts_of (NoSubNumber has) = numbers has 0 0
texts_of (NoRpdoCount has) = numbers has 0 0
texts_of (NoTpdoCount has) = numbers has 0 0
texts_of (BelowLow line number) = bound_texts line number
texts_of (AboveHigh line number) = bound_texts line number
texts_of (AboveNegative line number) = bound_texts line number
texts_of (ValueOutside t) = range_texts t
texts_of (LimitOutside t) = range_texts t
texts_of (HighIndex line) = numbers line 0 0
texts_of (LimitsCrossed line) = numbers line 0 0
texts_of (NegativeHigh line) = numbers line 0 0
texts_of (Identity number other) = hexadecimal number ∷ hexadecimal other ∷ decimal 0 ∷ []
texts_of (NoIdentity other) = hexadecimal other ∷ decimal 0 ∷ decimal 0 ∷ []
texts_of (LowIndex index) = hexadecimal index ∷ decimal 0 ∷ decimal 0 ∷ []
texts_of (DecimalIndex index) = hexadecimal index ∷ decimal index ∷ decimal index ∷ []
texts_of (LowDecimal index) = hexadecimal index ∷ decimal index ∷ decimal index ∷ []
texts_of (FixedType code) = digits_text 16 4 code ∷ decimal 0 ∷ decimal 0 ∷ []
texts_of (StandardType code) = digits_text 16 4 code ∷ decimal 0 ∷ decimal 0 ∷ []
texts_of (TypeName code) = digits_text 16 4 code ∷ decimal 0 ∷ decimal 0 ∷ []
texts_of other = numbers 0 0 0

-- of any fact
unfoldable pub fact_text : Fact → List ℕ
fact_text (NoFileInfo missing) = missing_text (words_of (NoFileInfo missing)) file_keys missing
fact_text (FileInfoLacks missing) =
    missing_text (words_of (FileInfoLacks missing)) file_keys missing
fact_text (NoDeviceInfo missing) =
    missing_text (words_of (NoDeviceInfo missing)) device_keys missing
fact_text (DeviceInfoLacks missing) =
    missing_text (words_of (DeviceInfoLacks missing)) device_keys missing
fact_text fact = filled (words_of fact) (texts_of fact)

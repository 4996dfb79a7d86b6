-- The texts and the column of a finding.
use Rattle.std.specs.Prelude.{ℕ, ◌+◌, ◌==◌, nat_lt, true, false, if◌then◌else◌, List, [], ◌∷◌, length, drop, codes, decimal}
use Rattle.std.specs.List.{position_or_len}
use Rattle.co_text.specs.Printed.{digits_text}
use Rattle.co_sheet_text_warnings.specs.KnownKeys.{key_text}
use Rattle.co_sheet_warnings.specs.declared.accesses.FixedAccess.{FixedAccess}
use Rattle.co_sheet_warnings.specs.declared.accesses.FixedAccess.TheVariants.{ReadOnly, Readable, ReadWrite}
use Rattle.conode_text.specs.Filled.{filled}
use Rattle.conode_json.specs.Characters.{characters_of}
use Rattle.conode_lint_text.specs.Characters.{blanks}
use Rattle.conode_lint_text.specs.FactTexts.{fact_text}
use Rattle.conode_lint_text.specs.declared.fact.Fact.{Fact as SheetFact}
use Rattle.conode_lint_text.specs.declared.fact.Fact.TheVariants.{HighIndex, NoMandatoryList, NotListed, LargeText, NoValue, NoMapping, NotOctal, OpenSection, UnopenedSection, Unsupported, ManyEntries, DecimalName, NoObjectType, TypeName, ReservedOfTpdo, ReservedOfRpdo, ReservedCounter, FileInfoLacks, DeviceInfoLacks, ByteOrderMark, CommentInValue, QuotedValue, NoPairs, EndMark, Truth, OtherNumber, DecimalIndex, LowDecimal, LowIndex, FixedType, NoType, NoAccess, NoTypeOrAccess}
use Rattle.conode_lint_text.specs.declared.finding.About.{About}
use Rattle.conode_lint_text.specs.declared.finding.About.TheVariants.{Line, Object, Entry, Sum, NoSum, Bits, FirstAt, Misspelt, MisspeltBeside, NoSection, CompactPdo, Access, Fact}
use Rattle.conode_lint_text.specs.declared.finding.Finding.{Finding}
use Rattle.conode_lint_text.specs.declared.finding.Place.{Place}
use Rattle.conode_lint_text.specs.declared.finding.Place.TheVariants.{Beginning, Value}
use Rattle.conode_lint_text.specs.declared.finding.Severity.{Severity}
use Rattle.conode_lint_text.specs.declared.finding.Severity.TheVariants.{Error, Warning}

-- the severity, in a word
abbrev pub severity_name : Severity → List ℕ
severity_name Error = codes "error"
severity_name Warning = codes "warning"

-- where a value begins: after `=` and blanks; without `=` where the line begins
abbrev pub value_place : List ℕ → ℕ
value_place characters =
    let equals = position_or_len (λ c. c == 61) characters in
    if nat_lt equals (length characters)
    then equals + 1 + blanks (drop (equals + 1) characters) else blanks characters

-- the number of characters before a place in a line
unfoldable pub place_in : Place → List ℕ → ℕ
place_in Beginning characters = blanks characters
place_in Value characters = value_place characters

-- the column, from 1; 0 if no line is to blame
unfoldable pub column_of : Finding → ℕ
column_of finding =
    if finding.line == 0 then 0 else place_in finding.place (characters_of finding.text.now) + 1

-- the access that CiA 301 has for an entry
abbrev pub access_text : FixedAccess → List ℕ
access_text ReadOnly = codes "CiA 301 has AccessType=ro or const here"
access_text Readable = codes "CiA 301 has AccessType=rw here"
access_text ReadWrite = codes "CiA 301 has AccessType=rw here"

-- what is wrong, after what it is about if the line doesn't show that: an object, an entry, with the
-- node-IDs for which a sum is right, or with how many bits a mapping maps; of what comes twice with the first one's line; of a misspelt key,
-- what is meant; or else what the sheet has there
unfoldable pub about_message : About → List ℕ → List ℕ
about_message Line meaning = meaning
about_message (Object index) meaning = filled (codes "%: %") (digits_text 16 4 index ∷ meaning ∷ [])
about_message (Entry index sub_index) meaning =
    filled (codes "%:%: %") (digits_text 16 4 index ∷ digits_text 16 2 sub_index ∷ meaning ∷ [])
about_message (Sum index sub_index first last) meaning =
    filled (codes "%:%: %; it is right for % to %")
    (digits_text 16 4 index ∷ digits_text 16 2 sub_index ∷ meaning ∷ decimal first ∷ decimal last ∷ [])
about_message (NoSum index sub_index) meaning =
    filled (codes "%:%: %; it is right for none")
    (digits_text 16 4 index ∷ digits_text 16 2 sub_index ∷ meaning ∷ [])
about_message (Bits index bits) meaning =
    filled (codes "%:00: % bits in all: %") (digits_text 16 4 index ∷ decimal bits ∷ meaning ∷ [])
about_message (FirstAt line) meaning =
    filled (codes "%, first at line %") (meaning ∷ decimal line ∷ [])
about_message (Misspelt known) meaning =
    filled (codes "the standard has no such key: did you mean %") (key_text known ∷ [])
about_message (MisspeltBeside known) meaning =
    filled (codes "the standard has no such key: did you mean %, which is there too") (key_text known ∷ [])
about_message (NoSection index) meaning =
    filled (codes "the listed object has no section [%]") (digits_text 16 4 index ∷ [])
about_message (CompactPdo index) meaning =
    filled (codes "the listed object has no section [%]") (digits_text 16 4 index ∷ [])
about_message (Access access) meaning = access_text access
about_message (Fact fact) meaning = fact_text fact

-- what is wrong
unfoldable pub message_of : Finding → List ℕ
message_of finding = about_message finding.about finding.meaning.now

-- how to fix it, where what the sheet has there says more than the kind. An object may be an ARRAY or
-- a RECORD that lacks its type; a sub-index is none.
unfoldable pub fix_with : About → List ℕ → List ℕ
fix_with (Fact (HighIndex line)) fix = codes "give an index of at most four hexadecimal digits"
fix_with (Fact NoMandatoryList) fix = codes "add it, with 1000h, 1001h and 1018h"
fix_with (Fact (NotListed device error identity)) fix =
    codes "list what is missing, with its section"
fix_with (Fact LargeText) fix = codes "take out comments and sections that are passed over"
fix_with (Fact NoValue) fix =
    codes "write decimal digits, 0x and hexadecimal digits, or a sum as $NODEID+0x180"
fix_with (Fact NoMapping) fix =
    codes "write 1 if the entry may be mapped into a PDO, or else 0"
fix_with (Fact NotOctal) fix =
    codes "write the number without the zero, or try conode adapt --leading-zeros decimal"
fix_with (Fact OpenSection) fix =
    codes "put `]` after the name, or take the section out where the sheet has it already; until then its lines aren't read, so a listed object may lack them"
fix_with (Fact UnopenedSection) fix =
    codes "put `[` before the name; until then the section before has its lines, so their keys may come twice there, and a listed object may have no section"
fix_with (Fact Unsupported) fix = codes "take the object out of its list"
fix_with (Fact ManyEntries) fix =
    codes "describe its sub-indices, with ObjectType=8 of 1003h or ObjectType=9 of a mapping; or take the object out of its list"
fix_with (Fact (DecimalName number highest)) fix =
    codes "write the sub-index in hexadecimal in each section's name, as subA for 10; or give the highest sub-index"
fix_with (Fact NoObjectType) fix =
    codes "write 0x7 for a VAR, 0x8 for an ARRAY, 0x9 for a RECORD, 0x2 for a DOMAIN"
fix_with (Fact (TypeName code)) fix = codes "write that number"
fix_with (Fact ReservedOfTpdo) fix = codes "give 0 to 240, or from 252 on"
fix_with (Fact ReservedOfRpdo) fix = codes "give 0 to 240, 254 or 255"
fix_with (Fact ReservedCounter) fix = codes "give 0, or 2 to 240"
fix_with (Fact (FileInfoLacks missing)) fix =
    codes "add the missing keys, each with a value: one without it counts as missing"
fix_with (Fact (DeviceInfoLacks missing)) fix =
    codes "add the missing keys, each with a value: one without it counts as missing"
fix_with (Fact ByteOrderMark) fix = codes "save it without the mark"
fix_with (Fact CommentInValue) fix = codes "put the comment on a line of its own"
fix_with (Fact QuotedValue) fix = codes "take the quotes out"
fix_with (Fact EndMark) fix = codes "take these bytes out"
fix_with (Fact Truth) fix = codes "write 1 for TRUE, 0 for FALSE"
fix_with (Fact OtherNumber) fix =
    codes "write a REAL as 1.5, not as its bits; of another type give a number within its range"
fix_with (Fact NoPairs) fix = codes "write pairs of hexadecimal digits without blanks, as 00A1FF"
fix_with (Fact (DecimalIndex index)) fix =
    codes "write the index in hexadecimal, after 0x; or add the section"
fix_with (NoSection index) fix =
    codes "add it; or take the object out of its list, unless it is mandatory"
fix_with (CompactPdo index) fix =
    codes "try conode adapt, which writes out the PDOs that CompactPDO describes; or add it"
fix_with (Fact (LowDecimal index)) fix = codes "write the index in hexadecimal, after 0x"
fix_with (Fact (LowIndex index)) fix = codes "take it out of the list"
fix_with (MisspeltBeside known) fix = codes "take it out"
fix_with (Fact (FixedType code)) fix =
    codes "give that type, or take the object out of its list, unless it is mandatory"
fix_with (Fact (NoType true)) fix = codes "add DataType"
fix_with (Fact (NoAccess true)) fix = codes "add AccessType"
fix_with (Fact (NoTypeOrAccess true)) fix = codes "add DataType and AccessType"
fix_with (Fact (NoType false)) fix =
    codes "add DataType; to an ARRAY or a RECORD add ObjectType=8 or ObjectType=9"
fix_with (Fact (NoAccess false)) fix =
    codes "add AccessType; to an ARRAY or a RECORD add ObjectType=8 or ObjectType=9"
fix_with (Fact (NoTypeOrAccess false)) fix =
    codes "add DataType and AccessType; to an ARRAY or a RECORD add ObjectType=8 or ObjectType=9"
fix_with about fix = fix

-- the same of a fact
abbrev pub fact_fix : SheetFact → List ℕ → List ℕ
fact_fix fact fix = fix_with (Fact fact) fix

abbrev pub fix_of : Finding → List ℕ
fix_of finding = fix_with finding.about finding.fix.now

-- how to fix it, and the subject of the standard
unfoldable pub help_of : List ℕ → List ℕ → List ℕ
help_of fix subject =
    if length subject == 0 then fix else filled (codes "% (%)") (fix ∷ subject ∷ [])

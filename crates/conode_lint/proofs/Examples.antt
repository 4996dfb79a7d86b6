-- Formats, the node-ID and names that pass, evaluated.
use Rattle.std.proofs.Common.{◌≡◌, true, false, [], ◌∷◌, ◌++◌, codes, map, Some, None, refl}
use Rattle.co_sheet.specs.Content.{SheetContent}
use Rattle.conode_lint_marks.specs.declared.mark.OtherFormat.TheVariants.{Xml, EtherNetIp, Utf16, CarriageReturns, NoSection, DoubledReturns}
use Rattle.conode_lint.specs.Allowed.{names_after, names_allowed, names_in, names_on, passes_by}
use Rattle.conode_lint.specs.Formats.{begins_with, format_line, found_format, has_line, has_other_end, has_text, is_text, other_format}
use Rattle.conode_lint.specs.Marks.{format_of, node_for}

-- ---- formats

fronts : begins_with (codes "<?xml") (codes "<?XML v") ∷ begins_with (codes "<?xml") (codes "<?xml") ∷ begins_with (codes "<?xml") (codes "<?xm") ∷ begins_with (codes "<?xml") (codes "?<?xml") ∷ []
    ≡ true ∷ true ∷ false ∷ false ∷ []
fronts = refl

xml : other_format (codes "; a" ∷ codes "  <iso15745ProfileContainer>" ∷ []) ≡ Some Xml
unfolding other_format has_line
xml = refl

-- either order of bytes; of the first line alone
utf16 : other_format ((0xFF ∷ 0xFE ∷ codes "[") ∷ codes "<?xml" ∷ []) ∷ other_format ((0xFE ∷ 0xFF ∷ []) ∷ []) ∷ other_format ((0xFF ∷ 0xFF ∷ []) ∷ []) ∷ other_format ((0xFF ∷ []) ∷ []) ∷ other_format (codes ";" ∷ (0xFF ∷ 0xFE ∷ []) ∷ []) ∷ other_format [] ∷ []
    ≡ Some Utf16 ∷ Some Utf16 ∷ Some NoSection ∷ Some NoSection ∷ Some NoSection ∷ None ∷ []
unfolding other_format has_line has_text
utf16 = refl

-- no line begins a section, and one has a text: a recording; comments, blanks and control characters alone are none
without_section : other_format (codes "; a" ∷ codes "" ∷ codes "(1.000000) can0 705#00" ∷ []) ∷ other_format (codes "(1.000000) can0 705#00" ∷ codes " [1000" ∷ []) ∷ other_format (codes ";a" ∷ codes "  " ∷ (0 ∷ 0 ∷ []) ∷ []) ∷ []
    ≡ Some NoSection ∷ None ∷ None ∷ []
unfolding other_format has_line has_text
without_section = refl

-- one line with CR in it or at its end, also of a recording; of XML it is XML; two lines
returns : other_format ((codes "[FileInfo]" ++ 13 ∷ codes "[1000]") ∷ []) ∷ other_format ((codes "; a" ++ 13 ∷ []) ∷ []) ∷ other_format ((codes "(1.0) can0 705#00" ++ 13 ∷ 13 ∷ codes "a") ∷ []) ∷ other_format ((codes "<?xml" ++ 13 ∷ []) ∷ [])
    ∷ other_format (codes "[FileInfo]" ∷ []) ∷ other_format ((codes "[FileInfo]" ++ 13 ∷ []) ∷ codes "" ∷ []) ∷ []
    ≡ Some CarriageReturns ∷ Some CarriageReturns ∷ Some CarriageReturns ∷ Some Xml ∷ None ∷ None ∷ []
unfolding other_format has_line has_text
returns = refl

-- CR left at the end of each line but the last, which may lack its end; a second line without it, an empty one too; one line; a
-- recording has no section, and is no such sheet
doubled : found_format ((codes "[1000]" ++ 13 ∷ []) ∷ (13 ∷ []) ∷ (codes "DataType=7" ++ 13 ∷ []) ∷ []) ∷ found_format ((codes "[1000]" ++ 13 ∷ []) ∷ codes "DataType=7" ∷ []) ∷ found_format ((codes "[1000]" ++ 13 ∷ []) ∷ codes "DataType=7" ∷ codes "" ∷ [])
    ∷ found_format ((codes "[1000]" ++ 13 ∷ []) ∷ [] ∷ (13 ∷ []) ∷ []) ∷ found_format (codes "[1000]" ∷ (13 ∷ []) ∷ []) ∷ found_format (codes "[1000]" ∷ []) ∷ found_format ((codes "[1000]" ++ 13 ∷ []) ∷ [])
    ∷ found_format ((codes "(1.0) can0 705#00" ++ 13 ∷ []) ∷ (codes "(2.0) can0 705#00" ++ 13 ∷ []) ∷ []) ∷ found_format [] ∷ []
    ≡ Some DoubledReturns ∷ Some DoubledReturns ∷ None ∷ None ∷ None ∷ None ∷ Some CarriageReturns ∷ Some NoSection ∷ None ∷ []
unfolding other_format has_line has_text has_other_end
doubled = refl

-- of that the first line shows it; other commands read such a sheet
doubled_shown : format_line DoubledReturns ((codes ";" ++ 13 ∷ []) ∷ codes "[1000]" ∷ []) ≡ 1
unfolding format_line
doubled_shown = refl

doubled_read : other_format ((codes "[1000]" ++ 13 ∷ []) ∷ (codes "DataType=7" ++ 13 ∷ []) ∷ []) ≡ None
unfolding other_format has_line has_text
doubled_read = refl

line_texts : map is_text (codes "" ∷ codes "a" ∷ codes "!" ∷ codes ";" ∷ codes " a" ∷ (31 ∷ []) ∷ (255 ∷ []) ∷ []) ≡ false ∷ true ∷ true ∷ false ∷ false ∷ false ∷ true ∷ []
line_texts = refl

-- both lines, in any order; one of them alone is none
ethernet_ip : other_format (codes "VendCode = 1;" ∷ codes "[device]" ∷ []) ≡ Some EtherNetIp
unfolding other_format has_line
ethernet_ip = refl

-- a sheet of CANopen may have a section [Device] of its maker
of_canopen : other_format (codes "[Device]" ∷ codes "VendCode=1" ∷ codes " [deviceinfo]" ∷ []) ≡ None
unfolding other_format has_line
of_canopen = refl

of_canopen_too : other_format (codes "[MandatoryObjects]" ∷ codes "[Device]" ∷ codes "VendCode=1" ∷ []) ≡ None
unfolding other_format has_line
of_canopen_too = refl

device_alone : other_format (codes "[Device]" ∷ codes "Vendor = 1" ∷ []) ≡ None
unfolding other_format has_line
device_alone = refl

code_alone : other_format (codes "[DeviceInfo]" ∷ codes "VendCode=1" ∷ []) ≡ None
unfolding other_format has_line
code_alone = refl

-- the line that shows it: after others, in another case, after blanks; the first of two; of UTF-16 and of CR alone the first
shown : format_line Xml (codes "; a" ∷ codes "" ∷ codes " <?XML v" ∷ codes "<ISO15745" ∷ []) ∷ format_line Xml (codes "a <?xml" ∷ codes "<iso15745" ∷ []) ∷ format_line EtherNetIp (codes "[File]" ∷ codes "VendCode = 1;" ∷ codes "[DEVICE]" ∷ codes "[Device]" ∷ [])
    ∷ format_line Utf16 ((0xFF ∷ 0xFE ∷ []) ∷ codes "<?xml" ∷ []) ∷ format_line NoSection (codes "; a" ∷ codes " b" ∷ codes "c" ∷ []) ∷ format_line CarriageReturns ((codes ";" ++ 13 ∷ []) ∷ []) ∷ [] ≡ 3 ∷ 2 ∷ 3 ∷ 1 ∷ 2 ∷ 1 ∷ []
unfolding format_line
shown = refl

-- without a fault it is a sheet, whatever its comments
sheet_format : format_of (codes "<?xml" ∷ []) [] ≡ None
sheet_format = refl

-- ---- the node-ID: given, the sheet's own, none

abbrev sheet : SheetContent
sheet = record { objects = []; rows = []; sections = []; notes = []; dummies = []; node_id = Some 7 }

nodes : node_for (Some 5) (Some sheet) ∷ node_for None (Some sheet) ∷ node_for (Some 5) None ∷ node_for None None ∷ [] ≡ Some 5 ∷ Some 7 ∷ Some 5 ∷ None ∷ []
nodes = refl

-- ---- names that a sheet allows: with blanks around `;` and after `:`, or without; the words in any case of letters; no name, no comment, other words; several

allowed : names_in (codes "; lint: allow Unlisted" ∷ codes ";lint: allow BadList" ∷ codes " ;  lint: allow  SubNumber " ∷ codes ";lint: allow " ∷ codes "lint: allow LongLine" ∷ codes ";lint:allow Utf8"
    ∷ codes "; lint:allow NodeId" ∷ codes ";lint:   allow DateFormat" ∷ codes ";lint:allow" ∷ codes ";lint:allowLongLine" ∷ codes ";lint :allow LongLine" ∷ codes ";lintallow LongLine" ∷ codes ";lint:allows LongLine" ∷ codes ";lint:"
    ∷ codes ";; lint: allow LongLine" ∷ codes "; Lint: Allow ListOrder" ∷ codes ";LINT:ALLOW EqualNames" ∷ codes "" ∷ codes ";" ∷ codes "DefaultValue=1 ; lint: allow LongLine" ∷ [])
    ≡ codes "Unlisted" ∷ codes "BadList" ∷ codes "SubNumber" ∷ codes "Utf8" ∷ codes "NodeId" ∷ codes "DateFormat" ∷ codes "ListOrder" ∷ codes "EqualNames" ∷ []
unfolding names_on names_allowed names_after
allowed = refl

-- commas are between names, and what follows a name after a blank is a remark
several : names_in (codes ";lint: allow Unlisted,BadList" ∷ codes "; lint: allow A, B ,, C" ∷ (codes "; lint: allow D" ++ 9 ∷ codes "E") ∷ codes "; lint: allow Unlisted but not BadList" ∷ codes "; lint: allow A; B" ∷ [])
    ≡ codes "Unlisted" ∷ codes "BadList" ∷ codes "A" ∷ codes "B" ∷ [] ∷ codes "C" ∷ codes "D" ∷ codes "Unlisted" ∷ codes "A;" ∷ []
unfolding names_on names_allowed names_after
several = refl

-- ---- names that pass: by the words, by the sheet; in this case of letters alone

passing : passes_by (codes "BadList" ∷ []) (codes "Unlisted" ∷ []) (codes "BadList") ∷ passes_by (codes "BadList" ∷ []) (codes "Unlisted" ∷ []) (codes "Unlisted")
    ∷ passes_by (codes "BadList" ∷ []) (codes "Unlisted" ∷ []) (codes "badlist") ∷ passes_by [] [] (codes "BadList") ∷ [] ≡ true ∷ true ∷ false ∷ false ∷ []
unfolding passes_by
passing = refl

-- The words about a text that is no data sheet of CANopen.
use Rattle.std.specs.Prelude.{List, ℕ, codes}
use Rattle.conode_lint_marks.specs.declared.mark.OtherFormat.{OtherFormat}
use Rattle.conode_lint_marks.specs.declared.mark.OtherFormat.TheVariants.{Xml, EtherNetIp, Utf16, CarriageReturns, NoSection, DoubledReturns}

-- what it is
abbrev pub format_meaning : OtherFormat → List ℕ
format_meaning Xml = codes "this is XML, as an XDD (CiA 311) is, and no EDS"
format_meaning EtherNetIp = codes "this is an EDS of EtherNet/IP or DeviceNet, and none of CANopen"
format_meaning Utf16 = codes "this is in UTF-16, and an EDS is in ASCII"
format_meaning CarriageReturns = codes "this is one line, since its lines end with CR alone"
format_meaning NoSection = codes "this is no EDS: it has no section of an object, as [1000]"
format_meaning DoubledReturns =
    codes "its lines end with CR, CR and LF, as after two conversions of line ends"

-- what to do
abbrev pub format_fix : OtherFormat → List ℕ
format_fix Xml = codes "export it as an EDS"
format_fix EtherNetIp = codes "ask the vendor for the EDS of its CANopen device"
format_fix Utf16 = codes "save it as UTF-8"
format_fix CarriageReturns = codes "end the lines with CR and LF, or with LF alone"
format_fix NoSection =
    codes "lint a data sheet, EDS or DCF; a recording is no data sheet: conode explain reads it"
format_fix DoubledReturns = codes "end the lines with CR and LF, or with LF alone, or try conode adapt"

abbrev pub format_subject : List ℕ
format_subject = codes "CiA 306-1, structure of an EDS"

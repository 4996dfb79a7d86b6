-- Which texts with faults are of another format, and no data sheet of CANopen.
use Rattle.std.specs.Prelude.{ℕ, ◌+◌, ◌-◌, nat_eq, nat_le, nat_lt, ◌==◌, Bool, true, false, not, ◌&&◌, ◌||◌, if◌then◌else◌, List, [], ◌∷◌, length, slice_index, take, codes, Option, Some, None}
use Rattle.std.specs.List.{list_any, position_or_len, starts_with}
use Rattle.std.specs.Option.{option_or}
use Rattle.co_sheet_text.specs.Text.{same_name, trim}
use Rattle.co_sheet_text_warnings.specs.Lines.{text_lines}
use Rattle.conode_lint_marks.specs.declared.mark.OtherFormat.{OtherFormat}
use Rattle.conode_lint_marks.specs.declared.mark.OtherFormat.TheVariants.{Xml, EtherNetIp, Utf16, CarriageReturns, NoSection, DoubledReturns}

-- a line begins with a word, in any case of letters
abbrev pub begins_with : List ℕ → List ℕ → Bool
begins_with word line =
    nat_le (length word) (length line) && same_name (take (length word) line) word

-- one of the lines does, after its blanks
unfoldable pub has_line : List (List ℕ) → List ℕ → Bool
has_line lines word = list_any (λ line. begins_with word (trim line)) lines

-- the first line begins with a byte order mark of UTF-16 (Unicode), of either order
abbrev pub is_utf16 : List ℕ → Bool
is_utf16 line =
    starts_with nat_eq line (0xFF ∷ 0xFE ∷ []) || starts_with nat_eq line (0xFE ∷ 0xFF ∷ [])

abbrev pub begins_in_utf16 : List (List ℕ) → Bool
begins_in_utf16 [] = false
begins_in_utf16 (line ∷ lines) = is_utf16 line

-- an EDS of EtherNet/IP, without a section that each EDS of CANopen has: a maker's own section may be
-- named [Device]
abbrev pub is_ethernet_ip : List (List ℕ) → Bool
is_ethernet_ip lines =
    has_line lines (codes "[Device]") && has_line lines (codes "VendCode")
    && not (has_line lines (codes "[DeviceInfo]") || has_line lines (codes "[MandatoryObjects]"))

-- one line, with CR in it: a text whose lines end with CR alone, since LF ends a line
abbrev pub has_returns : List (List ℕ) → Bool
has_returns [] = false
has_returns (line ∷ []) = list_any (λ b. b == 13) line
has_returns (line ∷ other ∷ lines) = false

-- a line has a text that is no comment; one that begins with a control character has none
abbrev pub is_text : List ℕ → Bool
is_text [] = false
is_text (b ∷ line) = nat_lt 32 b && not (b == 59)

unfoldable pub has_text : List (List ℕ) → Bool
has_text lines = list_any (λ line. is_text (trim line)) lines

-- lines of which none begins a section, as in a recording
abbrev pub is_without_section : List (List ℕ) → Bool
is_without_section lines = not (has_line lines (codes "[")) && has_text lines

-- a text in UTF-16; XML, as an XDD (CiA 311); an EDS of EtherNet/IP; with CR alone at the ends of lines; a
-- text without a section
unfoldable pub other_format : List (List ℕ) → Option OtherFormat
other_format lines =
    if begins_in_utf16 lines then Some Utf16
    else if has_line lines (codes "<?xml") || has_line lines (codes "<ISO15745") then Some Xml
    else if is_ethernet_ip lines then Some EtherNetIp
    else if has_returns lines then Some CarriageReturns
    else if is_without_section lines then Some NoSection
    else None

-- the last byte of a line isn't CR; one of the lines is such a line
abbrev pub lacks_return : List ℕ → Bool
lacks_return line = not (slice_index line (length line - 1) == 13)

unfoldable pub has_other_end : List (List ℕ) → Bool
has_other_end lines = list_any lacks_return lines

-- several lines of which each but the last ends with CR, once the end of the line, CR and LF, is cut
-- off: a text whose line ends were converted twice
abbrev pub has_doubled_returns : List (List ℕ) → Bool
has_doubled_returns lines =
    nat_lt 1 (length lines) && not (has_other_end (take (length lines - 1) lines))

-- the format that lint finds: another one, or that of a data sheet whose lines end with CR, CR and LF,
-- which other commands read
abbrev pub found_format : List (List ℕ) → Option OtherFormat
found_format lines =
    option_or (other_format lines)
    (if has_doubled_returns lines then Some DoubledReturns else None)

-- the format of a text, if it is another one
abbrev pub text_format : List ℕ → Option OtherFormat
text_format text = other_format (text_lines text)

-- a line shows the format of its text: one that begins with the word of XML or with [Device]; in UTF-16,
-- with CR alone and with CR, CR and LF the first one does; one with a text, where no line begins a section
abbrev pub shows : OtherFormat → List ℕ → Bool
shows Xml line = begins_with (codes "<?xml") (trim line) || begins_with (codes "<ISO15745") (trim line)
shows EtherNetIp line = begins_with (codes "[Device]") (trim line)
shows Utf16 line = true
shows CarriageReturns line = true
shows NoSection line = is_text (trim line)
shows DoubledReturns line = true

-- the first line that shows the format, from 1
unfoldable pub format_line : OtherFormat → List (List ℕ) → ℕ
format_line format lines = 1 + position_or_len (shows format) lines

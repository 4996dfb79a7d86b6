-- Which bad lines can't have had a frame of the bus that is compared.
use Rattle.std.specs.Prelude.{ℕ, ◌+◌, ◌==◌, nat_lt, Bool, true, false, not, ◌&&◌, ◌||◌, if◌then◌else◌, List, [], ◌∷◌, length, take, drop, Option, Some, None, Result, Ok, Err}
use Rattle.std.specs.List.{prefix_len}
use Rattle.co_text.specs.Texts.{is_blank}
use Rattle.conode_record.specs.declared.bad_line.BadLine.{BadLine}
use Rattle.conode_record.specs.declared.line.RecordLine.{RecordLine}
use Rattle.conode_record.specs.declared.line.RecordLine.TheVariants.{Skipped, Frame}
use Rattle.conode_record.specs.Lines.{line_in}

-- ---- lines that have none

-- a comment begins with `;`, as in a trace and a .trc, with `//`, as in a .asc, or with `#` and a blank: `#0105` may be
-- what is left of a frame's line
abbrev pub begins_comment : ℕ → List ℕ → Bool
begins_comment first [] = (first == 59) || (first == 35)
begins_comment first (second ∷ more) = (first == 59) || ((first == 47) && (second == 47) || (first == 35) && is_blank second)

-- a line of blanks, or a comment, perhaps with blanks before it
unfoldable pub has_no_frame : List ℕ → Bool
has_no_frame [] = true
has_no_frame (byte ∷ more) = if is_blank byte then has_no_frame more else begins_comment byte more

-- ---- lines that name an interface

abbrev pub is_no_sign : ℕ → Bool
is_no_sign byte = not (byte == 35)

-- `R` or `T`
abbrev pub is_direction : List ℕ → Bool
is_direction [] = false
is_direction (mark ∷ []) = (mark == 82) || (mark == 84)
is_direction (mark ∷ other ∷ more) = false

-- No blank, but before a direction: where a line feed was lost, or lines between, a second line has some.
unfoldable pub is_alone : List ℕ → Bool
is_alone [] = true
is_alone (byte ∷ more) = if is_blank byte then is_direction more else is_alone more

abbrev pub interface_of : Result RecordLine BadLine → Option (List ℕ)
interface_of (Ok (Frame frame)) = Some frame.interface
interface_of (Ok Skipped) = None
interface_of (Err wrong) = None

-- The interface of a bad line: up to the number sign it is a frame's line as `candump -L` writes it, and what follows is
-- of that frame alone.
unfoldable pub interface_in : List ℕ → Option (List ℕ)
interface_in line =
    let sign = prefix_len is_no_sign line in
    if nat_lt sign (length line) && is_alone (drop (sign + 1) line) then interface_of (line_in (take (sign + 1) line)) else None

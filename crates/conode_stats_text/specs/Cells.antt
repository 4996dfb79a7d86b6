-- Numbers in columns.
use Rattle.std.specs.Prelude.{ℕ, ◌-◌, ◌/◌, ◌%◌, List, ◌++◌, length, codes, decimal, replicate, Option, Some, None}
use Rattle.co_text.specs.Printed.{digits_text}
use Rattle.conode_explain_text.specs.Columns.{escaped_name}

-- right-aligned in a column of this width
abbrev pub right : ℕ → List ℕ → List ℕ
right width text = replicate (width - length text) 32 ++ text

-- a figure: right-aligned, with a blank before it, also where it is wider than the column
abbrev pub figure : ℕ → List ℕ → List ℕ
figure width text = codes " " ++ right (width - 1) text

-- left-aligned
abbrev pub left : ℕ → List ℕ → List ℕ
left width text = text ++ replicate (width - length text) 32

-- thousandths, as microseconds are of milliseconds
unfoldable pub thousandths : ℕ → List ℕ
thousandths number = decimal (number / 1000) ++ codes "." ++ digits_text 10 3 (number % 1000)

unfoldable pub tenths : ℕ → List ℕ
tenths number = decimal (number / 10) ++ codes "." ++ digits_text 10 1 (number % 10)

-- microseconds in seconds
unfoldable pub seconds : ℕ → List ℕ
seconds micros = decimal (micros / 1000000) ++ codes "." ++ digits_text 10 6 (micros % 1000000)

-- a hyphen for what isn't there
abbrev pub or_none : (ℕ → List ℕ) → Option ℕ → List ℕ
or_none text None = codes "-"
or_none text (Some number) = text number

-- a name; bytes that can't be printed are escaped, as `\x07`
abbrev pub name_text : List ℕ → List ℕ
name_text name = escaped_name name

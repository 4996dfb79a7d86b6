-- The stamp, the interface and the identifier of a line, read from its front.
use Rattle.std.specs.Prelude.{ℕ, ◌+◌, ◌-◌, ◌*◌, ◌==◌, nat_le, nat_lt, ◌&&◌, if◌then◌else◌, List, take, drop, slice_index, Option, Some, None, fold, unwrap_or}
use Rattle.std.specs.List.{prefix_len, list_all}
use Rattle.std.specs.Option.{option_map}
use Rattle.conode_record.specs.declared.fields.Identifier.{Identifier}
use Rattle.conode_record.specs.declared.fields.Identifier.TheVariants.{Base, Extended, Error}
use Rattle.co_text.specs.Texts.{◌>>=◌, is_blank, hex_digit, is_hex_digit}
use Rattle.conode_trace.specs.FrameLines.{past_byte, number_at, is_name_byte}

-- the stamp in microseconds: seconds and microseconds in parentheses, a point between them; and
-- what follows
unfoldable pub stamp_at : List ℕ → Option (ℕ × List ℕ)
stamp_at text = do
  opened ← past_byte 40 text
  seconds ← number_at 1 12 opened
  point ← past_byte 46 seconds.1
  micros ← number_at 6 6 point
  rest ← past_byte 41 micros.1
  Some (1000000 * seconds.0 + micros.0, rest)

-- what follows the blanks at the front, one at least
abbrev pub past_blanks : List ℕ → Option (List ℕ)
past_blanks text =
    let n = prefix_len is_blank text in if n == 0 then None else Some (drop n text)

-- the bytes at the front that are no blanks, 1 to 15, and what follows
abbrev pub name_at : List ℕ → Option (List ℕ × List ℕ)
name_at text =
    let n = prefix_len is_name_byte text in
    if nat_lt 0 n && nat_le n 15 then Some (take n text, drop n text) else None

-- the interface between blanks, and what follows
unfoldable pub interface_at : List ℕ → Option (List ℕ × List ℕ)
interface_at text = do
  name ← past_blanks text
  found ← name_at name
  rest ← past_blanks found.1
  Some (found.0, rest)

-- hexadecimal digits as a number
abbrev pub hex_value : List ℕ → ℕ
hex_value digits = fold (λ number byte. 16 * number + unwrap_or (hex_digit byte) 0) 0 digits

-- a text of hexadecimal digits and nothing else as a number
abbrev pub hex_number : List ℕ → Option ℕ
hex_number digits = if list_all is_hex_digit digits then Some (hex_value digits) else None

-- eight digits: an identifier of 29 bits, or with bit 29 the class of an error frame
abbrev pub eight_digits : ℕ → Option Identifier
eight_digits number =
    if nat_lt number 0x20000000 then Some (Extended number)
    else (if nat_lt number 0x40000000 then Some (Error (number - 0x20000000)) else None)

-- three digits, at most 7FF, or eight, then the number sign; and what follows
unfoldable pub identifier_at : List ℕ → Option (Identifier × List ℕ)
identifier_at text =
    if slice_index text 3 == 35
    then (hex_number (take 3 text) >>= λ id. if nat_le id 0x7FF then Some (Base id, drop 4 text) else None)
    else (if slice_index text 8 == 35
    then (hex_number (take 8 text) >>= λ number. option_map (λ id. (id, drop 9 text)) (eight_digits number))
    else None)

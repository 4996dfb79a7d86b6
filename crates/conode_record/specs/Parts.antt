-- Parts that several forms of log have.
use Rattle.std.specs.Prelude.{ℕ, zero, suc, ◌+◌, ◌-◌, ◌*◌, ◌==◌, nat_le, nat_lt, if◌then◌else◌, List, [], ◌∷◌, length, Option, Some, None, codes, bytes_eq}
use Rattle.std.specs.Option.{option_map}
use Rattle.co_text.specs.Texts.{◌>>=◌, decimal_in}
use Rattle.conode_record.specs.declared.content.Direction.{Direction}
use Rattle.conode_record.specs.declared.content.Direction.TheVariants.{Received, Sent}
use Rattle.conode_record.specs.declared.fields.Identifier.{Identifier}
use Rattle.conode_record.specs.declared.fields.Identifier.TheVariants.{Base as Short, Extended, Error}
use Rattle.conode_record.specs.declared.frame.LogContent.{LogContent}
use Rattle.conode_record.specs.declared.frame.LogContent.TheVariants.{Data}
use Rattle.conode_record.specs.declared.frame.LogLine.{LogLine}
use Rattle.conode_record.specs.declared.frame.LogLine.TheVariants.{Frame}
use Rattle.conode_record.specs.declared.frame.Place.{Place}
use Rattle.conode_record.specs.declared.numbers.Base.{Base}
use Rattle.conode_record.specs.Numbers.{byte_of}
use Rattle.conode_record.specs.Words.{word_at}

-- an identifier of 11 bits
abbrev pub short_id : ℕ → Option Identifier
short_id number = if nat_lt number 0x800 then Some (Short number) else None

-- an identifier of 29 bits
abbrev pub extended_id : ℕ → Option Identifier
extended_id number = if nat_lt number 0x20000000 then Some (Extended number) else None

-- the first word as a byte, and what follows
unfoldable pub byte_at : Base → List ℕ → Option (ℕ × List ℕ)
byte_at base text = word_at text >>= λ word. option_map (λ byte. (byte, word.1)) (byte_of base word.0)

-- the next words, so many, as bytes, and what follows
unfoldable pub bytes_at : Base → ℕ → List ℕ → Option (List ℕ × List ℕ)
bytes_at base zero text = Some ([], text)
bytes_at base (suc count) text = do
  byte ← byte_at base text
  more ← bytes_at base count byte.1
  Some (byte.0 ∷ more.0, more.1)

-- the interface at the front: its name, and what follows
unfoldable pub name_at : List ℕ → Option (List ℕ × List ℕ)
name_at text = word_at text >>= λ word. if nat_le (length word.0) 15 then Some word else None

-- the channel at the front, 1 to 255, and what follows
unfoldable pub channel_at : List ℕ → Option (ℕ × List ℕ)
channel_at text = word_at text >>= λ word. option_map (λ channel. (channel, word.1)) (decimal_in 1 255 word.0)

-- `Rx` or `Tx`
abbrev pub direction_of : List ℕ → Option Direction
direction_of word =
    if bytes_eq word (codes "Rx") then Some Received
    else (if bytes_eq word (codes "Tx") then Some Sent else None)

-- the direction at the front, and what follows
unfoldable pub direction_at : List ℕ → Option (Direction × List ℕ)
direction_at text = word_at text >>= λ word. option_map (λ direction. (direction, word.1)) (direction_of word.0)

-- a number from 0 to the most at the front, in decimal digits, and what follows
unfoldable pub count_at : ℕ → List ℕ → Option (ℕ × List ℕ)
count_at most text = word_at text >>= λ word. option_map (λ count. (count, word.1)) (decimal_in 0 most word.0)

-- how many bytes a CAN FD frame has by its data length code (ISO 11898-1)
abbrev pub fd_length : ℕ → ℕ
fd_length code =
    if nat_le code 8 then code
    else (if nat_le code 12 then 12 + 4 * (code - 9) else (if code == 13 then 32 else (if code == 14 then 48 else 64)))

-- the line of a frame
abbrev pub frame_of : ℕ → Place → Identifier → LogContent → Option Direction → LogLine
frame_of micros place id content direction =
    Frame (record { micros = micros; place = place; id = id; content = content; direction = direction })

-- an error frame without details in the log, as other tools write it: a bus error (class 80h), and
-- eight bytes of 0
abbrev pub error_frame : ℕ → Place → LogLine
error_frame micros place =
    frame_of micros place (Error 0x80) (Data (0 ∷ 0 ∷ 0 ∷ 0 ∷ 0 ∷ 0 ∷ 0 ∷ 0 ∷ [])) None

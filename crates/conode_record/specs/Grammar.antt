-- The grammar of a recording's line, as `candump -L` writes it: a line is its parts, one after the
-- other. It doesn't say how a line is read.
use Rattle.std.specs.Prelude.{◌≡◌, ℕ, ◌+◌, ◌*◌, ◌<◌, ◌≤◌, true, ◌⊎◌, List, [], ◌∷◌, ◌++◌, length, Option, Some, None}
use Rattle.std.specs.List.{list_all}
use Rattle.conode_record.specs.declared.content.Content.{Content}
use Rattle.conode_record.specs.declared.content.Content.TheVariants.{Data, Remote, Fd}
use Rattle.conode_record.specs.declared.content.Direction.{Direction}
use Rattle.conode_record.specs.declared.content.Direction.TheVariants.{Received, Sent}
use Rattle.conode_record.specs.declared.fields.Identifier.{Identifier}
use Rattle.conode_record.specs.declared.fields.Identifier.TheVariants.{Base, Extended, Error}
use Rattle.conode_record.specs.declared.line.Record.{Record}
use Rattle.conode_record.specs.declared.line.RecordLine.{RecordLine}
use Rattle.conode_record.specs.declared.line.RecordLine.TheVariants.{Skipped, Frame}
use Rattle.co_text.specs.Texts.{is_blank, is_digit, hex_digit, decimal_value}
use Rattle.conode_trace.specs.FrameLines.{is_name_byte}
use Rattle.conode_trace.specs.Grammar.{IsRun, SpellsPairs}
use Rattle.conode_record.specs.Fields.{hex_number}

-- seconds and microseconds in parentheses, a point between them, as a time in microseconds
pub record SpellsStamp (micros : ℕ) (text : List ℕ) : Type 0 where
  pub seconds : List ℕ
  pub fraction : List ℕ
  pub seconds_run : IsRun is_digit 1 12 seconds
  pub fraction_run : IsRun is_digit 6 6 fraction
  pub time : micros ≡ 1000000 * decimal_value seconds + decimal_value fraction
  pub joined : text ≡ 40 ∷ (seconds ++ 46 ∷ (fraction ++ 41 ∷ []))

-- one blank or more
pub record AreBlanks (text : List ℕ) : Type 0 where
  pub all : list_all is_blank text ≡ true
  pub some : 0 < length text

-- an identifier of 11 bits in three digits; one of 29 bits, or with bit 29 the class of an error
-- frame, in eight
abbrev pub SpellsIdentifier : Identifier → List ℕ → Type 0
SpellsIdentifier (Base id) text = (length text ≡ 3) × (hex_number text ≡ Some id) × (id < 2048)
SpellsIdentifier (Extended id) text = (length text ≡ 8) × (hex_number text ≡ Some id) × (id < 0x20000000)
SpellsIdentifier (Error class) text = (length text ≡ 8) × (hex_number text ≡ Some (class + 0x20000000)) × (class < 0x20000000)

-- the mark of a direction: `R` or `T`
abbrev pub mark_of : Direction → ℕ
mark_of Received = 82
mark_of Sent = 84

-- blanks and the mark of a direction, or nothing where there is none
abbrev pub SpellsEnding : Option Direction → List ℕ → Type 0
SpellsEnding None text = text ≡ []
SpellsEnding (Some direction) text = (blanks : List ℕ) × AreBlanks blanks × (text ≡ blanks ++ mark_of direction ∷ [])

-- at most so many bytes in two digits each, and an ending
pub record SpellsBytes (most : ℕ) (bytes : List ℕ) (direction : Option Direction) (text : List ℕ) : Type 0 where
  pub digits : List ℕ
  pub ending : List ℕ
  pub pairs : SpellsPairs bytes digits
  pub few : length bytes ≤ most
  pub ends : SpellsEnding direction ending
  pub joined : text ≡ digits ++ ending

-- a digit up to 8, or none for 0
abbrev pub SpellsLength : ℕ → List ℕ → Type 0
SpellsLength length [] = length ≡ 0
SpellsLength length (digit ∷ []) = (digit ≡ length + 48) × (length ≤ 8)
SpellsLength length (digit ∷ other ∷ more) = ⊥

-- a remote frame: `R`, its length, and an ending
pub record SpellsRemote (length : ℕ) (direction : Option Direction) (text : List ℕ) : Type 0 where
  pub digits : List ℕ
  pub ending : List ℕ
  pub spelled : SpellsLength length digits
  pub ends : SpellsEnding direction ending
  pub joined : text ≡ 82 ∷ (digits ++ ending)

-- a CAN FD frame: another number sign, a digit for its flags, then its data
pub record SpellsFd (flags : ℕ) (bytes : List ℕ) (direction : Option Direction) (text : List ℕ) : Type 0 where
  pub digit : ℕ
  pub rest : List ℕ
  pub digit_value : hex_digit digit ≡ Some flags
  pub spelled : SpellsBytes 64 bytes direction rest
  pub joined : text ≡ 35 ∷ digit ∷ rest

-- what follows the number sign of an identifier
abbrev pub SpellsContent : Content → Option Direction → List ℕ → Type 0
SpellsContent (Data bytes) direction text = SpellsBytes 8 bytes direction text
SpellsContent (Remote length) direction text = SpellsRemote length direction text
SpellsContent (Fd flags bytes) direction text = SpellsFd flags bytes direction text

-- stamp, blanks, interface, blanks, identifier, number sign, and what follows it
pub record SpellsFrame (frame : Record) (line : List ℕ) : Type 0 where
  pub stamp : List ℕ
  pub first_blanks : List ℕ
  pub second_blanks : List ℕ
  pub id_text : List ℕ
  pub content_text : List ℕ
  pub stamp_spelled : SpellsStamp frame.micros stamp
  pub first_are : AreBlanks first_blanks
  pub interface_run : IsRun is_name_byte 1 15 frame.interface
  pub second_are : AreBlanks second_blanks
  pub id_spelled : SpellsIdentifier frame.id id_text
  pub content_spelled : SpellsContent frame.content frame.direction content_text
  pub joined : line ≡ stamp ++ (first_blanks ++ (frame.interface ++ (second_blanks ++ (id_text ++ 35 ∷ content_text))))

-- an empty line, a comment, or an event line of this project's traces
abbrev pub IsSkipped : List ℕ → Type 0
IsSkipped line = (line ≡ []) ⊎ ((first : ℕ) × (rest : List ℕ) × ((first ≡ 59) ⊎ (first ≡ 33)) × (line ≡ first ∷ rest))

-- a line of a recording, and what it says
abbrev pub SpellsLine : RecordLine → List ℕ → Type 0
SpellsLine Skipped line = IsSkipped line
SpellsLine (Frame frame) line = SpellsFrame frame line

-- an identifier that a frame may have
abbrev pub IsIdentifier : Identifier → Type 0
IsIdentifier (Base id) = id < 2048
IsIdentifier (Extended id) = id < 0x20000000
IsIdentifier (Error class) = class < 0x20000000

-- a line whose identifier, if it has one, a frame may have
abbrev pub HasIdentifier : RecordLine → Type 0
HasIdentifier Skipped = Unit {0}
HasIdentifier (Frame frame) = IsIdentifier frame.id

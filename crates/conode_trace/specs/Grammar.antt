-- The grammar of a frame line, as `candump -L` writes it, and of an event line: a line is its
-- parts, one after the other. It doesn't say how a line is read.
use Rattle.std.specs.Prelude.{◌≡◌, ℕ, ◌+◌, ◌*◌, ◌/◌, ◌<◌, ◌≤◌, Bool, true, ◌⊎◌, List, [], ◌∷◌, ◌++◌, length, Some, codes}
use Rattle.std.specs.List.{list_all}
use Rattle.conode_trace.specs.declared.trace_line.TraceLine.{TraceLine}
use Rattle.conode_trace.specs.declared.trace_line.TraceLine.TheVariants.{Skipped, Event}
use Rattle.conode_trace.specs.declared.event_line.EventLine.{EventLine}
use Rattle.conode_trace.specs.declared.event_line.EventLine.TheVariants.{Ticks, App}
use Rattle.co_frame.specs.declared.app_event.AppEvent.TheVariants as app
use Rattle.co_value.specs.declared.key.Key.{Key}
use Rattle.conode_trace.specs.declared.frame_fields.Identifier.{Identifier}
use Rattle.conode_trace.specs.declared.frame_fields.Identifier.TheVariants.{Base, Extended}
use Rattle.conode_trace.specs.declared.frame_fields.Body.{Body}
use Rattle.conode_trace.specs.declared.frame_fields.Body.TheVariants.{Bytes, Other}
use Rattle.co_text.specs.Texts.{is_blank, is_digit, is_hex_digit, decimal_value, hex_pair}
use Rattle.conode_trace.specs.FrameLines.{is_name_byte, three_digits, line_of}

-- least to most bytes, each of which passes
pub record IsRun (passes : ℕ → Bool) (least most : ℕ) (text : List ℕ) : Type 0 where
  pub all : list_all passes text ≡ true
  pub enough : least ≤ length text
  pub few : length text ≤ most

-- seconds and microseconds in parentheses, with a point between, as a time in ms
pub record SpellsStamp (ms : ℕ) (text : List ℕ) : Type 0 where
  pub seconds : List ℕ
  pub micros : List ℕ
  pub seconds_run : IsRun is_digit 1 12 seconds
  pub micros_run : IsRun is_digit 6 6 micros
  pub time : ms ≡ 1000 * decimal_value seconds + decimal_value micros / 1000
  pub joined : text ≡ 40 ∷ (seconds ++ 46 ∷ (micros ++ 41 ∷ []))

-- an identifier of 11 bits in three digits, or one of 29 bits in eight
abbrev pub SpellsIdentifier : Identifier → List ℕ → Type 0
SpellsIdentifier (Base id) text = (length text ≡ 3) × (three_digits text ≡ Some id) × (id < 2048)
SpellsIdentifier Extended text = IsRun is_hex_digit 8 8 text

-- two digits for each byte
abbrev pub SpellsPairs : List ℕ → List ℕ → Type 0
SpellsPairs [] [] = Unit {0}
SpellsPairs [] (digit ∷ digits) = ⊥
SpellsPairs (byte ∷ bytes) [] = ⊥
SpellsPairs (byte ∷ bytes) (high ∷ []) = ⊥
SpellsPairs (byte ∷ bytes) (high ∷ low ∷ digits) = (hex_pair high low ≡ Some byte) × SpellsPairs bytes digits

-- nothing, or blanks and a mark: `R` (received) or `T` (transmitted)
abbrev pub IsEnding : List ℕ → Type 0
IsEnding text =
    (text ≡ [])
    ⊎ ((blanks : List ℕ) × (mark : ℕ) × IsRun is_blank 1 512 blanks
    × ((mark ≡ 82) ⊎ (mark ≡ 84)) × (text ≡ blanks ++ mark ∷ []))

-- after the number sign: at most eight pairs of digits and an ending
pub record SpellsData (bytes text : List ℕ) : Type 0 where
  pub digits : List ℕ
  pub ending : List ℕ
  pub pairs : SpellsPairs bytes digits
  pub few : length bytes ≤ 8
  pub ends : IsEnding ending
  pub joined : text ≡ digits ++ ending

-- a remote frame: `R`, at most one digit, and an ending
pub record IsRemote (text : List ℕ) : Type 0 where
  pub digit : List ℕ
  pub ending : List ℕ
  pub digit_run : IsRun is_digit 0 1 digit
  pub ends : IsEnding ending
  pub joined : text ≡ 82 ∷ (digit ++ ending)

-- a CAN FD frame: another number sign, and anything
abbrev pub IsCanFd : List ℕ → Type 0
IsCanFd text = (rest : List ℕ) × (text ≡ 35 ∷ rest)

-- what follows the number sign of a frame line
abbrev pub SpellsBody : Body → List ℕ → Type 0
SpellsBody (Bytes bytes) text = SpellsData bytes text
SpellsBody Other text = IsRemote text ⊎ IsCanFd text

-- stamp, blanks, interface, blanks, identifier, number sign, and what follows it
pub record SpellsFrameLine (said : TraceLine) (line : List ℕ) : Type 0 where
  pub ms : ℕ
  pub id : Identifier
  pub body : Body
  pub stamp : List ℕ
  pub first_blanks : List ℕ
  pub interface : List ℕ
  pub second_blanks : List ℕ
  pub id_text : List ℕ
  pub body_text : List ℕ
  pub stamp_spelled : SpellsStamp ms stamp
  pub first_run : IsRun is_blank 1 512 first_blanks
  pub interface_run : IsRun is_name_byte 1 15 interface
  pub second_run : IsRun is_blank 1 512 second_blanks
  pub id_spelled : SpellsIdentifier id id_text
  pub body_spelled : SpellsBody body body_text
  pub joined : line ≡ stamp ++ (first_blanks ++ (interface ++ (second_blanks ++ (id_text ++ 35 ∷ body_text))))
  pub means : said ≡ line_of ms id body

-- an empty line or a comment
abbrev pub IsSkipped : List ℕ → Type 0
IsSkipped line = (line ≡ []) ⊎ ((rest : List ℕ) × (line ≡ 59 ∷ rest))

-- ---- event lines, this project's own

-- a number from least to most in decimal digits, one at least; zeros may lead
pub record SpellsNumber (least most number : ℕ) (text : List ℕ) : Type 0 where
  pub digits : list_all is_digit text ≡ true
  pub some : 0 < length text
  pub value : number ≡ decimal_value text
  pub low : least ≤ number
  pub high : number ≤ most

-- a number of two bytes in four digits, the high byte first
abbrev pub SpellsWord : ℕ → List ℕ → Type 0
SpellsWord number text = (high : ℕ) × (low : ℕ) × SpellsPairs (high ∷ low ∷ []) text × (number ≡ 256 * high + low)

-- KEY: an index in four digits, a colon, and a sub-index in two
pub record SpellsKey (key : Key) (text : List ℕ) : Type 0 where
  pub index_text : List ℕ
  pub sub_text : List ℕ
  pub index_spelled : SpellsWord key.index index_text
  pub sub_spelled : SpellsPairs (key.sub ∷ []) sub_text
  pub joined : text ≡ index_text ++ 58 ∷ sub_text

-- HEX: pairs of digits, one at least, or `-` for none
abbrev pub SpellsHex : List ℕ → List ℕ → Type 0
SpellsHex bytes text = ((bytes ≡ []) × (text ≡ codes "-")) ⊎ ((0 < length text) × SpellsPairs bytes text)

-- the name of an event, and after a space its words, with a space between two: `!tick N`,
-- `!event K`, `!changed KEY`, `!clear BITS`, `!write KEY HEX`, `!raise CODE BITS EXTRA`
abbrev pub SpellsEvent : EventLine → List ℕ → Type 0
SpellsEvent (Ticks count) line =
    (number : List ℕ) × SpellsNumber 1 86400000 count number × (line ≡ codes "!tick " ++ number)
SpellsEvent (App (app.Event k)) line =
    (number : List ℕ) × SpellsNumber 0 65535 k number × (line ≡ codes "!event " ++ number)
SpellsEvent (App (app.Changed key)) line =
    (word : List ℕ) × SpellsKey key word × (line ≡ codes "!changed " ++ word)
SpellsEvent (App (app.Clear bits)) line =
    (word : List ℕ) × SpellsPairs (bits ∷ []) word × (line ≡ codes "!clear " ++ word)
SpellsEvent (App (app.Write key bytes)) line =
    (first : List ℕ) × (second : List ℕ) × SpellsKey key first × SpellsHex bytes second
    × (line ≡ codes "!write " ++ (first ++ 32 ∷ second))
SpellsEvent (App (app.Raise code bits extra)) line =
    (first : List ℕ) × (second : List ℕ) × (third : List ℕ)
    × SpellsWord code first × SpellsPairs (bits ∷ []) second × SpellsPairs extra third × (length extra ≡ 5)
    × (line ≡ codes "!raise " ++ (first ++ 32 ∷ (second ++ 32 ∷ third)))

-- an event line
abbrev pub IsEventLine : TraceLine → List ℕ → Type 0
IsEventLine said line = (event : EventLine) × SpellsEvent event line × (said ≡ Event event)

-- a line of a trace, of at most 512 bytes, and what it says
abbrev pub SpellsLine : TraceLine → List ℕ → Type 0
SpellsLine said line =
    (length line ≤ 512)
    × (((said ≡ Skipped) × IsSkipped line) ⊎ (SpellsFrameLine said line ⊎ IsEventLine said line))

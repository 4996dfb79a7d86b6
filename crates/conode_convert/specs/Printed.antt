-- The line of a frame, as `candump -L` writes it.
use Rattle.std.specs.Prelude.{ℕ, ◌+◌, ◌-◌, ◌/◌, ◌%◌, ◌==◌, if◌then◌else◌, List, [], ◌∷◌, ◌++◌, codes, decimal, Option, Some, None}
use Rattle.std.specs.List.{flat_map}
use Rattle.co_text.specs.Printed.{byte_text, digits_text, printed_digit}
use Rattle.conode_trace.specs.Printed.{seconds_text}
use Rattle.conode_record.specs.declared.content.Direction.{Direction}
use Rattle.conode_record.specs.declared.content.Direction.TheVariants.{Received, Sent}
use Rattle.conode_record.specs.declared.fields.Identifier.{Identifier}
use Rattle.conode_record.specs.declared.fields.Identifier.TheVariants.{Base, Extended, Error}
use Rattle.conode_record.specs.declared.frame.LogContent.{LogContent}
use Rattle.conode_record.specs.declared.frame.LogContent.TheVariants.{Data, Remote, Fd}
use Rattle.conode_record.specs.declared.frame.LogFrame.{LogFrame}
use Rattle.conode_record.specs.declared.frame.Place.{Place}
use Rattle.conode_record.specs.declared.frame.Place.TheVariants.{Interface, Channel}

-- seconds in ten digits, or in more where ten don't suffice, and microseconds, in parentheses
unfoldable pub stamp_text : ℕ → List ℕ
stamp_text micros =
    codes "(" ++ seconds_text (micros / 1000000) ++ codes "." ++ digits_text 10 6 (micros % 1000000) ++ codes ")"

-- the name of an interface; channel 1 is can0
abbrev pub place_text : Place → List ℕ
place_text (Interface name) = name
place_text (Channel number) = codes "can" ++ decimal (number - 1)

-- three digits, or eight; of an error frame eight with bit 29 set
abbrev pub id_text : Identifier → List ℕ
id_text (Base id) = digits_text 16 3 id
id_text (Extended id) = digits_text 16 8 id
id_text (Error class) = digits_text 16 8 (class % 0x20000000 + 0x20000000)

-- the length of a remote frame; nothing for 0
abbrev pub length_text : ℕ → List ℕ
length_text count = if count == 0 then [] else decimal count

-- what follows the identifier
abbrev pub content_text : LogContent → List ℕ
content_text (Data bytes) = codes "#" ++ flat_map byte_text bytes
content_text (Remote count) = codes "#R" ++ length_text count
content_text (Fd flags bytes) = codes "##" ++ printed_digit (flags % 16) ∷ flat_map byte_text bytes

-- received or sent, if it is known
abbrev pub direction_text : Option Direction → List ℕ
direction_text None = []
direction_text (Some Received) = codes " R"
direction_text (Some Sent) = codes " T"

-- the text of a frame
unfoldable pub frame_text : LogFrame → List ℕ
frame_text frame =
    stamp_text frame.micros ++ codes " " ++ place_text frame.place ++ codes " " ++ id_text frame.id
    ++ content_text frame.content ++ direction_text frame.direction

-- the line of a frame
unfoldable pub line_text : LogFrame → List ℕ
line_text frame = frame_text frame ++ codes "\n"

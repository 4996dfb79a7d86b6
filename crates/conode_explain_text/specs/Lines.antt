-- The line of a frame: its parts, and their text.
use Rattle.std.specs.Prelude.{ℕ, ◌-◌, Bool, nat_lt, if◌then◌else◌, List, [], ◌∷◌, ◌++◌, codes, Option, Some, None}
use Rattle.std.specs.List.{flat_map}
use Rattle.conode_record.specs.declared.content.Content.{Content}
use Rattle.conode_record.specs.declared.fields.Identifier.{Identifier}
use Rattle.conode_record.specs.declared.line.Record.{Record}
use Rattle.conode_explain_text.specs.declared.so_far.Times.{Times}
use Rattle.conode_explain_text.specs.declared.stamps.StampForm.{StampForm}
use Rattle.conode_explain_text.specs.Columns.{escaped_name, id_text, content_text}
use Rattle.conode_explain_text.specs.Said.{shown}
use Rattle.conode_explain_text.specs.SoFar.{SoFar, shows_interface, times_at}
use Rattle.conode_explain_text.specs.Stamps.{stamp_text, gap_text}

-- a part of a line
pub data Part : Type 0 where
  stamp : StampForm → Times → Part
  gap : Times → Part
  interface : List ℕ → Part
  identifier : Identifier → Part
  content : Content → Part
  said : List ℕ → Part
  note : List ℕ → Part

-- ---- which parts a line has

abbrev pub interface_parts : Bool → List ℕ → List Part
interface_parts shows name = if shows then interface name ∷ [] else []

-- an hour in microseconds
abbrev pub an_hour : ℕ
an_hour = 3600000000

-- what is odd about a stamp: it is earlier than that of the frame before, or more than an hour later
unfoldable pub odd_words : Times → Option (List ℕ)
odd_words times =
    if nat_lt times.now times.before then Some (codes "the stamp steps back")
    else (if nat_lt an_hour (times.now - times.before) then Some (codes "the stamp is more than an hour ahead") else None)

abbrev pub note_parts : Option (List ℕ) → List Part
note_parts None = []
note_parts (Some words) = note words ∷ []

abbrev pub notes : Times → List Part
notes times = note_parts (odd_words times)

-- the parts of a frame that says these words
unfoldable pub line_parts : StampForm → SoFar → Record → List ℕ → List Part
line_parts form so_far frame words =
    let times = times_at so_far frame.micros in
    stamp form times ∷ gap times
    ∷ (interface_parts (shows_interface so_far frame.interface) frame.interface
    ++ identifier frame.id ∷ content frame.content ∷ said words ∷ notes times)

-- the parts of a line of its own, which is no frame's
unfoldable pub own_parts : StampForm → Times → Bool → List ℕ → List ℕ → List Part
own_parts form times shows name words = stamp form times ∷ (interface_parts shows name ++ said words ∷ [])

-- ---- their text

abbrev pub part_text : Part → List ℕ
part_text (stamp form times) = stamp_text form times
part_text (gap times) = gap_text times
part_text (interface name) = escaped_name name
part_text (identifier id) = id_text id
part_text (content has) = content_text has
part_text (said words) = shown words
part_text (note words) = codes "note: " ++ words

abbrev pub after_blanks : Part → List ℕ
after_blanks part = codes "  " ++ part_text part

-- two blanks between parts, and a line feed
unfoldable pub line_text : List Part → List ℕ
line_text [] = 10 ∷ []
line_text (first ∷ others) = part_text first ++ flat_map after_blanks others ++ 10 ∷ []

-- the text of the parts before what the frame says
unfoldable pub front_text : StampForm → Times → Bool → Record → List ℕ
front_text form times shows frame =
    part_text (stamp form times) ++ after_blanks (gap times) ++ flat_map after_blanks (interface_parts shows frame.interface)
    ++ after_blanks (identifier frame.id) ++ after_blanks (content frame.content)

-- of a line of its own
unfoldable pub own_front : StampForm → Times → Bool → List ℕ → List ℕ
own_front form times shows name = part_text (stamp form times) ++ flat_map after_blanks (interface_parts shows name)

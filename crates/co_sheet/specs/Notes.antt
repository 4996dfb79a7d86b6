-- What is odd in a data sheet, but accepted (CiA 306, object description, device commissioning).
use Rattle.std.specs.Prelude.{ℕ, Bool, not, ◌&&◌, nat_le, if◌then◌else◌, List, [], ◌∷◌, ◌++◌, length, flat_map, codes, is_some}
use Rattle.std.specs.Option.{option_map_or}
use Rattle.co_sheet_text.specs.declared.section_kind.SectionKind.{SectionKind}
use Rattle.co_sheet_text.specs.declared.section_kind.SectionKind.TheVariants.{DeviceCommissioning, Object}
use Rattle.co_sheet_rows.specs.declared.note.Note.{Note}
use Rattle.co_sheet_rows.specs.declared.note.NoteKind.{NoteKind}
use Rattle.co_sheet_rows.specs.declared.note.NoteKind.TheVariants.{SubNumber, Unlisted, NodeId}
use Rattle.co_sheet_text.specs.Sections.{Property, TextSection, property_at}
use Rattle.co_sheet_text.specs.Properties.{property_number}
use Rattle.co_sheet.specs.ObjectLists.{is_one_of, is_listed}
use Rattle.co_sheet.specs.Entries.{sub_indices}
use Rattle.co_sheet.specs.Commissioning.{node_id_of}

-- a note of a kind, at a line
abbrev pub note_at : ℕ → NoteKind → Note
note_at line kind = record { kind = kind; line = line }

-- an object section from 1000h on that no list names
abbrev pub note_unlisted : Bool → ℕ → ℕ → List Note
note_unlisted is_listed line index =
    if nat_le 0x1000 index && not is_listed then note_at line Unlisted ∷ [] else []

abbrev pub unlisted_note : List TextSection → TextSection → ℕ → List Note
unlisted_note sections section index =
    note_unlisted (is_listed sections index) section.line index

-- a SubNumber that isn't the number of the object's sub-index sections
abbrev pub other_number : ℕ → Property → List Note
other_number count k =
    if is_one_of (count ∷ []) (property_number k) then [] else note_at k.line SubNumber ∷ []

abbrev pub sub_number_note : TextSection → ℕ → List Note
sub_number_note section count =
    option_map_or (other_number count) (property_at (codes "SubNumber") section) []

-- a NodeID that is no node-ID
abbrev pub other_node_id : Property → List Note
other_node_id k = if is_some (node_id_of k) then [] else note_at k.line NodeId ∷ []

abbrev pub node_id_note : TextSection → List Note
node_id_note section = option_map_or other_node_id (property_at (codes "NodeID") section) []

-- the notes of a section: of an object, or of the device commissioning
abbrev pub notes_at : List TextSection → TextSection → SectionKind → List Note
notes_at sections section (Object index) =
    unlisted_note sections section index
    ++ sub_number_note section (length (sub_indices sections index))
notes_at sections section DeviceCommissioning = node_id_note section
notes_at sections section kind = []

-- the notes of the text, in the order of their lines
abbrev pub notes_of : List TextSection → List Note
notes_of sections = flat_map (λ s. notes_at sections s s.kind) sections

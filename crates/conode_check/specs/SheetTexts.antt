-- What is written about a data sheet that is checked.
use Rattle.std.specs.Prelude.{
  ◌&&◌,
  ℕ,
  Bool,
  List,
  [],
  ◌∷◌,
  ◌++◌,
  map,
  length,
  Option,
  None,
  option_and_then,
  is_none,
  if◌then◌else◌,
  codes,
  decimal,
}
use Rattle.std.specs.List.{flat_map}
use Rattle.std.specs.Option.{option_map_or, option_or}
use Rattle.conode_text.specs.Filled.{filled}
use Rattle.co_sheet_rows.specs.declared.fault.SheetFault.{SheetFault}
use Rattle.co_sheet_rows.specs.declared.note.Note.{Note}
use Rattle.co_sheet.specs.Accepted.{first_fault, sections_in}
use Rattle.co_sheet.specs.Content.{SheetContent, content_of}
use Rattle.co_sheet_rows.specs.FaultTexts.{fault_text, note_text}
use Rattle.co_dict_build.specs.declared.build_fault.BuildFault.{BuildFault}
use Rattle.co_dict_build.specs.BuildFaults.{build_fault}
use Rattle.co_dict_build.specs.BuildFaultTexts.{fault_text as build_fault_text}
use Rattle.co_dict_build.specs.Built.{plan_of}
use Rattle.co_dict_build.specs.Capacities.{Limits}

-- the line of a sheet that is refused
unfoldable pub fault_line : SheetFault → List ℕ
fault_line fault = fault_text fault ++ 10 ∷ []

-- the line of a note
unfoldable pub note_line : Note → List ℕ
note_line note = note_text note ++ 10 ∷ []

-- the first line of a sheet that is accepted: how many objects, entries and notes it has
unfoldable pub summary_line : SheetContent → List ℕ
summary_line sheet =
    filled (codes "ok: % objects, % entries, % notes\n")
    (decimal (length sheet.objects) ∷ decimal (length sheet.rows) ∷ decimal (length sheet.notes) ∷ [])

-- the line of a sheet that makes no dictionary
unfoldable pub build_fault_line : BuildFault → List ℕ
build_fault_line fault = build_fault_text fault ++ 10 ∷ []

-- the line of the node-ID that a sheet itself has
unfoldable pub node_line : ℕ → List ℕ
node_line id = filled (codes "node %\n") (decimal id ∷ [])

-- why a sheet makes no dictionary for a node-ID and limits; without a node-ID none is made
abbrev pub sheet_build_fault : Option ℕ → Limits → SheetContent → Option BuildFault
sheet_build_fault node limits sheet = option_and_then (λ id. build_fault (plan_of id limits sheet)) node

-- the line of a build fault, if there is one
abbrev pub build_lines : Option BuildFault → List (List ℕ)
build_lines fault = option_map_or (λ fault. build_fault_line fault ∷ []) fault []

-- the line of a node-ID, if there is one
abbrev pub node_lines : Option ℕ → List (List ℕ)
node_lines id = option_map_or (λ id. node_line id ∷ []) id []

-- the lines of a sheet that is accepted: what it has, its notes, its own node-ID, and its build
-- fault
abbrev pub sheet_lines : SheetContent → Option ℕ → Option BuildFault → List (List ℕ)
sheet_lines sheet own fault =
    summary_line sheet ∷ (map note_line sheet.notes ++ (node_lines own ++ build_lines fault))

-- the node-ID of a sheet itself, which counts and is written if none is given
abbrev pub own_node : Option ℕ → SheetContent → Option ℕ
own_node node sheet = if is_none node then sheet.node_id else None

-- why a sheet makes no dictionary for the given node-ID, or else for its own
abbrev pub checked_fault : Option ℕ → Limits → SheetContent → Option BuildFault
checked_fault node limits sheet = sheet_build_fault (option_or node (own_node node sheet)) limits sheet

-- the sheet of a text that is accepted
abbrev pub text_sheet : List ℕ → SheetContent
text_sheet text = content_of (sections_in text)

-- the lines of a text: those of its sheet, or of its first fault
abbrev pub checked_lines : List ℕ → Option ℕ → Limits → List (List ℕ)
checked_lines text node limits =
    option_map_or (λ fault. fault_line fault ∷ [])
    (first_fault text)
    (sheet_lines (text_sheet text) (own_node node (text_sheet text)) (checked_fault node limits (text_sheet text)))

-- lines, one after another
abbrev pub joined : List (List ℕ) → List ℕ
joined lines = flat_map (λ line. line) lines

-- a text has no fault as a sheet, and no build fault for the given node-ID, or else its own
abbrev pub is_good : List ℕ → Option ℕ → Limits → Bool
is_good text node limits = is_none (first_fault text) && is_none (checked_fault node limits (text_sheet text))

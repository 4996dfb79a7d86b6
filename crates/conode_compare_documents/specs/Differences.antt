-- The differences, each with the lines of the recording around it.
use Rattle.std.specs.Prelude.{ℕ, ◌+◌, ◌-◌, ◌==◌, if◌then◌else◌, List, [], ◌∷◌, ◌++◌, length, drop, codes, decimal}
use Rattle.std.specs.List.{concat, flat_map}
use Rattle.conode_compare_text.specs.FindingTexts.{finding_text}
use Rattle.conode_compare_report.specs.declared.noted.Noted.{Noted}
use Rattle.conode_compare_report.specs.Views.{Kept}
use Rattle.conode_compare_report.specs.Contexts.{KeptLine, around}
use Rattle.conode_compare_report.specs.Kinds.{kind_name, kind_of, kind_rule}
use Rattle.conode_json.specs.Escapes.{escaped}
use Rattle.conode_json.specs.Filled.{seconds_text}
use Rattle.conode_compare_documents.specs.declared.differences.TheConstants.{NONE, OPENING}
use Rattle.conode_compare_documents.specs.Indexed.{indexed}

-- a text without the name that it begins with, and `: `
abbrev pub after_name : List ℕ → List ℕ → List ℕ
after_name name text = drop (length name + 2) text

-- what differs, without the name of its kind
abbrev pub said : Noted → List ℕ
said noted = after_name (kind_name (kind_of noted.finding)) (finding_text noted.details noted.finding)

-- a line of the recording with its number, marked if it is that of the difference
unfoldable pub context_line : ℕ → KeptLine → List ℕ
context_line number line = concat (
    (if line.number == number then codes "<mark>" else []) ∷ decimal line.number ∷ codes ": " ∷ escaped line.bytes
    ∷ (if line.number == number then codes "\n</mark>" else codes "\n") ∷ [])

-- the row of a difference, up to the lines around it: its line, its time since the first frame, which came at this begin, its
-- kind, what differs, and what is prescribed
unfoldable pub row_cells : ℕ → ℕ → Noted → List ℕ → List ℕ
row_cells begin at noted text = concat (
    codes "<tbody class=\"one\" id=\"d" ∷ decimal at
    ∷ codes "\">\n<tr><td class=\"n\" data-is=\"Line\">" ∷ decimal noted.line
    ∷ codes "</td><td class=\"n\" data-is=\"Seconds\">" ∷ seconds_text (noted.micros - begin)
    ∷ codes "</td><td><span class=\"found\">" ∷ kind_name (kind_of noted.finding) ∷ codes "</span> " ∷ escaped text
    ∷ codes "</td><td data-is=\"Prescribed:\">" ∷ kind_rule (kind_of noted.finding)
    ∷ codes "</td></tr>\n<tr class=\"around\"><td colspan=\"4\"><pre>" ∷ [])

abbrev pub difference_row : Kept → ℕ → Noted → List ℕ
difference_row report at noted = row_cells report.lanes.begin at noted (said noted)

-- a difference
unfoldable pub difference : Kept → ℕ → Noted → List ℕ
difference report at noted =
    difference_row report at noted ++ flat_map (context_line noted.line) (around report.context noted)
    ++ codes "</pre></td></tr>\n</tbody>\n"

-- the end of the table, and how many differences came after those that are listed
abbrev pub list_end : ℕ → List ℕ
list_end unlisted =
    if unlisted == 0 then codes "</table>\n</section>\n"
    else concat (codes "</table>\n<p>" ∷ decimal unlisted ∷ codes " more came after these, and aren't listed.</p>\n</section>\n" ∷ [])

unfoldable pub difference_table : Kept → List ℕ
difference_table report = OPENING.now ++ indexed (difference report) 0 report.noted ++ list_end report.unlisted

-- the table, if there is a difference
abbrev pub differences : Kept → List ℕ
differences report = if length report.noted == 0 then NONE.now else difference_table report

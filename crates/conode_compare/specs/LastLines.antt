-- The last lines of a comparison: how many frames have which verdict, and the values of entries.
use Rattle.std.specs.Prelude.{ℕ, ◌==◌, nat_lt, if◌then◌else◌, List, [], ◌∷◌, ◌++◌, Option, Some, None}
use Rattle.std.specs.List.{flat_map}
use Rattle.co_sheet.specs.Content.{Row}
use Rattle.co_value.specs.Types.{width_of}
use Rattle.co_sheet_changes.specs.Names.{shown_name}
use Rattle.conode_explain_values.specs.Types.{type_of}
use Rattle.conode_compare_notes.specs.declared.learned.Shown.{Shown}
use Rattle.conode_compare_notes.specs.LearnedValues.{number_of as shown_number}
use Rattle.conode_compare_pdos.specs.SheetNumbers.{number_of as sheet_number}
use Rattle.conode_compare_text.specs.ChoiceTexts.{choices_summary}
use Rattle.conode_compare_text.specs.LearnedTexts.{learned_line}
use Rattle.conode_compare_text.specs.declared.tally.Tally.{Tally}
use Rattle.conode_compare_text.specs.Tallies.{summary, unjudged_line}
use Rattle.conode_compare.specs.declared.comparing.Comparing.{Comparing}
use Rattle.conode_compare.specs.Compared.{Comparison}

-- how many frames have which verdict; and how many choices there are, if these are asked for
abbrev pub last_line : Comparison → Comparing → List ℕ
last_line c comparing =
    if c.choices then choices_summary c.subject.node comparing.tally comparing.notes.choices
    else summary c.subject.node comparing.tally

-- the line of an entry of so many bytes whose number was shown: of up to four bytes
abbrev pub line_of_value : Comparison → Row → Option ℕ → Option ℕ → List (List ℕ)
line_of_value c row None number = []
line_of_value c row (Some width) None = []
line_of_value c row (Some width) (Some number) =
    if nat_lt 4 width then []
    else learned_line (shown_name row) row.key (type_of (c.originals row.line) row.data_type) width number
    (sheet_number c.subject.node row.default) ∷ []

abbrev pub value_lines : Comparison → List Shown → Row → List (List ℕ)
value_lines c learned row = line_of_value c row (width_of row.data_type) (shown_number learned row.key)

-- by the order of the data sheet's entries
abbrev pub values_lines : Comparison → List Shown → List Row → List (List ℕ)
values_lines c learned rows = flat_map (value_lines c learned) rows

abbrev pub if_learned : Comparison → Comparing → List (List ℕ)
if_learned c comparing = if c.learned then values_lines c comparing.notes.learned c.rows else []

abbrev pub sum_lines : Comparison → Comparing → List (List ℕ)
sum_lines c comparing = last_line c comparing ∷ if_learned c comparing

-- before them, where frames are unjudged, of which services these are
abbrev pub unjudged_lines : Tally → List (List ℕ)
unjudged_lines tally = if tally.unjudged == 0 then [] else unjudged_line tally.services ∷ []

abbrev pub last_lines : Comparison → Comparing → List (List ℕ)
last_lines c comparing = unjudged_lines comparing.tally ++ sum_lines c comparing

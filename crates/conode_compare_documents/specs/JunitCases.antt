-- The test cases of JUnit: one a kind of difference.
use Rattle.std.specs.Prelude.{ℕ, ◌+◌, ◌-◌, ◌==◌, nat_lt, Bool, ◌&&◌, if◌then◌else◌, List, [], ◌∷◌, ◌++◌, length, min, take, filter, codes, decimal}
use Rattle.std.specs.List.{concat, flat_map}
use Rattle.conode_compare_text.specs.FindingTexts.{finding_line}
use Rattle.conode_compare_report.specs.declared.kind.Counted.{Counted}
use Rattle.conode_compare_report.specs.declared.kind.Kind.{Kind}
use Rattle.conode_compare_report.specs.declared.noted.Noted.{Noted}
use Rattle.conode_compare_report.specs.Kinds.{kind_name, kind_number, kind_of, kind_rule}
use Rattle.conode_json.specs.Escapes.{escaped}
use Rattle.conode_compare_report.specs.declared.outcome.Outcome.{Outcome}
use Rattle.conode_compare_report.specs.declared.outcome.Outcome.TheVariants.{NoDifference, Differences, NoFrame, SeveralInterfaces}

abbrev pub is_of_kind : Kind → Noted → Bool
is_of_kind kind noted = kind_number (kind_of noted.finding) == kind_number kind

-- the line of a difference, as the text has it
unfoldable pub line_markup : List ℕ → Noted → List ℕ
line_markup recording noted = concat (escaped (finding_line recording noted.line noted.details noted.finding) ∷ [])

-- whether a difference is of this kind, and fewer than a hundred have a line; its line then, and how many have one after it
abbrev pub has_line : Kind → ℕ → Noted → Bool
has_line kind count noted = nat_lt count 100 && is_of_kind kind noted

abbrev pub own_line : List ℕ → Kind → ℕ → Noted → List ℕ
own_line recording kind count noted = if has_line kind count noted then line_markup recording noted else []

abbrev pub own_count : Kind → ℕ → Noted → ℕ
own_count kind count noted = if has_line kind count noted then count + 1 else count

-- how many differences have no line
abbrev pub more_markup : ℕ → List ℕ
more_markup count = if count == 0 then [] else codes "and " ++ decimal count ++ codes " more\n"

-- the lines of the first hundred differences of a kind, and how many more were found
unfoldable pub lines_markup : List ℕ → ℕ → List Noted → List ℕ
lines_markup recording found own =
    flat_map (line_markup recording) (take 100 own) ++ more_markup (found - min (length own) 100)

abbrev pub differences_word : ℕ → List ℕ
differences_word count = if count == 1 then codes " difference: " else codes " differences: "

-- the beginning of a test case that failed: how many differences were found, and what is prescribed
unfoldable pub failure_begin : List ℕ → ℕ → List ℕ → List ℕ → List ℕ
failure_begin kind found word rule = concat (
    codes "<testcase classname=\"conode.compare\" name=\"" ∷ kind ∷ codes "\"><failure type=\"" ∷ kind
    ∷ codes "\" message=\"" ∷ decimal found ∷ word ∷ escaped rule ∷ codes "\">" ∷ [])

unfoldable pub failed_markup : List ℕ → Counted → List Noted → List ℕ
failed_markup recording counted noted =
    failure_begin (kind_name counted.kind) counted.found (differences_word counted.found) (kind_rule counted.kind)
    ++ lines_markup recording counted.found (filter (is_of_kind counted.kind) noted)
    ++ codes "</failure></testcase>\n"

-- the end of a test case that passed, or was skipped since there was no occasion for a difference
abbrev pub case_end : ℕ → List ℕ
case_end occasions =
    if occasions == 0 then codes "\"><skipped message=\"no occasion in this recording\"/></testcase>\n" else codes "\"/>\n"

-- a test case that passed, or was skipped
unfoldable pub passed_markup : Counted → List ℕ
passed_markup counted = concat (
    codes "<testcase classname=\"conode.compare\" name=\"" ∷ kind_name counted.kind ∷ case_end counted.occasions ∷ [])

-- a test case: failed if a difference was found
abbrev pub case_markup : List ℕ → List Noted → Counted → List ℕ
case_markup recording noted counted =
    if nat_lt 0 counted.found then failed_markup recording counted noted else passed_markup counted

-- the test case of a recording without a frame of the node
unfoldable pub no_frame_case : ℕ → List ℕ
no_frame_case node =
    codes "<testcase classname=\"conode.compare\" name=\"compared\"><error type=\"not-compared\" message=\"no frame of node "
    ++ decimal node ++ codes "\"/></testcase>\n"

-- one more test case, with an error, if nothing could be compared
unfoldable pub outcome_case : ℕ → Outcome → List ℕ
outcome_case node NoDifference = []
outcome_case node Differences = []
outcome_case node NoFrame = no_frame_case node
outcome_case node SeveralInterfaces =
    codes "<testcase classname=\"conode.compare\" name=\"compared\">"
    ++ codes "<error type=\"not-compared\" message=\"several interfaces: name one with --interface\"/></testcase>\n"

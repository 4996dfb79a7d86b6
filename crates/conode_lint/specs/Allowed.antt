-- Which findings are allowed, and how many others are errors.
use Rattle.std.specs.Prelude.{ℕ, Bool, true, false, nat_lt, ◌==◌, ◌||◌, if◌then◌else◌, List, [], ◌∷◌, length, map, take, drop, codes}
use Rattle.std.specs.List.{before_first, flat_map, list_any, slice_split}
use Rattle.std.specs.Str.{bytes_eq}
use Rattle.co_sheet_text.specs.Text.{same_name, trim}
use Rattle.conode_lint_text.specs.declared.finding.Severity.{Severity}
use Rattle.conode_lint_text.specs.declared.finding.Severity.TheVariants.{Error, Warning}
use Rattle.conode_lint_marks.specs.declared.mark.Mark.{Mark}
use Rattle.conode_lint.specs.Words as words

-- the beginning of a comment for lint, and what allows findings of names
abbrev pub lint_words : List ℕ
lint_words = codes "lint:"

abbrev pub allow_words : List ℕ
allow_words = codes "allow "

-- a text up to the first of a byte, and its first word between blanks
abbrev pub until : ℕ → List ℕ → List ℕ
until byte text =
    if list_any (λ b. b == byte) text then before_first (λ b. b == byte) text else text

abbrev pub first_word : List ℕ → List ℕ
first_word text = until 9 (until 32 (trim text))

-- the first words between commas; the empty one is no finding's name
abbrev pub is_comma : ℕ → Bool
is_comma byte = byte == 44

abbrev pub words_between : List ℕ → List (List ℕ)
words_between text = map first_word (slice_split is_comma text)

-- the names after `allow`, and those that a comment allows, with blanks after `lint:` or without; both
-- words in any case of letters
unfoldable pub names_after : List ℕ → List (List ℕ)
names_after text =
    if nat_lt (length text) 6 then []
    else (if same_name (take 6 text) allow_words then words_between (drop 6 text) else [])

unfoldable pub names_allowed : List ℕ → List (List ℕ)
names_allowed comment =
    if nat_lt (length comment) 5 then []
    else (if same_name (take 5 comment) lint_words then names_after (trim (drop 5 comment)) else [])

-- the names that a line without blanks at its ends allows: `;` begins a comment
abbrev pub names_at : List ℕ → List (List ℕ)
names_at [] = []
names_at (b ∷ text) = if b == 59 then names_allowed (trim text) else []

-- the names that a line allows
unfoldable pub names_on : List ℕ → List (List ℕ)
names_on line = names_at (trim line)

-- the names that lines allow
abbrev pub names_in : List (List ℕ) → List (List ℕ)
names_in lines = flat_map names_on lines

-- a name is one of these
abbrev pub is_among : List ℕ → List (List ℕ) → Bool
is_among name names = list_any (λ one. bytes_eq one name) names

-- a name is allowed, by the command line or by the sheet
unfoldable pub passes_by : List (List ℕ) → List (List ℕ) → List ℕ → Bool
passes_by given in_sheet name = is_among name given || is_among name in_sheet

-- the mark, unless its name is allowed
abbrev pub kept_of : (List ℕ → Bool) → Mark → List Mark
kept_of passes mark = if passes (words.name_of mark.subject) then [] else mark ∷ []

-- the marks whose names aren't allowed
abbrev pub kept : (List ℕ → Bool) → List Mark → List Mark
kept passes marks = flat_map (kept_of passes) marks

-- how many marks are errors
abbrev pub is_error : Severity → Bool
is_error Error = true
is_error Warning = false

abbrev pub error_of : Mark → List Mark
error_of mark = if is_error (words.severity_of mark.subject) then mark ∷ [] else []

abbrev pub error_count : List Mark → ℕ
error_count marks = length (flat_map error_of marks)

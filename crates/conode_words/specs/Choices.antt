-- The choices that words of options name.
use Rattle.std.specs.Prelude.{List, [], ◌∷◌, codes, find, Option, Some, None, option_map, option_and_then}
use Rattle.std.specs.Option.{option_map_or}
use Rattle.std.specs.Str.{bytes_eq}
use Rattle.clap.specs.Words.{Row, Text, first_of}
use Rattle.conode_words.specs.declared.tasks.Mode.{Mode}
use Rattle.conode_words.specs.declared.tasks.Mode.TheVariants.{Plain, Segmented, Block}
use Rattle.conode_words.specs.declared.tasks.Colours.{Colours}
use Rattle.conode_words.specs.declared.tasks.Colours.TheVariants.{Auto, Always, Never}
use Rattle.conode_words.specs.declared.tasks.Format.{Format}
use Rattle.conode_words.specs.declared.tasks.Format.TheVariants as format
use Rattle.conode_words.specs.declared.tasks.LeadingZeros.{LeadingZeros}
use Rattle.conode_words.specs.declared.tasks.LeadingZeros.TheVariants.{Octal, Decimal}
use Rattle.conode_words.specs.declared.tasks.LinesAs.{LinesAs}
use Rattle.conode_words.specs.declared.tasks.LinesAs.TheVariants as lines
use Rattle.conode_words.specs.declared.tasks.LogForm.{LogForm}
use Rattle.conode_words.specs.declared.tasks.LogForm.TheVariants as log_form
use Rattle.conode_words.specs.declared.tasks.ReportAs.{ReportAs}
use Rattle.conode_words.specs.declared.tasks.ReportAs.TheVariants as report_form
use Rattle.conode_words.specs.declared.tasks.ShownAs.{ShownAs}
use Rattle.conode_words.specs.declared.tasks.ShownAs.TheVariants as shown_form
use Rattle.conode_words.specs.declared.tasks.Stamps.{Stamps}
use Rattle.conode_words.specs.declared.tasks.Stamps.TheVariants.{Relative, Absolute, Delta, Date}

-- the choice that a word names, of these
abbrev pub choice_named : {A : Type 0} → List (Text × A) → Text → Option A
choice_named choices word = option_map (λ c. c.1) (find (λ c. bytes_eq word c.0) choices)

-- the format of `lint` that a word names
unfoldable pub format_of : Text → Option Format
format_of =
    choice_named ((codes "text", format.Text) ∷ (codes "json", format.Json) ∷ (codes "sarif", format.Sarif) ∷ [])

unfoldable pub format_for : List Row → Option Format
format_for rows = option_and_then format_of (first_of (codes "format") rows)

-- when there are colours
unfoldable pub colours_of : Text → Option Colours
colours_of = choice_named ((codes "auto", Auto) ∷ (codes "always", Always) ∷ (codes "never", Never) ∷ [])

unfoldable pub colours_for : List Row → Option Colours
colours_for rows = option_and_then colours_of (first_of (codes "color") rows)

-- the mode of `loop`
unfoldable pub mode_of : Text → Option Mode
mode_of = choice_named ((codes "plain", Plain) ∷ (codes "segmented", Segmented) ∷ (codes "block", Block) ∷ [])

unfoldable pub mode_for : List Row → Option Mode
mode_for rows = option_and_then mode_of (first_of (codes "mode") rows)

-- the form of `show`
unfoldable pub shown_as : Text → Option ShownAs
shown_as =
    choice_named ((codes "text", shown_form.Columns) ∷ (codes "markdown", shown_form.Markdown) ∷ (codes "json", shown_form.Json) ∷ [])

unfoldable pub shown_for : List Row → Option ShownAs
shown_for rows = option_and_then shown_as (first_of (codes "format") rows)

-- how leading zeros are read
unfoldable pub zeros_of : Text → Option LeadingZeros
zeros_of = choice_named ((codes "octal", Octal) ∷ (codes "decimal", Decimal) ∷ [])

-- the same for the option: `Some None` if it isn't used, `None` for another word
unfoldable pub zeros_for : List Row → Option (Option LeadingZeros)
zeros_for rows =
    option_map_or (λ word. option_map (λ zeros. Some zeros) (zeros_of word))
    (first_of (codes "leading-zeros") rows) (Some None)

-- the form of stamps, by a word or a letter, as candump has them
unfoldable pub stamps_of : Text → Option Stamps
stamps_of =
    choice_named ((codes "relative", Relative) ∷ (codes "z", Relative) ∷ (codes "absolute", Absolute) ∷ (codes "a", Absolute)
    ∷ (codes "delta", Delta) ∷ (codes "d", Delta) ∷ (codes "date", Date) ∷ (codes "A", Date) ∷ [])

unfoldable pub stamps_for : List Row → Option Stamps
stamps_for rows = option_and_then stamps_of (first_of (codes "stamps") rows)

-- how lines are written
unfoldable pub lines_as_of : Text → Option LinesAs
lines_as_of = choice_named ((codes "text", lines.Text) ∷ (codes "json", lines.Json) ∷ [])

unfoldable pub lines_as_for : List Row → Option LinesAs
lines_as_for rows = option_and_then lines_as_of (first_of (codes "format") rows)

-- how a comparison is written
unfoldable pub report_as_of : Text → Option ReportAs
report_as_of =
    choice_named ((codes "text", report_form.Text) ∷ (codes "json", report_form.Json) ∷ (codes "junit", report_form.JUnit)
    ∷ (codes "html", report_form.Html) ∷ [])

unfoldable pub report_as_for : List Row → Option ReportAs
report_as_for rows = option_and_then report_as_of (first_of (codes "format") rows)

-- the form of a log
unfoldable pub log_form_of : Text → Option LogForm
log_form_of =
    choice_named ((codes "auto", log_form.Auto) ∷ (codes "candump", log_form.Candump) ∷ (codes "screen", log_form.Screen)
    ∷ (codes "screen-delta", log_form.ScreenDelta) ∷ (codes "trc", log_form.Trc) ∷ (codes "asc", log_form.Asc) ∷ [])

unfoldable pub log_form_for : List Row → Option LogForm
log_form_for rows = option_and_then log_form_of (first_of (codes "log") rows)

-- Findings as compilers print them.
use Rattle.std.specs.Prelude.{ℕ, ◌==◌, Bool, if◌then◌else◌, List, [], ◌∷◌, ◌++◌, codes, decimal}
use Rattle.conode_text.specs.Filled.{filled}
use Rattle.conode_json.specs.Characters.{characters_of}
use Rattle.conode_lint_text.specs.Characters.{shown_all}
use Rattle.conode_lint_text.specs.Findings.{column_of, fix_of, help_of, message_of, severity_name}
use Rattle.conode_lint_text.specs.declared.finding.Finding.{Finding}
use Rattle.conode_lint_text.specs.declared.finding.Severity.{Severity as HowSevere}
use Rattle.conode_lint_text.specs.declared.finding.Severity.TheVariants.{Error, Warning}
use Rattle.conode_lint_text.specs.declared.pieces.Piece.{Piece}
use Rattle.conode_lint_text.specs.declared.pieces.Piece.TheVariants.{Words, Colour, Shown, Number, Position, Quoted, Counted, Severity, Message, Help, LeftOut}

-- what begins a colour on a terminal (ECMA-48, SGR), by its numbers, and what ends it; without
-- colours nothing
abbrev pub begin_colour : Bool → List ℕ → List ℕ
begin_colour colours numbers = if colours then 27 ∷ codes "[" ++ numbers ++ codes "m" else []

abbrev pub end_colour : Bool → List ℕ
end_colour colours = if colours then 27 ∷ codes "[0m" else []

-- red for errors, magenta for warnings
abbrev pub severity_colour : HowSevere → List ℕ
severity_colour Error = codes "1;31"
severity_colour Warning = codes "1;35"

-- the number of the line and the column, if a line is to blame
unfoldable pub position_text : ℕ → ℕ → List ℕ
position_text line column =
    if line == 0 then [] else filled (codes "%:%:") (decimal line ∷ decimal column ∷ [])

-- the line with this number, from its characters, if one is to blame
abbrev pub quoted_text : ℕ → List ℕ → List ℕ
quoted_text line characters =
    if line == 0 then [] else codes "    " ++ shown_all characters ++ 10 ∷ []

-- all lines of a finding: the file, a list of characters, and the position; the label, `error[BadList]:`;
-- what is wrong; the line itself; how to fix it
unfoldable pub finding_lines : Bool → List ℕ → Finding → List ℕ
finding_lines colours file finding =
    filled (codes "%%:%% %%[%]:% %\n%  %help:% %\n")
    (begin_colour colours (codes "1") ∷ shown_all file
    ∷ position_text finding.line (column_of finding) ∷ end_colour colours
    ∷ begin_colour colours (severity_colour finding.severity) ∷ severity_name finding.severity
    ∷ finding.name.now ∷ end_colour colours
    ∷ message_of finding
    ∷ quoted_text finding.line (characters_of finding.text.now)
    ∷ begin_colour colours (codes "1;36") ∷ end_colour colours
    ∷ help_of (fix_of finding) finding.subject.now ∷ [])

-- the line of a file whose further findings aren't printed
unfoldable pub more_line : List ℕ → ℕ → List ℕ
more_line file count = filled (codes "%: % more\n") (shown_all file ∷ decimal count ∷ [])

-- a number of things, as `1 error`, `2 errors`
unfoldable pub counted : ℕ → List ℕ → List ℕ
counted count thing =
    if count == 1 then filled (codes "% %") (decimal count ∷ thing ∷ [])
    else filled (codes "% %s") (decimal count ∷ thing ∷ [])

-- how many findings aren't listed
unfoldable pub left_out_text : ℕ → List ℕ
left_out_text more = filled (codes "findings that aren't among the results: %") (decimal more ∷ [])

-- the text of a piece
abbrev pub piece_text : Piece → List ℕ
piece_text (Words words) = words.now
piece_text (Colour colours sequence) = if colours then sequence.now else []
piece_text (Shown characters) = shown_all characters.now
piece_text (Number number) = decimal number
piece_text (Position line column) = position_text line column
piece_text (Quoted line characters) = quoted_text line characters.now
piece_text (Counted number thing) = counted number thing.now
piece_text (Severity severity) = severity_name severity
piece_text (Message finding) = message_of finding.now
piece_text (Help fix subject) = help_of fix.now subject.now
piece_text (LeftOut more) = left_out_text more

-- the last line: `2 errors, 1 warning in 3 files`
unfoldable pub summary_line : ℕ → ℕ → ℕ → List ℕ
summary_line errors warnings files =
    filled (codes "%, % in %\n")
    (counted errors (codes "error") ∷ counted warnings (codes "warning")
    ∷ counted files (codes "file") ∷ [])

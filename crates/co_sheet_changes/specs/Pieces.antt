-- A text in pieces: lines that stay, lines that are changed, and lines that are added (CiA 306,
-- structure of an EDS).
use Rattle.std.specs.Prelude.{ℕ, List, [], ◌∷◌, ◌++◌, Option, Some, None}
use Rattle.co_sheet_text.specs.Text.{Line}
use Rattle.co_sheet_changes.specs.declared.change.ChangeKind.{ChangeKind}
use Rattle.co_sheet_changes.specs.declared.change.Change.{Change as CodeChange}
use Rattle.co_sheet_changes.specs.declared.change.Mended.{Mended as CodeMended}
use Rattle.co_sheet_changes.specs.declared.change.Piece.{Piece as CodePiece}
use Rattle.co_sheet_changes.specs.declared.change.Piece.TheVariants.{Kept, Changed, Added}

-- why a line is changed, and what comes in its place: lines, each ended by LF
pub record Mended : Type 0 where
  pub kind : ChangeKind
  pub new : List ℕ

abbrev pub mended : ChangeKind → List ℕ → Mended
mended why lines = record { kind = why; new = lines }

-- a line that is changed: its number, why, what it was, and the lines that come in its place
pub record Change : Type 0 where
  pub line : ℕ
  pub kind : ChangeKind
  pub old : List ℕ
  pub new : List ℕ

-- a line that stays, one that is changed, and lines that are added for a change of a line
pub data Piece : Type 0 where
  kept : List ℕ → Piece
  changed : Change → Piece
  added_lines : ℕ → List ℕ → Piece

-- `NAME=VALUE`, ended by LF
unfoldable pub assigned : List ℕ → List ℕ → List ℕ
assigned name value = name ++ 61 ∷ [] ++ value ++ 10 ∷ []

abbrev pub piece_of : Line → Option Mended → Piece
piece_of line None = kept line.bytes
piece_of line (Some m) =
    changed (record { line = line.number; kind = m.kind; old = line.bytes; new = m.new })

abbrev pub kept_piece : Line → Piece
kept_piece line = kept line.bytes

-- a piece as it is written: each line is ended by LF
abbrev pub written : Piece → List ℕ
written (kept line) = line ++ 10 ∷ []
written (changed change) = change.new
written (added_lines line text) = text

-- ---- what pieces say, without where their texts lie in memory

abbrev pub mended_view : CodeMended → Mended
mended_view m = record { kind = m.kind; new = m.new.items }

abbrev pub change_view : CodeChange → Change
change_view c = record { line = c.line; kind = c.kind; old = c.old.now; new = c.new.items }

abbrev pub piece_view : CodePiece → Piece
piece_view (Kept line) = kept line.now
piece_view (Changed change) = changed (change_view change)
piece_view (Added line text) = added_lines line text.items

-- Warnings of a kind, by their lines.
use Rattle.std.specs.Prelude.{ℕ, List, map}
use Rattle.co_sheet_text_warnings.specs.declared.warning.Warning.{Warning}
use Rattle.co_sheet_text_warnings.specs.declared.warning.WarningKind.{WarningKind}

-- a warning of a kind at a line, and warnings of a kind at lines
abbrev pub warning_at : WarningKind → ℕ → Warning
warning_at kind line = record { kind = kind; line = line }

abbrev pub warnings_at : WarningKind → List ℕ → List Warning
warnings_at kind lines = map (warning_at kind) lines

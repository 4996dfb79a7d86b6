-- The texts of data sheets.
use Rattle.std.specs.Prelude.{ℕ, List, if◌then◌else◌}
use Rattle.std.specs.Str.{is_utf8}
use Rattle.conode_json.specs.Characters.{utf8_of}

-- a line in UTF-8: as it is if valid, else read as Windows-1252
unfoldable pub line_in_utf8 : List ℕ → List ℕ
line_in_utf8 line = if is_utf8 line then line else utf8_of line

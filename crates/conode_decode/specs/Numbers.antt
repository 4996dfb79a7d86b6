-- How the fields of a frame are printed.
use Rattle.std.specs.Prelude.{ℕ, Bool, if◌then◌else◌, List, [], ◌∷◌, ◌++◌, codes, Option, Some, None, decimal}
use Rattle.std.specs.List.{flat_map}
use Rattle.co_text.specs.Printed.{byte_text}

-- bytes, two hexadecimal digits each; a hyphen for none
abbrev pub hex_text : List ℕ → List ℕ
hex_text [] = codes "-"
hex_text (byte ∷ bytes) = flat_map byte_text (byte ∷ bytes)

-- a toggle bit
abbrev pub toggle_text : Bool → List ℕ
toggle_text toggle = if toggle then codes "1" else codes "0"

-- a size, if it is indicated
abbrev pub size_text : Option ℕ → List ℕ
size_text None = []
size_text (Some size) = codes " size " ++ decimal size

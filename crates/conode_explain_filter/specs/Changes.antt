-- What was said last of identifiers, by interface, and whether a frame says something new.
use Rattle.std.specs.Prelude.{ℕ, ◌==◌, ◌&&◌, nat_lt, Bool, true, not, if◌then◌else◌, List, [], ◌∷◌, ◌++◌, length, slice_set, position, Option, Some, None}
use Rattle.std.specs.List.{slice_index_or}
use Rattle.std.specs.Str.{bytes_eq}

-- what was said last of an identifier on an interface
pub record Said : Type 0 where
  pub interface : List ℕ
  pub id : ℕ
  pub bytes : List ℕ
  pub words : List ℕ

-- at most of so many identifiers
abbrev pub most_kept : ℕ
most_kept = 1024

abbrev pub is_of : List ℕ → ℕ → Said → Bool
is_of interface id said = (said.id == id) && bytes_eq said.interface interface

abbrev pub place_of : List Said → List ℕ → ℕ → Option ℕ
place_of lasts interface id = position (is_of interface id) lasts

abbrev pub said_at : List Said → ℕ → Said
said_at lasts place = slice_index_or lasts place (record { interface = []; id = 0; bytes = []; words = [] })

abbrev pub is_same : Said → Said → Bool
is_same last said = bytes_eq last.bytes said.bytes && bytes_eq last.words said.words

-- ---- whether it is new: other bytes or other words

-- of an identifier of which nothing is kept everything is
abbrev pub is_new_at : Option ℕ → List Said → Said → Bool
is_new_at (Some place) lasts said = not (is_same (said_at lasts place) said)
is_new_at None lasts said = true

unfoldable pub is_new : List Said → Said → Bool
is_new lasts said = is_new_at (place_of lasts said.interface said.id) lasts said

-- ---- what is kept after it

-- what is new: in the place of what was said before; else last, where there is room
abbrev pub kept_at : Option ℕ → List Said → Said → List Said
kept_at (Some place) lasts said = slice_set lasts place said
kept_at None lasts said = if nat_lt (length lasts) most_kept then lasts ++ said ∷ [] else lasts

unfoldable pub kept : List Said → Said → List Said
kept lasts said =
    if is_new lasts said then kept_at (place_of lasts said.interface said.id) lasts said else lasts

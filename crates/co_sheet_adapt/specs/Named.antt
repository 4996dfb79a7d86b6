-- The names and values of the sub-indices of objects in compact form (CiA 306, compact storage), and
-- those that have a section of their own.
use Rattle.std.specs.Prelude.{ℕ, ◌-◌, Bool, false, ◌&&◌, ◌==◌, nat_le, if◌then◌else◌, List, [], ◌∷◌, length, take, drop, Option, Some, None, option_and_then}
use Rattle.std.specs.Option.{option_or, option_map_or}
use Rattle.co_value.specs.declared.key.Key.{Key}
use Rattle.co_value.specs.Keys.{same_key}
use Rattle.co_sheet_text.specs.declared.section_kind.SectionKind.{SectionKind}
use Rattle.co_sheet_text.specs.declared.section_kind.SectionKind.TheVariants.{Object, SubIndex}
use Rattle.co_sheet_text.specs.Names.{kind_of, number_in}
use Rattle.co_sheet_text.specs.Numerals.{is_number_in}
use Rattle.co_sheet_text.specs.Text.{Line, same_name}
use Rattle.co_sheet_changes.specs.Groups.{Given, Group, property_in}

-- the index of an object
abbrev pub object_index : SectionKind → Option ℕ
object_index (Object index) = Some index
object_index kind = None

-- the index of an object that a section's name has before a word: `2300Name`
abbrev pub index_named : List ℕ → List ℕ → Option ℕ
index_named word name =
    if same_name (drop (length name - length word) name) word
    then object_index (kind_of (take (length name - length word) name))
    else None

-- the sub-index that a key is, in decimal digits
abbrev pub sub_named : List ℕ → Option ℕ
sub_named name =
    if is_number_in 10 name && nat_le (number_in 10 name) 255 then Some (number_in 10 name) else None

-- what a line gives a sub-index
abbrev pub is_sub : ℕ → Option ℕ → Bool
is_sub sub named = option_map_or (λ n. n == sub) named false

abbrev pub text_given : ℕ → Key → Option Given → Option (List ℕ)
text_given index key None = None
text_given index key (Some given) =
    if (index == key.index) && is_sub key.sub (sub_named given.name) then Some given.value else None

abbrev pub text_in_line : ℕ → Key → Line → Option (List ℕ)
text_in_line index key line = text_given index key (property_in line)

-- what the lines of an object's section give it: the first that does
abbrev pub text_in_body : ℕ → Key → List Line → Option (List ℕ)
text_in_body index key [] = None
text_in_body index key (line ∷ lines) =
    option_or (text_in_line index key line) (text_in_body index key lines)

-- what the sections of a word give it
abbrev pub text_in_group : List ℕ → Key → Group → Option (List ℕ)
text_in_group word key g =
    option_and_then (λ index. text_in_body index key g.body) (index_named word g.name)

abbrev pub text_in_groups : List ℕ → Key → List Group → Option (List ℕ)
text_in_groups word key [] = None
text_in_groups word key (g ∷ groups) =
    option_or (text_in_group word key g) (text_in_groups word key groups)

-- ---- sections of their own

-- the name of a section, where it is that of a sub-index
abbrev pub own_at : Key → SectionKind → List ℕ → Option (List ℕ)
own_at key (SubIndex own) name = if same_key own key then Some name else None
own_at key kind name = None

abbrev pub own_in_group : Key → Group → Option (List ℕ)
own_in_group key g = own_at key g.kind g.name

-- that of the first section of a sub-index
abbrev pub own_in_groups : Key → List Group → Option (List ℕ)
own_in_groups key [] = None
own_in_groups key (g ∷ groups) = option_or (own_in_group key g) (own_in_groups key groups)

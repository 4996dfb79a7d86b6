-- The interfaces of a recording whose frames aren't compared.
use Rattle.std.specs.Prelude.{ℕ, nat_lt, Bool, not, ◌||◌, if◌then◌else◌, List, [], ◌∷◌, ◌++◌, length}
use Rattle.std.specs.List.{list_any}
use Rattle.std.specs.Str.{bytes_eq}
use Rattle.arrayvec.specs.ArrayVec.{ArrayVec}
use Rattle.conode_compare.specs.declared.interfaces_seen.InterfacesSeen.{InterfacesSeen}

abbrev pub no_interfaces : InterfacesSeen
no_interfaces = record { names = record { items = [] } }

abbrev pub has_name : List (ArrayVec ℕ) → List ℕ → Bool
has_name names name = list_any (λ seen. bytes_eq seen.items name) names

-- one more, in the order of their first frames: nine are kept
abbrev pub interfaces_with : InterfacesSeen → List ℕ → InterfacesSeen
interfaces_with seen name =
    if has_name seen.names.items name || not (nat_lt (length seen.names.items) 9) then seen
    else record { names = record { items = seen.names.items ++ (record { items = name }) ∷ [] } }

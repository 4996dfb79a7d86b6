-- Which sheet counts, evaluated on both sides of each edge.
use Rattle.std.proofs.Common.{◌≡◌, ℕ, [], ◌∷◌, List, Some, None, Option, refl}
use Rattle.std.specs.Prelude.{codes, option_map}
use Rattle.conode_explain_cob_ids.specs.Known.{KnownSheet, sheet_for}
use Rattle.conode_explain.specs.Sheets.{in_order, node_for}

-- ---- the node of a sheet

named_node : node_for (Some 5) (Some 6) ≡ Some 5
named_node = refl

own_node : node_for None (Some 6) ≡ Some 6
own_node = refl

-- ---- which sheet counts: each has a number, in place of an original type

abbrev sheet : Option (List ℕ) → Option ℕ → ℕ → KnownSheet
sheet interface node line = record {
  interface = interface;
  names = record { sheet = None; only = node; originals = λ l. Some (line ∷ []) };
  pdos = [];
  services = [];
}

abbrev for_all : KnownSheet
for_all = sheet None None 1

abbrev for_interface : KnownSheet
for_interface = sheet (Some (codes "can0")) None 2

abbrev for_node : KnownSheet
for_node = sheet None (Some 5) 3

abbrev for_both : KnownSheet
for_both = sheet (Some (codes "can0")) (Some 5) 4

-- the number of the sheet that counts for a node on an interface
abbrev counts : List KnownSheet → List ℕ → ℕ → Option (Option (List ℕ))
counts sheets interface node = option_map (λ s. s.names.originals 0) (sheet_for (in_order sheets) interface node)

abbrev number : ℕ → Option (Option (List ℕ))
number n = Some (Some (n ∷ []))

abbrev all : List KnownSheet
all = for_all ∷ for_interface ∷ for_node ∷ for_both ∷ []

both_first : counts all (codes "can0") 5 ≡ number 4
unfolding in_order
both_first = refl

elsewhere : counts all (codes "can1") 5 ≡ number 3
unfolding in_order
elsewhere = refl

other_node : counts all (codes "can0") 6 ≡ number 2
unfolding in_order
other_node = refl

other_node_elsewhere : counts all (codes "can1") 6 ≡ number 1
unfolding in_order
other_node_elsewhere = refl

-- a node's own sheet, for each interface, before one for all nodes of this interface
own_before_interface : counts (for_interface ∷ for_node ∷ []) (codes "can0") 5 ≡ number 3
unfolding in_order
own_before_interface = refl

-- of two alike the first
first_named : counts (sheet None (Some 5) 7 ∷ for_node ∷ []) (codes "can0") 5 ≡ number 7
unfolding in_order
first_named = refl

first_of_all : counts (sheet None None 7 ∷ for_all ∷ []) (codes "can0") 5 ≡ number 7
unfolding in_order
first_of_all = refl

none_fits : counts (for_both ∷ for_node ∷ []) (codes "can0") 6 ≡ None
unfolding in_order
none_fits = refl

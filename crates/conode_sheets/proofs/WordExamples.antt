-- Which data sheets words name, evaluated on both sides of each edge.
use Rattle.std.proofs.Common.{◌≡◌, ℕ, [], ◌∷◌, List, Some, None, Option, Ok, Err, map, refl}
use Rattle.std.specs.Prelude.{codes, Result}
use Rattle.conode_sheets.specs.declared.sheet_word.SheetPart.{SheetPart}
use Rattle.conode_sheets.specs.declared.sheet_word.SheetPart.TheVariants.{Interface, Node, Path}
use Rattle.conode_sheets.specs.SheetWords.{Named, node_and_path, node_like, sheet_word}

abbrev is : Option (List ℕ) → Option ℕ → List ℕ → Result Named SheetPart
is interface node path = Ok (record { interface = interface; node = node; path = path })

of_all : sheet_word (codes "a.eds") ≡ is None None (codes "a.eds")
unfolding sheet_word node_and_path
of_all = refl

of_a_node : sheet_word (codes "5=a.eds") ≡ is None (Some 5) (codes "a.eds")
unfolding sheet_word node_and_path
of_a_node = refl

of_an_interface : sheet_word (codes "can1:a.eds") ≡ is (Some (codes "can1")) None (codes "a.eds")
unfolding sheet_word node_and_path
of_an_interface = refl

of_both : sheet_word (codes "can1:5=a.eds") ≡ is (Some (codes "can1")) (Some 5) (codes "a.eds")
unfolding sheet_word node_and_path
of_both = refl

-- node-IDs
first_node : sheet_word (codes "1=a") ≡ is None (Some 1) (codes "a")
unfolding sheet_word node_and_path
first_node = refl

last_node : sheet_word (codes "127=a") ≡ is None (Some 127) (codes "a")
unfolding sheet_word node_and_path
last_node = refl

no_nodes : map sheet_word (codes "0=a" ∷ codes "128=a" ∷ codes "x=a" ∷ codes "=a" ∷ codes "can1:0=a" ∷ []) ≡ Err Node ∷ Err Node ∷ Err Node ∷ Err Node ∷ Err Node ∷ []
unfolding sheet_word node_and_path
no_nodes = refl

-- interfaces: 15 bytes, and 16; none; with a blank
longest_interface : sheet_word (codes "abcdefghijklmno:a") ≡ is (Some (codes "abcdefghijklmno")) None (codes "a")
unfolding sheet_word node_and_path
longest_interface = refl

no_interfaces : map sheet_word (codes "abcdefghijklmnop:a" ∷ codes ":a" ∷ codes "a b:c" ∷ []) ≡ Err Interface ∷ Err Interface ∷ Err Interface ∷ []
unfolding sheet_word node_and_path
no_interfaces = refl

-- no path
no_paths : map sheet_word ([] ∷ codes "5=" ∷ codes "can1:" ∷ codes "can1:5=" ∷ []) ≡ Err Path ∷ Err Path ∷ Err Path ∷ Err Path ∷ []
unfolding sheet_word node_and_path
no_paths = refl

-- marks in a path: after a slash, and after the equals sign
in_folder : sheet_word (codes "./5=a") ≡ is None None (codes "./5=a")
unfolding sheet_word node_and_path
in_folder = refl

colon_in_folder : sheet_word (codes "./can1:a") ≡ is None None (codes "./can1:a")
unfolding sheet_word node_and_path
colon_in_folder = refl

after_interface : sheet_word (codes "can1:b/5=a") ≡ is (Some (codes "can1")) None (codes "b/5=a")
unfolding sheet_word node_and_path
after_interface = refl

after_node : sheet_word (codes "5=a:b=c") ≡ is None (Some 5) (codes "a:b=c")
unfolding sheet_word node_and_path
after_node = refl

-- ---- an interface that looks like a node-ID
like_node : node_like None (Some (codes "127")) ≡ Some 127
like_node = refl

too_large_for_a_node : node_like None (Some (codes "128")) ≡ None
too_large_for_a_node = refl

of_a_name : node_like None (Some (codes "can1")) ≡ None
of_a_name = refl

with_a_node : node_like (Some 5) (Some (codes "1")) ≡ None
with_a_node = refl

without_interface : node_like None None ≡ None
without_interface = refl

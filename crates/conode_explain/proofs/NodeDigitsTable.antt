-- The digits of a node-ID are those of any number.
use Rattle.std.proofs.Common.{◌≡◌, ℕ, ◌<◌, List, [], map, get_or, refl, ap, sym, ◌∙◌, arith}
use Rattle.std.specs.Prelude.{decimal}
use Rattle.std.specs.Fmt.{digits}
use Rattle.std.specs.List.{range_with_len}
use Rattle.std.proofs.lemmas.List.FromFn.{get_or-map-range_with_len}
use Rattle.conode_explain.specs.NodeDigits.{node_digits}

table : map node_digits (range_with_len 0 128) ≡ map decimal (range_with_len 0 128)
unfolding node_digits digits
table = refl

pub are_decimal : (node : ℕ) → node < 128 → node_digits node ≡ decimal node
are_decimal node below =
    sym (get_or-map-range_with_len node_digits 0 128 node node [] below (omega arith))
    ∙ ap (λ (digits : List (List ℕ)). get_or digits node []) table
    ∙ get_or-map-range_with_len decimal 0 128 node node [] below (omega arith)

-- The types that are fixed, of the code's table and of the definition's.
use Rattle.std.proofs.Common.{◌≡◌, ℕ, ◌<◌, Bool, true, false, cond, List, [], ◌∷◌, Option, Some, None, refl, sym, ap, arith}
use Rattle.std.specs.Prelude.{find, map, option_map, nat_le, ◌&&◌}
use Rattle.std.specs.List.{list_all}
use Rattle.std.proofs.lemmas.Bool.{and_parts}
use Rattle.std.proofs.lemmas.Bool.Decides.{nat_tests}
use Rattle.co_value.specs.declared.key.Key.{Key}
use Rattle.co_value.specs.declared.data_type.DataType.{DataType}
use Rattle.co_profile.specs.declared.fixed_types.FixedType.{FixedType}
use Rattle.co_profile.specs.declared.indices.IndexRange.{IndexRange}
use Rattle.co_profile.specs.Indices.{is_within}
use Rattle.co_profile.specs.FixedTypes.{fixed_types, fixed_type_of}

abbrev row_of_code : FixedType → DataType × IndexRange × ℕ × ℕ
row_of_code f = (f.0, f.1, f.2, f.3)

found_alike : (b : Bool) (f : FixedType) (rest : Option FixedType) (others : Option (DataType × IndexRange × ℕ × ℕ)) → option_map (λ g. g.0) rest ≡ option_map (λ g. g.0) others
    → option_map (λ g. g.0) (cond b (Some f) rest) ≡ option_map (λ g. g.0) (cond b (Some (row_of_code f)) others)
found_alike true f rest others h = refl
found_alike false f rest others h = h

-- a table of the code and its rows give the same type
pub find-rows : (key : Key) (types : List FixedType) → option_map (λ f. f.0) (find (λ f. is_within f.1 key.index && nat_le f.2 key.sub && nat_le key.sub f.3) types)
    ≡ option_map (λ f. f.0) (find (λ f. is_within f.1 key.index && nat_le f.2 key.sub && nat_le key.sub f.3) (map row_of_code types))
find-rows key [] = refl
find-rows key (f ∷ types) = found_alike (is_within f.1 key.index && nat_le f.2 key.sub && nat_le key.sub f.3) f _ _ (find-rows key types)

not_covered : (a b c d : Bool) → b ≡ false → (a && b && c && d) ≡ false
not_covered true true c d h = absurd (cc)
not_covered true false c d h = refl
not_covered false b c d h = refl

past : (index last : ℕ) → 0x1BFF < index → nat_le last 0x1BFF ≡ true → nat_le index last ≡ false
past index last h k = grind (arith, nat_tests)

not_found : {X : Type 0} (test : Bool) (x : X) (found : Option X) → test ≡ false → found ≡ None → cond test (Some x) found ≡ None
not_found true x found h k = absurd (cc)
not_found false x found h k = k

-- no row has an index past all of theirs
none-past : (key : Key) → 0x1BFF < key.index → (rows : List (DataType × IndexRange × ℕ × ℕ)) → list_all (λ f. nat_le f.1.1 0x1BFF) rows ≡ true
    → find (λ f. is_within f.1 key.index && nat_le f.2 key.sub && nat_le key.sub f.3) rows ≡ None
none-past key above [] all = refl
none-past key above (f ∷ rows) all =
    let tests = and_parts (nat_le f.1.1 0x1BFF) (list_all (λ g. nat_le g.1.1 0x1BFF) rows) all in
    not_found (is_within f.1 key.index && nat_le f.2 key.sub && nat_le key.sub f.3) f _
    (not_covered (nat_le f.1.0 key.index) (nat_le key.index f.1.1) (nat_le f.2 key.sub) (nat_le key.sub f.3) (past key.index f.1.1 above tests.0))
    (none-past key above rows tests.1)

pub none-fixed : (key : Key) → 0x1BFF < key.index → None ≡ fixed_type_of key
none-fixed key above = sym (ap (option_map (λ f. f.0)) (none-past key above fixed_types refl))

-- A dictionary that was built has the COB-ID of each PDO communication parameter.
use Rattle.std.proofs.Common.{◌≡◌, ℕ, ◌+◌, Bool, true, false, cond, List, [], ◌∷◌, Option, Some, None, refl, sym, ap, ◌∙◌, map}
use Rattle.std.proofs.lemmas.Bool.{true≢false}
use Rattle.std.specs.Prelude.{◌&&◌, ◌||◌, not, find, option_map}
use Rattle.std.specs.Option.{option_or}
use Rattle.std.specs.List.{list_any, range_with_len}
use Rattle.co_value.specs.declared.key.Key.{Key}
use Rattle.co_value.specs.Keys.{same_key}
use Rattle.co_profile.specs.Indices.{pdo_cob_id}
use Rattle.co_dict.specs.Rows.{Rows}
use Rattle.co_dict.specs.Objects.{has_sub, has_object}
use Rattle.co_dict_build.specs.declared.build_fault.BuildFault.{BuildFault}
use Rattle.co_dict_build.specs.declared.build_fault.BuildFault.TheVariants.{NodeId, ValueRange, BadCobId, PdoPair, BadMapping}
use Rattle.co_dict_build.specs.LawfulLists.{equal_keys, list_has}
use Rattle.co_dict_build.specs.Built.{Plan, built, built_description, built_contents}
use Rattle.co_dict_build.specs.BuildFaults.{is_node, fault_if, value_out_of_range, bad_cob_id, bad_mapping, room_fault, dictionary_fault, build_fault, first_there, is_communication, is_lone_communication, is_lone_mapping, is_unpaired, unpaired}

-- ---- no fault, no index without its partner

second_none : (a b : Option BuildFault) → option_or a b ≡ None → b ≡ None
second_none None b h = h
second_none (Some fault) b h = absurd (cc)

first_none : (a b : Option BuildFault) → option_or a b ≡ None → a ≡ None
first_none None b h = refl
first_none (Some fault) b h = absurd (cc)

nothing_mapped : (o : Option ℕ) → option_map (λ (index : ℕ). PdoPair index) o ≡ None → o ≡ None
nothing_mapped None h = refl
nothing_mapped (Some index) h = absurd (cc)

paired : (plan : Plan) → build_fault plan ≡ None → unpaired (built_description plan) ≡ None
paired plan h =
    let d = built_description plan in
    let word = option_map BadCobId (bad_cob_id d (built_contents plan)) in
    let pair = option_map (λ (index : ℕ). PdoPair index) (unpaired d) in
    let mapping = option_map BadMapping (bad_mapping d (built_contents plan)) in
    let room = room_fault plan.limits plan.rows in
    let sum = option_map ValueRange (value_out_of_range plan.node plan.rows) in
    let dictionary = dictionary_fault plan.limits plan.rows d (built_contents plan) in
    let none : dictionary ≡ None =
    first_none dictionary None (second_none sum (option_or dictionary None) (second_none (fault_if (not (is_node plan.node)) NodeId) (option_or sum (option_or dictionary None)) h)) in
    nothing_mapped (unpaired d) (first_none pair (first_there (mapping ∷ room ∷ [])) (second_none word (first_there (pair ∷ mapping ∷ room ∷ [])) none))

-- ---- what no index of the keys is

found_none : (b : Bool) (index : ℕ) (rest : Option ℕ) → cond b (Some index) rest ≡ None → (b ≡ false) × (rest ≡ None)
found_none true index rest h = absurd (cc)
found_none false index rest h = (refl, h)

none_of : (test : ℕ → Bool) (keys : List Key) (key : Key) → find test (map (λ (k : Key). k.index) keys) ≡ None → list_any (same_key key) keys ≡ true → test key.index ≡ false
none_of test [] key h is = absurd (true≢false (sym is))
none_of test (k ∷ keys) key h is = by_test (same_key key k) refl is (none_of test keys key (found_none (test k.index) k.index (find test (map (λ (k : Key). k.index) keys)) h).1)
  where
    by_test : (b : Bool) → same_key key k ≡ b → (b || list_any (same_key key) keys) ≡ true → (list_any (same_key key) keys ≡ true → test key.index ≡ false) → test key.index ≡ false
    by_test true same is later = ap (λ (k : Key). test k.index) (equal_keys key k same) ∙ (found_none (test k.index) k.index (find test (map (λ (k : Key). k.index) keys)) h).0
    by_test false other is later = later is

any_found : (p : ℕ → Bool) (xs : List ℕ) → list_any p xs ≡ true → (x : ℕ) × (p x ≡ true)
any_found p [] h = absurd (true≢false (sym h))
any_found p (x ∷ xs) h = by_test (p x) refl h (any_found p xs)
  where
    by_test : (b : Bool) → p x ≡ b → (b || list_any p xs) ≡ true → (list_any p xs ≡ true → (x : ℕ) × (p x ≡ true)) → (x : ℕ) × (p x ≡ true)
    by_test true is g later = (x, is)
    by_test false is g later = later g

sub_found : (rows : Rows) (index : ℕ) → has_object rows index ≡ true → (sub : ℕ) × (has_sub rows index sub ≡ true)
unfolding has_object
sub_found rows index h = any_found (has_sub rows index) (range_with_len 0 256) h

-- ---- the parameter

first_part : (lone other communication object first second : Bool) → lone ≡ (communication && not (object && first && second)) → (lone || other) ≡ false → communication ≡ true → first ≡ true
first_part lone other true true true second is none h = refl
first_part lone other true true false second is none h = absurd (cc)
first_part lone other true false first second is none h = absurd (cc)
first_part lone other false object first second is none h = absurd (cc)

pub has_cob_id : (plan : Plan) → build_fault plan ≡ None → (index : ℕ) → is_communication index ≡ true
    → has_object (built_description plan).rows index ≡ true → has_sub (built_description plan).rows index pdo_cob_id ≡ true
has_cob_id plan none index is there =
    let rows = (built_description plan).rows in
    let found = sub_found rows index there in
    let key : Key = record { index = index; sub = found.0 } in
    let alone : is_unpaired rows index ≡ false = none_of (is_unpaired rows) (built_description plan).keys key (paired plan none) (sym (list_has (built plan) key) ∙ found.1) in
    first_part (is_lone_communication rows index) (is_lone_mapping rows index) (is_communication index) (has_object rows (index + 0x200)) (has_sub rows index 1) (has_sub rows index 2) refl alone is

-- Tables of compiled mappings.
use Rattle.std.proofs.Common.{◌≡◌, ◌≢◌, ℕ, ◌+◌, ◌<◌, ◌≤◌, Bool, true, false, true≢false, eqb, ltb, List, [], ◌∷◌, ◌++◌, length, get_or, set, refl, sym, ap, ◌∙◌, subst, arith, length-append, get_or-set_same, get_or-set_other}
use Rattle.std.proofs.lemmas.List.{get_or_append_left}
use Rattle.std.proofs.Math.Seq.{get_or-append_seam}
use Rattle.std.proofs.lemmas.Bool.Decides.{nat_tests}
use Rattle.co_dict.specs.declared.side.Side.{Side}
use Rattle.co_dict.specs.declared.side.Side.TheVariants.{Rpdo, Tpdo}
use Rattle.co_dict.specs.Rows.{Contents}
use Rattle.co_dict.specs.Stores.{Description}
use Rattle.co_pdo.specs.declared.mapping.Mapped.{Mapped}
use Rattle.co_pdo.specs.Mappings.{has_pdo, mapping_index, mapping_of}
use Rattle.co_pdo_compiled.specs.declared.part.Part.{Part}
use Rattle.co_pdo_compiled.specs.CompiledMappings.{IsCompiledForm, HasParts, AgreeOnMapping}
use Rattle.co_node_model.specs.Mappings.{is_mapping_key, AgreeOnMappings}
use Rattle.co_node_device.specs.MappingTables.{AreForms, Covers, HaveParts, IsMappingTable}

-- one number more, that is not there
pub covers_more : (has : ℕ → Bool) (n count : ℕ) → ((j : ℕ) → j < n → has j ≡ true → j < count) → has n ≡ false
    → (j : ℕ) → j < n + 1 → has j ≡ true → j < count
covers_more has n count all none j below there = by_test (eqb j n) refl
  where
    by_test : (b : Bool) → eqb j n ≡ b → j < count
    by_test true h = let same : j ≡ n = grind (arith, nat_tests) in absurd (true≢false (sym there ∙ ap has same ∙ none))
    by_test false h = let less : j < n = grind (arith, nat_tests) in all j less there

module _ (P : ℕ → List Part → Type 0) where
  -- one more at the end
  pub each_pushed : (table after : List (List Part)) (n : ℕ) (new : List Part) → after ≡ table ++ new ∷ [] → length table ≡ n → P n new
      → ((k : ℕ) (d : List Part) → k < length table → P k (get_or table k d))
      → (k : ℕ) (d : List Part) → k < length after → P k (get_or after k d)
  each_pushed table after n new e len here all k d lt = rw e (by_test (ltb k (length table)) refl)
    where
      by_test : (b : Bool) → ltb k (length table) ≡ b → P k (get_or (table ++ new ∷ []) k d)
      by_test true low =
          let below : k < length table = grind (arith, nat_tests) in
          rw (get_or_append_left table (new ∷ []) d k below) (all k d below)
      by_test false low =
          let most : k < length table + 1 = simp length-append at (subst (λ (zs : List (List Part)). k < length zs) e lt) in
          let last : k ≡ length table = grind (arith, nat_tests) in
          rw last (rw (get_or-append_seam table new [] d) (subst (λ (j : ℕ). P j new) (sym len) here))

  -- one more is set
  pub each_set : (table : List (List Part)) (n : ℕ) (new : List Part) → n < length table → P n new
      → ((k : ℕ) (d : List Part) → k < n → P k (get_or table k d))
      → (k : ℕ) (d : List Part) → k < n + 1 → P k (get_or (set table n new) k d)
  each_set table n new within here all k d lt = by_test (eqb k n) refl
    where
      by_test : (b : Bool) → eqb k n ≡ b → P k (get_or (set table n new) k d)
      by_test true h = let same : k ≡ n = grind (arith, nat_tests) in rw same (rw get_or-set_same here)
      by_test false h =
          let other : k ≢ n = grind (arith, nat_tests) in
          let less : k < n = grind (arith, nat_tests) in
          rw get_or-set_other (all k d less)

in_range : (side : Side) (k sub : ℕ) → k < 512 → is_mapping_key (record { index = mapping_index side k; sub = sub }) ≡ true
in_range Rpdo k sub lt = grind (arith, nat_tests)
in_range Tpdo k sub lt = grind (arith, nat_tests)

-- where no mapping parameter was written, the forms stay
pub forms_kept : (side : Side) (d : Description) (before now : Contents) (table : List (List Part))
    → ((k : ℕ) → AgreeOnMapping side k before now → mapping_of side d before k ≡ mapping_of side d now k)
    → length table ≤ 512 → AgreeOnMappings before now → AreForms side d before table → AreForms side d now table
forms_kept side d before now table words few agree forms k parts lt =
    let below : k < 512 = omega (arith, few, lt) in
    subst (λ (m : List Mapped). IsCompiledForm d m (get_or table k parts)) (words k (λ sub. agree _ (in_range side k sub below))) (forms k parts lt)

-- ---- one PDO of a table

-- a PDO that isn't there maps nothing
no_pdo : (side : Side) (d : Description) (contents : Contents) (k : ℕ) → has_pdo side d.rows k ≡ false → mapping_of side d contents k ≡ []
no_pdo side d contents k off = rw off refl

not_covered : (side : Side) (d : Description) (n k : ℕ) → Covers side d n → k < 512 → n ≤ k → has_pdo side d.rows k ≡ false
not_covered side d n k covers below past = by_test (has_pdo side d.rows k) refl
  where
    by_test : (b : Bool) → has_pdo side d.rows k ≡ b → has_pdo side d.rows k ≡ false
    by_test true h = let within : k < n = covers.all k below h in absurd (omega (arith, within, past))
    by_test false h = h

pub nothing_past : (side : Side) (d : Description) (contents : Contents) (table : List (List Part)) (k : ℕ) → IsMappingTable side d contents table
    → k < 512 → length table ≤ k → mapping_of side d contents k ≡ []
nothing_past side d contents table k t below past = no_pdo side d contents k (not_covered side d (length table) k t.covers below past)

-- the parts of a PDO that is in a table
pub form_at : (side : Side) (d : Description) (contents : Contents) (table : List (List Part)) (k : ℕ) (parts : List Part) → IsMappingTable side d contents table
    → k < length table → parts ≡ get_or table k parts → IsCompiledForm d (mapping_of side d contents k) parts
form_at side d contents table k parts t within at = subst (IsCompiledForm d (mapping_of side d contents k)) (sym at) (t.forms k parts within)

pub parts_at : (d : Description) (table : List (List Part)) (k : ℕ) (parts : List Part) → HaveParts d table
    → k < length table → parts ≡ get_or table k parts → HasParts d parts
parts_at d table k parts have within at = subst (HasParts d) (sym at) (have k parts within)

-- a dictionary has what compiled forms of it map
pub forms_have : (side : Side) (d : Description) (contents : Contents) (table : List (List Part)) → AreForms side d contents table → HaveParts d table
forms_have side d contents table forms k parts within = (forms k parts within).has

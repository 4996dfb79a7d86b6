-- What a PDO maps depends on its mapping parameter alone.
use Rattle.std.proofs.Common.{◌≡◌, ℕ, cond, List, [], ◌∷◌, map, refl, ap, ◌∙◌}
use Rattle.std.specs.Prelude.{◌&&◌, nat_lt, is_none, unwrap_or}
use Rattle.std.specs.List.{filter_map, list_any, range_with_len}
use Rattle.co_value.specs.Numbers.{unsigned_of}
use Rattle.co_dict.specs.declared.side.Side.{Side}
use Rattle.co_dict.specs.Rows.{Contents, number_at}
use Rattle.co_dict.specs.Stores.{Description}
use Rattle.co_dict.specs.Refusals.{refused_if, first_refusal}
use Rattle.co_dict.specs.Objects.{subs_present}
use Rattle.co_dict.specs.MappingWords.{word_width}
use Rattle.co_dict.specs.MappingCounts.{counted_words, total_width}
use Rattle.co_frame_aborts.specs.AbortCodes.{invalid_value, not_mappable, mapping_too_long}
use Rattle.co_pdo.specs.declared.mapping.Mapped.{Mapped}
use Rattle.co_pdo.specs.Mappings.{mapped_by, has_pdo, mapping_index, count_of, mapping_of}
use Rattle.co_pdo_compiled.specs.CompiledMappings.{AgreeOnMapping}

-- two functions that agree make the same list
map_same : (f g : ℕ → ℕ) → ((n : ℕ) → f n ≡ g n) → (ns : List ℕ) → map f ns ≡ map g ns
map_same f g same [] = refl
map_same f g same (n ∷ ns) = ap (λ m. m ∷ map f ns) (same n) ∙ ap (λ ms. g n ∷ ms) (map_same f g same ns)

-- what PDO k maps, by its count and its counted words
abbrev by_words : Side → Description → ℕ → ℕ → List ℕ → List Mapped
by_words side d k count words = cond (has_pdo side d.rows k && is_none (first_refusal (
    refused_if (nat_lt (subs_present d.rows (mapping_index side k) 64) count) invalid_value
    ∷ refused_if (list_any (λ word. is_none (word_width side d word)) words) not_mappable
    ∷ refused_if (nat_lt 8 (total_width side d words)) mapping_too_long
    ∷ []))) (filter_map (mapped_by side d) words) []

module _ (side : Side) (d : Description) (contents others : Contents) (k : ℕ) (agree : AgreeOnMapping side k contents others) where
  same_number : (sub : ℕ) → number_at contents (record { index = mapping_index side k; sub = sub }) ≡ number_at others (record { index = mapping_index side k; sub = sub })
  same_number sub = ap (λ o. unsigned_of (unwrap_or o [])) (agree sub)

  same_words : (count : ℕ) → counted_words contents (mapping_index side k) count ≡ counted_words others (mapping_index side k) count
  same_words count = map_same _ _ same_number (range_with_len 1 count)

  pub same_mapping : mapping_of side d contents k ≡ mapping_of side d others k
  same_mapping =
      ap (by_words side d k (count_of side contents k)) (same_words (count_of side contents k))
      ∙ ap (λ n. by_words side d k n (counted_words others (mapping_index side k) n)) (same_number 0)

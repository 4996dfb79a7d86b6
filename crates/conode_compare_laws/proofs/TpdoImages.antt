-- What a TPDO maps: by its mapping parameter alone, and so many bytes as its image has.
use Rattle.std.proofs.Common.{◌≡◌, ℕ, ◌+◌, ◌<◌, true, cond, List, [], ◌∷◌, length, map, refl, ap, sym, ◌∙◌}
use Rattle.std.specs.Prelude.{◌&&◌, is_none, nat_lt}
use Rattle.std.specs.List.{filter_map, list_any, range_with_len}
use Rattle.std.proofs.lemmas.Bool.{and_parts}
use Rattle.std.proofs.lemmas.List.{length-append, length-replicate}
use Rattle.std.proofs.lemmas.List.Sums.{sum_by-cons}
use Rattle.co_frame_aborts.specs.AbortCodes.{invalid_value, mapping_too_long, not_mappable}
use Rattle.co_dict.specs.declared.side.Side.TheVariants as side
use Rattle.co_dict.specs.MappingCounts.{counted_words, total_width}
use Rattle.co_dict.specs.MappingWords.{word_width}
use Rattle.co_dict.specs.Objects.{subs_present}
use Rattle.co_dict.specs.Refusals.{first_refusal, refused_if}
use Rattle.co_dict.specs.Rows.{Contents, Rows, number_at}
use Rattle.co_dict.specs.Stores.{Description}
use Rattle.co_pdo.specs.declared.mapping.Mapped.{Mapped}
use Rattle.co_pdo.specs.declared.mapping.Mapped.TheVariants.{Entry, Dummy}
use Rattle.co_pdo.specs.Images.{bytes_in, image_of}
use Rattle.co_pdo.specs.Mappings.{all_there, count_of, has_pdo, is_there, mapped_by, mapping_index, mapping_of, total_of, width_in}
use Rattle.co_node_model.specs.Moments.{Constants, Moment}
use Rattle.conode_compare_laws.specs.TpdoParameters.{KeepsTpdos}
use Rattle.conode_compare_laws.proofs.Fitting.{AreFitted, bytes_wide, mapping_there, row_width}
use Rattle.conode_compare_laws.proofs.TpdoDue.{map_key_is, number_kept}

-- ---- what a TPDO maps depends on its mapping parameter alone

map_same : (f g : ℕ → ℕ) → ((n : ℕ) → f n ≡ g n) → (ns : List ℕ) → map f ns ≡ map g ns
map_same f g same [] = refl
map_same f g same (n ∷ ns) = ap (λ m. m ∷ map f ns) (same n) ∙ ap (λ ms. g n ∷ ms) (map_same f g same ns)

-- what TPDO n maps, by its count and its counted words
abbrev by_words : Description → ℕ → ℕ → List ℕ → List Mapped
by_words d n count words = cond (has_pdo side.Tpdo d.rows n && is_none (first_refusal (
    refused_if (nat_lt (subs_present d.rows (mapping_index side.Tpdo n) 64) count) invalid_value
    ∷ refused_if (list_any (λ word. is_none (word_width side.Tpdo d word)) words) not_mappable
    ∷ refused_if (nat_lt 8 (total_width side.Tpdo d words)) mapping_too_long
    ∷ []))) (filter_map (mapped_by side.Tpdo d) words) []

same_mapping : (d : Description) (c e : Contents) (n : ℕ) → ((sub : ℕ) → number_at c (record { index = mapping_index side.Tpdo n; sub = sub }) ≡ number_at e (record { index = mapping_index side.Tpdo n; sub = sub }))
    → mapping_of side.Tpdo d c n ≡ mapping_of side.Tpdo d e n
same_mapping d c e n same =
    ap (by_words d n (count_of side.Tpdo c n)) (map_same (λ sub. number_at c (record { index = mapping_index side.Tpdo n; sub = sub })) (λ sub. number_at e (record { index = mapping_index side.Tpdo n; sub = sub })) same (range_with_len 1 (count_of side.Tpdo c n)))
    ∙ ap (λ count. by_words d n count (counted_words e (mapping_index side.Tpdo n) count)) (same 0)

pub mapping_kept : (k : Constants) (m : Moment) (n : ℕ) → KeepsTpdos k m → n < 512 → mapping_of side.Tpdo k.description m.contents n ≡ mapping_of side.Tpdo k.description k.start n
mapping_kept k m n keeps less = same_mapping k.description m.contents k.start n (λ sub. number_kept k m (record { index = mapping_index side.Tpdo n; sub = sub }) keeps (map_key_is n sub less))

-- ---- an image is as long as its mapping

mapped_wide : (rows : Rows) (c : Contents) (mapped : Mapped) → AreFitted rows c → is_there rows mapped ≡ true → length (bytes_in c mapped) ≡ width_in mapped
mapped_wide rows c (Entry key w) fitted there = bytes_wide rows c key w fitted (row_width (rows key) w there)
mapped_wide rows c (Dummy w) fitted there = length-replicate w 0

image_wide : (rows : Rows) (c : Contents) (mapping : List Mapped) → AreFitted rows c → all_there rows mapping ≡ true → length (image_of c mapping) ≡ total_of mapping
image_wide rows c [] fitted there = refl
image_wide rows c (mapped ∷ mapping) fitted there =
    let both = and_parts (is_there rows mapped) (all_there rows mapping) there in
    length-append (bytes_in c mapped) (image_of c mapping)
    ∙ ap (λ n. n + length (image_of c mapping)) (mapped_wide rows c mapped fitted both.0)
    ∙ ap (λ n. width_in mapped + n) (image_wide rows c mapping fitted both.1)
    ∙ sym (sum_by-cons width_in mapped mapping)

pub tpdo_wide : (d : Description) (c : Contents) (n : ℕ) → AreFitted d.rows c → length (image_of c (mapping_of side.Tpdo d c n)) ≡ total_of (mapping_of side.Tpdo d c n)
tpdo_wide d c n fitted = image_wide d.rows c (mapping_of side.Tpdo d c n) fitted (mapping_there side.Tpdo d c n)

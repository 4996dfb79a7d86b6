-- The types that CiA 301 has for entries, of the code's table and of the definition's.
use Rattle.std.proofs.Common.{◌≡◌, ◌∙◌, ℕ, ◌==◌, Bool, true, false, cond, List, [], ◌∷◌, Option, Some, refl, sym, ap}
use Rattle.std.specs.Prelude.{find, map, option_map, nat_le, ◌&&◌}
use Rattle.co_value.specs.declared.key.Key.{Key}
use Rattle.co_value.specs.declared.data_type.DataType.{DataType}
use Rattle.co_sheet_text.specs.declared.section_kind.SectionKind.TheVariants.{SubIndex}
use Rattle.co_sheet_text_warnings.specs.Ranges.{is_within}
use Rattle.co_sheet_warnings.specs.declared.types.StandardType.{StandardType}
use Rattle.co_sheet_warnings.specs.declared.types.TheConstants.{STANDARD_TYPES}
use Rattle.co_sheet_warnings.specs.Types.{count_type, standard_type, type_at_key}

abbrev row_of_code : StandardType → DataType × ℕ × ℕ × ℕ × ℕ
row_of_code r = (r.0, r.1, r.2, r.3, r.4)

found_alike : (b : Bool) (r : StandardType) (rest : Option StandardType) (others : Option (DataType × ℕ × ℕ × ℕ × ℕ)) → option_map (λ g. g.0) rest ≡ option_map (λ g. g.0) others
    → option_map (λ g. g.0) (cond b (Some r) rest) ≡ option_map (λ g. g.0) (cond b (Some (row_of_code r)) others)
found_alike true r rest others h = refl
found_alike false r rest others h = h

-- a table of the code and its rows give the same type
pub find-rows : (key : Key) (types : List StandardType) → option_map (λ r. r.0) (find (λ r. is_within r.1 r.2 key.index && nat_le r.3 key.sub && nat_le key.sub r.4) types)
    ≡ option_map (λ r. r.0) (find (λ r. is_within r.1 r.2 key.index && nat_le r.3 key.sub && nat_le key.sub r.4) (map row_of_code types))
find-rows key [] = refl
find-rows key (r ∷ types) = found_alike (is_within r.1 r.2 key.index && nat_le r.3 key.sub && nat_le key.sub r.4) r _ _ (find-rows key types)

-- of another sub-index than 0, what the code's table gives
pub of_sub_index : (key : Key) (found : Option DataType) → found ≡ option_map (λ r. r.0) (find (λ r. is_within r.1 r.2 key.index && nat_le r.3 key.sub && nat_le key.sub r.4) STANDARD_TYPES)
    → (key.sub == 0) ≡ false → found ≡ standard_type (SubIndex key)
of_sub_index key found is other = is ∙ find-rows key STANDARD_TYPES ∙ ap (λ b. cond b (count_type key.index) (type_at_key key)) (sym other)

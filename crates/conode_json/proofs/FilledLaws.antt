-- Markup with values in it is words with their texts in it.
use Rattle.std.proofs.Common.{◌≡◌, ℕ, ◌==◌, Bool, true, false, List, [], ◌∷◌, ◌++◌, map, drop, refl, ap}
use Rattle.conode_text.specs.Filled.{filled as words_filled, text_of_byte as words_of_byte, texts_left, first_text as first_words}
use Rattle.conode_json.specs.declared.value.Value.{Value}
use Rattle.conode_json.specs.Filled.{filled, first_text, text_of_byte, value_text, values_left}

first_same : (values : List Value) → first_words (map value_text values) ≡ first_text values
first_same [] = refl
first_same (value ∷ others) = refl

rest_same : (values : List Value) → drop 1 (map value_text values) ≡ map value_text (drop 1 values)
rest_same [] = refl
rest_same (value ∷ others) = refl

pub filled_same : (markup : List ℕ) (values : List Value) → words_filled markup (map value_text values) ≡ filled markup values
unfolding words_filled
filled_same [] values = refl
filled_same (byte ∷ rest) values = by (byte == 37) (filled_same rest (drop 1 values)) (filled_same rest values)
  where
    by : (b : Bool) → words_filled rest (map value_text (drop 1 values)) ≡ filled rest (drop 1 values) → words_filled rest (map value_text values) ≡ filled rest values
        → words_of_byte b byte (map value_text values) ++ words_filled rest (texts_left b (map value_text values))
        ≡ text_of_byte b byte values ++ filled rest (values_left b values)
    by true e f = rw (first_same values, rest_same values) (ap (λ (ys : List ℕ). first_text values ++ ys) e)
    by false e f = ap (λ (ys : List ℕ). byte ∷ ys) f

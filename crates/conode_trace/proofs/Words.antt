-- The words of a line.
use Rattle.std.proofs.Common.{◌≡◌, ℕ, ◌<◌, Bool, true, false, List, [], ◌∷◌, length, None, eqb, arith, refl}
use Rattle.std.specs.List.{list_any, before_first, after_first}
use Rattle.std.proofs.lemmas.List.Splits.{length-slice_split}
use Rattle.co_text.proofs.CutLemmas.{one_part, first_part}
use Rattle.conode_trace.specs.Events.{words, event_in}

abbrev is_space : ℕ → Bool
is_space byte = eqb byte 32

-- a text without a space is one word
pub one_word : (text : List ℕ) → list_any is_space text ≡ false → words text ≡ text ∷ []
one_word text none = one_part is_space text none

-- the first word, and those after its space
pub first_of_words : (text word rest : List ℕ) → list_any is_space text ≡ true → word ≡ before_first is_space text → rest ≡ after_first is_space text
    → words text ≡ word ∷ words rest
first_of_words text word rest some before after = rw (before, after) (first_part is_space text some)

more_words : (name first second third : List ℕ) (rest : List (List ℕ)) → 0 < length rest → event_in (name ∷ first ∷ second ∷ third ∷ rest) ≡ None
more_words name first second third [] some = absurd (omega arith)
more_words name first second third (word ∷ rest) some = refl

-- no event has a fifth word
pub four_words : (name first second third : List ℕ) (text : List ℕ) → event_in (name ∷ first ∷ second ∷ third ∷ words text) ≡ None
four_words name first second third text = more_words name first second third (words text) (omega (arith, length-slice_split is_space text))

-- The words of a mapping, where one isn't known.
use Rattle.std.proofs.Common.{◌≡◌, ℕ, zero, suc, ◌<◌, List, [], ◌∷◌, ◌++◌, Option, Some, None, sym, ap, ◌∙◌, subst, eqb, arith}
use Rattle.std.specs.Prelude.{option_and_then, option_map}
use Rattle.std.proofs.lemmas.Bool.{eqb-true}
use Rattle.std.proofs.lemmas.Bool.Decides.{nat_tests}
use Rattle.co_text.proofs.Tests.{by_test}
use Rattle.conode_explain_entries.specs.declared.state.Value.{Value}
use Rattle.conode_explain_cob_ids.specs.Content.{SheetMapping}
use Rattle.conode_explain_pdo.specs.InForce.{word_in_force, words_in_force}

with_word : List Value → Option SheetMapping → ℕ → List ℕ → Option (List ℕ)
with_word values sheet place words = option_map (λ (word : ℕ). words ++ word ∷ []) (word_in_force values sheet place)

none_from : (values : List Value) (sheet : Option SheetMapping) (place count : ℕ) → words_in_force values sheet (suc place) ≡ None → place < count
    → words_in_force values sheet count ≡ None
unfolding words_in_force with_word
none_from values sheet place zero none lt = absurd (omega (arith, lt))
none_from values sheet place (suc count) none lt =
    by_test (eqb count place)
    (λ same. subst (λ (n : ℕ). words_in_force values sheet (suc n) ≡ None) (sym (eqb-true count place same)) none)
    (λ differs.
    let earlier : place < count = grind (arith, nat_tests) in
    ap (option_and_then (with_word values sheet count)) (none_from values sheet place count none earlier))

-- once a word isn't known, the words up to no count are
pub none_until : (values : List Value) (sheet : Option SheetMapping) (words : List ℕ) (place count : ℕ) → place < count
    → Some words ≡ words_in_force values sheet place → None ≡ word_in_force values sheet place
    → None ≡ words_in_force values sheet count
unfolding words_in_force with_word
none_until values sheet words place count lt known unknown =
    sym (none_from values sheet place count
    (ap (option_and_then (with_word values sheet place)) (sym known) ∙ ap (option_map (λ (word : ℕ). words ++ word ∷ [])) (sym unknown)) lt)

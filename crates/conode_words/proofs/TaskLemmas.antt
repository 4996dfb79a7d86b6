-- What clap makes of the program's command, and Rust's `parse` of a word.
use Rattle.std.proofs.Common.{◌≡◌, ℕ, ◌^◌, Bool, true, false, List, [], ◌∷◌, Some, None, Result, Ok, Err, inl, inr, refl, sym, ap}
use Rattle.std.proofs.lemmas.Bool.{ltb-true, lt-ltb}
use Rattle.std.specs.Prelude.{◌&&◌, nat_lt, length, option_map}
use Rattle.std.specs.Result.{result_ok}
use Rattle.std.specs.Char.{digit_value}
use Rattle.std.specs.List.{list_all}
use Rattle.std.specs.Str.Parse.{AllDigits, ParsesUnsigned, digits_value, without_leading_plus}
use Rattle.clap.specs.Kinds.{Kinds, HasKind, or_else}
use Rattle.clap.specs.Words.{Text, all_of, first_of, first_value, matched_of, raw_values, rows_of, built, is_simple, is_simple_and_free}
use Rattle.clap.specs.Faults.{is_free_app}
use Rattle.clap.specs.declared.error.Error.{Error}
use Rattle.clap.specs.ValueTests.{is_numeral}
use Rattle.clap.specs.declared.parser.matches.Found.{Found}
use Rattle.clap.proofs.WalkLemmas.{both, first_value-rows, raw_values-rows}
use Rattle.conode_words.specs.Commands.{conode_command}
use Rattle.conode_words.specs.Tasks.{number_of_bits}
use Rattle.conode_words.proofs.OnLiterals.{words_on_literals}

pub is_free_command : is_simple_and_free conode_command ≡ true
unfolding words_on_literals
is_free_command = refl

pub first_in_rows : (found : Found) (name : Text) → first_of name (rows_of found) ≡ first_value found name
first_in_rows found name = sym (first_value-rows found name)

pub all_in_rows : (found : Found) (name : Text) → all_of name (rows_of found) ≡ option_map raw_values (matched_of found name)
all_in_rows found name = sym (raw_values-rows found name)

-- digits by the test, and by the statement
digits_pass : (ds : List ℕ) → AllDigits 10 ds → list_all (λ d. nat_lt (digit_value d) 10) ds ≡ true
digits_pass [] h = refl
digits_pass (d ∷ ds) h = rw (lt-ltb (digit_value d) 10 h.0) (digits_pass ds h.1)

digits_from : (ds : List ℕ) → list_all (λ d. nat_lt (digit_value d) 10) ds ≡ true → AllDigits 10 ds
digits_from [] e = tt
digits_from (d ∷ ds) e =
    let parts = both _ _ e in
    (ltb-true _ _ parts.0, digits_from ds parts.1)

-- what `parse` gives of a word
pub number_read : {E : Type 0} (bits : ℕ) (word : Text) (r : Result ℕ E) → ParsesUnsigned bits 10 word r → result_ok r ≡ number_of_bits bits word
unfolding number_of_bits
number_read bits word (Ok n) h =
    let ds = without_leading_plus word in
    rw (lt-ltb 0 (length ds) h.0.0.0, digits_pass ds h.0.0.1, lt-ltb (digits_value 10 ds) (2 ^ bits) h.0.1) (ap (λ (k : ℕ). Some k) h.1)
number_read bits word (Err e) h = go (is_numeral ds && nat_lt (digits_value 10 ds) (2 ^ bits)) refl
  where
    ds : List ℕ
    ds = without_leading_plus word

    go : (b : Bool) → (is_numeral ds && nat_lt (digits_value 10 ds) (2 ^ bits)) ≡ b → None ≡ number_of_bits bits word
    go false t = rw t refl
    go true t =
        let outer = both _ _ t in
        let inner = both _ _ outer.0 in
        absurd (h ((ltb-true _ _ inner.0, digits_from ds inner.1), ltb-true _ _ outer.1))

-- ---- why words are refused

-- an error of the command's rules
pub more_kinds : (kinds more : Kinds) (e : Error) → HasKind kinds e → HasKind (or_else kinds more) e
more_kinds [] more e (inl memory) = inl memory
more_kinds [] more e (inr among) = absurd among
more_kinds (k ∷ ks) more e has = has

-- where the rules of the command refuse nothing, the word decides
pub word_decides : {Rows : Type 0} (fault : Rows → Kinds) (kinds : Kinds) (rows given : Rows) → kinds ≡ [] → given ≡ rows → fault given ≡ or_else kinds (fault rows)
word_decides fault kinds rows given none same = rw (none, same) refl

pub is_simple_command : is_simple conode_command ≡ true
is_simple_command = (both (is_simple conode_command) (is_free_app (built conode_command)) is_free_command).0

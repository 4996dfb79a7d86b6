-- What is escaped is plain text in markup.
use Rattle.std.proofs.Common.{◌≡◌, ℕ, ◌+◌, ◌/◌, ◌%◌, ◌<◌, ◌≤◌, Bool, true, false, List, [], ◌∷◌, ◌++◌, Option, cond, refl, ◌∙◌, arith, rules, inl, inr}
use Rattle.std.specs.Prelude.{◌==◌, ◌&&◌, ◌||◌, not, nat_le, nat_lt}
use Rattle.std.specs.Char.{encode_utf8, is_control}
use Rattle.std.specs.List.{flat_map}
use Rattle.std.specs.Option.{option_map_or}
use Rattle.std.proofs.lemmas.Bool.{and_from, and_parts, cases_Bool, cases_lt, cond-false, cond_both, eqb-true, ltb-false, ltb-true, or_cases, or_left, or_right}
use Rattle.std.proofs.lemmas.Bool.Decides.{nat_tests}
use Rattle.std.proofs.lemmas.Str.{encode_ascii}
use Rattle.co_text.specs.Printed.{digits_text, printed_digit}
use Rattle.conode_json.specs.Characters.{characters_of}
use Rattle.conode_json.specs.Escapes.{escaped, escaped_character, is_character_data, is_plain, is_reference, shown}

-- ---- plain bytes

abbrev are_plain : List ℕ → Bool
are_plain [] = true
are_plain (byte ∷ rest) = is_plain byte && are_plain rest

-- a byte that is none of the five characters, and no control character but the line feed
plain_byte : (b : ℕ) → ((b == 10) || nat_le 32 b) ≡ true → (b == 34) ≡ false → (b == 38) ≡ false → (b == 39) ≡ false → (b == 60) ≡ false → (b == 62) ≡ false → is_plain b ≡ true
plain_byte b low a c d e f = rw (low, a, c, d, e, f) refl

-- such a byte by its number
digit_byte : (b : ℕ) → 48 ≤ b → b < 58 → is_plain b ≡ true
digit_byte b low high = grind (arith, nat_tests)

letter_byte : (b : ℕ) → 65 ≤ b → is_plain b ≡ true
letter_byte b low = grind (arith, nat_tests)

-- it begins no reference
no_ampersand : (b : ℕ) → is_plain b ≡ true → (b == 38) ≡ false
no_ampersand b plain = elim (cases_Bool (b == 38)) [
  | inl is ↦ absurd (let e : b ≡ 38 = eqb-true b 38 is in let at38 : is_plain 38 ≡ true = rw e at plain in search rules)
  | inr other ↦ other
]

-- plain bytes before text are text
after_plain : (xs ys : List ℕ) → are_plain xs ≡ true → is_character_data ys ≡ true → is_character_data (xs ++ ys) ≡ true
after_plain [] ys plain data_ = data_
after_plain (x ∷ xs) ys plain data_ =
    let p = and_parts (is_plain x) (are_plain xs) plain in
    and_from (cond (x == 38) (is_reference (xs ++ ys)) (is_plain x)) (is_character_data (xs ++ ys))
    (cond-false (x == 38) (is_reference (xs ++ ys)) (is_plain x) (no_ampersand x p.0) ∙ p.0) (after_plain xs ys p.1 data_)

-- ---- characters

one_more : (b : ℕ) (rest : List ℕ) → 65 ≤ b → are_plain rest ≡ true → are_plain (b ∷ rest) ≡ true
one_more b rest high plain = and_from (is_plain b) (are_plain rest) (letter_byte b high) plain

-- the last bytes of a character past ASCII
abbrev one_last : ℕ → List ℕ
one_last c = (128 + c % 64) ∷ []

abbrev two_last : ℕ → List ℕ
two_last c = (128 + c / 64 % 64) ∷ one_last c

abbrev three_last : ℕ → List ℕ
three_last c = (128 + c / 4096 % 64) ∷ two_last c

one_plain : (c : ℕ) → are_plain (one_last c) ≡ true
one_plain c = one_more (128 + c % 64) [] (omega arith) refl

two_plain : (c : ℕ) → are_plain (two_last c) ≡ true
two_plain c = one_more (128 + c / 64 % 64) (one_last c) (omega arith) (one_plain c)

three_plain : (c : ℕ) → are_plain (three_last c) ≡ true
three_plain c = one_more (128 + c / 4096 % 64) (two_last c) (omega arith) (two_plain c)

-- its bytes
high_bytes : (c : ℕ) → 128 ≤ c → are_plain (encode_utf8 c) ≡ true
unfolding lib.Utf8.encode
high_bytes c high =
    cond_both (nat_lt c 128) _ _ (λ l. are_plain l ≡ true) (λ e. absurd (omega (arith, ltb-true c 128 e)))
    (λ _. cond_both (nat_lt c 2048) _ _ (λ l. are_plain l ≡ true) (λ _. one_more (192 + c / 64) (one_last c) (omega arith) (one_plain c))
    (λ _. cond_both (nat_lt c 65536) _ _ (λ l. are_plain l ≡ true)
    (λ _. one_more (224 + c / 4096) (two_last c) (omega arith) (two_plain c))
    (λ _. one_more (240 + c / 262144) (three_last c) (omega arith) (three_plain c))))

-- a digit of a control character
digit_is_plain : (d : ℕ) → d < 16 → is_plain (printed_digit d) ≡ true
digit_is_plain d small =
    cond_both (nat_lt d 10) (48 + d) (55 + d) (λ b. is_plain b ≡ true) (λ e. digit_byte (48 + d) (omega arith) (omega (arith, ltb-true d 10 e)))
    (λ e. letter_byte (55 + d) (omega (arith, ltb-false d 10 e)))

past_controls : (c : ℕ) → not (is_control c) ≡ true → nat_le 32 c ≡ true
past_controls c h = grind (arith, nat_tests)

text_byte : (c : ℕ) → ((c == 10) || not (is_control c)) ≡ true → ((c == 10) || nat_le 32 c) ≡ true
text_byte c h = elim (or_cases (c == 10) (not (is_control c)) h) [
  | inl feed ↦ or_left (c == 10) _ feed
  | inr other ↦ or_right (c == 10) _ (past_controls c other)
]

-- a character that is shown as itself, or as `\x1B`
shown_plain : (c : ℕ) → (c == 34) ≡ false → (c == 38) ≡ false → (c == 39) ≡ false → (c == 60) ≡ false → (c == 62) ≡ false → are_plain (shown c) ≡ true
unfolding digits_text
shown_plain c a b d e f =
    cond_both ((c == 10) || not (is_control c)) _ _ (λ l. are_plain l ≡ true)
    (λ text. elim (cases_lt c 128) [
      | inl small ↦ rw (encode_ascii c small) (and_from _ _ (plain_byte c (text_byte c text) a b d e f) refl)
      | inr high ↦ high_bytes c high
    ])
    (λ _. and_from _ _ (digit_is_plain (c / 16 % 16) (omega arith)) (and_from _ _ (digit_is_plain (c % 16) (omega arith)) refl))

-- a character before text
character_is_data : (c : ℕ) (ys : List ℕ) → is_character_data ys ≡ true → is_character_data (escaped_character c ++ ys) ≡ true
unfolding escaped_character lib.Utf8.encode
character_is_data c ys data_ =
    let Goal = λ (o : Option (List ℕ)). is_character_data (option_map_or (λ text. text) o (shown c) ++ ys) ≡ true in
    cond_both (c == 38) _ _ Goal (λ _. data_)
    (λ b. cond_both (c == 60) _ _ Goal (λ _. data_)
    (λ e. cond_both (c == 62) _ _ Goal (λ _. data_)
    (λ f. cond_both (c == 34) _ _ Goal (λ _. data_)
    (λ a. cond_both (c == 39) _ _ Goal (λ _. data_)
    (λ d. cond_both (c == 9) _ _ Goal (λ _. data_)
    (λ _. cond_both ((c == 0xFFFE) || (c == 0xFFFF)) _ _ Goal (λ _. data_)
    (λ _. after_plain (shown c) ys (shown_plain c a b d e f) data_)))))))

characters_are_data : (cs : List ℕ) → is_character_data (flat_map escaped_character cs) ≡ true
characters_are_data [] = refl
characters_are_data (c ∷ cs) = character_is_data c (flat_map escaped_character cs) (characters_are_data cs)

pub escaped_plain : (bytes : List ℕ) → is_character_data (escaped bytes) ≡ true
escaped_plain bytes = characters_are_data (characters_of bytes)

-- Words with texts in them, by what comes before their first place.
use Rattle.std.proofs.Common.{◌≡◌, ◌≢◌, ℕ, suc, ◌==◌, ◌<◌, Bool, true, false, List, [], ◌∷◌, ◌++◌, Option, Some, None, IfSome, IfNone, Bor, length, get_or, drop, refl, ◌∙◌, ap, arith}
use Rattle.std.specs.List.{position_or_len}
use Rattle.std.proofs.lemmas.Bool.{eqb-true}
use Rattle.std.proofs.lemmas.Str.Pattern.{IsSplitOnceResult, split_once_first, split_parts}
use Rattle.conode_text.specs.Filled.{filled, first_text}

abbrev is_place : ℕ → Bool
is_place byte = byte == 37

-- a byte that is no place is as it is
itself : (byte : ℕ) (rest : List ℕ) (texts : List (List ℕ)) → (byte == 37) ≡ false → filled (byte ∷ rest) texts ≡ byte ∷ filled rest texts
unfolding filled
itself byte rest texts e = rw e refl

-- up to their first place words are as they are, and there comes the first text
at_place : (front back : List ℕ) (texts : List (List ℕ)) → ((i : ℕ) → i < length front → get_or front i 0 ≢ 37)
    → filled (front ++ (37 ∷ back)) texts ≡ front ++ (first_text texts ++ filled back (drop 1 texts))
unfolding filled
at_place [] back texts h = refl
at_place (byte ∷ front) back texts h = by (byte == 37) refl (at_place front back texts (λ i lt. h (suc i) (omega arith)))
  where
    by : (b : Bool) → (byte == 37) ≡ b → filled (front ++ (37 ∷ back)) texts ≡ front ++ (first_text texts ++ filled back (drop 1 texts))
        → filled (byte ∷ (front ++ (37 ∷ back))) texts ≡ byte ∷ (front ++ (first_text texts ++ filled back (drop 1 texts)))
    by true e more = absurd (h 0 (omega arith) (eqb-true byte 37 e))
    by false e more = itself byte (front ++ (37 ∷ back)) texts e ∙ ap (λ xs. byte ∷ xs) more

-- without a place they are as they are
no_place : (words : List ℕ) (texts : List (List ℕ)) → position_or_len is_place words ≡ length words → filled words texts ≡ words
unfolding filled
no_place [] texts h = refl
no_place (byte ∷ rest) texts h = by (byte == 37) refl (no_place rest texts)
  where
    by : (b : Bool) → (byte == 37) ≡ b → (position_or_len is_place rest ≡ length rest → filled rest texts ≡ rest)
        → filled (byte ∷ rest) texts ≡ byte ∷ rest
    by true e more = absurd (let g = simp e at h in omega arith)
    by false e more =
        let k : position_or_len is_place rest ≡ length rest = (let g = simp e at h in omega arith) in
        itself byte rest texts e ∙ ap (λ xs. byte ∷ xs) (more k)

-- ---- by how a text is cut at its first percent sign

pub none_if : (words : List ℕ) (r : Option (Bor (List ℕ) × Bor (List ℕ))) → IsSplitOnceResult 37 words r
    → IfNone r ((texts : List (List ℕ)) → filled words texts ≡ words)
none_if words None split = λ texts. no_place words texts (split_once_first 37 words None split (omega arith))
none_if words (Some cut) split = tt

pub place_if : (words : List ℕ) (r : Option (Bor (List ℕ) × Bor (List ℕ))) → IsSplitOnceResult 37 words r
    → IfSome r (λ cut. (texts : List (List ℕ)) → filled words texts ≡ cut.0.now ++ (first_text texts ++ filled cut.1.now (drop 1 texts)))
place_if words None split = tt
place_if words (Some cut) split = λ texts.
    let (whole, before) = split_parts 37 words (Some cut) split (omega arith) in rw whole (at_place cut.0.now cut.1.now texts before)

-- Pairs of digits.
use Rattle.std.proofs.Common.{◌≡◌, ℕ, List, [], ◌∷◌, ◌++◌, Option, Some, None, refl, sym, ap, ◌∙◌, append_assoc, ◌+◌, ◌*◌, length, arith}
use Rattle.std.specs.Option.{option_map_or, option_map}
use Rattle.std.proofs.lemmas.List.{append-nil}
use Rattle.std.proofs.lemmas.Option.{none-some, some_pair_parts}
use Rattle.co_text.specs.Texts.{hex_pair}
use Rattle.co_text.specs.HexPairs.{pair_at, pairs_at}

no_pair : (high low : ℕ) (text : List ℕ) (pair : Option ℕ) → option_map {U = ℕ × List ℕ} (λ b. (b, text)) pair ≡ None → option_map_or {U = List ℕ × List ℕ} (λ byte. (byte ∷ (pairs_at text).0, (pairs_at text).1)) pair ([], high ∷ low ∷ text) ≡ ([], high ∷ low ∷ text)
no_pair high low text None h = refl
no_pair high low text (Some byte) h = absurd (none-some _ (sym h))

one_pair : (high low : ℕ) (text : List ℕ) (pair : Option ℕ) (byte : ℕ) (rest : List ℕ) → option_map {U = ℕ × List ℕ} (λ b. (b, text)) pair ≡ Some (byte, rest) → option_map_or {U = List ℕ × List ℕ} (λ byte. (byte ∷ (pairs_at text).0, (pairs_at text).1)) pair ([], high ∷ low ∷ text) ≡ (byte ∷ (pairs_at rest).0, (pairs_at rest).1)
one_pair high low text None byte rest h = absurd (none-some _ h)
one_pair high low text (Some b) byte rest h = let e = some_pair_parts b byte text rest h in rw (e.0, e.1) refl

-- no pair is at the front
pub pairs_end : (text : List ℕ) → pair_at text ≡ None → pairs_at text ≡ ([], text)
pairs_end [] h = refl
pairs_end (high ∷ []) h = refl
pairs_end (high ∷ low ∷ text) h = no_pair high low text (hex_pair high low) h

-- a pair is at the front
pub pairs_begin : (text : List ℕ) (byte : ℕ) (rest : List ℕ) → pair_at text ≡ Some (byte, rest) → pairs_at text ≡ (byte ∷ (pairs_at rest).0, (pairs_at rest).1)
pairs_begin [] byte rest h = absurd (none-some _ h)
pairs_begin (high ∷ []) byte rest h = absurd (none-some _ h)
pairs_begin (high ∷ low ∷ text) byte rest h = one_pair high low text (hex_pair high low) byte rest h

-- the pairs read so far, and those of the rest
abbrev pub AreRead : List ℕ → List ℕ → List ℕ → Type 0
AreRead text bytes rest = pairs_at text ≡ (bytes ++ (pairs_at rest).0, (pairs_at rest).1)

pub read_more : (text bytes rest : List ℕ) (byte : ℕ) (after : List ℕ) → AreRead text bytes rest → pair_at rest ≡ Some (byte, after) → AreRead text (bytes ++ byte ∷ []) after
read_more text bytes rest byte after h e = h ∙ rw (pairs_begin rest byte after e, append_assoc) refl

pub read_all : (text bytes rest : List ℕ) → AreRead text bytes rest → pair_at rest ≡ None → pairs_at text ≡ (bytes, rest)
read_all text bytes rest h e = h ∙ rw (pairs_end rest e, append-nil) refl

-- what is left after a pair is pairs too
pub pairs_left : (text : List ℕ) (byte : ℕ) (rest : List ℕ) → pair_at text ≡ Some (byte, rest) → (pairs_at text).1 ≡ (pairs_at rest).1
pairs_left text byte rest e = ap (λ (p : List ℕ × List ℕ). p.1) (pairs_begin text byte rest e)

longer : (high low : ℕ) (text : List ℕ) (o : Option ℕ) → length text ≡ 2 * length (pairs_at text).0 + length (pairs_at text).1 → length (high ∷ low ∷ text) ≡ 2 * length (option_map_or {U = List ℕ × List ℕ} (λ byte. (byte ∷ (pairs_at text).0, (pairs_at text).1)) o ([], high ∷ low ∷ text)).0 + length (option_map_or {U = List ℕ × List ℕ} (λ byte. (byte ∷ (pairs_at text).0, (pairs_at text).1)) o ([], high ∷ low ∷ text)).1
longer high low text None h = omega arith
longer high low text (Some byte) h = omega arith

-- two digits a byte
pub length-pairs : (text : List ℕ) → length text ≡ 2 * length (pairs_at text).0 + length (pairs_at text).1
length-pairs [] = omega arith
length-pairs (high ∷ []) = omega arith
length-pairs (high ∷ low ∷ text) = longer high low text (hex_pair high low) (length-pairs text)

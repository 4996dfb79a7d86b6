-- The bytes of a frame, each after a blank, and the blanks after them.
use Rattle.std.proofs.Common.{◌≡◌, ℕ, ◌-◌, ◌*◌, List, [], ◌∷◌, ◌++◌, length, get_or, take, drop, replicate, refl, ap, ◌∙◌, append_assoc, arith}
use Rattle.std.proofs.lemmas.List.{append-nil, drop-replicate, take-replicate}
use Rattle.std.specs.List.{flat_map}
use Rattle.conode_explain_text.specs.declared.pieces.TheConstants.{BLANKS}
use Rattle.conode_explain_text.specs.Columns.{blank_byte, bytes_text, length_text}

abbrev four : ℕ → ℕ → ℕ → ℕ → List ℕ
four a b c d = blank_byte a ++ blank_byte b ++ blank_byte c ++ blank_byte d

regrouped : (p q r s t u v w : List ℕ)
    → p ++ (q ++ (r ++ (s ++ (t ++ (u ++ (v ++ (w ++ []))))))) ≡ (p ++ q ++ r ++ s) ++ (t ++ u ++ v ++ w)
regrouped p q r s t u v w = simp (append_assoc, append-nil)

pub eight : (bytes : List ℕ) → length bytes ≡ 8
    → flat_map blank_byte bytes
    ≡ four (get_or bytes 0 0) (get_or bytes 1 0) (get_or bytes 2 0) (get_or bytes 3 0)
    ++ four (get_or bytes 4 0) (get_or bytes 5 0) (get_or bytes 6 0) (get_or bytes 7 0)
eight [] is = absurd (omega (arith, is))
eight (a ∷ []) is = absurd (omega (arith, is))
eight (a ∷ b ∷ []) is = absurd (omega (arith, is))
eight (a ∷ b ∷ c ∷ []) is = absurd (omega (arith, is))
eight (a ∷ b ∷ c ∷ d ∷ []) is = absurd (omega (arith, is))
eight (a ∷ b ∷ c ∷ d ∷ e ∷ []) is = absurd (omega (arith, is))
eight (a ∷ b ∷ c ∷ d ∷ e ∷ f ∷ []) is = absurd (omega (arith, is))
eight (a ∷ b ∷ c ∷ d ∷ e ∷ f ∷ g ∷ []) is = absurd (omega (arith, is))
eight (a ∷ b ∷ c ∷ d ∷ e ∷ f ∷ g ∷ h ∷ []) is =
    regrouped (blank_byte a) (blank_byte b) (blank_byte c) (blank_byte d) (blank_byte e) (blank_byte f) (blank_byte g) (blank_byte h)
eight (a ∷ b ∷ c ∷ d ∷ e ∷ f ∷ g ∷ h ∷ i ∷ more) is = absurd (omega (arith, is))

blanks : BLANKS ≡ replicate 24 32
blanks = refl

blanks_left : (count : ℕ) → take (24 - count) (drop count BLANKS) ≡ replicate (24 - count) 32
blanks_left count =
    ap (λ (l : List ℕ). take (24 - count) (drop count l)) blanks
    ∙ ap (λ (l : List ℕ). take (24 - count) l) (drop-replicate count 24 32)
    ∙ take-replicate (24 - count) (24 - count) 32 (omega arith)

-- after fewer there are as many as their columns take
pub filled : (bytes : List ℕ)
    → length_text (length bytes) ++ flat_map blank_byte bytes ++ take (24 - 3 * length bytes) (drop (3 * length bytes) BLANKS) ≡ bytes_text (length bytes) bytes
unfolding bytes_text
filled bytes = rw (blanks_left (3 * length bytes)) refl

-- three pieces, one after another
pub joined : (p0 p1 p2 p3 a b c : List ℕ) → p1 ≡ p0 ++ a → p2 ≡ p1 ++ b → p3 ≡ p2 ++ c → p3 ≡ p0 ++ (a ++ b ++ c)
joined p0 p1 p2 p3 a b c first second third = rw (third, second, first) (simp append_assoc refl)

-- Words that are bytes, one after the other.
use Rattle.std.proofs.Common.{◌≡◌, ℕ, suc, ◌+◌, ◌-◌, ◌<◌, List, [], ◌∷◌, ◌++◌, Option, None, Some, refl, sym, ap, subst, ◌∙◌, arith, append_assoc, append-nil}
use Rattle.std.specs.Option.{option_map}
use Rattle.co_text.specs.Texts.{◌>>=◌}
use Rattle.conode_record.specs.declared.numbers.Base.{Base}
use Rattle.conode_record.specs.Parts.{byte_at, bytes_at}

-- bytes that are read, and what the words after them give
abbrev pub after : List ℕ → Option (List ℕ × List ℕ) → Option (List ℕ × List ℕ)
after bytes more = option_map (λ found. (bytes ++ found.0, found.1)) more

-- so many bytes are read, and so many are left: together they are what all words give
pub record Reads (base : Base) (count : ℕ) (text bytes : List ℕ) (left : ℕ) (rest : List ℕ) : Type 0 where
  pub all : after bytes (bytes_at base left rest) ≡ bytes_at base count text

joined : (byte : ℕ) (bytes : List ℕ) (more : Option (List ℕ × List ℕ)) → after bytes (more >>= λ found. Some (byte ∷ found.0, found.1)) ≡ after (bytes ++ byte ∷ []) more
joined byte bytes None = refl
joined byte bytes (Some found) = rw append_assoc refl

one_more : (base : Base) (left byte : ℕ) (bytes rest next : List ℕ) → byte_at base rest ≡ Some (byte, next)
    → after bytes (bytes_at base (suc left) rest) ≡ after (bytes ++ byte ∷ []) (bytes_at base left next)
unfolding bytes_at
one_more base left byte bytes rest next b = rw b (joined byte bytes (bytes_at base left next))

no_byte : (base : Base) (left : ℕ) (bytes rest : List ℕ) → byte_at base rest ≡ None → after bytes (bytes_at base (suc left) rest) ≡ None
unfolding bytes_at
no_byte base left bytes rest b = rw b refl

none_left : (base : Base) (bytes rest : List ℕ) → after bytes (bytes_at base 0 rest) ≡ Some (bytes, rest)
unfolding bytes_at
none_left base bytes rest = rw append-nil refl

whole : (more : Option (List ℕ × List ℕ)) → after [] more ≡ more
whole None = refl
whole (Some found) = refl

module _ (base : Base) (count : ℕ) (text : List ℕ) where
  pub reads_none : Reads base count text [] count text
  reads_none = record { all = whole (bytes_at base count text) }

  module _ (bytes rest : List ℕ) (left : ℕ) (h : Reads base count text bytes left rest) where
    pub reads_more : (byte less : ℕ) (next : List ℕ) → left ≡ suc less → byte_at base rest ≡ Some (byte, next) → Reads base count text (bytes ++ byte ∷ []) less next
    reads_more byte less next is b = record { all = sym (one_more base less byte bytes rest next b) ∙ ap (λ (n : ℕ). after bytes (bytes_at base n rest)) (sym is) ∙ h.all }

    pub byte_lacks : (less : ℕ) → left ≡ suc less → byte_at base rest ≡ None → None ≡ bytes_at base count text
    byte_lacks less is b = sym (sym h.all ∙ ap (λ (n : ℕ). after bytes (bytes_at base n rest)) is ∙ no_byte base less bytes rest b)

    pub all_read : left ≡ 0 → Some (bytes, rest) ≡ bytes_at base count text
    all_read is = sym (sym h.all ∙ ap (λ (n : ℕ). after bytes (bytes_at base n rest)) is ∙ none_left base bytes rest)

-- Words that are put into an array, with a 0 after them.
use Rattle.std.proofs.Common.{◌≡◌, ◌≤◌, ◌<◌, ◌⊎◌, inl, inr, ℕ, suc, List, length, take, set, get_or, refl, sym, ◌∙◌, subst, arith}
use Rattle.std.proofs.lemmas.List.{get_or-set_same, get_or-set_other, get_or-take, length-set, length-take-le}
use Rattle.bafokun.specs.Answers.{IsCopied}
use Rattle.bafokun.specs.Texts.{IsText}

-- as many words as there are, or as leave one place of the room
abbrev pub IsCut : ℕ → ℕ → ℕ → Type 0
IsCut all room count = (all ≤ count) ⊎ (room ≤ suc count)

before_end : (all room count i : ℕ) → IsCut all room count → i < all → suc i < room → i < count
before_end all room count i (inl whole) below left = omega arith
before_end all room count i (inr full) below left = omega arith

is_all : (all room count : ℕ) → IsCut all room count → count ≤ all → all < room → count ≡ all
is_all all room count (inl whole) few left = omega arith
is_all all room count (inr full) few left = omega arith

is_last : (all room count i : ℕ) → IsCut all room count → count < room → i < all → suc i ≡ room → count ≡ i
is_last all room count i (inl whole) fits below last = omega arith
is_last all room count i (inr full) fits below last = omega arith

-- so many words were copied, then the 0 was set after them
pub is_text : (words before copied : List ℕ) (count : ℕ) → count ≤ length words → count < length before
    → IsCut (length words) (length before) count → IsCopied (take count words) before copied
    → IsText words before (set copied count 0) (length words)
is_text words before copied count few fits cut is =
    let at : count < length copied = subst (λ n. count < n) (sym is.room) fits in
    let taken : length (take count words) ≡ count = length-take-le count words few in
    record {
      size = refl;
      room = length-set copied count 0 ∙ is.room;
      shown = λ i e below left.
          let first : i < count = before_end (length words) (length before) count i cut below left in
          get_or-set_other copied count i 0 e (omega arith)
          ∙ is.copied i e (subst (λ n. i < n) (sym taken) first) (omega arith)
          ∙ get_or-take count words i e first;
      whole = λ e left.
          let same : count ≡ length words = is_all (length words) (length before) count cut few left in
          subst (λ n. get_or (set copied count 0) n e ≡ 0) same (get_or-set_same copied count 0 e at);
      cut = λ i e below last.
          let same : count ≡ i = is_last (length words) (length before) count i cut fits below last in
          subst (λ n. get_or (set copied count 0) n e ≡ 0) same (get_or-set_same copied count 0 e at);
      kept = λ i e past.
          get_or-set_other copied count i 0 e (omega arith)
          ∙ is.kept i e (subst (λ n. n ≤ i) (sym taken) (omega arith));
    }

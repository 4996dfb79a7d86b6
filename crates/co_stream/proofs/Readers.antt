-- What holds of whatever a reader may have had before and after it gave some bytes.
use Rattle.std.proofs.Common.{◌≡◌, ℕ, Bool, true, false, List, [], ◌++◌, None, Some, refl, inl, inr, sym, ap, subst, ◌∙◌, append_assoc, append-nil}
use Rattle.std.specs.Prelude.{Option, not}
use Rattle.std.specs.Io.KnownBytes.{Consumes, Keeps, IsAtEnd}
use Rattle.std.proofs.KnownBytes.{Consumes-trans}
use Rattle.co_stream.specs.Readings.{Gave, MayHave, known_bytes}
use Rattle.co_stream.proofs.ReadingLemmas.{known-refilled, known-ended}

-- ---- what it is used for

-- what is known of the reader
pub of_known : (was is : Bool) (before after : Option (List ℕ)) (P : Option (List ℕ) → Option (List ℕ) → Type 0) → Gave was is before after P → P before after
of_known was is before after P h = h.holds before after (inl (refl, refl))

-- the bytes that it gave, as if none followed
pub of_given : (was is : Bool) (before after : Option (List ℕ)) (P : Option (List ℕ) → Option (List ℕ) → Type 0) (h : Gave was is before after P) → P (Some h.bytes) (Some [])
of_given was is before after P h = h.holds (Some h.bytes) (Some []) (inr ([], ap (λ (b : List ℕ). Some b) (sym (append-nil h.bytes)), refl, λ _. refl))

-- ---- nothing was given

pub consumes_none : (known : Option (List ℕ)) → Consumes known known []
consumes_none None = tt
consumes_none (Some bytes) = refl

same_left : (before after had has : Option (List ℕ)) (ended : Bool) → before ≡ after → MayHave before after [] ended had has → had ≡ has
same_left before after had has ended same (inl (e, f)) = e ∙ same ∙ sym f
same_left before after had has ended same (inr (later, e, f, c)) = e ∙ sym f

pub gave_nothing : (ended : Bool) (before after : Option (List ℕ)) (P : Option (List ℕ) → Option (List ℕ) → Type 0) → before ≡ after → ((known : Option (List ℕ)) → P known known) → Gave ended ended before after P
gave_nothing ended before after P same h = record {
  bytes = [];
  taken = subst (λ (left : Option (List ℕ)). Consumes before left []) same (consumes_none before);
  none_past_end = λ (is : ended ≡ true). (refl, is);
  holds = λ had has may. subst (P had) (same_left before after had has ended same may) (h had);
}

keeps_same : (had has : Option (List ℕ)) (bytes : List ℕ) → had ≡ Some bytes → has ≡ Some bytes → Keeps had has
keeps_same had has bytes e f = subst (λ (l : Option (List ℕ)). Keeps l has) (sym e) (subst (Keeps (Some bytes)) (sym f) refl)

keeps_any : (before after had has : Option (List ℕ)) (ended : Bool) → Keeps before after → MayHave before after [] ended had has → Keeps had has
keeps_any before after had has ended kept (inl (e, f)) = subst (λ (l : Option (List ℕ)). Keeps l has) (sym e) (subst (Keeps before) (sym f) kept)
keeps_any before after had has ended kept (inr (later, e, f, c)) = keeps_same had has later e f

consumes_kept : (before after : Option (List ℕ)) → Keeps before after → Consumes before after []
consumes_kept None after kept = tt
consumes_kept (Some xs) None kept = absurd kept
consumes_kept (Some xs) (Some ys) kept = sym kept

-- a read failed, before the reader came to its end
pub gave_kept : (was is : Bool) (before after : Option (List ℕ)) → was ≡ false → Keeps before after → Gave was is before after (λ had has. Keeps had has)
gave_kept was is before after unended kept = record {
  bytes = [];
  taken = consumes_kept before after kept;
  none_past_end = λ (ended : was ≡ true). cc;
  holds = λ had has may. keeps_any before after had has is kept may;
}

-- ---- a piece

consumes_any : (before after had has : Option (List ℕ)) (bytes : List ℕ) (ended : Bool) → Consumes before after bytes → MayHave before after bytes ended had has → Consumes had has bytes
consumes_any before after had has bytes ended taken (inl (e, f)) = subst (λ (l : Option (List ℕ)). Consumes l has bytes) (sym e) (subst (λ (l : Option (List ℕ)). Consumes before l bytes) (sym f) taken)
consumes_any before after had has bytes ended taken (inr (later, e, f, c)) = subst (λ (l : Option (List ℕ)). Consumes l has bytes) (sym e) (subst (λ (l : Option (List ℕ)). Consumes (Some (bytes ++ later)) l bytes) (sym f) refl)

at_end_any : (before after had has : Option (List ℕ)) (bytes : List ℕ) → IsAtEnd after → MayHave before after bytes true had has → IsAtEnd has
at_end_any before after had has bytes end (inl (e, f)) = subst IsAtEnd (sym f) end
at_end_any before after had has bytes end (inr (later, e, f, c)) = subst IsAtEnd (sym f) (c refl)

-- another piece came, or the end
pub gave_piece : (piece : List ℕ) (before after : Option (List ℕ)) (more : Bool) → Consumes before after piece → (more ≡ false → IsAtEnd after)
    → Gave false (not more) before after (λ had has. Keeps (known_bytes false [] had) (known_bytes (not more) piece has))
gave_piece piece before after true taken end = record {
  bytes = piece;
  taken = taken;
  none_past_end = λ (ended : false ≡ true). cc;
  holds = λ had has may. known-refilled piece had has (consumes_any before after had has piece false taken may);
}
gave_piece piece before after false taken end = record {
  bytes = piece;
  taken = taken;
  none_past_end = λ (ended : false ≡ true). cc;
  holds = λ had has may. known-ended piece had has (consumes_any before after had has piece true taken may) (at_end_any before after had has piece (end refl) may);
}

-- ---- one after the other

module _ (first last : Bool) (before after : Option (List ℕ)) (P S : Option (List ℕ) → Option (List ℕ) → Type 0) where
  pub gave_so : Gave first last before after P → ((had has : Option (List ℕ)) → P had has → S had has) → Gave first last before after S
  gave_so p so = record {
    bytes = p.bytes;
    taken = p.taken;
    none_past_end = p.none_past_end;
    holds = λ had has may. so had has (p.holds had has may);
  }

module _ (first mid last : Bool) (before between after : Option (List ℕ)) (P Q S : Option (List ℕ) → Option (List ℕ) → Type 0) (p : Gave first mid before between P) (q : Gave mid last between after Q) where
  joined : (had has : Option (List ℕ)) → ((middle : Option (List ℕ)) → P had middle → Q middle has → S had has) → MayHave before after (p.bytes ++ q.bytes) last had has → S had has
  joined had has join (inl (e, f)) = join between (p.holds had between (inl (e, refl))) (q.holds between has (inl (refl, f)))
  joined had has join (inr (later, e, f, c)) =
      join (Some (q.bytes ++ later))
      (p.holds had (Some (q.bytes ++ later)) (inr (q.bytes ++ later, e ∙ ap (λ (b : List ℕ). Some b) (append_assoc p.bytes q.bytes later), refl, λ (ended : mid ≡ true). ap (λ (b : List ℕ). b ++ later) (q.none_past_end ended).0 ∙ c (q.none_past_end ended).1)))
      (q.holds (Some (q.bytes ++ later)) has (inr (later, refl, f, c)))

  pub gave_then : ((had middle has : Option (List ℕ)) → P had middle → Q middle has → S had has) → Gave first last before after S
  gave_then join = record {
    bytes = p.bytes ++ q.bytes;
    taken = Consumes-trans before between after p.bytes q.bytes p.taken q.taken;
    none_past_end = λ (ended : first ≡ true). (ap (λ (b : List ℕ). b ++ q.bytes) (p.none_past_end ended).0 ∙ (q.none_past_end (p.none_past_end ended).1).0, (q.none_past_end (p.none_past_end ended).1).1);
    holds = λ had has may. joined had has (λ middle. join had middle has) may;
  }

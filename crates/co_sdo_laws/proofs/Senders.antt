-- The end that sends the segments of a transfer in blocks, the client in a download and the channel in an upload: what it makes of an
-- acknowledgement. It sends the next sub-block from the first segment that wasn't taken, and the end after the last one.
use Rattle.std.proofs.Common.{◌≡◌, ℕ, suc, ◌+◌, ◌-◌, ◌<◌, Bool, true, false, List, [], ◌∷◌, refl, arith}
use Rattle.std.specs.Prelude.{nat_lt}
use Rattle.std.proofs.lemmas.Bool.Decides.{nat_tests}
use Rattle.co_sdo_laws.proofs.BlockSegments.{total, size_after, segments, IsWhole, full, full_count, last_count}
use Rattle.co_sdo_laws.proofs.Ends.{End}
use Rattle.co_sdo_laws.proofs.Places.{Place, begins_at, taking, acknowledging, finishing, ending, Plan, opposite, first, OnWay, turns, Reacts, goes, gives_up, by_sender, by_receiver, twice, one}

-- what it sends after each acknowledgement
pub record Sender (d : Plan) (e : End) (At : Place → e.Knows → Type 0) : Type 0 where
  -- more are acknowledged than were sent
  pub too_many : (a u : ℕ) (x : e.Knows) → At (acknowledging a u) x → a < total d.value → nat_lt (size_after d.value a) u ≡ true
      → e.GivesUp x (d.acknowledgement u)
  -- others are left, or none
  pub more : (a u : ℕ) (x : e.Knows) → At (acknowledging a u) x → a + u < total d.value → nat_lt (size_after d.value a) u ≡ false
      → e.Takes x (d.acknowledgement u) (segments d.value (a + u) 1 (suc (size_after d.value (a + u) - 1))) (At (taking (a + u) 0))
  pub all : (a u : ℕ) (x : e.Knows) → At (finishing a u) x → a < total d.value → a + u ≡ total d.value → nat_lt (size_after d.value a) u ≡ false
      → e.Takes x (d.acknowledgement u) (d.frame ending ∷ []) (At ending)
  -- it knows the same in both cases
  pub same : (a u : ℕ) (x : e.Knows) → At (finishing a u) x → At (acknowledging a u) x

-- the receiver knows the same until the next frame comes
pub record ReceiverStays {Other : Type 0} (Peer : Place → Other → Type 0) : Type 0 where
  pub more : (a u : ℕ) (y : Other) → Peer (acknowledging a u) y → Peer (taking (a + u) 0) y
  pub all : (a u : ℕ) (y : Other) → Peer (finishing a u) y → Peer ending y

-- undisturbed each sub-block is acknowledged whole
not_above : (v : List ℕ) (a u : ℕ) → nat_lt (size_after v a) u ≡ true → IsWhole v a u → ⊥
not_above v a u many whole = let size = whole.size in absurd (grind (arith, nat_tests))

module _ {Other : Type 0} (d : Plan) (e : End) (At : Place → e.Knows → Type 0)
    (Peer : Place → Other → Type 0) (r : Sender d e At) (peer : ReceiverStays Peer) where
  -- an acknowledgement comes, and others are left
  acknowledged : (a u : ℕ) (x : e.Knows) → At (acknowledging a u) x → a + u < total d.value
      → (d.p → IsWhole d.value a u) → (many : Bool) → nat_lt (size_after d.value a) u ≡ many
      → Reacts d e (opposite d.forward) At Peer (acknowledging a u) [] x (d.acknowledgement u)
  acknowledged a u x h under whole true many =
      gives_up (λ y. not_above d.value a u many (whole y)) refl (r.too_many a u x h (omega arith) many)
  acknowledged a u x h under whole false few = goes (taking (a + u) 0) _ (r.more a u x h under few) (record {
    onward = turns refl (twice d.forward) (begins_at d.value (a + u) under
        (λ y. let g = whole y in full a u (total d.value) g.whole g.size under));
    here = λ y. let g = whole y in rw (by_sender d.forward) (full_count (first d.forward) a u (total d.value) g.whole g.size under);
    there = λ y. rw (← twice d.forward, by_receiver d.forward) (omega arith);
    narrows = λ xs same. same;
  }) (peer.more a u)

  pub sends_more : (a u : ℕ) (x : e.Knows) (frame : List ℕ) (later : List (List ℕ))
      → OnWay d (acknowledging a u) (frame ∷ later) → At (acknowledging a u) x
      → Reacts d e (opposite d.forward) At Peer (acknowledging a u) later x frame
  sends_more a u x frame later o h = one (λ f l. Reacts d e (opposite d.forward) At Peer (acknowledging a u) l x f) (d.acknowledgement u) [] frame later o.are
      (acknowledged a u x h o.under o.whole _ refl)

  -- none are left
  all_acknowledged : (a u : ℕ) (x : e.Knows) → At (finishing a u) x → a < total d.value
      → a + u ≡ total d.value → (d.p → IsWhole d.value a u) → (many : Bool)
      → nat_lt (size_after d.value a) u ≡ many
      → Reacts d e (opposite d.forward) At Peer (finishing a u) [] x (d.acknowledgement u)
  all_acknowledged a u x h under all whole true many =
      gives_up (λ y. not_above d.value a u many (whole y)) refl (r.too_many a u x (r.same a u x h) under many)
  all_acknowledged a u x h under all whole false few = goes ending _ (r.all a u x h under all few) (record {
    onward = turns refl (twice d.forward) refl;
    here = λ y. let g = whole y in rw (by_sender d.forward) (last_count (first d.forward) a u (total d.value) g.whole g.size under all);
    there = λ y. rw (← twice d.forward, by_receiver d.forward) (omega arith);
    narrows = λ xs same. same;
  }) (peer.all a u)

  pub sends_end : (a u : ℕ) (x : e.Knows) (frame : List ℕ) (later : List (List ℕ))
      → OnWay d (finishing a u) (frame ∷ later) → At (finishing a u) x
      → Reacts d e (opposite d.forward) At Peer (finishing a u) later x frame
  sends_end a u x frame later o h = one (λ f l. Reacts d e (opposite d.forward) At Peer (finishing a u) l x f) (d.acknowledgement u) [] frame later o.are
      (all_acknowledged a u x h o.under o.all o.whole _ refl)

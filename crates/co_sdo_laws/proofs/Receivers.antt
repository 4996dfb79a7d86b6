-- The end that takes the segments of a transfer in blocks, the channel in a download and the client in an upload: what it makes of each.
-- It takes a segment only if its number is the next, and acknowledges those that it took where a sub-block ends.
use Rattle.std.proofs.Common.{◌≡◌, ℕ, zero, suc, ◌+◌, ◌*◌, ◌<◌, ◌≤◌, Bool, true, false, List, [], ◌∷◌, length, take, refl, ◌∙◌, arith, inl, inr}
use Rattle.std.specs.Prelude.{nat_lt}
use Rattle.co_sdo_client.specs.Verdicts.{held_with}
use Rattle.co_sdo_laws.proofs.BlockSegments.{total, size_after, segment_at, segments, InTurn, Goes, Completes, next_inside, next_ends, has_room}
use Rattle.co_sdo_laws.proofs.Ends.{End}
use Rattle.co_sdo_laws.proofs.Places.{Place, taking, acknowledging, finishing, Plan, OnWay, turns, keeps_on, Reacts, goes, gives_up, by_receiver, by_sender, one}

-- what it has, and says, after each segment
pub record Receiver (d : Plan) (e : End) (At : Place → e.Knows → Type 0) : Type 0 where
  pub capacity : ℕ
  pub fits : d.p → length d.value ≤ capacity
  -- a segment within its sub-block
  pub inside : (a t n : ℕ) (x : e.Knows) (frame : List ℕ) → At (taking a t) x → (g : Goes d.p d.value a t n false frame)
      → e.Takes x frame [] (At (taking a g.u))
  -- the last one of it: there is room for what it holds then, or not
  pub ends : (a t n : ℕ) (x : e.Knows) (frame : List ℕ) → At (taking a t) x → (g : Goes d.p d.value a t n true frame)
      → nat_lt capacity (length (held_with (take (7 * (a + t)) d.value) t frame)) ≡ false
      → e.Takes x frame (d.acknowledgement g.u ∷ []) (At (acknowledging a g.u))
  pub is_full : (a t n : ℕ) (x : e.Knows) (frame : List ℕ) → At (taking a t) x → Goes d.p d.value a t n true frame
      → nat_lt capacity (length (held_with (take (7 * (a + t)) d.value) t frame)) ≡ true → e.GivesUp x frame
  -- the last one of all, and all before it were taken
  pub last : (a t n : ℕ) (x : e.Knows) (frame : List ℕ) → At (taking a t) x → Completes d.value a t n frame
      → e.Takes x frame (d.acknowledgement n ∷ []) (At (finishing a n))

-- the sender knows the same as long as its sub-block isn't acknowledged
pub record SenderStays {Other : Type 0} (Peer : Place → Other → Type 0) : Type 0 where
  pub inside : (a t u : ℕ) (y : Other) → Peer (taking a t) y → Peer (taking a u) y
  pub ends : (a t u : ℕ) (y : Other) → Peer (taking a t) y → Peer (acknowledging a u) y
  pub last : (a t u : ℕ) (y : Other) → Peer (taking a t) y → Peer (finishing a u) y

module _ {Other : Type 0} (d : Plan) (e : End) (At : Place → e.Knows → Type 0)
    (Peer : Place → Other → Type 0) (r : Receiver d e At) (peer : SenderStays Peer) where
  -- a segment comes that ends its sub-block
  sub_block_ends : (a t n : ℕ) (x : e.Knows) → At (taking a t) x → n ≡ size_after d.value a
      → (d.p → InTurn a t n) → Goes d.p d.value a t n true (segment_at d.value a n) → (above : Bool)
      → nat_lt r.capacity (length (held_with (take (7 * (a + t)) d.value) t (segment_at d.value a n))) ≡ above
      → Reacts d e d.forward At Peer (taking a t) [] x (segment_at d.value a n)
  sub_block_ends a t n x h size turn g true room =
      gives_up (λ y. has_room d.p d.value a t n r.capacity true (segment_at d.value a n) g (r.fits y) room) refl (r.is_full a t n x (segment_at d.value a n) h g room)
  sub_block_ends a t n x h size turn g false room =
      let under = g.under in
      goes (acknowledging a g.u) (d.acknowledgement g.u ∷ []) (r.ends a t n x (segment_at d.value a n) h g room) (record {
        onward = turns refl refl (record { are = refl; under = under; whole = λ y. record { whole = (turn y).whole; size = g.next y ∙ size; within = omega arith } });
        here = λ y. rw (by_receiver d.forward) (let u = g.next y in let k = (turn y).next in omega arith);
        there = λ y. rw (by_sender d.forward) refl;
        narrows = λ xs same. same;
      }) (peer.ends a t g.u)

  -- or that is the last of all
  last_comes : (a t n : ℕ) (x : e.Knows) → At (taking a t) x → n ≡ size_after d.value a
      → (d.p → InTurn a t n) → Completes d.value a t n (segment_at d.value a n)
      → Reacts d e d.forward At Peer (taking a t) [] x (segment_at d.value a n)
  last_comes a t n x h size turn g =
      let next = g.next in
      goes (finishing a n) (d.acknowledgement n ∷ []) (r.last a t n x (segment_at d.value a n) h g) (record {
        onward = turns refl refl (record { are = refl; under = omega arith; all = g.whole; whole = λ y. record { whole = (turn y).whole; size = size; within = omega arith } });
        here = λ y. rw (by_receiver d.forward) (omega arith);
        there = λ y. rw (by_sender d.forward) refl;
        narrows = λ xs same. same;
      }) (peer.last a t n)

  segment_comes : (a t n more : ℕ) (x : e.Knows) → At (taking a t) x → a + t < total d.value → 1 ≤ n
      → n + more ≡ size_after d.value a → (d.p → InTurn a t n)
      → Reacts d e d.forward At Peer (taking a t) (segments d.value a (n + 1) more) x (segment_at d.value a n)
  segment_comes a t n zero x h under some size turn = elim (next_ends d.p d.value a t n under some (omega arith) turn _ _ refl refl) [
    | inl g ↦ sub_block_ends a t n x h (omega arith) turn g _ refl
    | inr g ↦ last_comes a t n x h (omega arith) turn g
  ]
  segment_comes a t n (suc more) x h under some size turn =
      let g = next_inside d.p d.value a t n more under some size turn in
      goes (taking a g.u) [] (r.inside a t n x (segment_at d.value a n) h g) (record {
        onward = keeps_on refl refl (record {
          n = n + 1;
          more = more;
          are = refl;
          under = g.under;
          some = omega arith;
          size = omega arith;
          turn = λ y. record { whole = (turn y).whole; next = let u = g.next y in omega arith };
        });
        here = λ y. rw (by_receiver d.forward) (let u = g.next y in let k = (turn y).next in omega arith);
        there = λ y. rw (by_sender d.forward) refl;
        narrows = λ xs same. same;
      }) (peer.inside a t g.u)

  pub receives : (a t : ℕ) (x : e.Knows) (frame : List ℕ) (later : List (List ℕ))
      → OnWay d (taking a t) (frame ∷ later) → At (taking a t) x
      → Reacts d e d.forward At Peer (taking a t) later x frame
  receives a t x frame later o h =
      one (λ f l. Reacts d e d.forward At Peer (taking a t) l x f) (segment_at d.value a o.n) (segments d.value a (o.n + 1) o.more) frame later o.are
      (segment_comes a t o.n o.more x h o.under o.some o.size o.turn)

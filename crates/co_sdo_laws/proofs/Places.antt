-- How far a transfer in blocks is, and what is on its way then. One end sends the segments, the other takes them: the client and the
-- channel in a download, the channel and the client in an upload.
use Rattle.std.proofs.Common.{◌≡◌, ℕ, zero, suc, ◌+◌, ◌-◌, ◌/◌, ◌%◌, ◌<◌, ◌≤◌, Bool, List, [], ◌∷◌, drop, refl, sym, ap, arith, subst, ◌⊎◌, inl, inr}
use Rattle.co_sdo_laws.specs.World.{Queue, Requests, Answers as Back}
use Rattle.co_sdo_laws.proofs.Blocks.{kept, is_live, head_is, tail_is}
use Rattle.co_sdo_laws.proofs.BlockSegments.{total, size_after, blocks, segments, InTurn, IsWhole}
use Rattle.co_sdo_laws.proofs.Ends.{End}

pub data Place : Type 0 where
  -- the client's begin is on its way, its confirmation, or the client's start (of an upload)
  asking : Place
  confirmed : Place
  starting : Place
  -- segments of the sub-block after a are on their way, and t of it were taken
  taking : (a t : ℕ) → Place
  -- u of it are acknowledged, and others are left, or none
  acknowledging : (a u : ℕ) → Place
  finishing : (a u : ℕ) → Place
  -- the sender's end is on its way, or its confirmation; that has come
  ending : Place
  ended : Place
  all_over : Place

-- ---- the frames of a transfer

pub record Plan : Type 1 where
  -- the transfer is permitted, and nothing disturbs it
  pub p : Type 0
  -- the queue by which the segments go
  pub forward : Queue
  pub value : List ℕ
  -- so many segments of a sub-block were taken
  pub acknowledgement : ℕ → List ℕ
  -- the frame on its way where there is one alone
  pub frame : Place → List ℕ
  -- an answer that the client may await once its begin is confirmed
  pub awaits : List ℕ → Bool

abbrev pub opposite : Queue → Queue
opposite Requests = Back
opposite Back = Requests

-- what is in a queue where these are on their way by one
abbrev pub on : Queue → Queue → List (List ℕ) → List (List ℕ)
on Requests Requests xs = xs
on Back Back xs = xs
on _ _ xs = []

-- the queue by which frames are on their way
abbrev pub way : Queue → Place → Queue
way forward asking = Requests
way forward confirmed = Back
way forward starting = Requests
way forward (taking a t) = forward
way forward (acknowledging a u) = opposite forward
way forward (finishing a u) = opposite forward
way forward ending = forward
way forward ended = opposite forward
way forward all_over = forward

-- an answer that isn't one of these makes the client give up
abbrev pub may_await : Plan → Place → List ℕ → Bool
may_await d asking = is_live
may_await d confirmed = is_live
may_await d k = d.awaits

-- segment n and more after it
pub record InSubBlock (p : Type 0) (v : List ℕ) (a t : ℕ) (frames : List (List ℕ)) : Type 0 where
  pub n : ℕ
  pub more : ℕ
  pub are : frames ≡ segments v a n (suc more)
  pub under : a + t < total v
  pub some : 1 ≤ n
  pub size : n + more ≡ size_after v a
  pub turn : p → InTurn a t n

-- all of a sub-block
pub begins_at : {p : Type 0} (v : List ℕ) (a : ℕ) → a < total v → (p → a % 127 ≡ 0)
    → InSubBlock p v a 0 (segments v a 1 (suc (size_after v a - 1)))
begins_at v a under whole = record {
  n = 1;
  more = size_after v a - 1;
  are = refl;
  under = omega arith;
  some = omega arith;
  size = omega arith;
  turn = λ y. record { whole = whole y; next = refl };
}

pub record OthersLeft (p : Type 0) (v : List ℕ) (a u : ℕ) (frame : List ℕ) (frames : List (List ℕ)) : Type 0 where
  pub are : frames ≡ frame ∷ []
  pub under : a + u < total v
  pub whole : p → IsWhole v a u

pub record NoneLeft (p : Type 0) (v : List ℕ) (a u : ℕ) (frame : List ℕ) (frames : List (List ℕ)) : Type 0 where
  pub are : frames ≡ frame ∷ []
  pub under : a < total v
  pub all : a + u ≡ total v
  pub whole : p → IsWhole v a u

abbrev pub OnWay : Plan → Place → List (List ℕ) → Type 0
OnWay d (taking a t) frames = InSubBlock d.p d.value a t frames
OnWay d (acknowledging a u) frames = OthersLeft d.p d.value a u (d.acknowledgement u) frames
OnWay d (finishing a u) frames = NoneLeft d.p d.value a u (d.acknowledgement u) frames
OnWay d all_over frames = frames ≡ []
OnWay d k frames = frames ≡ d.frame k ∷ []

-- where the oldest is lost, others are left of a sub-block, or nothing
abbrev pub IsMoving : Place → Type 0
IsMoving all_over = ⊥
IsMoving _ = Unit {0}

pub fewer : (d : Plan) (k : Place) (xs : List (List ℕ)) → (d.p → ⊥) → OnWay d k xs → OnWay d k (drop 1 xs) ⊎ (IsMoving k × (drop 1 xs ≡ []))
fewer d (taking a t) xs never h = by h.more h.are h.size
  where
    by : (more : ℕ) → xs ≡ segments d.value a h.n (suc more) → h.n + more ≡ size_after d.value a
        → InSubBlock d.p d.value a t (drop 1 xs) ⊎ (Unit {0} × (drop 1 xs ≡ []))
    by zero e size = inr (tt, ap (drop 1) e)
    by (suc more) e size = inl (record {
      n = h.n + 1;
      more = more;
      are = ap (drop 1) e;
      under = h.under;
      some = omega arith;
      size = omega arith;
      turn = λ x. absurd (never x);
    })
fewer d (acknowledging a u) xs never h = inr (tt, ap (drop 1) h.are)
fewer d (finishing a u) xs never h = inr (tt, ap (drop 1) h.are)
fewer d all_over xs never h = inl (ap (drop 1) h)
fewer d _ xs never h = inr (tt, ap (drop 1) h)

-- ---- how many frames have come, undisturbed

-- before the segments: to the sender the confirmation of a download, the begin and the start of an upload
abbrev pub first : Queue → ℕ
first Requests = 1
first Back = 2

abbrev pub to_receiver : Plan → Place → ℕ
to_receiver d asking = 0
to_receiver d confirmed = 2 - first d.forward
to_receiver d starting = 1
to_receiver d (taking a t) = 1 + a + t
to_receiver d (acknowledging a u) = 1 + a + u
to_receiver d (finishing a u) = 1 + a + u
to_receiver d ending = 1 + total d.value
to_receiver d ended = 2 + total d.value
to_receiver d all_over = 2 + total d.value

abbrev pub to_sender : Plan → Place → ℕ
to_sender d asking = 0
to_sender d confirmed = first d.forward - 1
to_sender d starting = 1
to_sender d (taking a t) = first d.forward + a / 127
to_sender d (acknowledging a u) = first d.forward + a / 127
to_sender d (finishing a u) = first d.forward + a / 127
to_sender d ending = first d.forward + blocks d.value
to_sender d ended = first d.forward + blocks d.value
to_sender d all_over = first d.forward + 1 + blocks d.value

-- by a queue, where the segments go by this one
abbrev pub came_by : Queue → Queue → Plan → Place → ℕ
came_by Requests Requests = to_receiver
came_by Requests Back = to_sender
came_by Back Back = to_receiver
came_by Back Requests = to_sender

abbrev pub came : Plan → Queue → Place → ℕ
came d queue k = came_by d.forward queue d k

-- ---- from one place to the next

-- an end took the oldest frame that came by a queue: it sends what is on its way then, or nothing, and the rest is
pub data Onward (d : Plan) (queue : Queue) (next : Place) (later sends : List (List ℕ)) : Type 0 where
  turns : later ≡ [] → way d.forward next ≡ opposite queue → OnWay d next sends → Onward d queue next later sends
  keeps_on : sends ≡ [] → way d.forward next ≡ queue → OnWay d next later → Onward d queue next later sends

pub record Step (d : Plan) (queue : Queue) (k next : Place) (later sends : List (List ℕ)) : Type 0 where
  pub onward : Onward d queue next later sends
  pub here : d.p → suc (came d queue k) ≡ came d queue next
  pub there : d.p → came d (opposite queue) k ≡ came d (opposite queue) next
  pub narrows : (xs : List (List ℕ)) → kept (may_await d k) xs ≡ on Back queue later → kept (may_await d next) xs ≡ on Back queue later

-- what an end makes of a frame at a place: the other end knows the same as before, and so it goes on or gives up
pub data Reacts {Other : Type 0} (d : Plan) (e : End) (queue : Queue) (At : Place → e.Knows → Type 0) (Peer : Place → Other → Type 0)
    (k : Place) (later : List (List ℕ)) (x : e.Knows) (frame : List ℕ) : Type 0 where
  goes : (next : Place) (sends : List (List ℕ)) → e.Takes x frame sends (At next) → Step d queue k next later sends
      → ((y : Other) → Peer k y → Peer next y) → Reacts d e queue At Peer k later x frame
  gives_up : (d.p → ⊥) → later ≡ [] → e.GivesUp x frame → Reacts d e queue At Peer k later x frame

-- what comes to the receiver, and to the sender
pub by_receiver : (forward : Queue) → came_by forward forward ≡ to_receiver
by_receiver Requests = refl
by_receiver Back = refl

pub by_sender : (forward : Queue) → came_by forward (opposite forward) ≡ to_sender
by_sender Requests = refl
by_sender Back = refl

pub twice : (forward : Queue) → forward ≡ opposite (opposite forward)
twice Requests = refl
twice Back = refl

-- what holds of these frames holds of the oldest one and the later ones
pub one : (Holds : List ℕ → List (List ℕ) → Type 0) (f : List ℕ) (fs : List (List ℕ)) (frame : List ℕ) (later : List (List ℕ)) → frame ∷ later ≡ f ∷ fs → Holds f fs → Holds frame later
one Holds f fs frame later e h = subst (λ (x : List ℕ). Holds x later) (sym (head_is frame f later fs e)) (subst (Holds f) (sym (tail_is frame f later fs e)) h)

-- Transfers in blocks of both directions, disturbed or not: every event, by what the two ends make of each frame (`Theory`). Frames are
-- lost from the front of a queue, and none is repeated. The client waits, is done, or has failed.
use Rattle.std.proofs.Common.{◌≡◌, ℕ, suc, ◌+◌, ◌<◌, ◌≤◌, Bool, true, false, List, [], ◌∷◌, ◌++◌, length, drop, map, Option, Some, None, refl, sym, ap, ◌∙◌, arith, subst, append-nil, ◌⊎◌, inl, inr}
use Rattle.std.specs.Prelude.{if◌then◌else◌}
use Rattle.std.specs.List.{list_any}
use Rattle.std.proofs.lemmas.Bool.{false≢true, or_parts}
use Rattle.co_value.specs.declared.key.Key.{Key}
use Rattle.co_sdo_client.specs.declared.state.ClientState.TheVariants.{Waiting, Done}
use Rattle.co_sdo_client.specs.Calls.{Message, message_bytes, Event as ClientEvent, Answered, Ticked as TickedAtClient, answers as answers_of, Answers, since_first, with_answer, is_time_over as is_client_over}
use Rattle.co_sdo_client.specs.Verdicts.{Verdict, GoesOn, Ends}
use Rattle.co_sdo_client.specs.Outcomes.{state_by, outcome, asked}
use Rattle.co_dict.specs.Rows.{Contents}
use Rattle.co_sdo.specs.Log.{answer_bytes, Ticked, TimedOut, Log}
use Rattle.co_sdo.specs.Opened.{OpenTransfer}
use Rattle.co_sdo.specs.OpenTransfers.{open_transfer}
use Rattle.co_sdo.specs.Replies.{aborted, reply_to, time_out_reply}
use Rattle.co_sdo_laws.specs.World.{Setup, World, Queue, Requests, Answers as Back, WorldEvent, Delivered, Lost, Repeated, ClientTicked, ChannelTicked, is_repeat, at_client, at_channel, timed_out, ticked, without_front, front_arrives, after_event, world_after}
use Rattle.co_sdo_laws.specs.Undisturbed.{IsCalm, AreCalm, on_their_way, GoesInBlocks, HaveSent, block_frames}
use Rattle.co_sdo_laws.proofs.Channel.{serving_ticks, serving_ends, unopened, moved}
use Rattle.co_sdo_laws.proofs.Client.{follows, stays, verdict_since}
use Rattle.co_sdo_laws.proofs.Failures.{has_failed, failed_event}
use Rattle.co_sdo_laws.proofs.Turns.{waiting≢done}
use Rattle.co_sdo_laws.proofs.Blocks.{kept, kept_both, kept_after, kept_drops, kept_front, kept_more, cons≢nil, Tick, at_the_client, at_the_channel, time_over, after_tick, IsQuiet, DropsAborts, moment_ticks, Count, Moment, disturbed, no_request, no_answer, calm_asks, calm_waits, IsDone, over_event, same_requests, waits_at, done_at}
use Rattle.co_sdo_laws.proofs.Ends.{client, channel, verdict_of, after_request, Serving}
use Rattle.co_sdo_laws.proofs.Places.{Place, asking, confirmed, taking, acknowledging, finishing, ended, all_over, Plan, opposite, on, way, may_await, OnWay, IsMoving, fewer, first, to_receiver, to_sender, came, came_by, Onward, turns, keeps_on, Step, Reacts, goes, gives_up}
use Rattle.co_sdo_laws.proofs.Progress.{AllThere, have_sent}

pub requests≢back : Requests ≡ Back → ⊥
requests≢back e = cc

-- ---- the two ends

-- a client waits, and has taken these answers, or is done
pub data Knows : Type 0 where
  waits : Option Answers → Knows
  is_done : Knows

pub record Parts (s : Setup) : Type 1 where
  pub plan : Plan
  -- what the client gives when it is done
  pub given : List ℕ
  pub Client : Place → Knows → Type 0
  -- what is open at the channel, and the contents
  pub opened : Place → Option OpenTransfer
  pub left : Place → Contents
  -- it has given the transfer up
  pub Gone : Log × Contents → Type 0

abbrev pub Channel : {s : Setup} → Parts s → Place → Log × Contents → Type 0
Channel {s = s} t k x = Serving s (t.left k) (t.opened k) x

-- not before it began, nor after the end
abbrev pub MayGiveUp : Queue → Place → Type 0
MayGiveUp forward asking = ⊥
MayGiveUp forward ended = forward ≡ Back
MayGiveUp forward all_over = ⊥
MayGiveUp forward k = Unit {0}

-- this is open, or, of a disturbed transfer, the channel has given up
abbrev pub May : {s : Setup} → Parts s → Place → Log × Contents → Type 0
May t k x = Channel t k x ⊎ (MayGiveUp t.plan.forward k × (t.plan.p → ⊥) × t.Gone x)

-- an answer comes to a client that waits: it goes on or gives up, or is done
pub data ClientReacts {s : Setup} (t : Parts s) (k : Place) (later : List (List ℕ)) (known : Option Answers) (frame : List ℕ) : Type 0 where
  reacts : Reacts t.plan (client s) Back (λ next a. t.Client next (waits a)) (May t) k later known frame → ClientReacts t k later known frame
  finishes : (next : Place) (messages : List Message) (sends : List (List ℕ)) → verdict_of s known frame ≡ Ends messages t.given → map message_bytes messages ≡ sends
      → Step t.plan Back k next later sends → t.Client next is_done → ((x : Log × Contents) → May t k x → May t next x) → ClientReacts t k later known frame

-- the end to which a queue leads
abbrev pub Hears : {s : Setup} → Parts s → Queue → Place → Log × Contents → List ℕ → List (List ℕ) → Type 0
Hears {s = s} t Requests k x frame later = (y : Knows) → t.Client k y → Channel t k x → Reacts t.plan (channel s) Requests (Channel t) t.Client k later x frame
Hears t Back k x frame later = (known : Option Answers) → t.Client k (waits known) → ClientReacts t k later known frame

-- a channel that has given up
abbrev pub GoneHears : {s : Setup} → Parts s → Queue → Place → Log × Contents → List ℕ → List (List ℕ) → Type 0
GoneHears {s = s} t Requests k x frame later = (y : Knows) → t.Client k y → MayGiveUp t.plan.forward k → t.Gone x
    → (kept (may_await t.plan k) (map answer_bytes (reply_to s.description x.1 x.0 frame)) ≡ []) × ((later ≡ []) ⊎ t.Gone (after_request s x frame))
GoneHears t Back k x frame later = Unit {0}

-- the client may wait here
abbrev pub IsWaiting : Queue → Place → Type 0
IsWaiting forward ended = forward ≡ Requests
IsWaiting forward all_over = ⊥
IsWaiting forward k = Unit {0}

pub record Theory {s : Setup} (t : Parts s) : Type 0 where
  pub first_request : map message_bytes (asked s.call []) ≡ t.plan.frame asking ∷ []
  pub first_client : t.Client asking (waits None)
  pub first_channel : Channel t asking (s.past, s.contents)
  pub hears : (k : Place) (x : Log × Contents) (frame : List ℕ) (later : List (List ℕ)) → OnWay t.plan k (frame ∷ later) → Hears t (way t.plan.forward k) k x frame later
  pub gone_hears : (k : Place) (x : Log × Contents) (frame : List ℕ) (later : List (List ℕ)) → OnWay t.plan k (frame ∷ later) → GoneHears t (way t.plan.forward k) k x frame later
  -- an answer that isn't awaited
  pub strange : (k : Place) (known : Option Answers) (frame : List ℕ) → t.Client k (waits known) → may_await t.plan k frame ≡ false → (client s).GivesUp known frame
  pub passes : (k : Place) (xs : List (List ℕ)) → OnWay t.plan k xs → way t.plan.forward k ≡ Back → kept (may_await t.plan k) xs ≡ xs
  pub drops : (key : Key) (code : ℕ) → kept t.plan.awaits (map answer_bytes (aborted key code)) ≡ []
  -- the channel's time is over
  pub closes : (k : Place) (x : Log × Contents) → (t.plan.p → ⊥) → Serving s (t.left k) None x → May t k x
  pub gone_ticks : (log : Log) (contents : Contents) → t.Gone (log, contents) → t.Gone (Ticked ∷ log, contents)
  pub gone_ends : (log : Log) (contents : Contents) → t.Gone (log, contents) → t.Gone (TimedOut (time_out_reply log) ∷ log, contents)
  pub waiting : (k : Place) (known : Option Answers) → t.Client k (waits known) → IsWaiting t.plan.forward k
  pub done : (k : Place) → t.Client k is_done → (k ≡ all_over) ⊎ ((k ≡ ended) × (t.plan.forward ≡ Back))
  pub none_open : t.opened all_over ≡ None
  pub same_left : t.left ended ≡ t.left all_over

-- ---- what is on its way

-- by this queue, and by the other one only answers that aren't awaited
abbrev Moving : (p : Type 0) (test : List ℕ → Bool) (by : Queue) (frames : List (List ℕ)) (r q : ℕ) → World → Type 0
Moving p test by frames r q w = Moment p (kept test) (on Requests by frames) (on Back by frames) r q w

none_on : (queue by : Queue) → on queue by [] ≡ []
none_on Requests Requests = refl
none_on Requests Back = refl
none_on Back Requests = refl
none_on Back Back = refl

nothing_left : (p : Type 0) (test : List ℕ → Bool) (by : Queue) (r q : ℕ) (w : World) → (p → ⊥) → w.requests ≡ [] → kept test w.answers ≡ [] → Moving p test by [] r q w
nothing_left p test by r q w never e f =
    disturbed p (kept test) _ _ r q w never (e ∙ sym (none_on Requests by)) (f ∙ sym (none_on Back by))

-- the oldest frame of a queue is lost: it was one of these or not
falls_from : (queue : Queue) (p : Type 0) (test : List ℕ → Bool) (by : Queue) (xs : List (List ℕ)) (r q : ℕ) (w : World)
    → (p → ⊥) → Moving p test by xs r q w
    → Moving p test by xs r q (without_front queue w) ⊎ Moving p test by (drop 1 xs) r q (without_front queue w)
falls_from Requests p test Requests xs r q w never m = inr (disturbed p (kept test) (drop 1 xs) [] r q (without_front Requests w) never (ap (drop 1) m.requests) m.answers)
falls_from Requests p test Back xs r q w never m = inl (disturbed p (kept test) [] xs r q (without_front Requests w) never (ap (drop 1) m.requests) m.answers)
falls_from Back p test Requests xs r q w never m =
    inl (disturbed p (kept test) xs [] r q (without_front Back w) never m.requests (elim (kept_drops test w.answers [] m.answers) [ inl e ↦ e | inr e ↦ e ]))
falls_from Back p test Back xs r q w never m = elim (kept_drops test w.answers xs m.answers) [
  | inl e ↦ inl (disturbed p (kept test) [] xs r q (without_front Back w) never m.requests e)
  | inr e ↦ inr (disturbed p (kept test) [] (drop 1 xs) r q (without_front Back w) never m.requests e)
]

-- it comes: it is one of these, or an answer that isn't awaited
data Front (p : Type 0) (test : List ℕ → Bool) (queue by : Queue) (xs : List (List ℕ)) (x : List ℕ) (r q : ℕ) (w : World) : Type 0 where
  comes : (later : List (List ℕ)) → by ≡ queue → xs ≡ x ∷ later → Moving p test by later r q w → Front p test queue by xs x r q w
  strays : queue ≡ Back → (p → ⊥) → test x ≡ false → Moving p test by xs r q w → Front p test queue by xs x r q w

front_request : (p : Type 0) (test : List ℕ → Bool) (by : Queue) (xs : List (List ℕ)) (x : List ℕ) (rest : List (List ℕ)) (r q : ℕ) (w : World) → w.requests ≡ x ∷ rest
    → Moving p test by xs r q w → Front p test Requests by xs x r q (without_front Requests w)
front_request p test Requests xs x rest r q w e m = comes rest refl (sym m.requests ∙ e) (record {
  requests = ap (drop 1) e;
  answers = m.answers;
  exact = m.exact;
  count = λ y. record { received = (m.count y).received; answered = (m.count y).answered };
})
front_request p test Back xs x rest r q w e m = absurd (cons≢nil x rest (sym e ∙ m.requests))

front_answer : (p : Type 0) (test : List ℕ → Bool) (by : Queue) (xs : List (List ℕ)) (x : List ℕ) (rest : List (List ℕ)) (r q : ℕ) (w : World) → w.answers ≡ x ∷ rest
    → Moving p test by xs r q w → Front p test Back by xs x r q (without_front Back w)
front_answer p test Requests xs x rest r q w e m = elim (kept_front test x rest [] (ap (kept test) (sym e) ∙ m.answers)) [
  | inl other ↦ (let never : p → ⊥ = λ y. cons≢nil x rest (sym e ∙ m.exact y) in
      strays refl never other.0 (disturbed p (kept test) xs [] r q (without_front Back w) never m.requests (ap (λ (ys : List (List ℕ)). kept test (drop 1 ys)) e ∙ other.1)))
  | inr some ↦ absurd (cons≢nil x (kept test rest) (sym some))
]
front_answer p test Back xs x rest r q w e m = elim (kept_front test x rest xs (ap (kept test) (sym e) ∙ m.answers)) [
  | inl other ↦ (let never : p → ⊥ = λ y. kept_more test x rest (other.1 ∙ sym (m.exact y) ∙ e) in
      strays refl never other.0 (disturbed p (kept test) [] xs r q (without_front Back w) never m.requests (ap (λ (ys : List (List ℕ)). kept test (drop 1 ys)) e ∙ other.1)))
  | inr some ↦ comes (kept test rest) refl some (record {
    requests = m.requests;
    answers = ap (λ (ys : List (List ℕ)). kept test (drop 1 ys)) e;
    exact = λ y. ap (drop 1) (m.exact y ∙ some);
    count = λ y. record { received = (m.count y).received; answered = (m.count y).answered };
  })
]

-- ---- what holds of a world

-- at a place these are on their way by a queue, by its own
abbrev By : {s : Setup} → Parts s → Queue → Place → List (List ℕ) → World → Type 0
By t by k frames w = Moving t.plan.p (may_await t.plan k) by frames (came t.plan Requests k) (came t.plan Back k) w

abbrev At : {s : Setup} → Parts s → Place → List (List ℕ) → World → Type 0
At t k frames w = By t (way t.plan.forward k) k frames w

abbrev ends : World → Log × Contents
ends w = (w.log, w.contents)

-- frames that the other end awaits, or, of a disturbed transfer, none
pub data Rest {s : Setup} (t : Parts s) (k : Place) (frames : List (List ℕ)) (x : Log × Contents) : Type 0 where
  some : OnWay t.plan k frames → May t k x → Rest t k frames x
  nothing : (t.plan.p → ⊥) → IsMoving k → frames ≡ [] → Rest t k frames x

-- by what the client knows
pub data Alive {s : Setup} (t : Parts s) (y : Knows) (w : World) : Type 0 where
  at : (k : Place) (frames : List (List ℕ)) → t.Client k y → At t k frames w → Rest t k frames (ends w) → Alive t y w

abbrev pub Is : {s : Setup} → Parts s → Knows → List ClientEvent → Type 0
Is {s = s} t (waits known) events = (outcome s.call events ≡ Waiting) × (since_first (answers_of events) ≡ known)
Is {s = s} t is_done events = IsDone s t.given events

-- of a client that has failed nothing more is said
pub data Stands {s : Setup} (t : Parts s) (w : World) : Type 0 where
  alive : (y : Knows) → Is t y w.events → Alive t y w → Stands t w
  failed : (t.plan.p → ⊥) → has_failed (outcome s.call w.events) ≡ true → Stands t w

-- ---- a frame is lost

falls : {s : Setup} {y : Knows} (t : Parts s) (k : Place) (xs : List (List ℕ)) (w : World) → (t.plan.p → ⊥) → t.Client k y
    → At t k xs w ⊎ At t k (drop 1 xs) w → Rest t k xs (ends w) → Alive t y w
falls t k xs w never c (inl m) h = at k xs c m h
falls t k xs w never c (inr m) (nothing n i e) = at k (drop 1 xs) c m (nothing never i (ap (drop 1) e))
falls t k xs w never c (inr m) (some o h) = elim (fewer t.plan k xs never o) [
  | inl left ↦ at k (drop 1 xs) c m (some left h)
  | inr over ↦ at k (drop 1 xs) c m (nothing never over.0 over.1)
]

is_lost : {s : Setup} {y : Knows} (t : Parts s) (queue : Queue) (w : World) → (t.plan.p → ⊥) → Alive t y w → Alive t y (without_front queue w)
is_lost t Requests w never (at k xs c m h) =
    falls t k xs (without_front Requests w) never c (falls_from Requests t.plan.p (may_await t.plan k) (way t.plan.forward k) xs _ _ w never m) h
is_lost t Back w never (at k xs c m h) =
    falls t k xs (without_front Back w) never c (falls_from Back t.plan.p (may_await t.plan k) (way t.plan.forward k) xs _ _ w never m) h

-- ---- an end took the oldest frame

-- in the queue by which that came, the later ones are left; in the other one is what was sent
abbrev pick : Queue → List (List ℕ) → List (List ℕ) → List (List ℕ)
pick Requests later sends = later
pick Back later sends = sends

abbrev After : {s : Setup} → Parts s → Queue → Place → List (List ℕ) → List (List ℕ) → World → Type 0
After t queue next later sends w =
    Moment t.plan.p (kept (may_await t.plan next)) (pick queue later sends) (pick (opposite queue) later sends) (came t.plan Requests next) (came t.plan Back next) w

by_other : {s : Setup} (t : Parts s) (queue : Queue) (next : Place) (sends : List (List ℕ)) (w : World) → After t queue next [] sends w → By t (opposite queue) next sends w
by_other t Requests next sends w m = m
by_other t Back next sends w m = m

by_same : {s : Setup} (t : Parts s) (queue : Queue) (next : Place) (later : List (List ℕ)) (w : World) → After t queue next later [] w → By t queue next later w
by_same t Requests next later w m = m
by_same t Back next later w m = m

lands : {s : Setup} {y : Knows} (t : Parts s) (queue : Queue) (next : Place) (later sends : List (List ℕ)) (w : World) → Onward t.plan queue next later sends
    → After t queue next later sends w → t.Client next y → May t next (ends w) → Alive t y w
lands t queue next later sends w (turns over e o) m c h = at next sends c
    (subst (λ (q : Queue). By t q next sends w) (sym e) (by_other t queue next sends w (subst (λ (xs : List (List ℕ)). After t queue next xs sends w) over m))) (some o h)
lands t queue next later sends w (keeps_on silent e o) m c h = at next later c
    (subst (λ (q : Queue). By t q next later w) (sym e) (by_same t queue next later w (subst (λ (xs : List (List ℕ)). After t queue next later xs w) silent m))) (some o h)

-- ---- a request comes

abort_drops : {s : Setup} (t : Parts s) → Theory t → (k : Place) (key : Key) (code : ℕ) → kept (may_await t.plan k) (map answer_bytes (aborted key code)) ≡ []
abort_drops t m asking key code = refl
abort_drops t m confirmed key code = refl
abort_drops t m _ key code = m.drops key code

all_pass : {s : Setup} (t : Parts s) → Theory t → (next : Place) (later sends : List (List ℕ)) → Onward t.plan Requests next later sends
    → kept (may_await t.plan next) sends ≡ sends
all_pass t m next later sends (turns over e o) = m.passes next sends o e
all_pass t m next later sends (keeps_on silent e o) = rw silent refl

moves : (d : Plan) (k : Place) (x : List ℕ) (later : List (List ℕ)) → OnWay d k (x ∷ later) → IsMoving k
moves d all_over x later o = cons≢nil x later o
moves d _ x later o = tt

channel_reacts : {s : Setup} {y : Knows} (t : Parts s) → Theory t → (k : Place) (frame : List ℕ) (later : List (List ℕ)) (w : World) → IsMoving k → t.Client k y → By t Requests k later w
    → Reacts t.plan (channel s) Requests (Channel t) t.Client k later (ends w) frame → Alive t y (at_channel s frame w)
channel_reacts {s = s} t m k frame later w i c n (goes next sends took step peer) =
    lands t Requests next later sends (at_channel s frame w) step.onward (record {
      requests = n.requests;
      answers = kept_after (may_await t.plan next) w.answers _ sends (step.narrows w.answers n.answers)
          (ap (kept (may_await t.plan next)) took.sends ∙ all_pass t m next later sends step.onward);
      exact = λ x. rw (n.exact x, took.sends) refl;
      count = λ x. record { received = let a = (n.count x).received in let b = step.here x in omega arith; answered = (n.count x).answered ∙ step.there x };
    }) (peer _ c) (inl took.next)
channel_reacts {s = s} t m k frame later w i c n (gives_up never over gave) = at k [] c
    (nothing_left t.plan.p (may_await t.plan k) (way t.plan.forward k) _ _ (at_channel s frame w) never (n.requests ∙ over)
    (kept_after (may_await t.plan k) w.answers _ [] n.answers (rw gave.is (abort_drops t m k gave.key gave.code)))) (nothing never i refl)

gone_reacts : {s : Setup} {y : Knows} (t : Parts s) (k : Place) (frame : List ℕ) (later : List (List ℕ)) (w : World) → OnWay t.plan k (frame ∷ later)
    → way t.plan.forward k ≡ Requests → t.Client k y → MayGiveUp t.plan.forward k → (t.plan.p → ⊥) → By t Requests k later w
    → (kept (may_await t.plan k) (map answer_bytes (reply_to s.description w.contents w.log frame)) ≡ []) × ((later ≡ []) ⊎ t.Gone (after_request s (ends w) frame))
    → Alive t y (at_channel s frame w)
gone_reacts {s = s} {y = y} t k frame later w o e c may never n g = by g.1
  where
    others : kept (may_await t.plan k) (w.answers ++ map answer_bytes (reply_to s.description w.contents w.log frame)) ≡ []
    others = kept_after (may_await t.plan k) w.answers _ [] n.answers g.0

    silent : later ≡ [] → Alive t y (at_channel s frame w)
    silent over = at k [] c (nothing_left t.plan.p (may_await t.plan k) (way t.plan.forward k) _ _ (at_channel s frame w) never (n.requests ∙ over) others)
        (nothing never (moves t.plan k frame later o) refl)

    by : (later ≡ []) ⊎ t.Gone (after_request s (ends w) frame) → Alive t y (at_channel s frame w)
    by (inl over) = silent over
    by (inr gone) = elim (fewer t.plan k (frame ∷ later) never o) [
      | inl left ↦ at k later c
          (subst (λ (q : Queue). By t q k later (at_channel s frame w)) (sym e) (disturbed t.plan.p (kept (may_await t.plan k)) later [] _ _ (at_channel s frame w) never n.requests others))
          (some left (inr (may, never, gone)))
      | inr over ↦ silent over.1
    ]

request_comes : {s : Setup} {y : Knows} (t : Parts s) → Theory t → (w : World) → Alive t y w → (ys : List (List ℕ)) → w.requests ≡ ys
    → Alive t y (front_arrives s Requests ys (without_front Requests w))
request_comes t m w h [] e = subst (Alive t _) (no_request w e) h
request_comes {s = s} {y = y} t m w (at k xs c n h) (x ∷ rest) e = by h (front_request t.plan.p (may_await t.plan k) (way t.plan.forward k) xs x rest _ _ w e n)
  where
    by : Rest t k xs (ends w) → Front t.plan.p (may_await t.plan k) Requests (way t.plan.forward k) xs x (came t.plan Requests k) (came t.plan Back k) (without_front Requests w)
        → Alive t y (at_channel s x (without_front Requests w))
    by h (strays q never other n) = absurd (requests≢back q)
    by (nothing never i silent) (comes later q is after) = absurd (cons≢nil x later (sym is ∙ silent))
    by (some o h) (comes later q is after) =
        let on_way = subst (OnWay t.plan k) is o in
        let n = subst (λ (by : Queue). By t by k later (without_front Requests w)) q after in
        elim h [
          | inl serving ↦ channel_reacts t m k x later (without_front Requests w) (moves t.plan k x later on_way) c n
              (subst (λ (by : Queue). Hears t by k (ends w) x later) q (m.hears k (ends w) x later on_way) _ c serving)
          | inr gone ↦ gone_reacts t k x later (without_front Requests w) on_way q c gone.0 gone.1 n
              (subst (λ (by : Queue). GoneHears t by k (ends w) x later) q (m.gone_hears k (ends w) x later on_way) _ c gone.0 gone.2)
        ]

-- ---- an answer comes

client_moves : {s : Setup} (t : Parts s) (k next : Place) (frame : List ℕ) (later sends : List (List ℕ)) (messages : List Message) (w : World) → By t Back k later w
    → asked s.call (Answered frame ∷ w.events) ≡ messages → map message_bytes messages ≡ sends → Step t.plan Back k next later sends
    → After t Back next later sends (at_client s (Answered frame) w)
client_moves t k next frame later sends messages w n e f step = record {
  requests = rw (n.requests, e) f;
  answers = step.narrows w.answers n.answers;
  exact = n.exact;
  count = λ x. record { received = (n.count x).received ∙ step.there x; answered = ap suc (n.count x).answered ∙ step.here x };
}

fails_by : {s : Setup} {known : Option Answers} (t : Parts s) (frame : List ℕ) (w : World) → (t.plan.p → ⊥) → Is t (waits known) w.events
    → has_failed (state_by (verdict_of s known frame)) ≡ true → Stands t (at_client s (Answered frame) w)
fails_by {s = s} t frame w never i h =
    failed never (let waits = i.0 in rw waits (ap (λ (v : Verdict). has_failed (state_by v)) (verdict_since s.call w.events frame _ i.1) ∙ h))

client_reacts : {s : Setup} {known : Option Answers} (t : Parts s) (k : Place) (frame : List ℕ) (later : List (List ℕ)) (w : World) → Is t (waits known) w.events
    → By t Back k later w → May t k (ends w) → ClientReacts t k later known frame → Stands t (at_client s (Answered frame) w)
client_reacts {s = s} t k frame later w i n h (reacts (goes next sends took step peer)) =
    let f = follows s.call w.events (Answered frame) (GoesOn took.messages) i.0 (verdict_since s.call w.events frame _ i.1 ∙ took.is) in
    alive (waits _) (f.state, ap (λ (a : Option Answers). Some (with_answer frame a)) i.1)
    (lands t Back next later sends (at_client s (Answered frame) w) step.onward
    (client_moves t k next frame later sends took.messages w n f.messages took.sends step) took.next (peer (ends w) h))
client_reacts t k frame later w i n h (reacts (gives_up never none gave)) = fails_by t frame w never i gave
client_reacts {s = s} t k frame later w i n h (finishes next messages sends is e step c leaves) =
    let f = follows s.call w.events (Answered frame) (Ends messages t.given) i.0 (verdict_since s.call w.events frame _ i.1 ∙ is) in
    alive is_done (record { done = f.state; gives = f.value })
    (lands t Back next later sends (at_client s (Answered frame) w) step.onward (client_moves t k next frame later sends messages w n f.messages e step) c (leaves (ends w) h))

-- a client that is done awaits none
none_awaited : {s : Setup} (t : Parts s) → Theory t → (k : Place) (x : List ℕ) (later : List (List ℕ)) → t.Client k is_done → OnWay t.plan k (x ∷ later)
    → way t.plan.forward k ≡ Back → ⊥
none_awaited t m k x later c o e = elim (m.done k c) [
  | inl is ↦ cons≢nil x later (subst (λ (j : Place). OnWay t.plan j (x ∷ later)) is o)
  | inr is ↦ (let end : opposite t.plan.forward ≡ Back = subst (λ (j : Place). way t.plan.forward j ≡ Back) is.0 e in
      requests≢back (sym (ap opposite is.1) ∙ end))
]

answer_is : {s : Setup} {y : Knows} (t : Parts s) → Theory t → (k : Place) (xs : List (List ℕ)) (x : List ℕ) (w : World) → Is t y w.events → t.Client k y
    → Rest t k xs (ends w) → Front t.plan.p (may_await t.plan k) Back (way t.plan.forward k) xs x (came t.plan Requests k) (came t.plan Back k) w
    → Stands t (at_client s (Answered x) w)
answer_is t m k xs x w i c (nothing never moving silent) (comes later q is n) = absurd (cons≢nil x later (sym is ∙ silent))
answer_is {y = waits known} t m k xs x w i c h (strays q never other n) = fails_by t x w never i (m.strange k known x c other)
answer_is {s = s} {y = is_done} t m k xs x w i c h (strays q never other n) = alive is_done (over_event s (Answered x) w i) (at k xs c
    (asks_nothing (way t.plan.forward k) n) h)
  where
    same : (at_client s (Answered x) w).requests ≡ w.requests
    same = same_requests w.requests _ (ap (map message_bytes) (stays s.call w.events (Answered x) i.done).messages)

    asks_nothing : (by : Queue) → By t by k xs w → By t by k xs (at_client s (Answered x) w)
    asks_nothing by n = disturbed t.plan.p (kept (may_await t.plan k)) _ _ _ _ (at_client s (Answered x) w) never (same ∙ n.requests) n.answers
answer_is {y = is_done} t m k xs x w i c (some o h) (comes later q is n) = absurd (none_awaited t m k x later c (subst (OnWay t.plan k) is o) q)
answer_is {y = waits known} t m k xs x w i c (some o h) (comes later q is n) =
    client_reacts t k x later w i (subst (λ (by : Queue). By t by k later w) q n) h
    (subst (λ (by : Queue). Hears t by k (ends w) x later) q (m.hears k (ends w) x later (subst (OnWay t.plan k) is o)) known c)

answer_comes : {s : Setup} {y : Knows} (t : Parts s) → Theory t → (w : World) → Is t y w.events → Alive t y w → (ys : List (List ℕ)) → w.answers ≡ ys
    → Stands t (front_arrives s Back ys (without_front Back w))
answer_comes t m w i h [] e = subst (Stands t) (no_answer w e) (alive _ i h)
answer_comes t m w i (at k xs c n h) (x ∷ rest) e =
    answer_is t m k xs x (without_front Back w) i c h (front_answer t.plan.p (may_await t.plan k) (way t.plan.forward k) xs x rest _ _ w e n)

-- ---- ticks

drops_aborts : {s : Setup} (t : Parts s) → Theory t → (k : Place) → DropsAborts (kept (may_await t.plan k))
drops_aborts t m k xs key = kept_both (may_await t.plan k) xs _ ∙ ap (λ (ys : List (List ℕ)). kept (may_await t.plan k) xs ++ ys) (abort_drops t m k key 0x05040000)
    ∙ append-nil (kept (may_await t.plan k) xs)

may_tick : {s : Setup} (t : Parts s) → Theory t → (tick : Tick) (k : Place) (w : World) → IsQuiet s t.plan.p tick w → May t k (ends w) → May t k (ends (after_tick s tick w))
may_tick t m at_the_client k w q h = h
may_tick {s = s} t m at_the_channel k w q (inl h) = inl (serving_ticks s _ _ w.log w.contents h)
may_tick t m at_the_channel k w q (inr h) = inr (h.0, h.1, m.gone_ticks w.log w.contents h.2)
may_tick {s = s} t m time_over k w never (inl h) = m.closes k _ never (serving_ends s _ _ (Ticked ∷ w.log) w.contents (serving_ticks s _ _ w.log w.contents h))
may_tick t m time_over k w never (inr h) = inr (h.0, never, m.gone_ends (Ticked ∷ w.log) w.contents (m.gone_ticks w.log w.contents h.2))

ticks : {s : Setup} {y : Knows} (t : Parts s) → Theory t → (tick : Tick) (w : World) → IsQuiet s t.plan.p tick w → Alive t y w → Alive t y (after_tick s tick w)
ticks {s = s} t m tick w q (at k xs c n h) = at k xs c (moment_ticks s t.plan.p _ (drops_aborts t m k) tick _ _ _ _ w q n) (by h)
  where
    by : Rest t k xs (ends w) → Rest t k xs (ends (after_tick s tick w))
    by (some o h) = some o (may_tick t m tick k w q h)
    by (nothing never i silent) = nothing never i silent

client_ticks : {s : Setup} (t : Parts s) → Theory t → (y : Knows) (w : World) → (t.plan.p → IsCalm s ClientTicked w) → Is t y w.events → Alive t y w
    → (over : Bool) → is_client_over s.call.time (TickedAtClient ∷ w.events) ≡ over → Stands t (at_client s TickedAtClient w)
client_ticks {s = s} t m is_done w calm i h over e = alive is_done (over_event s TickedAtClient w i) (ticks t m at_the_client w (stays s.call w.events TickedAtClient i.done).messages h)
client_ticks {s = s} t m (waits known) w calm i h false e = alive (waits known) (calm_waits s w.events e i.0, i.1) (ticks t m at_the_client w (calm_asks s w.events e) h)
client_ticks t m (waits known) w calm i h true e = failed (λ x. false≢true (sym (calm x i.0) ∙ e)) (let waits = i.0 in rw (waits, e) refl)

channel_ticks : {s : Setup} {y : Knows} (t : Parts s) → Theory t → (w : World) (over : Bool) → (t.plan.p → over ≡ false) → Is t y w.events → Alive t y w
    → Stands t (if over then timed_out (ticked w) else ticked w)
channel_ticks t m w true calm i h = alive _ i (ticks t m time_over w (λ x. false≢true (sym (calm x))) h)
channel_ticks t m w false calm i h = alive _ i (ticks t m at_the_channel w tt h)

-- ---- every event

same_client : {s : Setup} (t : Parts s) (y : Knows) (xs : List (List ℕ)) (w : World) → Is t y w.events → Alive t y (front_arrives s Requests xs w)
    → Stands t (front_arrives s Requests xs w)
same_client t y [] w i h = alive y i h
same_client t y (x ∷ xs) w i h = alive y i h

step : {s : Setup} (t : Parts s) → Theory t → (event : WorldEvent) (w : World) → is_repeat event ≡ false → (t.plan.p → IsCalm s event w)
    → Stands t w → Stands t (after_event s event w)
step {s = s} t m event w once calm (failed never h) = failed never (failed_event s event w h)
step {s = s} t m (Delivered Requests) w once calm (alive y i h) = same_client t y w.requests (without_front Requests w) i (request_comes t m w h w.requests refl)
step t m (Delivered Back) w once calm (alive y i h) = answer_comes t m w i h w.answers refl
step t m (Lost Requests) w once calm (alive y i h) = alive y i (is_lost t Requests w calm h)
step t m (Lost Back) w once calm (alive y i h) = alive y i (is_lost t Back w calm h)
step t m (Repeated queue) w once calm (alive y i h) = absurd (false≢true (sym once))
step t m ClientTicked w once calm (alive y i h) = client_ticks t m y w calm i h _ refl
step t m ChannelTicked w once calm (alive y i h) = channel_ticks t m w _ calm i h

none_came : (d : Plan) (forward queue : Queue) → came_by forward queue d asking ≡ 0
none_came d Requests Requests = refl
none_came d Requests Back = refl
none_came d Back Requests = refl
none_came d Back Back = refl

pub always : {s : Setup} (t : Parts s) → Theory t → (events : List WorldEvent) → list_any is_repeat events ≡ false → (t.plan.p → AreCalm s events)
    → Stands t (world_after s events)
always t m [] once calm = alive (waits None) (refl, refl) (at asking (t.plan.frame asking ∷ []) m.first_client (record {
  requests = m.first_request;
  answers = refl;
  exact = λ x. refl;
  count = λ x. record { received = sym (none_came t.plan t.plan.forward Requests); answered = sym (none_came t.plan t.plan.forward Back) };
}) (some refl (inl m.first_channel)))
always {s = s} t m (event ∷ older) once calm =
    let both = or_parts (is_repeat event) (list_any is_repeat older) once in
    step t m event (world_after s older) both.0 (λ x. (calm x).0) (always t m older both.1 (λ x. (calm x).1))

-- ---- a client that is done

pub when_done : {s : Setup} (t : Parts s) (w : World) → outcome s.call w.events ≡ Done → Stands t w → Is t is_done w.events × Alive t is_done w
when_done t w done (alive is_done i h) = (i, h)
when_done t w done (alive (waits known) i h) = absurd (waiting≢done (sym i.0 ∙ done))
when_done t w done (failed never h) = absurd (false≢true (ap has_failed (sym done) ∙ h))

-- undisturbed, or in a download
leaves : {s : Setup} (t : Parts s) → Theory t → (w : World) → t.plan.p ⊎ (t.plan.forward ≡ Requests) → Alive t is_done w → w.contents ≡ t.left all_over
leaves t m w said (at k xs c n (nothing never moving silent)) = absurd (elim (m.done k c) [
  | inl is ↦ subst IsMoving is moving
  | inr is ↦ elim said [ inl x ↦ never x | inr e ↦ requests≢back (sym e ∙ is.1) ]
])
leaves t m w said (at k xs c n (some o h)) = elim (m.done k c) [
  | inl is ↦ elim (subst (λ (j : Place). May t j (ends w)) is h) [ inl serving ↦ serving.lawful | inr gone ↦ absurd gone.0 ]
  | inr is ↦ elim (subst (λ (j : Place). May t j (ends w)) is.0 h) [
    | inl serving ↦ serving.lawful ∙ m.same_left
    | inr gone ↦ absurd (elim said [ inl x ↦ gone.1 x | inr e ↦ requests≢back (sym e ∙ is.1) ])
  ]
]

pub is_left : {s : Setup} (t : Parts s) → Theory t → (w : World) → t.plan.p ⊎ (t.plan.forward ≡ Requests) → outcome s.call w.events ≡ Done → Stands t w → w.contents ≡ t.left all_over
is_left t m w said done h = leaves t m w said (when_done t w done h).1

-- ---- undisturbed: how many frames have come, and are on their way

on_both : (by : Queue) (xs : List (List ℕ)) → length (on Requests by xs) + length (on Back by xs) ≡ length xs
on_both Requests xs = omega arith
on_both Back xs = omega arith

sum_is : (forward : Queue) (d : Plan) (k : Place) → came_by forward Requests d k + came_by forward Back d k ≡ to_receiver d k + to_sender d k
sum_is Requests d k = refl
sum_is Back d k = omega arith

first_is : (forward : Queue) → (1 ≤ first forward) × (first forward ≤ 2)
first_is Requests = (omega arith, omega arith)
first_is Back = (omega arith, omega arith)

-- while the client waits
few_came : (d : Plan) (k : Place) (xs : List (List ℕ)) → OnWay d k xs → IsWaiting d.forward k
    → (to_receiver d k + to_sender d k < block_frames (length d.value)) × (1 ≤ length xs)
few_came d (taking a t) xs o w = let few = (first_is d.forward).1 in let under = o.under in let some = ap length o.are in (omega arith, omega arith)
few_came d (acknowledging a u) xs o w = let few = (first_is d.forward).1 in let under = o.under in let some = ap length o.are in (omega arith, omega arith)
few_came d (finishing a u) xs o w =
    let few = (first_is d.forward).1 in let under = o.under in let all = o.all in let some = ap length o.are in (omega arith, omega arith)
few_came d ended xs o w = let one : first d.forward ≡ 1 = ap first w in let some = ap length o in (omega arith, omega arith)
few_came d all_over xs o w = absurd w
few_came d _ xs o w = let few = (first_is d.forward).1 in let some = ap length o in (omega arith, omega arith)

-- at the end, and while the client's end is on its way
pub data Closing {s : Setup} (t : Parts s) (w : World) : Type 0 where
  all_came : w.requests ≡ [] → w.answers ≡ [] → Count (came t.plan Requests all_over) (came t.plan Back all_over) w → Channel t all_over (ends w) → Closing t w
  one_left : t.plan.forward ≡ Back → w.requests ≡ t.plan.frame ended ∷ [] → w.answers ≡ []
      → Count (to_sender t.plan ended) (to_receiver t.plan ended) w → Closing t w

closes_at : {s : Setup} (t : Parts s) → t.plan.p → (k : Place) (xs : List (List ℕ)) (w : World) → OnWay t.plan k xs → At t k xs w → May t k (ends w)
    → (k ≡ all_over) ⊎ ((k ≡ ended) × (t.plan.forward ≡ Back)) → Closing t w
closes_at t x k xs w o n h (inl is) =
    let none : xs ≡ [] = subst (λ (j : Place). OnWay t.plan j xs) is o in
    let n : At t all_over [] w = subst (λ (ys : List (List ℕ)). At t all_over ys w) none (subst (λ (j : Place). At t j xs w) is n) in
    all_came (n.requests ∙ none_on Requests t.plan.forward) (n.exact x ∙ none_on Back t.plan.forward) (n.count x)
    (elim (subst (λ (j : Place). May t j (ends w)) is h) [ inl serving ↦ serving | inr gone ↦ absurd (gone.1 x) ])
closes_at t x k xs w o n h (inr is) =
    let one : xs ≡ t.plan.frame ended ∷ [] = subst (λ (j : Place). OnWay t.plan j xs) is.0 o in
    let n : At t ended (t.plan.frame ended ∷ []) w = subst (λ (ys : List (List ℕ)). At t ended ys w) one (subst (λ (j : Place). At t j xs w) is.0 n) in
    let count = n.count x in
    let back = subst (λ (q : Queue). By t q ended (t.plan.frame ended ∷ []) w) (ap opposite is.1) n in
    one_left is.1 back.requests (back.exact x)
    (subst (λ (q : Queue). Count (came_by q Requests t.plan ended) (came_by q Back t.plan ended) w) is.1 count)

closing : {s : Setup} (t : Parts s) → Theory t → t.plan.p → (w : World) → Alive t is_done w → Closing t w
closing t m x w (at k xs c n (some o h)) = closes_at t x k xs w o n h (m.done k c)
closing t m x w (at k xs c n (nothing never moving silent)) = absurd (never x)

-- of so many frames
done_in_blocks : {s : Setup} (t : Parts s) (frames : ℕ) (w : World) → came t.plan Requests all_over + came t.plan Back all_over ≡ frames → outcome s.call w.events ≡ Done
    → Closing t w → GoesInBlocks s.call (block_frames (length t.plan.value)) frames w
done_in_blocks {s = s} t frames w all done (all_came e f n h) =
    let sum = sum_is t.plan.forward t.plan all_over in
    let some = (first_is t.plan.forward).0 in
    done_at s _ frames 0 _ _ w n done (omega arith) (omega arith) (omega arith) (rw (e, f) refl)
done_in_blocks {s = s} t frames w all done (one_left back e f n) =
    let sum = sum_is t.plan.forward t.plan all_over in
    let two : first t.plan.forward ≡ 2 = ap first back in
    done_at s _ frames 1 _ _ w n done (omega arith) (omega arith) (omega arith) (rw (e, f) refl)

pub goes_in_blocks : {s : Setup} (t : Parts s) → Theory t → t.plan.p → (frames : ℕ) (w : World) → block_frames (length t.plan.value) ≤ frames
    → came t.plan Requests all_over + came t.plan Back all_over ≡ frames → Stands t w → GoesInBlocks s.call (block_frames (length t.plan.value)) frames w
goes_in_blocks t m x frames w few all (failed never h) = absurd (never x)
goes_in_blocks t m x frames w few all (alive is_done i h) = done_in_blocks t frames w all i.done (closing t m x w h)
goes_in_blocks t m x frames w few all (alive (waits known) i (at k xs c n (nothing never moving silent))) = absurd (never x)
goes_in_blocks {s = s} t m x frames w few all (alive (waits known) i (at k xs c n (some o h))) =
    let below = few_came t.plan k xs o (m.waiting k known c) in
    let sum = sum_is t.plan.forward t.plan k in
    let both = on_both (way t.plan.forward k) xs in
    let under = below.0 in
    let some = below.1 in
    waits_at s _ frames w x n i.0 (omega arith) few (omega arith)

-- once the client is done nothing is open when no frame is on its way
pub closed : {s : Setup} (t : Parts s) → Theory t → t.plan.p → (w : World) → Alive t is_done w → on_their_way w ≡ 0 → open_transfer w.log ≡ None
closed {s = s} t m x w h none = by (closing t m x w h)
  where
    by : Closing t w → open_transfer w.log ≡ None
    by (all_came e f n h) = unopened s.description.rows w.log (moved _ _ _ _ m.none_open h.serves)
    by (one_left back e f n) = let one : length w.requests ≡ 1 = ap length e in absurd (omega arith)

-- and both ends have sent all frames
pub all_sent : {s : Setup} (t : Parts s) → Theory t → t.plan.p → (requests answers : ℕ) (w : World) → AllThere s w → came t.plan Requests all_over ≡ requests
    → came t.plan Back all_over ≡ answers → Alive t is_done w → HaveSent s requests answers w
all_sent {s = s} t m x requests answers w there r q h = by (closing t m x w h)
  where
    last : (forward : Queue) → forward ≡ Back → (came_by forward Requests t.plan all_over ≡ suc (to_sender t.plan ended)) × (came_by forward Back t.plan all_over ≡ to_receiver t.plan ended)
    last Requests back = absurd (requests≢back back)
    last Back back = (omega arith, refl)

    by : Closing t w → HaveSent s requests answers w
    by (all_came e f n h) = let a = n.received in let b = n.answered in have_sent s w _ _ there (rw e (omega arith)) (rw f (omega arith))
    by (one_left back e f n) =
        let a = n.received in let b = n.answered in let c = (last t.plan.forward back).0 in let d = (last t.plan.forward back).1 in
        have_sent s w _ _ there (rw e (omega arith)) (rw f (omega arith))

-- the contents, where no place has others
pub unchanged : {s : Setup} (t : Parts s) → t.plan.p → (w : World) (contents : Contents) → ((k : Place) → t.left k ≡ contents) → Stands t w → w.contents ≡ contents
unchanged t x w contents same (failed never h) = absurd (never x)
unchanged t x w contents same (alive y i (at k xs c n (nothing never moving silent))) = absurd (never x)
unchanged t x w contents same (alive y i (at k xs c n (some o (inl h)))) = h.lawful ∙ same k
unchanged t x w contents same (alive y i (at k xs c n (some o (inr gone)))) = absurd (gone.1 x)

-- Transfers in which each request waits for its answer, whatever disturbs them. The client sends nothing twice, and each queue
-- keeps its order, so both ends see only frames of two steps, one after the other: which of the two, the toggle tells. `p` says
-- that a transfer is permitted.
use Rattle.std.proofs.Common.{◌≡◌, ℕ, zero, suc, ◌<◌, ◌≤◌, Bool, true, false, List, [], ◌∷◌, ◌++◌, length, map, drop, Option, Some, None, refl, sym, ap, ◌∙◌, arith, subst, ◌⊎◌, inl, inr}
use Rattle.std.specs.List.{AllByRecursion}
use Rattle.std.proofs.lemmas.Bool.{false≢true}
use Rattle.std.specs.Prelude.{if◌then◌else◌}
use Rattle.co_value.specs.declared.key.Key.{Key}
use Rattle.co_frame.specs.declared.sdo_response.SdoResponse.TheVariants.{Abort}
use Rattle.co_frame.specs.SdoResponses.{response_bytes}
use Rattle.co_sdo_client.specs.declared.state.ClientState.TheVariants.{Waiting, Done}
use Rattle.co_sdo_client.specs.Calls.{message_bytes, Event as ClientEvent, Answered, Ticked as TickedAtClient, is_time_over as is_client_over}
use Rattle.co_sdo_client.specs.Verdicts.{GoesOn, Ends, verdict}
use Rattle.co_sdo_client.specs.Outcomes.{outcome, asked}
use Rattle.co_dict.specs.Rows.{Contents}
use Rattle.co_dict.specs.Stores.{IsDictionary}
use Rattle.co_sdo.specs.Log.{Answer, answer_bytes, Log, Ticked, TimedOut}
use Rattle.co_sdo.specs.OpenTransfers.{open_transfer}
use Rattle.co_sdo.specs.Opened.{OpenTransfer, opened_after, is_time_over}
use Rattle.co_sdo.specs.Replies.{aborted, is_in_sub_block, open_key, time_out_reply}
use Rattle.co_sdo_laws.specs.World.{Setup, World, Queue, Requests, Answers, WorldEvent, Delivered, Lost, Repeated, ClientTicked, ChannelTicked, at_client, at_channel, timed_out, ticked, without_front, front_arrives, after_event, world_after}
use Rattle.co_sdo_laws.proofs.Client.{follows, stays}
use Rattle.co_sdo_laws.proofs.Channel.{serves_first, IsServing, serving_ticks, serving_ends, Steps, is_served, takes_it, refuses_it}
use Rattle.co_sdo_laws.proofs.Blocks.{calm_asks, calm_waits, IsDone, over_event, same_requests}
use Rattle.co_sdo_laws.proofs.Turns.{Takes, GoesOnWith, either, waiting≢done}
use Rattle.co_sdo_laws.proofs.Failures.{fails, IsAbort, has_failed, Fails, Refuses, abort_read, failed_event}

-- ---- the transfer: requests 0 to `last` and their answers

-- what is open after each request but the last one, what the contents may be, and what the last request makes of them
pub record Parts (s : Setup) : Type 1 where
  pub last : ℕ
  pub value : List ℕ
  pub request : ℕ → List ℕ
  pub reply : ℕ → Answer
  pub open_at : ℕ → OpenTransfer
  pub Lawful : Contents → Type 0
  pub left : Contents → Contents
  -- they stay lawful if this holds
  pub Sound : Type 0
  -- the entry has what was written
  pub IsSet : Contents → Type 0
  -- the client took the answers before k, and waits for answer k
  pub Client : ℕ → List ClientEvent → Type 0

abbrev pub answer : (s : Setup) → Parts s → ℕ → List ℕ
answer s t k = answer_bytes (t.reply k)

-- the channel refuses request k while this is open
pub record IsRefused (s : Setup) (t : Parts s) (k : ℕ) (current : Option OpenTransfer) (contents : Contents) : Type 0 where
  pub key : Key
  pub code : ℕ
  pub step : Steps s.description contents current (t.request k) (aborted key code) None contents

-- it takes request k, which is the last one or not, or refuses it, which it doesn't where that is permitted
pub data Reacts (s : Setup) (p : Type 0) (t : Parts s) (k : ℕ) (current : Option OpenTransfer) (contents : Contents) : Type 0 where
  takes : k < t.last → Steps s.description contents current (t.request k) (t.reply k ∷ []) (Some (t.open_at k)) contents
      → Reacts s p t k current contents
  takes_last : k ≡ t.last → Steps s.description contents current (t.request k) (t.reply k ∷ []) None (t.left contents)
      → (t.Sound → t.Lawful (t.left contents)) → Reacts s p t k current contents
  refuses : (p → contents ≡ s.contents → ⊥) → IsRefused s t k current contents → Reacts s p t k current contents

pub record StopAndWait (s : Setup) (p : Type 0) (t : Parts s) : Type 0 where
  pub first_request : map message_bytes (asked s.call []) ≡ t.request 0 ∷ []
  pub first_client : t.Client 0 []
  pub first_lawful : t.Lawful s.contents
  pub idle : open_transfer s.past ≡ None
  pub long : (k : ℕ) → length (t.request k) ≡ 8
  pub outside : is_in_sub_block (Some (t.open_at 0)) ≡ false
  pub dictionary : (contents : Contents) → t.Lawful contents → IsDictionary s.description contents
  pub sets : (contents : Contents) → t.Lawful contents → t.IsSet (t.left contents)
  pub begins : (current : Option OpenTransfer) (contents : Contents) → is_in_sub_block current ≡ false → t.Lawful contents
      → Reacts s p t 0 current contents
  pub goes_on : (k : ℕ) (contents : Contents) → k < t.last → t.Lawful contents
      → Reacts s p t (suc k) (Some (t.open_at k)) contents
  pub refuses_idle : (k : ℕ) (contents : Contents) → k < t.last → IsRefused s t (suc k) None contents
  pub refuses_again : (k : ℕ) (contents : Contents) → suc k < t.last
      → IsRefused s t (suc k) (Some (t.open_at (suc k))) contents
  pub client_goes_on : (k : ℕ) (events : List ClientEvent) → k < t.last → t.Client k events
      → GoesOnWith s events (answer s t k) (t.request (suc k)) (t.Client (suc k))
      ⊎ ((p → ⊥) × Fails s events (answer s t k))
  pub client_ends : (k : ℕ) (events : List ClientEvent) → k ≡ t.last → t.Client k events
      → (verdict s.call events (Answered (answer s t k)) ≡ Ends [] t.value) ⊎ ((p → ⊥) × Fails s events (answer s t k))
  pub client_stale : (k : ℕ) (events : List ClientEvent) → k < t.last → t.Client (suc k) events
      → Fails s events (answer s t k)
  pub client_aborted : (k : ℕ) (events : List ClientEvent) (frame : List ℕ) → t.Client k events → IsAbort frame
      → Fails s events frame
  pub client_ticks : (k : ℕ) (events : List ClientEvent) → t.Client k events → t.Client k (TickedAtClient ∷ events)

-- ---- the channel: nothing is open, or requests 0 to k were taken

abbrev pub Idle : (s : Setup) → Parts s → Log → Contents → Type 0
Idle s t = IsServing s t.Lawful None

pub record Open (s : Setup) (t : Parts s) (k : ℕ) (log : Log) (contents : Contents) : Type 0 where
  pub within : k < t.last
  pub serving : IsServing s t.Lawful (Some (t.open_at k)) log contents

-- after request k was taken, with these contents before: it goes on, or that was the last one
pub data Reached (s : Setup) (t : Parts s) (before : Contents) (k : ℕ) (log : Log) (contents : Contents) : Type 0 where
  still : Open s t k log contents → contents ≡ before → Reached s t before k log contents
  was_last : k ≡ t.last → IsServing s (λ c. t.Sound → t.Lawful c) None log contents → contents ≡ t.left before
      → t.IsSet contents → Reached s t before k log contents

refused_by : (s : Setup) {p : Type 0} (t : Parts s) → StopAndWait s p t → (k : ℕ) (current : Option OpenTransfer) (log : Log)
    (contents : Contents) → IsServing s t.Lawful current log contents → IsRefused s t k current contents
    → Refuses s log contents (t.request k) (Idle s t)
refused_by s t m k current log contents h refused =
    refuses_it s t.Lawful log contents (t.request k) refused.key refused.code h.lawful
    (is_served s log contents current (t.request k) _ _ _ h.serves (m.dictionary contents h.lawful) (m.long k) refused.step)

pub reacts : (s : Setup) {p : Type 0} (t : Parts s) → StopAndWait s p t → (k : ℕ) (current : Option OpenTransfer) (log : Log)
    (contents : Contents) → IsServing s t.Lawful current log contents → Reacts s p t k current contents
    → Takes s log contents (t.request k) (answer s t k) (Reached s t contents k)
    ⊎ ((p → contents ≡ s.contents → ⊥) × Refuses s log contents (t.request k) (Idle s t))
reacts s t m k current log contents h (takes less step) =
    inl (takes_it s log contents (t.request k) (t.reply k) _ _ _
    (is_served s log contents current (t.request k) _ _ _ h.serves (m.dictionary contents h.lawful) (m.long k) step)
    (λ longer set serves kept.
    still (record { within = less; serving = record { serves = serves; lawful = subst t.Lawful (sym kept) h.lawful } }) kept))
reacts s t m k current log contents h (takes_last last step lawful) =
    inl (takes_it s log contents (t.request k) (t.reply k) _ _ _
    (is_served s log contents current (t.request k) _ _ _ h.serves (m.dictionary contents h.lawful) (m.long k) step)
    (λ longer set serves left.
    was_last last (record { serves = serves; lawful = λ sound. subst t.Lawful (sym left) (lawful sound) }) left
    (subst t.IsSet (sym left) (m.sets contents h.lawful))))
reacts s t m k current log contents h (refuses never refused) =
    inr (never, refused_by s t m k current log contents h refused)

-- what holds after request k was taken, whatever the contents were
abbrev pub Taken : (s : Setup) → Parts s → ℕ → Log → Contents → Type 0
Taken s t k log contents = (Idle s t log contents ⊎ Open s t k log contents) × (k ≡ t.last → t.IsSet contents)

taken : (s : Setup) (t : Parts s) → t.Sound → (before : Contents) (k : ℕ) (log : Log) (contents : Contents)
    → Reached s t before k log contents → Taken s t k log contents
taken s t sound before k log contents (still h kept) = (inr h, λ e. absurd (let less = h.within in omega arith))
taken s t sound before k log contents (was_last e h left set) = (inl (record { serves = h.serves; lawful = h.lawful sound }), λ e. set)

-- it takes request k, or refuses it
abbrev Replies : (s : Setup) → Parts s → ℕ → Log → Contents → Type 0
Replies s t k log contents =
    Takes s log contents (t.request k) (answer s t k) (Taken s t k) ⊎ Refuses s log contents (t.request k) (Idle s t)

takes_or_refuses : (s : Setup) {p : Type 0} (t : Parts s) → StopAndWait s p t → t.Sound → (k : ℕ) (current : Option OpenTransfer)
    (log : Log) (contents : Contents) → IsServing s t.Lawful current log contents → Reacts s p t k current contents
    → Replies s t k log contents
takes_or_refuses s t m sound k current log contents h r = elim (reacts s t m k current log contents h r) [
  | inl took ↦ inl (record { replies = took.replies; next = taken s t sound contents k _ _ took.next })
  | inr refused ↦ inr refused.1
]

-- ---- what is on its way while the client waits for answer k

-- to the channel: request k, or nothing
pub data Newest (s : Setup) (t : Parts s) (k : ℕ) (frames : List (List ℕ)) : Type 0 where
  none : frames ≡ [] → Newest s t k frames
  one : frames ≡ t.request k ∷ [] → Newest s t k frames

-- or the request before it too, again
pub data Sent (s : Setup) (t : Parts s) (k : ℕ) (frames : List (List ℕ)) : Type 0 where
  few : Newest s t k frames → Sent s t k frames
  both : (j : ℕ) → k ≡ suc j → frames ≡ t.request j ∷ t.request k ∷ [] → Sent s t k frames

-- to the client: answer k, or an abort
abbrev pub IsLive : (s : Setup) → Parts s → ℕ → List ℕ → Type 0
IsLive s t k frame = (frame ≡ answer s t k) ⊎ IsAbort frame

-- or the answer before it, again
abbrev pub IsStale : (s : Setup) → Parts s → ℕ → List ℕ → Type 0
IsStale s t zero frame = IsAbort frame
IsStale s t (suc k) frame = IsLive s t k frame

-- first stale ones, and then live ones
abbrev pub Mixed : (s : Setup) → Parts s → ℕ → List (List ℕ) → Type 0
Mixed s t k [] = Unit {0}
Mixed s t k (frame ∷ later) = (IsLive s t k frame × AllByRecursion (IsLive s t k) later) ⊎ (IsStale s t k frame × Mixed s t k later)

-- ---- both ends

-- the channel before it saw request k
abbrev pub Before : (s : Setup) → Parts s → ℕ → Log → Contents → Type 0
Before s t zero log contents = Idle s t log contents
Before s t (suc k) log contents = Idle s t log contents ⊎ Open s t k log contents

pub record Unseen (s : Setup) (t : Parts s) (k : ℕ) (w : World) : Type 0 where
  pub requests : Sent s t k w.requests
  pub channel : Before s t k w.log w.contents
  pub answers : AllByRecursion (IsStale s t k) w.answers

-- the channel after it took request k
pub record SeenBy (s : Setup) (t : Parts s) (k : ℕ) (sent : List (List ℕ)) (log : Log) (contents : Contents) : Type 0 where
  pub requests : Newest s t k sent
  pub channel : Idle s t log contents ⊎ Open s t k log contents
  pub set : k ≡ t.last → t.IsSet contents

abbrev pub Seen : (s : Setup) → Parts s → ℕ → World → Type 0
Seen s t k w = SeenBy s t k w.requests w.log w.contents

-- the client waits for answer k
pub record Waits (s : Setup) (t : Parts s) (k : ℕ) (events : List ClientEvent) : Type 0 where
  pub waits : outcome s.call events ≡ Waiting
  pub within : k ≤ t.last
  pub client : t.Client k events

-- what holds after each list of events: the channel hasn't seen request k, or it has, and the client
-- waits for its answer, or is done; of a client that has failed nothing
pub data Stands (s : Setup) (t : Parts s) (w : World) : Type 0 where
  unseen : (k : ℕ) → Waits s t k w.events → Unseen s t k w → Stands s t w
  seen : (k : ℕ) → Waits s t k w.events → Seen s t k w → Mixed s t k w.answers → Stands s t w
  over : IsDone s t.value w.events → Seen s t t.last w → Stands s t w
  failed : has_failed (outcome s.call w.events) ≡ true → Stands s t w

-- ---- lists

all_and : (P : List ℕ → Type 0) (xs : List (List ℕ)) (x : List ℕ) → AllByRecursion P xs → P x
    → AllByRecursion P (xs ++ x ∷ [])
all_and P [] x h p = (p, tt)
all_and P (y ∷ ys) x h p = (h.0, all_and P ys x h.1 p)

all_drop : (P : List ℕ → Type 0) (xs : List (List ℕ)) → AllByRecursion P xs
    → AllByRecursion P (drop 1 xs)
all_drop P [] h = tt
all_drop P (x ∷ xs) h = h.1

module _ (s : Setup) (t : Parts s) where
  stale_abort : (k : ℕ) (frame : List ℕ) → IsAbort frame → IsStale s t k frame
  stale_abort zero frame h = h
  stale_abort (suc k) frame h = inr h

  then_live : (k : ℕ) (xs : List (List ℕ)) (x : List ℕ) → AllByRecursion (IsStale s t k) xs
      → IsLive s t k x → Mixed s t k (xs ++ x ∷ [])
  then_live k [] x h p = inl (p, tt)
  then_live k (y ∷ ys) x h p = inr (h.0, then_live k ys x h.1 p)

  mixed_and : (k : ℕ) (xs : List (List ℕ)) (x : List ℕ) → Mixed s t k xs → IsLive s t k x
      → Mixed s t k (xs ++ x ∷ [])
  mixed_and k [] x h p = inl (p, tt)
  mixed_and k (y ∷ ys) x (inl h) p = inl (h.0, all_and (IsLive s t k) ys x h.1 p)
  mixed_and k (y ∷ ys) x (inr h) p = inr (h.0, mixed_and k ys x h.1 p)

  mixed_live : (k : ℕ) (xs : List (List ℕ)) → AllByRecursion (IsLive s t k) xs → Mixed s t k xs
  mixed_live k [] h = tt
  mixed_live k (x ∷ xs) h = inl h

  mixed_drop : (k : ℕ) (xs : List (List ℕ)) → Mixed s t k xs → Mixed s t k (drop 1 xs)
  mixed_drop k [] h = tt
  mixed_drop k (x ∷ xs) (inl h) = mixed_live k xs h.1
  mixed_drop k (x ∷ xs) (inr h) = h.1

  newest_drop : (k : ℕ) (xs : List (List ℕ)) → Newest s t k xs → Newest s t k (drop 1 xs)
  newest_drop k xs (none e) = none (ap (drop 1) e)
  newest_drop k xs (one e) = none (ap (drop 1) e)

  sent_drop : (k : ℕ) (xs : List (List ℕ)) → Sent s t k xs → Newest s t k (drop 1 xs)
  sent_drop k xs (few h) = newest_drop k xs h
  sent_drop k xs (both j e h) = one (ap (drop 1) h)

  -- the next request follows
  sent_next : (k : ℕ) (xs : List (List ℕ)) → Newest s t k xs
      → Sent s t (suc k) (xs ++ t.request (suc k) ∷ [])
  sent_next k xs (none e) = few (one (ap (λ (ys : List (List ℕ)). ys ++ t.request (suc k) ∷ []) e))
  sent_next k xs (one e) = both k refl (ap (λ (ys : List (List ℕ)). ys ++ t.request (suc k) ∷ []) e)

-- ---- a request comes

module _ (s : Setup) {p : Type 0} (t : Parts s) (m : StopAndWait s p t) (sound : t.Sound) where
  -- request k for the first time
  first_time : (k : ℕ) (log : Log) (contents : Contents) → k ≤ t.last → Before s t k log contents
      → Replies s t k log contents
  first_time zero log contents l h =
      takes_or_refuses s t m sound 0 None log contents h (m.begins None contents refl h.lawful)
  first_time (suc k) log contents l (inl h) =
      inr (refused_by s t m (suc k) None log contents h (m.refuses_idle k contents (omega arith)))
  first_time (suc k) log contents l (inr h) =
      takes_or_refuses s t m sound (suc k) _ log contents h.serving (m.goes_on k contents h.within h.serving.lawful)

  -- request k again
  again : (k : ℕ) (log : Log) (contents : Contents) → k ≤ t.last
      → Idle s t log contents ⊎ Open s t k log contents → Replies s t k log contents
  again zero log contents l (inl h) =
      takes_or_refuses s t m sound 0 None log contents h (m.begins None contents refl h.lawful)
  again zero log contents l (inr h) =
      takes_or_refuses s t m sound 0 _ log contents h.serving (m.begins _ contents m.outside h.serving.lawful)
  again (suc k) log contents l (inl h) =
      inr (refused_by s t m (suc k) None log contents h (m.refuses_idle k contents (omega arith)))
  again (suc k) log contents l (inr h) =
      inr (refused_by s t m (suc k) _ log contents h.serving (m.refuses_again k contents h.within))

  idle_before : (k : ℕ) (log : Log) (contents : Contents) → Idle s t log contents
      → Before s t k log contents
  idle_before zero log contents h = h
  idle_before (suc k) log contents h = inl h

  refused_unseen : (k : ℕ) (frame : List ℕ) (w : World) → Unseen s t k w
      → Refuses s w.log w.contents frame (Idle s t) → Unseen s t k (at_channel s frame w)
  refused_unseen k frame w u refused = record {
    requests = u.requests;
    channel = idle_before k _ _ refused.takes.next;
    answers = rw refused.takes.replies
        (all_and (IsStale s t k) w.answers refused.answer u.answers (stale_abort s t k refused.answer refused.is_abort));
  }

  -- the request before k again: it was taken, and the channel hasn't seen request k
  older_comes : (k : ℕ) (w : World) → k < t.last → Unseen s t (suc k) w
      → Unseen s t (suc k) (at_channel s (t.request k) w)
  older_comes k w h u = elim (again k w.log w.contents (omega arith) u.channel) [
    | inl took ↦ record {
      requests = u.requests;
      channel = took.next.0;
      answers = rw took.replies (all_and (IsStale s t (suc k)) w.answers (answer s t k) u.answers (inl refl));
    }
    | inr refused ↦ refused_unseen (suc k) (t.request k) w u refused
  ]

  -- request k, for the first time
  newer_comes : (k : ℕ) (w : World) → Waits s t k w.events → Newest s t k w.requests → Unseen s t k w
      → Stands s t (at_channel s (t.request k) w)
  newer_comes k w h newest u = elim (first_time k w.log w.contents h.within u.channel) [
    | inl took ↦ seen k h (record { requests = newest; channel = took.next.0; set = took.next.1 })
        (rw took.replies (then_live s t k w.answers (answer s t k) u.answers (inl refl)))
    | inr refused ↦ unseen k h (refused_unseen k (t.request k) w u refused)
  ]

  -- request k again
  again_comes : (k : ℕ) (w : World) → k ≤ t.last → Seen s t k w
      → Seen s t k (at_channel s (t.request k) w)
      × (Mixed s t k w.answers → Mixed s t k (at_channel s (t.request k) w).answers)
  again_comes k w l h = elim (again k w.log w.contents l h.channel) [
    | inl took ↦ (
      record { requests = h.requests; channel = took.next.0; set = took.next.1 },
      λ mixed. rw took.replies (mixed_and s t k w.answers (answer s t k) mixed (inl refl)),
    )
    | inr refused ↦ (
      record {
        requests = h.requests;
        channel = inl refused.takes.next;
        set = λ e. subst t.IsSet (sym refused.same) (h.set e);
      },
      λ mixed. rw refused.takes.replies (mixed_and s t k w.answers refused.answer mixed (inr refused.is_abort)),
    )
  ]

  -- ---- the oldest request comes, and stays on its way or not

  unseen_front : (k : ℕ) (w : World) → Waits s t k w.events → Unseen s t k w → (xs : List (List ℕ))
      → Sent s t k xs → (Newest s t k xs → Newest s t k w.requests)
      → Stands s t (front_arrives s Requests xs w)
  unseen_front k w h u xs (few (none e)) keeps = rw e (unseen k h u)
  unseen_front k w h u xs (few (one e)) keeps = rw e (newer_comes k w h (keeps (one e)) u)
  unseen_front k w h u xs (both j next e) keeps =
      let l = h.within in
      rw e (unseen k h (subst (λ (i : ℕ). Unseen s t i (at_channel s (t.request j) w)) (sym next)
      (older_comes j w (omega arith) (subst (λ (i : ℕ). Unseen s t i w) next u))))

  seen_front : (k : ℕ) (w : World) → Waits s t k w.events → Seen s t k w → Mixed s t k w.answers
      → (xs : List (List ℕ)) → Newest s t k xs → Stands s t (front_arrives s Requests xs w)
  seen_front k w h u mixed xs (none e) = rw e (seen k h u mixed)
  seen_front k w h u mixed xs (one e) =
      let new = again_comes k w h.within u in rw e (seen k h new.0 (new.1 mixed))

  over_front : (w : World) → IsDone s t.value w.events → Seen s t t.last w → (xs : List (List ℕ))
      → Newest s t t.last xs → Stands s t (front_arrives s Requests xs w)
  over_front w d u xs (none e) = rw e (over d u)
  over_front w d u xs (one e) = rw e (over d (again_comes t.last w (omega arith) u).0)

  -- ---- the oldest frame is lost

  unseen_loses : (k : ℕ) (queue : Queue) (w : World) → Unseen s t k w
      → Unseen s t k (without_front queue w)
  unseen_loses k Requests w u = record { requests = few (sent_drop s t k w.requests u.requests); channel = u.channel; answers = u.answers }
  unseen_loses k Answers w u = record { requests = u.requests; channel = u.channel; answers = all_drop (IsStale s t k) w.answers u.answers }

  seen_loses : (k : ℕ) (w : World) → Seen s t k w → Seen s t k (without_front Requests w)
  seen_loses k w u = record { requests = newest_drop s t k w.requests u.requests; channel = u.channel; set = u.set }

  -- ---- an answer comes

  stale_fails : (k : ℕ) (events : List ClientEvent) (frame : List ℕ) → k ≤ t.last
      → t.Client k events → IsStale s t k frame → Fails s events frame
  stale_fails zero events frame l h stale = m.client_aborted 0 events frame h stale
  stale_fails (suc k) events frame l h (inl e) = subst (Fails s events) (sym e) (m.client_stale k events (omega arith) h)
  stale_fails (suc k) events frame l h (inr abort) = m.client_aborted (suc k) events frame h abort

  -- the client sends nothing
  silent : (k : ℕ) (event : ClientEvent) (w : World) → asked s.call (event ∷ w.events) ≡ []
      → Seen s t k w → Seen s t k (at_client s event w)
  silent k event w e u =
      subst (λ (xs : List (List ℕ)). SeenBy s t k xs w.log w.contents)
      (sym (same_requests w.requests _ (ap (map message_bytes) e))) u

  -- the awaited answer, and others are left
  next_comes : (k : ℕ) (w : World) → k < t.last → Waits s t k w.events → Seen s t k w
      → AllByRecursion (IsLive s t k) w.answers
      → Stands s t (at_client s (Answered (answer s t k)) w)
  next_comes k w more h u live = elim (m.client_goes_on k w.events more h.client) [
    | inl goes ↦ (let f = follows s.call w.events (Answered (answer s t k)) (GoesOn (goes.message ∷ [])) h.waits goes.goes_on in
        unseen (suc k) (record { waits = f.state; within = omega arith; client = goes.next }) (record {
          requests = rw (f.messages, goes.asks) (sent_next s t k w.requests u.requests);
          channel = u.channel;
          answers = live;
        }))
    | inr fault ↦ failed (fails s w (answer s t k) h.waits fault.1)
  ]

  last_comes : (k : ℕ) (w : World) → k ≡ t.last → Waits s t k w.events → Seen s t k w
      → Stands s t (at_client s (Answered (answer s t k)) w)
  last_comes k w last h u = elim (m.client_ends k w.events last h.client) [
    | inl ends ↦ (let f = follows s.call w.events (Answered (answer s t k)) (Ends [] t.value) h.waits ends in
        over (record { done = f.state; gives = f.value })
        (subst (λ (i : ℕ). Seen s t i (at_client s (Answered (answer s t k)) w)) last
        (silent k (Answered (answer s t k)) w f.messages u)))
    | inr fault ↦ failed (fails s w (answer s t k) h.waits fault.1)
  ]

  live_comes : (k : ℕ) (w : World) (frame : List ℕ) → Waits s t k w.events → Seen s t k w
      → AllByRecursion (IsLive s t k) w.answers → IsLive s t k frame
      → Stands s t (at_client s (Answered frame) w)
  live_comes k w frame h u live (inl e) =
      rw e (elim (either k t.last h.within) [ inl more ↦ next_comes k w more h u live | inr last ↦ last_comes k w last h u ])
  live_comes k w frame h u live (inr abort) = failed (fails s w frame h.waits (m.client_aborted k w.events frame h.client abort))

  unseen_answer : (k : ℕ) (w : World) → Waits s t k w.events → Unseen s t k w → (xs : List (List ℕ))
      → AllByRecursion (IsStale s t k) xs → Stands s t (front_arrives s Answers xs w)
  unseen_answer k w h u [] stale = unseen k h u
  unseen_answer k w h u (frame ∷ later) stale = failed (fails s w frame h.waits (stale_fails k w.events frame h.within h.client stale.0))

  seen_answer : (k : ℕ) (w : World) → Waits s t k w.events → Seen s t k w → Mixed s t k w.answers
      → (xs : List (List ℕ)) → Mixed s t k xs
      → (AllByRecursion (IsLive s t k) xs → AllByRecursion (IsLive s t k) w.answers)
      → Stands s t (front_arrives s Answers xs w)
  seen_answer k w h u left [] mixed keeps = seen k h u left
  seen_answer k w h u left (frame ∷ later) (inl live) keeps = live_comes k w frame h u (keeps (live.0, live.1)) live.0
  seen_answer k w h u left (frame ∷ later) (inr stale) keeps =
      failed (fails s w frame h.waits (stale_fails k w.events frame h.within h.client stale.0))

  -- a client that is done stays as it is
  over_hears : (event : ClientEvent) (w : World) → IsDone s t.value w.events → Seen s t t.last w
      → Stands s t (at_client s event w)
  over_hears event w d u =
      over (over_event s event w d) (silent t.last event w (stays s.call w.events event d.done).messages u)

  over_answer : (w : World) → IsDone s t.value w.events → Seen s t t.last w → (xs : List (List ℕ))
      → Stands s t (front_arrives s Answers xs w)
  over_answer w d u [] = over d u
  over_answer w d u (frame ∷ later) = over_hears (Answered frame) w d u

  -- ---- ticks

  client_tick : (k : ℕ) (w : World) → Waits s t k w.events → (ends : Bool)
      → is_client_over s.call.time (TickedAtClient ∷ w.events) ≡ ends
      → (Waits s t k (TickedAtClient ∷ w.events) → asked s.call (TickedAtClient ∷ w.events) ≡ []
      → Stands s t (at_client s TickedAtClient w)) → Stands s t (at_client s TickedAtClient w)
  client_tick k w h true e goes = failed (let waits = h.waits in rw (waits, e) refl)
  client_tick k w h false e goes = goes
      (record { waits = calm_waits s w.events e h.waits; within = h.within; client = m.client_ticks k w.events h.client })
      (calm_asks s w.events e)

  unseen_still : (k : ℕ) (event : ClientEvent) (w : World) → asked s.call (event ∷ w.events) ≡ []
      → Unseen s t k w → Unseen s t k (at_client s event w)
  unseen_still k event w e u = record {
    requests = subst (Sent s t k) (sym (same_requests w.requests _ (ap (map message_bytes) e))) u.requests;
    channel = u.channel;
    answers = u.answers;
  }

  after_ticks : (k : ℕ) (log : Log) (contents : Contents)
      → Idle s t log contents ⊎ Open s t k log contents
      → Idle s t (Ticked ∷ log) contents ⊎ Open s t k (Ticked ∷ log) contents
  after_ticks k log contents (inl h) = inl (serving_ticks s t.Lawful None log contents h)
  after_ticks k log contents (inr h) =
      inr (record { within = h.within; serving = serving_ticks s t.Lawful _ log contents h.serving })

  before_ticks : (k : ℕ) (log : Log) (contents : Contents) → Before s t k log contents
      → Before s t k (Ticked ∷ log) contents
  before_ticks zero log contents h = serving_ticks s t.Lawful None log contents h
  before_ticks (suc k) log contents h = after_ticks k log contents h

  after_ends : (k : ℕ) (log : Log) (contents : Contents)
      → Idle s t log contents ⊎ Open s t k log contents
      → Idle s t (TimedOut (time_out_reply log) ∷ log) contents
  after_ends k log contents (inl h) = serving_ends s t.Lawful None log contents h
  after_ends k log contents (inr h) = serving_ends s t.Lawful _ log contents h.serving

  before_ends : (k : ℕ) (log : Log) (contents : Contents) → Before s t k log contents
      → Idle s t (TimedOut (time_out_reply log) ∷ log) contents
  before_ends zero log contents h = serving_ends s t.Lawful None log contents h
  before_ends (suc k) log contents h = after_ends k log contents h

  -- what a channel sends when its time is over
  last_word : (w : World)
      → IsAbort (response_bytes (Abort (open_key (opened_after w.log)) (record { 0 = 0x05040000 })))
  last_word w = abort_read (open_key (opened_after w.log)) 0x05040000

  seen_ticks : (k : ℕ) (w : World) → Seen s t k w → Seen s t k (ticked w)
  seen_ticks k w u = record { requests = u.requests; channel = after_ticks k w.log w.contents u.channel; set = u.set }

  seen_ends : (k : ℕ) (w : World) → Seen s t k w → Seen s t k (timed_out w)
  seen_ends k w u = record { requests = u.requests; channel = inl (after_ends k w.log w.contents u.channel); set = u.set }

  channel_tick : (w : World) (ends : Bool) → Stands s t w
      → Stands s t (if ends then timed_out (ticked w) else ticked w)
  channel_tick w true (unseen k h u) = unseen k h (record {
    requests = u.requests;
    channel = idle_before k _ _ (before_ends k (Ticked ∷ w.log) w.contents (before_ticks k w.log w.contents u.channel));
    answers = all_and (IsStale s t k) w.answers _ u.answers (stale_abort s t k _ (last_word (ticked w)));
  })
  channel_tick w false (unseen k h u) = unseen k h
      (record { requests = u.requests; channel = before_ticks k w.log w.contents u.channel; answers = u.answers })
  channel_tick w true (seen k h u mixed) = seen k h (seen_ends k (ticked w) (seen_ticks k w u))
      (mixed_and s t k w.answers _ mixed (inr (last_word (ticked w))))
  channel_tick w false (seen k h u mixed) = seen k h (seen_ticks k w u) mixed
  channel_tick w true (over d u) = over d (seen_ends t.last (ticked w) (seen_ticks t.last w u))
  channel_tick w false (over d u) = over d (seen_ticks t.last w u)
  channel_tick w true (failed h) = failed h
  channel_tick w false (failed h) = failed h

  -- ---- every event

  step : (event : WorldEvent) (w : World) → Stands s t w → Stands s t (after_event s event w)
  step (Delivered Requests) w (unseen k h u) =
      unseen_front k (without_front Requests w) h (unseen_loses k Requests w u) w.requests u.requests
      (newest_drop s t k w.requests)
  step (Delivered Requests) w (seen k h u mixed) =
      seen_front k (without_front Requests w) h (seen_loses k w u) mixed w.requests u.requests
  step (Delivered Requests) w (over d u) =
      over_front (without_front Requests w) d (seen_loses t.last w u) w.requests u.requests
  step (Delivered Answers) w (unseen k h u) =
      unseen_answer k (without_front Answers w) h (unseen_loses k Answers w u) w.answers u.answers
  step (Delivered Answers) w (seen k h u mixed) =
      seen_answer k (without_front Answers w) h u (mixed_drop s t k w.answers mixed) w.answers mixed
      (all_drop (IsLive s t k) w.answers)
  step (Delivered Answers) w (over d u) = over_answer (without_front Answers w) d u w.answers
  step (Lost Requests) w (unseen k h u) = unseen k h (unseen_loses k Requests w u)
  step (Lost Requests) w (seen k h u mixed) = seen k h (seen_loses k w u) mixed
  step (Lost Requests) w (over d u) = over d (seen_loses t.last w u)
  step (Lost Answers) w (unseen k h u) = unseen k h (unseen_loses k Answers w u)
  step (Lost Answers) w (seen k h u mixed) = seen k h u (mixed_drop s t k w.answers mixed)
  step (Lost Answers) w (over d u) = over d u
  step (Repeated Requests) w (unseen k h u) = unseen_front k w h u w.requests u.requests (λ newest. newest)
  step (Repeated Requests) w (seen k h u mixed) = seen_front k w h u mixed w.requests u.requests
  step (Repeated Requests) w (over d u) = over_front w d u w.requests u.requests
  step (Repeated Answers) w (unseen k h u) = unseen_answer k w h u w.answers u.answers
  step (Repeated Answers) w (seen k h u mixed) = seen_answer k w h u mixed w.answers mixed (λ live. live)
  step (Repeated Answers) w (over d u) = over_answer w d u w.answers
  step ClientTicked w (unseen k h u) =
      client_tick k w h _ refl (λ waits none. unseen k waits (unseen_still k TickedAtClient w none u))
  step ClientTicked w (seen k h u mixed) =
      client_tick k w h _ refl (λ waits none. seen k waits (silent k TickedAtClient w none u) mixed)
  step ClientTicked w (over d u) = over_hears TickedAtClient w d u
  step ChannelTicked w h = channel_tick w (is_time_over s.time (Ticked ∷ w.log)) h
  step event w (failed h) = failed (failed_event s event w h)

  pub always : (events : List WorldEvent) → Stands s t (world_after s events)
  always [] = unseen 0 (record { waits = refl; within = omega arith; client = m.first_client }) (record {
    requests = few (one m.first_request);
    channel = record { serves = serves_first s.description.rows s.past m.idle; lawful = m.first_lawful };
    answers = tt;
  })
  always (event ∷ older) = step event (world_after s older) (always older)

-- ---- what it says of a client that is done

pub when_done : (s : Setup) (t : Parts s) (w : World) → Stands s t w → outcome s.call w.events ≡ Done
    → IsDone s t.value w.events × Seen s t t.last w
when_done s t w (unseen k h u) done = absurd (waiting≢done (sym h.waits ∙ done))
when_done s t w (seen k h u mixed) done = absurd (waiting≢done (sym h.waits ∙ done))
when_done s t w (over d u) done = (d, u)
when_done s t w (failed h) done = absurd (false≢true (ap has_failed (sym done) ∙ h))

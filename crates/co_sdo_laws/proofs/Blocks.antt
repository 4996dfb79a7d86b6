-- What the worlds of a block transfer are made of: aborts among answers, what is on its way, ticks, and how many frames have come. `p` says
-- that a transfer is permitted and that nothing disturbs it; what holds of every transfer needs no `p`.
use Rattle.std.proofs.Common.{◌≡◌, ℕ, suc, ◌+◌, ◌<◌, ◌≤◌, Bool, true, false, List, [], ◌∷◌, ◌++◌, length, drop, map, not, refl, sym, ap, ◌∙◌, arith, eqb, append-nil, ◌⊎◌, inl, inr}
use Rattle.std.specs.Prelude.{if◌then◌else◌, nat_le, slice_index}
use Rattle.std.proofs.lemmas.Bool.{eqb-true, and_parts}
use Rattle.std.proofs.lemmas.Bool.Decides.{nat_tests}
use Rattle.co_frame.specs.BlockSegments.{is_abort_in_sub_block}
use Rattle.co_frame.specs.SdoResponses.{response_row_in, response_in}
use Rattle.co_sdo_client.specs.declared.stage.Stage.{Stage}
use Rattle.co_sdo_client.specs.declared.stage.Stage.TheVariants.{SubBlock}
use Rattle.co_sdo_client.specs.declared.state.ClientState.{ClientState}
use Rattle.co_sdo_client.specs.declared.state.ClientState.TheVariants.{Waiting, Done, Failed}
use Rattle.co_sdo_client.specs.Calls.{Call, Message, message_bytes, Event as ClientEvent, Ticked as TickedAtClient, answers as answers_of, is_time_over as is_client_over}
use Rattle.co_sdo_client.specs.Verdicts.{GoesOn, answer_verdict}
use Rattle.co_sdo_client.specs.Outcomes.{state_by, while_waiting, outcome, result, asked}
use Rattle.co_value.specs.declared.key.Key.{Key}
use Rattle.co_sdo.specs.Log.{answer_bytes, Ticked}
use Rattle.co_sdo.specs.Opened.{opened_after}
use Rattle.co_sdo.specs.Replies.{aborted, open_key}
use Rattle.co_sdo_laws.specs.World.{Setup, World, Requests, Answers as Back, at_client, timed_out, ticked, without_front}
use Rattle.co_sdo_laws.specs.Undisturbed.{arrived, on_their_way, GoesInBlocks}
use Rattle.co_sdo_laws.proofs.Client.{follows, stays, tick_verdict}
use Rattle.co_sdo_laws.proofs.Failures.{aborted_fails, is_aborted, has_failed}

-- ---- the frames among others that pass a test

abbrev pub kept : (List ℕ → Bool) → List (List ℕ) → List (List ℕ)
kept test [] = []
kept test (frame ∷ later) = if test frame then frame ∷ kept test later else kept test later

pub kept_both : (test : List ℕ → Bool) (xs ys : List (List ℕ)) → kept test (xs ++ ys) ≡ kept test xs ++ kept test ys
kept_both test [] ys = refl
kept_both test (x ∷ xs) ys = by (test x) (kept_both test xs ys)
  where
    by : (b : Bool) → kept test (xs ++ ys) ≡ kept test xs ++ kept test ys
        → (if b then x ∷ kept test (xs ++ ys) else kept test (xs ++ ys)) ≡ (if b then x ∷ kept test xs else kept test xs) ++ kept test ys
    by true e = ap (λ (zs : List (List ℕ)). x ∷ zs) e
    by false e = e

pub kept_after : (test : List ℕ → Bool) (xs ys zs : List (List ℕ)) → kept test xs ≡ [] → kept test ys ≡ zs
    → kept test (xs ++ ys) ≡ zs
kept_after test xs ys zs e f = kept_both test xs ys ∙ ap (λ (x : List (List ℕ)). x ++ kept test ys) e ∙ f

pub cons≢nil : (x : List ℕ) (xs : List (List ℕ)) → x ∷ xs ≡ [] → ⊥
cons≢nil x xs e = cc

pub head_is : (x y : List ℕ) (xs ys : List (List ℕ)) → x ∷ xs ≡ y ∷ ys → x ≡ y
head_is x y xs ys e = cc

pub tail_is : (x y : List ℕ) (xs ys : List (List ℕ)) → x ∷ xs ≡ y ∷ ys → xs ≡ ys
tail_is x y xs ys e = cc

-- the oldest passes, or it doesn't
pub kept_front : (test : List ℕ → Bool) (x : List ℕ) (later given : List (List ℕ)) → kept test (x ∷ later) ≡ given
    → ((test x ≡ false) × (kept test later ≡ given)) ⊎ (given ≡ x ∷ kept test later)
kept_front test x later given e = by (test x) refl
  where
    by : (b : Bool) → test x ≡ b → ((test x ≡ false) × (kept test later ≡ given)) ⊎ (given ≡ x ∷ kept test later)
    by true c = let some : kept test (x ∷ later) ≡ x ∷ kept test later = rw c refl in inr (sym e ∙ some)
    by false c = let same : kept test (x ∷ later) ≡ kept test later = rw c refl in inl (c, sym same ∙ e)

-- the oldest frame goes
pub kept_drops : (test : List ℕ → Bool) (xs given : List (List ℕ)) → kept test xs ≡ given
    → (kept test (drop 1 xs) ≡ given) ⊎ (kept test (drop 1 xs) ≡ drop 1 given)
kept_drops test [] given e = inl e
kept_drops test (x ∷ later) given e = elim (kept_front test x later given e) [
  | inl other ↦ inl other.1
  | inr is ↦ inr (sym (ap (drop 1) is))
]

kept_few : (test : List ℕ → Bool) (xs : List (List ℕ)) → length (kept test xs) ≤ length xs
kept_few test [] = omega arith
kept_few test (x ∷ xs) = by (test x) (kept_few test xs)
  where
    by : (b : Bool) → length (kept test xs) ≤ length xs → length (if b then x ∷ kept test xs else kept test xs) ≤ suc (length xs)
    by true h = omega arith
    by false h = omega arith

pub kept_more : (test : List ℕ → Bool) (x : List ℕ) (later : List (List ℕ)) → kept test later ≡ x ∷ later → ⊥
kept_more test x later e = let few = kept_few test later in let long : length (kept test later) ≡ suc (length later) = ap length e in absurd (omega arith)

-- ---- answers without aborts

abbrev pub is_live : List ℕ → Bool
is_live frame = not (is_abort_in_sub_block frame)

abbrev pub live : List (List ℕ) → List (List ℕ)
live = kept is_live

-- what an abort makes of a client that waits
pub cut_read : (frame : List ℕ) → is_abort_in_sub_block frame ≡ true → is_aborted (response_in frame) ≡ true
unfolding response_row_in
cut_read frame h =
    let both = and_parts (eqb (length frame) 8) (eqb (slice_index frame 0) 128) h in
    let first : slice_index frame 0 ≡ 128 = eqb-true _ _ both.1 in
    rw (both.0, first) refl

pub cut_fails : (call : Call) (stage : Stage) (held frame : List ℕ) → is_abort_in_sub_block frame ≡ true → has_failed (state_by (answer_verdict call stage held frame)) ≡ true
cut_fails call (SubBlock size taken) held frame h = rw h refl
cut_fails call stage held frame h = aborted_fails call stage held (response_in frame) (cut_read frame h)

-- ---- what is on its way

-- how many requests and answers have come
pub record Count (r q : ℕ) (w : World) : Type 0 where
  pub received : w.received ≡ r
  pub answered : length (answers_of w.events) ≡ q

-- the requests, and the answers that a client may await; undisturbed, these are all, and so many frames have come
pub record Moment (p : Type 0) (kept : List (List ℕ) → List (List ℕ)) (sent given : List (List ℕ)) (r q : ℕ) (w : World) : Type 0 where
  pub requests : w.requests ≡ sent
  pub answers : kept w.answers ≡ given
  pub exact : p → w.answers ≡ given
  pub count : p → Count r q w

-- of a transfer that is disturbed
pub disturbed : (p : Type 0) (kept : List (List ℕ) → List (List ℕ)) (sent given : List (List ℕ)) (r q : ℕ) (w : World) → (p → ⊥) → w.requests ≡ sent → kept w.answers ≡ given → Moment p kept sent given r q w
disturbed p kept sent given r q w never e f = record { requests = e; answers = f; exact = λ x. absurd (never x); count = λ x. absurd (never x) }

-- where nothing is in a queue its front is missing too
pub no_request : (w : World) → w.requests ≡ [] → w ≡ without_front Requests w
no_request w e = rw e refl

pub no_answer : (w : World) → w.answers ≡ [] → w ≡ without_front Back w
no_answer w e = rw e refl

-- ---- the client

sends_none : (state : ClientState) → while_waiting {A = List Message} state [] [] ≡ []
sends_none Waiting = refl
sends_none Done = refl
sends_none (Failed code) = refl

pub calm_asks : (s : Setup) (events : List ClientEvent) → is_client_over s.call.time (TickedAtClient ∷ events) ≡ false → asked s.call (TickedAtClient ∷ events) ≡ []
calm_asks s events e = rw e (sends_none (outcome s.call events))

pub calm_waits : (s : Setup) (events : List ClientEvent) → is_client_over s.call.time (TickedAtClient ∷ events) ≡ false → outcome s.call events ≡ Waiting → outcome s.call (TickedAtClient ∷ events) ≡ Waiting
calm_waits s events e waits = (follows s.call events TickedAtClient (GoesOn []) waits (tick_verdict s.call events e)).state

-- it is done, and gives these bytes
pub record IsDone (s : Setup) (given : List ℕ) (events : List ClientEvent) : Type 0 where
  pub done : outcome s.call events ≡ Done
  pub gives : result s.call events ≡ given

pub over_event : (s : Setup) (event : ClientEvent) {given : List ℕ} (w : World) → IsDone s given w.events
    → IsDone s given (event ∷ w.events)
over_event s event w b = let f = stays s.call w.events event b.done in record { done = f.state; gives = f.value ∙ b.gives }

pub same_requests : (xs ys : List (List ℕ)) → ys ≡ [] → xs ++ ys ≡ xs
same_requests xs ys e = rw e (append-nil xs)

-- ---- 1 ms elapses

-- at a client, or at the channel, whose time may be over
pub data Tick : Type 0 where
  at_the_client : Tick
  at_the_channel : Tick
  time_over : Tick

abbrev pub after_tick : Setup → Tick → World → World
after_tick s at_the_client w = at_client s TickedAtClient w
after_tick s at_the_channel w = ticked w
after_tick s time_over w = timed_out (ticked w)

-- nothing is sent but an abort, of a disturbed transfer
abbrev pub IsQuiet : Setup → Type 0 → Tick → World → Type 0
IsQuiet s p at_the_client w = asked s.call (TickedAtClient ∷ w.events) ≡ []
IsQuiet s p at_the_channel w = Unit {0}
IsQuiet s p time_over w = p → ⊥

-- a filter of answers drops that abort
abbrev pub DropsAborts : (List (List ℕ) → List (List ℕ)) → Type 0
DropsAborts kept = (xs : List (List ℕ)) (key : Key) → kept (xs ++ map answer_bytes (aborted key 0x05040000)) ≡ kept xs

pub moment_ticks : (s : Setup) (p : Type 0) (kept : List (List ℕ) → List (List ℕ)) → DropsAborts kept → (tick : Tick) (sent given : List (List ℕ)) (r q : ℕ) (w : World)
    → IsQuiet s p tick w → Moment p kept sent given r q w → Moment p kept sent given r q (after_tick s tick w)
moment_ticks s p kept drops at_the_client sent given r q w none m = record {
  requests = same_requests w.requests _ (ap (map message_bytes) none) ∙ m.requests;
  answers = m.answers;
  exact = m.exact;
  count = λ x. record { received = (m.count x).received; answered = (m.count x).answered };
}
moment_ticks s p kept drops at_the_channel sent given r q w quiet m = record {
  requests = m.requests;
  answers = m.answers;
  exact = m.exact;
  count = λ x. record { received = (m.count x).received; answered = (m.count x).answered };
}
moment_ticks s p kept drops time_over sent given r q w never m =
    disturbed p kept sent given r q (timed_out (ticked w)) never m.requests (drops w.answers (open_key (opened_after (Ticked ∷ w.log))) ∙ m.answers)

-- ---- how far an undisturbed transfer is, by the frames that have come and those on their way

on_way : {p : Type 0} {kept : List (List ℕ) → List (List ℕ)} {sent given : List (List ℕ)} {r q : ℕ} {w : World} → p → Moment p kept sent given r q w
    → on_their_way w ≡ length sent + length given
on_way x m = rw (m.requests, m.exact x) refl

pub waits_at : {p : Type 0} {kept : List (List ℕ) → List (List ℕ)} {sent given : List (List ℕ)} {r q : ℕ} (s : Setup) (needed frames : ℕ) (w : World) → p
    → Moment p kept sent given r q w → outcome s.call w.events ≡ Waiting → r + q < needed → needed ≤ frames → 1 ≤ length sent + length given
    → GoesInBlocks s.call needed frames w
waits_at s needed frames w x m waits below few some =
    let a = (m.count x).received in
    let b = (m.count x).answered in
    let other : nat_le needed (arrived w) ≡ false = grind (arith, nat_tests) in
    let n = on_way x m in
    record {
      within = omega arith;
      state = rw (other, waits) refl;
      moves = λ less. omega arith;
      rests = λ e. absurd (omega arith);
    }

pub done_at : (s : Setup) (needed frames left r q : ℕ) (w : World) → Count r q w → outcome s.call w.events ≡ Done → needed ≤ r + q → r + q + left ≡ frames → left ≤ 1 → on_their_way w ≡ left → GoesInBlocks s.call needed frames w
done_at s needed frames left r q w n done some all few way =
    let a = n.received in
    let b = n.answered in
    let enough : nat_le needed (arrived w) ≡ true = grind (arith, nat_tests) in
    record {
      within = omega arith;
      state = rw (enough, done) refl;
      moves = λ less. omega arith;
      rests = λ e. omega arith;
    }

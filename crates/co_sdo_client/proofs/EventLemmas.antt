-- One more event: what a client that stood before it stands at after it.
use Rattle.std.proofs.Common.{◌≡◌, ℕ, ◌+◌, ◌-◌, Bool, true, false, List, [], ◌∷◌, ◌++◌, length, refl, sym, ap, ◌∙◌, arith, length-append}
use Rattle.std.specs.Prelude.{◌&&◌, ◌==◌, nat_lt, nat_le, if◌then◌else◌}
use Rattle.std.proofs.lemmas.Bool.{false≢true}
use Rattle.std.proofs.lemmas.List.{append-nil}
use Rattle.std.proofs.lemmas.Bool.Decides.{nat_tests}
use Rattle.co_frame_aborts.specs.AbortCodes.{timed_out}
use Rattle.co_sdo_client.specs.declared.stage.Stage.{Stage}
use Rattle.co_sdo_client.specs.declared.state.ClientState.{ClientState}
use Rattle.co_sdo_client.specs.declared.state.ClientState.TheVariants.{Waiting, Done, Failed}
use Rattle.co_sdo_client.specs.Calls.{Call, Event, Ticked, ticks_quiet, is_time_over}
use Rattle.co_sdo_client.specs.Stages.{stage_after, held_after}
use Rattle.co_sdo_client.specs.Verdicts.{Verdict, GoesOn, Ends, GivesUp, IsAborted, verdict}
use Rattle.co_sdo_client.specs.Outcomes.{state_by, messages_by, value_by, while_waiting, outcome, asked_by, all_asked, sent}
use Rattle.co_sdo_client.specs.Standing.{Standing, ClientStands, IsWaitingAfter, counted, waits, shown_by}
use Rattle.co_sdo_client.specs.Steps.{after, is_over, after_tick}

-- ---- states

pub waits-is : (s : ClientState) → waits s ≡ true → s ≡ Waiting
waits-is Waiting h = refl
waits-is Done h = absurd (false≢true h)
waits-is (Failed code) h = absurd (false≢true h)

-- ---- after the end nothing changes

-- ---- while it waits

abbrev pub goes_on : Verdict → Bool
goes_on (GoesOn messages) = true
goes_on _ = false

-- what the next event finds
pub record IsNext (call : Call) (events : List Event) (stage : Stage) (held : List ℕ) (left : ℕ) : Type 0 where
  pub stage_is : stage ≡ stage_after call events
  pub held_is : held ≡ held_after call events
  pub left_is : left ≡ call.time - ticks_quiet events

counts : (call : Call) (events : List Event) (e : Event) (count n : ℕ) → count ≡ counted (sent call events) → length (asked_by call events e) ≡ n → counted (count + n) ≡ counted (sent call (e ∷ events))
counts call events e count n c l =
    let both : length (all_asked call events ++ asked_by call events e) ≡ length (all_asked call events) + length (asked_by call events e) = length-append (all_asked call events) (asked_by call events e) in
    omega (arith, both, c, l)

counts_same : (call : Call) (events : List Event) (e : Event) (count : ℕ) → count ≡ counted (sent call events) → asked_by call events e ≡ [] → count ≡ counted (sent call (e ∷ events))
counts_same call events e count c l = c ∙ ap (λ ms. counted (length ms)) (sym (ap (λ ms. all_asked call events ++ ms) l ∙ append-nil (all_asked call events)))

step : {A : Type 0} (s : ClientState) (next same : A) → s ≡ Waiting → while_waiting s next same ≡ next
step Waiting next same h = refl
step Done next same h = absurd (false≢true (ap waits h))
step (Failed code) next same h = absurd (false≢true (ap waits h))

pub asked_next : (call : Call) (events : List Event) (e : Event) (v : Verdict) → outcome call events ≡ Waiting → verdict call events e ≡ v → asked_by call events e ≡ messages_by call v
asked_next call events e v o h = step (outcome call events) _ _ o ∙ ap (messages_by call) h

-- a client that waits, after one more event, by the event's verdict
pub stands_after : (call : Call) (events : List Event) (e : Event) (client : Standing) (v : Verdict) (stage : Stage) (held : List ℕ) (left : ℕ)
    → ClientStands call events client → outcome call events ≡ Waiting → verdict call events e ≡ v
    → (goes_on v ≡ true → IsNext call (e ∷ events) stage held left)
    → ClientStands call (e ∷ events) (after (record client { left = left }) v stage held)
stands_after call events e client (GoesOn messages) stage held left h o v n =
    let next : IsNext call (e ∷ events) stage held left = n refl in
    let waiting : client.state ≡ Waiting = h.state ∙ o in
    record {
      same_call = h.same_call;
      begun = h.begun;
      state = waiting ∙ sym (step (outcome call events) _ _ o ∙ ap state_by v);
      waiting = λ x. record { stage = next.stage_is; held = next.held_is; left = next.left_is };
      shown = ap (λ s. shown_by s held) waiting ∙ sym (step (outcome call events) _ _ o ∙ ap value_by v);
      sent = counts call events e client.sent (length messages) h.sent (ap (λ ms. length ms) (asked_next call events e (GoesOn messages) o v));
    }
stands_after call events e client (Ends messages value) stage held left h o v n =
    let state : outcome call (e ∷ events) ≡ Done = step (outcome call events) _ _ o ∙ ap state_by v in
    record {
      same_call = h.same_call;
      begun = h.begun;
      state = sym state;
      waiting = λ x. absurd (false≢true (ap waits (sym state ∙ x)));
      shown = sym (step (outcome call events) _ _ o ∙ ap value_by v);
      sent = counts call events e client.sent (length messages) h.sent (ap (λ ms. length ms) (asked_next call events e (Ends messages value) o v));
    }
stands_after call events e client (GivesUp code) stage held left h o v n =
    let state : outcome call (e ∷ events) ≡ Failed (record { 0 = code }) = step (outcome call events) _ _ o ∙ ap state_by v in
    record {
      same_call = h.same_call;
      begun = h.begun;
      state = sym state;
      waiting = λ x. absurd (false≢true (ap waits (sym state ∙ x)));
      shown = sym (step (outcome call events) _ _ o ∙ ap value_by v);
      sent = counts call events e client.sent 1 h.sent (ap (λ ms. length ms) (asked_next call events e (GivesUp code) o v));
    }
stands_after call events e client (IsAborted code) stage held left h o v n =
    let state : outcome call (e ∷ events) ≡ Failed (record { 0 = code }) = step (outcome call events) _ _ o ∙ ap state_by v in
    record {
      same_call = h.same_call;
      begun = h.begun;
      state = sym state;
      waiting = λ x. absurd (false≢true (ap waits (sym state ∙ x)));
      shown = sym (step (outcome call events) _ _ o ∙ ap value_by v);
      sent = counts_same call events e client.sent h.sent (asked_next call events e (IsAborted code) o v);
    }

-- ---- a tick

over_is : (time quiet left : ℕ) → left ≡ time - quiet → nat_lt 0 time && (left - 1 == 0) ≡ nat_lt 0 time && nat_le time (quiet + 1)
over_is time quiet left h = over_by (nat_lt 0 time) (left - 1 == 0) (nat_le time (quiet + 1)) (zero_is time quiet left h)
  where
    over_by : (a b c : Bool) → b ≡ c → a && b ≡ a && c
    over_by a b c e = ap (λ x. a && x) e

    zero_is : (time quiet left : ℕ) → left ≡ time - quiet → (left - 1 == 0) ≡ nat_le time (quiet + 1)
    zero_is time quiet left h = grind (arith, nat_tests)

tick_verdict : (call : Call) (events : List Event) (client : Standing) → ClientStands call events client → outcome call events ≡ Waiting
    → verdict call events Ticked ≡ (if is_over client then GivesUp timed_out else GoesOn [])
tick_verdict call events client h o =
    let w : IsWaitingAfter call events client = h.waiting o in
    let over : is_over client ≡ is_time_over call.time (Ticked ∷ events) =
    ap (λ c. nat_lt 0 c.time && (client.left - 1 == 0)) h.same_call ∙ over_is call.time (ticks_quiet events) client.left w.left in
    ap (λ b. if b then GivesUp timed_out else GoesOn []) (sym over)

pub tick_stands : (call : Call) (events : List Event) (client : Standing) → ClientStands call events client → waits client.state ≡ true → ClientStands call (Ticked ∷ events) (after_tick client)
tick_stands call events client h t =
    let o : outcome call events ≡ Waiting = sym h.state ∙ waits-is client.state t in
    let w : IsWaitingAfter call events client = h.waiting o in
    stands_after call events Ticked client (if is_over client then GivesUp timed_out else GoesOn []) client.stage client.held (client.left - 1) h o (tick_verdict call events client h o)
    (λ x. record { stage_is = w.stage; held_is = w.held; left_is = omega (arith, w.left) })

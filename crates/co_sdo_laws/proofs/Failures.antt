-- Aborts, requests that the channel refuses, and clients that have failed: whatever happens to one, it stays so.
use Rattle.std.proofs.Common.{◌≡◌, ℕ, Bool, true, false, List, [], ◌∷◌, Option, Some, refl, suc, not, length, ap}
use Rattle.std.proofs.lemmas.Bool.{false≢true}
use Rattle.std.specs.Prelude.{if◌then◌else◌}
use Rattle.co_value.specs.declared.key.Key.{Key}
use Rattle.co_frame.specs.declared.sdo_response.SdoResponse.{SdoResponse}
use Rattle.co_frame.specs.declared.sdo_response.SdoResponse.TheVariants.{Abort}
use Rattle.co_frame.specs.SdoResponses.{response_row_in, response_in, response_bytes}
use Rattle.co_sdo_client.specs.declared.state.ClientState.{ClientState}
use Rattle.co_sdo_client.specs.declared.state.ClientState.TheVariants.{Waiting, Done, Failed}
use Rattle.co_sdo_client.specs.Calls.{Event as ClientEvent, Answered, Ticked as TickedAtClient, Call, since_first, with_answer}
use Rattle.co_sdo_client.specs.Verdicts.{verdict, same_bool, response_verdict}
use Rattle.co_sdo_client.specs.Outcomes.{state_by, while_waiting, outcome}
use Rattle.co_dict.specs.Rows.{Contents}
use Rattle.co_sdo.specs.Log.{Log, Ticked}
use Rattle.co_sdo.specs.Opened.{is_time_over}
use Rattle.co_sdo.specs.Completed.{set_by, contents_with}
use Rattle.co_sdo_laws.specs.World.{Setup, World, Queue, Requests, Answers, WorldEvent, Delivered, Lost, Repeated, ClientTicked, ChannelTicked, timed_out, ticked, on_way, without_front, front_arrives, after_event}
use Rattle.co_sdo_laws.proofs.Turns.{Takes}
use Rattle.co_sdo_client.specs.declared.stage.Stage.{Stage}
use Rattle.co_sdo_client.specs.Segments.{is_odd}
use Rattle.co_sdo.proofs.Continuations.{not_odd}

-- ---- aborts and failures

abbrev pub is_aborted : Option SdoResponse → Bool
is_aborted (Some (Abort key code)) = true
is_aborted _ = false

-- a frame that gives the transfer up
abbrev pub IsAbort : List ℕ → Type 0
IsAbort frame = is_aborted (response_in frame) ≡ true

pub abort_read : (key : Key) (code : ℕ) → IsAbort (response_bytes (Abort key (record { 0 = code })))
unfolding response_row_in
abort_read key code = refl

abbrev pub has_failed : ClientState → Bool
has_failed (Failed code) = true
has_failed _ = false

-- this answer makes a client give up that waits after these events
abbrev pub Fails : Setup → List ClientEvent → List ℕ → Type 0
Fails s events frame = has_failed (state_by (verdict s.call events (Answered frame))) ≡ true

pub fails : (s : Setup) (w : World) (frame : List ℕ) → outcome s.call w.events ≡ Waiting → Fails s w.events frame → has_failed (outcome s.call (Answered frame ∷ w.events)) ≡ true
fails s w frame waits h = rw waits h

-- the channel refuses a request: an abort, and nothing is open or set
pub record Refuses (s : Setup) (log : Log) (contents : Contents) (request : List ℕ) (Idle : Log → Contents → Type 0) : Type 0 where
  pub answer : List ℕ
  pub is_abort : IsAbort answer
  pub takes : Takes s log contents request answer Idle
  pub same : contents_with contents (set_by s.description contents log request) ≡ contents

-- ---- a client that has failed

failed_still : (state next : ClientState) → has_failed state ≡ true → has_failed (while_waiting state next state) ≡ true
failed_still Waiting next h = absurd (false≢true h)
failed_still Done next h = absurd (false≢true h)
failed_still (Failed code) next h = h

pub failed_more : (s : Setup) (event : ClientEvent) (older : List ClientEvent) → has_failed (outcome s.call older) ≡ true → has_failed (outcome s.call (event ∷ older)) ≡ true
failed_more s event older h = failed_still (outcome s.call older) (state_by (verdict s.call older event)) h

pub failed_front : (s : Setup) (queue : Queue) (xs : List (List ℕ)) (w : World) → has_failed (outcome s.call w.events) ≡ true → has_failed (outcome s.call (front_arrives s queue xs w).events) ≡ true
failed_front s queue [] w h = h
failed_front s Requests (x ∷ xs) w h = h
failed_front s Answers (x ∷ xs) w h = failed_more s (Answered x) w.events h

failed_loses : (s : Setup) (queue : Queue) (w : World) → has_failed (outcome s.call w.events) ≡ true → has_failed (outcome s.call (without_front queue w).events) ≡ true
failed_loses s Requests w h = h
failed_loses s Answers w h = h

failed_tick : (s : Setup) (w : World) (ends : Bool) → has_failed (outcome s.call w.events) ≡ true → has_failed (outcome s.call (if ends then timed_out (ticked w) else ticked w).events) ≡ true
failed_tick s w true h = h
failed_tick s w false h = h

-- whatever happens to a client that has failed
pub failed_event : (s : Setup) (event : WorldEvent) (w : World) → has_failed (outcome s.call w.events) ≡ true → has_failed (outcome s.call (after_event s event w).events) ≡ true
failed_event s (Delivered queue) w h = failed_front s queue (on_way queue w) (without_front queue w) (failed_loses s queue w h)
failed_event s (Lost queue) w h = failed_loses s queue w h
failed_event s (Repeated queue) w h = failed_front s queue (on_way queue w) w h
failed_event s ClientTicked w h = failed_more s TickedAtClient w.events h
failed_event s ChannelTicked w h = failed_tick s w (is_time_over s.time (Ticked ∷ w.log)) h

-- ---- answers that a waiting client doesn't await

-- an abort, outside a sub-block
pub aborted_fails : (call : Call) (stage : Stage) (held : List ℕ) (r : Option SdoResponse) → is_aborted r ≡ true → has_failed (state_by (response_verdict call stage held r)) ≡ true
aborted_fails call stage held (Some (Abort key code)) h = refl
aborted_fails call stage held _ h = absurd (false≢true h)

not_same : (b : Bool) → same_bool b (not b) ≡ false
not_same true = refl
not_same false = refl

-- the toggles of two segments, one after the other
pub toggles_differ : (k : ℕ) → same_bool (is_odd k) (is_odd (suc k)) ≡ false
toggles_differ k = rw (not_odd k) (not_same (is_odd k))

-- how many answers came after the first
pub later_count : (x : List ℕ) (xs : List (List ℕ)) → length (with_answer x (since_first xs)).later ≡ length xs
later_count x [] = refl
later_count x (y ∷ ys) = ap suc (later_count y ys)

-- EMCY and TPDOs aren't sent on the identifiers of the default SDO channel.
use Rattle.std.proofs.Common.{◌≡◌, ℕ, zero, suc, ◌+◌, ◌∙◌, ap, ◌<◌, ◌≤◌, Bool, true, false, [], ◌∷◌, List, map, Option, Some, None, refl, arith}
use Rattle.std.specs.Prelude.{◌&&◌, not, if◌then◌else◌, filter, slice_get}
use Rattle.std.specs.List.{AllByRecursion, range_with_len}
use Rattle.std.proofs.lemmas.Bool.Decides.{nat_tests}
use Rattle.co_frame.specs.declared.emergency.Emergency.{Emergency}
use Rattle.co_profile.specs.Keys.{emergency_key}
use Rattle.co_dict.specs.CobIds.{identifier_of, is_default_sdo, is_valid}
use Rattle.co_dict.specs.Rows.{Contents, number_at}
use Rattle.co_dict.specs.Stores.{Description}
use Rattle.co_pdo.specs.declared.settings.Settings.{Settings}
use Rattle.co_pdo.specs.declared.tpdo.Occasion.{Occasion}
use Rattle.co_pdo.specs.declared.tpdo.Occasion.TheVariants as occasion
use Rattle.co_pdo.specs.Due.{is_due}
use Rattle.co_pdo.specs.Log as tpdo_log
use Rattle.co_pdo.specs.Schedules.{History as Schedule, is_among, is_tpdo_due, log_of, sync_with}
use Rattle.co_pdo.specs.Tpdos.{is_active, settings_of, tpdo_key, tpdo_numbers}
use Rattle.co_node_parts.specs.EmergencyQueues.{EmergencyLog, emergency_due, is_inhibit_over, queue_of}
use Rattle.co_node_parts.specs.NmtStates.{is_state}
use Rattle.co_node_parts.specs.declared.nmt_state.NodeState.TheVariants.{Stopped}
use Rattle.co_node_model.specs.declared.turn.Turn.{Turn}
use Rattle.co_node_model.specs.declared.turn.Turn.TheVariants as turn
use Rattle.co_node_model.specs.Device.{contents_of, moment, moments}
use Rattle.co_node_model.specs.Emergencies.{emergency_frames, emergency_log, may_send, unsent_log}
use Rattle.co_node_model.specs.Inputs.{Inputs, InputView}
use Rattle.co_node_model.specs.Marks.{marked_time_out}
use Rattle.co_node_model.specs.Moments.{Constants, History, Moment}
use Rattle.co_node_model.specs.Nmt.{state_at}
use Rattle.co_node_model.specs.Tpdos.{due_at, numbers_asked, schedule_log, tpdo_frame, turn_at}
use Rattle.conode_compare_laws.specs.AnswerSenders.{AllSendOther, AreOther, HasOtherWords, IsOther, IsOtherWord, SendsOther}
use Rattle.conode_compare_laws.specs.Recordings.{Stamped}

-- ---- identifiers

requests : (node : ℕ) → 1 ≤ node → node ≤ 127 → is_default_sdo (0x600 + node) ≡ true
requests node first last = grind (arith, nat_tests)

responses : (node : ℕ) → 1 ≤ node → node ≤ 127 → is_default_sdo (0x580 + node) ≡ true
responses node first last = grind (arith, nat_tests)

pub other_id : (node id : ℕ) → 1 ≤ node → node ≤ 127 → is_default_sdo id ≡ false → IsOther node id
other_id node id first last off = (
  λ is. absurd (let on : is_default_sdo id ≡ true = ap is_default_sdo is ∙ responses node first last in cc),
  λ is. absurd (let on : is_default_sdo id ≡ true = ap is_default_sdo is ∙ requests node first last in cc),
)

-- ---- EMCY

middle_on : (a b c : Bool) → (a && b && c) ≡ true → b ≡ true
middle_on true true c h = refl
middle_on true false c h = absurd (cc)
middle_on false b c h = absurd (cc)

front_other : (node : ℕ) (c : Contents) (e : Option Emergency) → IsOther node (identifier_of (number_at c emergency_key)) → AreOther node (emergency_frames c e)
front_other node c None h = tt
front_other node c (Some e) h = (h, tt)

due_other : (node : ℕ) (c : Contents) (may : Bool) (log : EmergencyLog) → (may ≡ true → IsOther node (identifier_of (number_at c emergency_key))) → AreOther node (emergency_frames c (emergency_due may log))
due_other node c false log h = tt
due_other node c true log h = by (is_inhibit_over log)
  where
    by : (b : Bool) → AreOther node (emergency_frames c (if b then slice_get (queue_of log) 0 else None))
    by true = front_other node c (slice_get (queue_of log) 0) (h refl)
    by false = tt

emergency_other : (k : Constants) (history : History) (input : InputView) → 1 ≤ k.description.node → k.description.node ≤ 127 → IsOtherWord (number_at (moment k history input).contents emergency_key)
    → AreOther k.description.node (emergency_frames (moment k history input).contents (moment k history input).emergency)
emergency_other k history input first last h =
    let m : Moment = moment k history input in
    due_other k.description.node m.contents (may_send m.mark (state_at (m ∷ history)) m.contents) (unsent_log m (emergency_log history))
    (λ may. other_id k.description.node (identifier_of (number_at m.contents emergency_key)) first last
    (h (middle_on (not (is_state Stopped (state_at (m ∷ history)))) (is_valid (number_at m.contents emergency_key)) (not (marked_time_out m.mark)) may)))

-- ---- TPDOs

first_on : (a b c : Bool) → (a && b && c) ≡ true → a ≡ true
first_on true b c h = refl
first_on false b c h = absurd (cc)

left_on : (a b : Bool) → (a && b) ≡ true → a ≡ true
left_on true b h = refl
left_on false b h = absurd (cc)

right_on : (a b : Bool) → (a && b) ≡ true → b ≡ true
right_on true b h = h
right_on false b h = absurd (cc)

due_active : (s : Settings) (log : tpdo_log.Log) (o : Occasion) → is_due s log o ≡ true → s.is_active ≡ true
due_active s log (occasion.Sync overflow counter) h = left_on s.is_active _ h
due_active s log occasion.Event h = left_on s.is_active _ h
due_active s log occasion.Tick h = left_on s.is_active _ h

active_valid : (c : Contents) (n : ℕ) → is_active c n ≡ true → is_valid (number_at c (tpdo_key n 1)) ≡ true
active_valid c n h = first_on (is_valid (number_at c (tpdo_key n 1))) _ _ h

all_below : (first count : ℕ) → first + count ≤ 512 → AllByRecursion (λ n. n < 512) (range_with_len first count)
all_below first zero h = tt
all_below first (suc count) h = (omega arith, all_below (first + 1) count (omega arith))

numbers_below : AllByRecursion (λ n. n < 512) tpdo_numbers
unfolding tpdo_numbers
numbers_below = all_below 0 512 (omega arith)

filtered_other : (node : ℕ) → 1 ≤ node → node ≤ 127 → (d : Description) (c : Contents) (test : ℕ → Bool) (numbers : List ℕ) → ((n : ℕ) → test n ≡ true → is_active c n ≡ true) → HasOtherWords c
    → AllByRecursion (λ n. n < 512) numbers → AreOther node (map (tpdo_frame d c) (filter test numbers))
filtered_other node first last d c test [] active words h = tt
filtered_other node first last d c test (n ∷ numbers) active words h = by (test n) refl (filtered_other node first last d c test numbers active words h.1)
  where
    by : (b : Bool) → test n ≡ b → AreOther node (map (tpdo_frame d c) (filter test numbers)) → AreOther node (map (tpdo_frame d c) (if b then n ∷ filter test numbers else filter test numbers))
    by true is later = (other_id node (identifier_of (number_at c (tpdo_key n 1))) first last (words.tpdos n h.0 (active_valid c n (active n is))), later)
    by false is later = later

due_numbers_other : (node : ℕ) → 1 ≤ node → node ≤ 127 → (d : Description) (t : Turn) (c : Contents) (schedule : Schedule) → HasOtherWords c → AreOther node (map (tpdo_frame d c) (due_at d t c schedule))
due_numbers_other node first last d turn.Quiet c schedule words = tt
due_numbers_other node first last d turn.StartAll c schedule words = tt
due_numbers_other node first last d (turn.Start n part) c schedule words = tt
due_numbers_other node first last d (turn.Sync counter) c schedule words =
    filtered_other node first last d c (λ n. is_tpdo_due c schedule (sync_with counter c) n) tpdo_numbers (λ n due. due_active (settings_of c n) (log_of n schedule) (sync_with counter c) due) words numbers_below
due_numbers_other node first last d (turn.Asked asked) c schedule words =
    filtered_other node first last d c (λ n. is_among n (numbers_asked d c asked) && is_tpdo_due c schedule occasion.Event n) tpdo_numbers
    (λ n due. due_active (settings_of c n) (log_of n schedule) occasion.Event (right_on (is_among n (numbers_asked d c asked)) _ due)) words numbers_below
due_numbers_other node first last d turn.Tick c schedule words =
    filtered_other node first last d c (λ n. is_tpdo_due c schedule occasion.Tick n) tpdo_numbers (λ n due. due_active (settings_of c n) (log_of n schedule) occasion.Tick due) words numbers_below

-- ---- all of it

sends_other : (k : Constants) (before : Inputs) (input : InputView) → 1 ≤ k.description.node → k.description.node ≤ 127 → HasOtherWords (contents_of k (input ∷ before)) → SendsOther k (moment k (moments k before) input)
sends_other k before input first last words =
    let m : Moment = moment k (moments k before) input in
    record {
      emergency = emergency_other k (moments k before) input first last words.emergency;
      tpdos = due_numbers_other k.description.node first last k.description (turn_at m (moments k before)) m.contents (schedule_log k (moments k before)) words;
    }

pub all_send_other : (k : Constants) (inputs : List Stamped) (before : Inputs) → 1 ≤ k.description.node → k.description.node ≤ 127 → ((all : Inputs) → HasOtherWords (contents_of k all)) → AllSendOther k before inputs
all_send_other k [] before first last words = tt
all_send_other k (s ∷ later) before first last words = (sends_other k before s.input first last (words (s.input ∷ before)), all_send_other k later (s.input ∷ before) first last words)

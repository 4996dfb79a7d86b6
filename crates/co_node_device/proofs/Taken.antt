-- The data of frames that take effect one by one.
use Rattle.std.proofs.Common.{◌≡◌, ℕ, ◌+◌, ◌<◌, List, [], ◌∷◌, ◌++◌, length, take, get_or, refl, sym, ap, ◌∙◌, subst, append-nil}
use Rattle.std.proofs.lemmas.List.{take_more}
use Rattle.co_frame.specs.declared.emergency.Emergency.{Emergency}
use Rattle.co_dict.specs.Rows.{Contents}
use Rattle.co_dict.specs.Stores.{Description}
use Rattle.co_node_parts.specs.declared.rpdo_slots.KeptFrame.{KeptFrame}
use Rattle.co_node_parts.specs.declared.nmt_state.Transition.{Transition}
use Rattle.co_node_parts.specs.declared.emergencies.EmergencyEvent.TheVariants as emergencies
use Rattle.co_node_parts.specs.RpdoSlots.{SlotLog, taken_at}
use Rattle.co_node_parts.specs.EmergencyQueues.{EmergencyLog, Noted, Pending, EmergenciesStand, with_queued}
use Rattle.co_node_model.specs.declared.mark.Mark.{Mark}
use Rattle.co_node_model.specs.Rpdos.{slot_event, immediate, after_data, data_emergencies, after_all_data, all_data_emergencies}
use Rattle.co_node_model.specs.Emergencies.{emergencies_of}
use Rattle.co_node_model.specs.Marks.{marked_rpdo}
use Rattle.co_value.specs.declared.key.Key.{Key}
use Rattle.co_dict_placed.specs.Changes.{with_key, with_keys}
use Rattle.co_node_device.specs.SetEntries.{set_by_all_data, set_by_data, set_by_effects}
use Rattle.co_node_device.specs.Effects.{length_errors_of, taken_now, after_lengths, after_effects, effect_emergencies}

-- ---- several after several

queued_all : (es fs : List Emergency) (log : EmergencyLog) → with_queued (es ++ fs) log ≡ with_queued fs (with_queued es log)
queued_all [] fs log = refl
queued_all (e ∷ es) fs log = queued_all es fs (Noted (emergencies.Queue e) ∷ log)

data_all : (d : Description) (contents : Contents) (xs ys : List KeptFrame) → after_all_data d contents (xs ++ ys) ≡ after_all_data d (after_all_data d contents xs) ys
data_all d contents [] ys = refl
data_all d contents (x ∷ xs) ys = data_all d (after_data d contents x) xs ys

data_queued_all : (d : Description) (contents : Contents) (xs ys : List KeptFrame) (log : EmergencyLog)
    → with_queued (all_data_emergencies d contents (xs ++ ys)) log ≡ with_queued (all_data_emergencies d (after_all_data d contents xs) ys) (with_queued (all_data_emergencies d contents xs) log)
data_queued_all d contents [] ys log = refl
data_queued_all d contents (x ∷ xs) ys log =
    let first : List Emergency = data_emergencies d contents x in
    let next : Contents = after_data d contents x in
    queued_all first (all_data_emergencies d next (xs ++ ys)) log
    ∙ data_queued_all d next xs ys (with_queued first log)
    ∙ ap (with_queued (all_data_emergencies d (after_all_data d next xs) ys)) (sym (queued_all first (all_data_emergencies d next xs) log))

pub noted_all : (d : Description) (keys others : List Key) (changes : List ℕ) → with_keys d (keys ++ others) changes ≡ with_keys d others (with_keys d keys changes)
noted_all d [] others changes = refl
noted_all d (key ∷ keys) others changes = noted_all d keys others (with_key d key changes)

data_noted_all : (d : Description) (contents : Contents) (xs ys : List KeptFrame) (changes : List ℕ)
    → with_keys d (set_by_all_data d contents (xs ++ ys)) changes ≡ with_keys d (set_by_all_data d (after_all_data d contents xs) ys) (with_keys d (set_by_all_data d contents xs) changes)
data_noted_all d contents [] ys changes = refl
data_noted_all d contents (x ∷ xs) ys changes =
    let first : List Key = set_by_data d contents x in
    let next : Contents = after_data d contents x in
    noted_all d first (set_by_all_data d next (xs ++ ys)) changes
    ∙ data_noted_all d next xs ys (with_keys d first changes)
    ∙ ap (with_keys d (set_by_all_data d (after_all_data d next xs) ys)) (sym (noted_all d first (set_by_all_data d next xs) changes))

-- ---- one more

module _ (d here : Description) (xs : List KeptFrame) (i : ℕ) (x : KeptFrame) (old before : Contents) (lt : i < length xs) (at : x ≡ get_or xs i x) (same : here ≡ d) (h : before ≡ after_all_data d old (take i xs)) where
  with_last : take (i + 1) xs ≡ take i xs ++ x ∷ []
  with_last = take_more xs i x lt ∙ ap (λ (y : KeptFrame). take i xs ++ y ∷ []) (sym at)

  pub data_more : (after : Contents) → after ≡ after_data here before x → after ≡ after_all_data d old (take (i + 1) xs)
  data_more after a =
      a ∙ ap (λ (e : Description). after_data e before x) same ∙ ap (λ (k : Contents). after_data d k x) h
      ∙ sym (ap (after_all_data d old) with_last ∙ data_all d old (take i xs) (x ∷ []))

  pub data_queue : (p : Pending) (log : EmergencyLog) → EmergenciesStand p (with_queued (data_emergencies here before x) (with_queued (all_data_emergencies d old (take i xs)) log))
      → EmergenciesStand p (with_queued (all_data_emergencies d old (take (i + 1) xs)) log)
  data_queue p log s =
      let queue : EmergencyLog = with_queued (all_data_emergencies d old (take i xs)) log in
      let last : with_queued (data_emergencies here before x) queue ≡ with_queued (all_data_emergencies d old (take (i + 1) xs)) log =
      ap (λ (e : Description). with_queued (data_emergencies e before x) queue) same
      ∙ ap (λ (k : Contents). with_queued (data_emergencies d k x) queue) h
      ∙ ap (λ (es : List Emergency). with_queued es queue) (sym (append-nil (data_emergencies d (after_all_data d old (take i xs)) x)))
      ∙ sym (ap (λ (ys : List KeptFrame). with_queued (all_data_emergencies d old ys) log) with_last ∙ data_queued_all d old (take i xs) (x ∷ []) log) in
      subst (EmergenciesStand p) last s

  pub set_more : (first now after : List ℕ) → now ≡ with_keys d (set_by_all_data d old (take i xs)) first → after ≡ with_keys here (set_by_data here before x) now
      → after ≡ with_keys d (set_by_all_data d old (take (i + 1) xs)) first
  set_more first now after n a =
      a ∙ ap (λ (e : Description). with_keys e (set_by_data e before x) now) same
      ∙ ap (λ (k : Contents). with_keys d (set_by_data d k x) now) h
      ∙ ap (with_keys d (set_by_data d (after_all_data d old (take i xs)) x)) n
      ∙ ap (λ (ks : List Key). with_keys d ks (with_keys d (set_by_all_data d old (take i xs)) first)) (sym (append-nil (set_by_data d (after_all_data d old (take i xs)) x)))
      ∙ sym (ap (λ (ys : List KeptFrame). with_keys d (set_by_all_data d old ys) first) with_last ∙ data_noted_all d old (take i xs) (x ∷ []) first)

-- ---- all of an input

-- what the calls gave
pub record AreEffects (d d1 d2 : Description) (c0 c1 c2 c3 : Contents) (mark : Mark) (t : Transition) (log : SlotLog) (waiting once : List KeptFrame) : Type 0 where
  pub lengths : c1 ≡ after_lengths d c0 mark
  pub same : d1 ≡ d
  pub taken : waiting ≡ taken_at 512 (slot_event d c0 mark t) log
  pub data_taken : c2 ≡ after_all_data d1 c1 waiting
  pub same_then : d2 ≡ d
  pub at_once : once ≡ immediate d c0 (marked_rpdo mark)
  pub data_at_once : c3 ≡ after_all_data d2 c2 once

module _ (d d1 d2 : Description) (c0 c1 c2 c3 : Contents) (mark : Mark) (t : Transition) (log : SlotLog) (waiting once : List KeptFrame) (e : AreEffects d d1 d2 c0 c1 c2 c3 mark t log waiting once) where
  waited : c2 ≡ after_all_data d (after_lengths d c0 mark) (taken_at 512 (slot_event d c0 mark t) log)
  waited =
      e.data_taken ∙ ap (λ (k : Description). after_all_data k c1 waiting) e.same ∙ ap (λ (k : Contents). after_all_data d k waiting) e.lengths
      ∙ ap (after_all_data d (after_lengths d c0 mark)) e.taken

  pub effects_are : c3 ≡ after_effects d c0 mark t log
  effects_are =
      e.data_at_once ∙ ap (λ (k : Description). after_all_data k c2 once) e.same_then ∙ ap (λ (k : Contents). after_all_data d k once) waited
      ∙ ap (after_all_data d (after_all_data d (after_lengths d c0 mark) (taken_at 512 (slot_event d c0 mark t) log))) e.at_once
      ∙ sym (data_all d (after_lengths d c0 mark) (taken_at 512 (slot_event d c0 mark t) log) (immediate d c0 (marked_rpdo mark)))

  pub effects_queued : (queued : EmergencyLog) → with_queued (all_data_emergencies d2 c2 once) (with_queued (all_data_emergencies d1 c1 waiting) (with_queued (emergencies_of d.rows (length_errors_of d c0 mark) c0) queued))
      ≡ with_queued (effect_emergencies d c0 mark t log) queued
  effects_queued queued =
      let first : EmergencyLog = with_queued (emergencies_of d.rows (length_errors_of d c0 mark) c0) queued in
      let due : List KeptFrame = taken_at 512 (slot_event d c0 mark t) log in
      let middle : with_queued (all_data_emergencies d1 c1 waiting) first ≡ with_queued (all_data_emergencies d (after_lengths d c0 mark) due) first =
      ap (λ (k : Description). with_queued (all_data_emergencies k c1 waiting) first) e.same
      ∙ ap (λ (k : Contents). with_queued (all_data_emergencies d k waiting) first) e.lengths
      ∙ ap (λ (xs : List KeptFrame). with_queued (all_data_emergencies d (after_lengths d c0 mark) xs) first) e.taken in
      let last : all_data_emergencies d2 c2 once ≡ all_data_emergencies d (after_all_data d (after_lengths d c0 mark) due) (immediate d c0 (marked_rpdo mark)) =
      ap (λ (k : Description). all_data_emergencies k c2 once) e.same_then
      ∙ ap (λ (k : Contents). all_data_emergencies d k once) waited
      ∙ ap (all_data_emergencies d (after_all_data d (after_lengths d c0 mark) due)) e.at_once in
      ap (λ (es : List Emergency). with_queued es (with_queued (all_data_emergencies d1 c1 waiting) first)) last
      ∙ ap (with_queued (all_data_emergencies d (after_all_data d (after_lengths d c0 mark) due) (immediate d c0 (marked_rpdo mark)))) middle
      ∙ sym (data_queued_all d (after_lengths d c0 mark) due (immediate d c0 (marked_rpdo mark)) first)
      ∙ sym (queued_all (emergencies_of d.rows (length_errors_of d c0 mark) c0) (all_data_emergencies d (after_lengths d c0 mark) (taken_now d c0 mark t log)) queued)

  pub effects_noted : (first middle last : List ℕ) → middle ≡ with_keys d1 (set_by_all_data d1 c1 waiting) first → last ≡ with_keys d2 (set_by_all_data d2 c2 once) middle
      → last ≡ with_keys d (set_by_effects d c0 mark t log) first
  effects_noted first middle last m l =
      let due : List KeptFrame = taken_at 512 (slot_event d c0 mark t) log in
      let begun : Contents = after_lengths d c0 mark in
      let waited_keys : middle ≡ with_keys d (set_by_all_data d begun due) first =
      m ∙ ap (λ (k : Description). with_keys k (set_by_all_data k c1 waiting) first) e.same
      ∙ ap (λ (k : Contents). with_keys d (set_by_all_data d k waiting) first) e.lengths
      ∙ ap (λ (xs : List KeptFrame). with_keys d (set_by_all_data d begun xs) first) e.taken in
      l ∙ ap (λ (k : Description). with_keys k (set_by_all_data k c2 once) middle) e.same_then
      ∙ ap (λ (k : Contents). with_keys d (set_by_all_data d k once) middle) waited
      ∙ ap (λ (xs : List KeptFrame). with_keys d (set_by_all_data d (after_all_data d begun due) xs) middle) e.at_once
      ∙ ap (with_keys d (set_by_all_data d (after_all_data d begun due) (immediate d c0 (marked_rpdo mark)))) waited_keys
      ∙ sym (data_noted_all d begun due (immediate d c0 (marked_rpdo mark)) first)

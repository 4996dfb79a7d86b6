-- Slots of the RPDOs of a dictionary alone: no frame of another is received.
use Rattle.std.proofs.Common.{◌≡◌, ℕ, zero, suc, ◌+◌, ◌<◌, ◌≤◌, Bool, true, false, cond, eqb, List, [], ◌∷◌, length, refl, sym, ap, ◌∙◌, subst, arith}
use Rattle.std.specs.Prelude.{◌&&◌, ◌||◌, Option, Some, None, IfSome, is_some, Result, Ok, Err, IfOk}
use Rattle.std.specs.List.{filter_map, cons_option, find, range_with_len}
use Rattle.std.proofs.lemmas.Bool.Decides.{nat_tests}
use Rattle.co_value.specs.declared.key.Key.{Key}
use Rattle.co_dict.specs.declared.side.Side.TheVariants.{Rpdo}
use Rattle.co_dict.specs.Rows.{Contents}
use Rattle.co_dict.specs.Stores.{Description}
use Rattle.co_pdo.specs.Mappings.{has_pdo}
use Rattle.co_pdo.specs.Pdos.{cob_id_of, is_pdo_active}
use Rattle.co_dict.specs.CobIds.{identifier_of}
use Rattle.co_node_parts.specs.declared.rpdo_slots.KeptFrame.{KeptFrame}
use Rattle.co_node_parts.specs.declared.rpdo_slots.SlotEvent.{SlotEvent}
use Rattle.co_node_parts.specs.declared.rpdo_slots.SlotEvent.TheVariants.{Keep, Empty, EmptyAll, Sync, Quiet}
use Rattle.co_node_parts.specs.declared.nmt_state.NodeState.TheVariants.{Operational}
use Rattle.co_node_parts.specs.declared.nmt_state.Transition.{Transition}
use Rattle.co_node_parts.specs.NmtStates.{is_state, leaves}
use Rattle.co_node_parts.specs.RpdoSlots.{SlotContent, SlotLog, SlotsStand, kept_of, numbered, taken_at}
use Rattle.co_node_model.specs.declared.address.Address.TheVariants as to
use Rattle.co_node_model.specs.declared.mark.Mark.{Mark}
use Rattle.co_node_model.specs.Addresses.{address_unless_channel, address_unless_rpdo, is_error_control}
use Rattle.co_node_model.specs.Device.{contents_of}
use Rattle.co_node_model.specs.Inputs.{InputView, Inputs}
use Rattle.co_node_model.specs.Marks.{marked_key, marked_rpdo, marked_sync}
use Rattle.co_node_model.specs.Moments.{Constants}
use Rattle.co_node_model.specs.Nmt.{is_reset}
use Rattle.co_node_model.specs.Rpdos.{emptied_by, empties_slot, is_rpdo_with, kept_by, rpdo_with, slot_event}
use Rattle.co_node_laws.specs.Distances.{moment_at}
use Rattle.co_node_laws.proofs.RpdoWaits.{taken_for, watched_is}
use Rattle.co_node_device.specs.MappingTables.{Covers}
use Rattle.co_node_device.specs.SlotTables.{AreSlotsOf}

-- ---- the build

slots_begin : (d : Description) (count : ℕ) (content : SlotContent) → Covers Rpdo d count → length content.slots ≤ 512
    → SlotsStand count content [] → AreSlotsOf d content []
slots_begin d count content covers few stand = record {
  covers = subst (λ (n : ℕ). Covers Rpdo d n) (sym stand.size) covers;
  few = few;
  stand = subst (λ (n : ℕ). SlotsStand n content []) (sym stand.size) stand;
  others = λ k past small. refl;
}

-- they may be out of memory
pub slots_begun : {E : Type 0} (d : Description) (count : ℕ) (made : Result SlotContent E) → Covers Rpdo d count
    → IfOk made (λ content. SlotsStand count content []) → IfOk made (λ content. length content.slots ≤ 512)
    → IfOk made (λ content. AreSlotsOf d content [])
slots_begun d count (Ok content) covers stand few = slots_begin d count content covers few stand
slots_begun d count (Err e) covers stand few = tt

-- ---- what an event takes

none_past : (h : ℕ → Option KeptFrame) (a n : ℕ) → ((k : ℕ) → a ≤ k → k < a + n → h k ≡ None) → filter_map h (range_with_len a n) ≡ []
none_past h a zero none = refl
none_past h a (suc n) none =
    ap (λ o. cons_option o (filter_map h (range_with_len (a + 1) n))) (none a (omega arith) (omega arith))
    ∙ none_past h (a + 1) n (λ k past small. none k (omega (arith, past)) (omega (arith, small)))

all_before : (h : ℕ → Option KeptFrame) (a n total : ℕ) → n ≤ total → ((k : ℕ) → a + n ≤ k → k < a + total → h k ≡ None)
    → filter_map h (range_with_len a n) ≡ filter_map h (range_with_len a total)
all_before h a zero total le none = sym (none_past h a total (λ k past small. none k (omega (arith, past)) small))
all_before h a (suc n) zero le none = absurd (omega (arith, le))
all_before h a (suc n) (suc total) le none =
    ap (cons_option (h a))
    (all_before h (a + 1) n total (omega (arith, le)) (λ k past small. none k (omega (arith, past)) (omega (arith, small))))

-- the slots of the RPDOs are enough: all that wait are in them
pub taken_of_all : (d : Description) (content : SlotContent) (log : SlotLog) (event : SlotEvent) → AreSlotsOf d content log
    → taken_at (length content.slots) event log ≡ taken_at 512 event log
taken_of_all d content log (Keep k frame) s = refl
taken_of_all d content log (Empty k) s = refl
taken_of_all d content log EmptyAll s = refl
taken_of_all d content log Sync s =
    all_before (λ k. numbered k (kept_of k log)) 0 (length content.slots) 512 s.few
    (λ k past small. ap (numbered k) (s.others k (omega (arith, past)) (omega (arith, small))))
taken_of_all d content log Quiet s = refl

-- ---- one more event

-- the frame of an event has a slot, if its number is that of an RPDO
abbrev IsWithin : ℕ → SlotEvent → Type 0
IsWithin n (Keep k frame) = k < 512 → k < n
IsWithin n (Empty k) = Unit {0}
IsWithin n EmptyAll = Unit {0}
IsWithin n Sync = Unit {0}
IsWithin n Quiet = Unit {0}

others_after : (n : ℕ) (event : SlotEvent) (log : SlotLog) → IsWithin n event → ((k : ℕ) → n ≤ k → k < 512 → kept_of k log ≡ None)
    → (k : ℕ) → n ≤ k → k < 512 → kept_of k (event ∷ log) ≡ None
others_after n (Keep j frame) log within others k past small = by (eqb k j) refl
  where
    by : (b : Bool) → eqb k j ≡ b → cond b (Some frame) (kept_of k log) ≡ None
    by true h =
        let same : k ≡ j = grind (arith, nat_tests) in
        let below : j < n = within (omega (arith, same, small)) in
        absurd (omega (arith, same, below, past))
    by false h = others k past small
others_after n (Empty j) log within others k past small = by (eqb k j)
  where
    by : (b : Bool) → cond b None (kept_of k log) ≡ None
    by true = refl
    by false = others k past small
others_after n EmptyAll log within others k past small = refl
others_after n Sync log within others k past small = refl
others_after n Quiet log within others k past small = others k past small

either : (n : ℕ) (b : Bool) (e f : SlotEvent) → IsWithin n e → IsWithin n f → IsWithin n (cond b e f)
either n true e f here there = here
either n false e f here there = there

emptied_within : (n : ℕ) (set : Option Key) → IsWithin n (emptied_by set)
emptied_within n None = tt
emptied_within n (Some key) = either n (empties_slot key) _ Quiet tt tt

kept_within : (n : ℕ) (d : Description) (c : Contents) (rpdo : Option KeptFrame) → IfSome rpdo (λ r. r.number < 512 → r.number < n)
    → IsWithin n (kept_by d c rpdo)
kept_within n d c None within = tt
kept_within n d c (Some r) within = either n _ (Keep r.number r.frame) Quiet within tt

event_within : (n : ℕ) (d : Description) (c : Contents) (mark : Mark) (t : Transition)
    → IfSome (marked_rpdo mark) (λ r. r.number < 512 → r.number < n) → IsWithin n (slot_event d c mark t)
event_within n d c mark t within =
    either n (is_reset mark || leaves Operational t) EmptyAll _ tt
    (either n (is_some (marked_sync mark) && is_state Operational t.after) Sync _ tt
    (either n (is_some (marked_key mark)) (emptied_by (marked_key mark)) (kept_by d c (marked_rpdo mark))
    (emptied_within n (marked_key mark)) (kept_within n d c (marked_rpdo mark) within)))

covered : (d : Description) (n : ℕ) (rpdo : Option KeptFrame) → Covers Rpdo d n
    → IfSome rpdo (λ r. has_pdo Rpdo d.rows r.number ≡ true) → IfSome rpdo (λ r. r.number < 512 → r.number < n)
covered d n None covers there = tt
covered d n (Some r) covers there = λ small. covers.all r.number small there

-- the slots after one more event, whose frame, if it has one, is that of an RPDO of the dictionary
pub slots_after : (d : Description) (c : Contents) (before after : SlotContent) (log : SlotLog) (mark : Mark) (t : Transition)
    → AreSlotsOf d before log → IfSome (marked_rpdo mark) (λ r. has_pdo Rpdo d.rows r.number ≡ true)
    → SlotsStand (length before.slots) after (slot_event d c mark t ∷ log) → AreSlotsOf d after (slot_event d c mark t ∷ log)
slots_after d c before after log mark t s there stand =
    let n = length before.slots in
    let others = others_after n (slot_event d c mark t) log
    (event_within n d c mark t (covered d n (marked_rpdo mark) s.covers there)) s.others in
    record {
      covers = subst (λ (m : ℕ). Covers Rpdo d m) (sym stand.size) s.covers;
      few = subst (λ (m : ℕ). m ≤ 512) (sym stand.size) s.few;
      stand = subst (λ (m : ℕ). SlotsStand m after (slot_event d c mark t ∷ log)) (sym stand.size) stand;
      others = subst (λ (m : ℕ). (k : ℕ) → m ≤ k → k < 512 → kept_of k (slot_event d c mark t ∷ log) ≡ None) (sym stand.size) others;
    }

-- ---- the RPDO of a received frame is one of the dictionary

first_passes : (p : ℕ → Bool) (x n : ℕ) (rest : Option ℕ) (b : Bool) → p x ≡ b → (rest ≡ Some n → p n ≡ true) → cond b (Some x) rest ≡ Some n → p n ≡ true
first_passes p x n rest true h later e = let same : x ≡ n = cc in subst (λ (k : ℕ). p k ≡ true) same h
first_passes p x n rest false h later e = later e

find_passes : (p : ℕ → Bool) (xs : List ℕ) (n : ℕ) → find p xs ≡ Some n → p n ≡ true
find_passes p [] n e = absurd (cc)
find_passes p (x ∷ xs) n e = first_passes p x n (find p xs) (p x) refl (find_passes p xs n) e

both : (a b : Bool) → a && b ≡ true → a ≡ true
both true b e = refl
both false b e = e

active_with : (c : Contents) (id n : ℕ) → rpdo_with c id ≡ Some n → is_pdo_active Rpdo c n ≡ true
unfolding rpdo_with
active_with c id n e =
    both (is_pdo_active Rpdo c n) (eqb (identifier_of (cob_id_of Rpdo c n)) id) (find_passes (is_rpdo_with c id) (range_with_len 0 512) n e)

last_is_none : (b : Bool) (id n : ℕ) → cond b (to.ErrorControl id) to.Nobody ≡ to.Rpdo n → ⊥
last_is_none true id n e = absurd (cc)
last_is_none false id n e = absurd (cc)

unless_rpdo : (o : Option ℕ) (id n : ℕ) → address_unless_rpdo o id ≡ to.Rpdo n → o ≡ Some n
unless_rpdo (Some k) id n e = let same : k ≡ n = cc in ap (λ (m : ℕ). Some m) same
unless_rpdo None id n e = absurd (last_is_none (is_error_control id) _ n e)

addressed : (is_nmt is_sync : Bool) (channel : Option ℕ) (c : Contents) (id n : ℕ)
    → cond is_nmt to.Nmt (cond is_sync to.Sync (address_unless_channel channel c id)) ≡ to.Rpdo n → rpdo_with c id ≡ Some n
addressed true is_sync channel c id n e = absurd (cc)
addressed false true channel c id n e = absurd (cc)
addressed false false (Some j) c id n e = absurd (cc)
addressed false false None c id n e = unless_rpdo (rpdo_with c id) id n e

pub each_there : (k : Constants) (inputs : Inputs) (input : InputView) (mark : Mark) (d : Description) (watched : Contents)
    → mark ≡ (moment_at k inputs input).mark → watched ≡ (moment_at k inputs input).watched
    → ((n : ℕ) → is_pdo_active Rpdo watched n ≡ true → has_pdo Rpdo d.rows n ≡ true)
    → IfSome (marked_rpdo mark) (λ r. has_pdo Rpdo d.rows r.number ≡ true)
each_there k inputs input mark d watched em ew there = by (marked_rpdo mark) refl
  where
    by : (rpdo : Option KeptFrame) → marked_rpdo mark ≡ rpdo → IfSome rpdo (λ r. has_pdo Rpdo d.rows r.number ≡ true)
    by None e = tt
    by (Some r) e =
        let marked : marked_rpdo (moment_at k inputs input).mark ≡ Some r = ap marked_rpdo (sym em) ∙ e in
        let is = taken_for k inputs input r marked in
        let same : watched ≡ contents_of k inputs = ew ∙ watched_is k inputs input r marked in
        let c = contents_of k inputs in
        there r.number (subst (λ (c : Contents). is_pdo_active Rpdo c r.number ≡ true) (sym same)
        (active_with c r.frame.id r.number (addressed _ _ _ c r.frame.id r.number is.address)))

-- The emergencies that a device queues without events of its application: bit 0 of the register is set, and there are eight bytes.
use Rattle.std.proofs.Common.{◌≡◌, ℕ, zero, suc, ◌%◌, ◌-◌, Bool, true, false, List, [], ◌∷◌, ◌++◌, length, drop, Option, Some, None, refl, sym, ap, ◌∙◌, subst, arith}
use Rattle.std.specs.Prelude.{if◌then◌else◌, ◌==◌, bit_or, slice_get, IfSome, nat_lt, max}
use Rattle.std.specs.List.{AllByRecursion}
use Rattle.std.proofs.lemmas.Nat.Bits.{bit_at_or, bit_at_lowest}
use Rattle.co_frame.specs.FrameContent.{FrameContent}
use Rattle.co_frame.specs.Heartbeats.{heartbeat_in}
use Rattle.co_frame.specs.declared.emergency.Emergency.{Emergency}
use Rattle.co_profile.specs.Keys.{emergency_inhibit_key}
use Rattle.co_dict.specs.Rows.{Contents, Rows, number_at}
use Rattle.co_dict.specs.Stores.{Description}
use Rattle.co_pdo.specs.Images.{fault_of}
use Rattle.co_pdo.specs.declared.data.PdoFault.{PdoFault}
use Rattle.co_pdo.specs.declared.data.PdoFault.TheVariants.{Short, OutOfLimits, Long}
use Rattle.co_node_parts.specs.EmergencyQueues.{EmergencyLog, Noted, queue_of, with_queued, with_sending}
use Rattle.co_node_parts.specs.NmtStates.{is_state}
use Rattle.co_node_parts.specs.declared.emergencies.EmergencyEvent.TheVariants.{Queue, Empty, Tick, Quiet}
use Rattle.co_node_parts.specs.declared.nmt_state.NodeState.TheVariants.{Operational, Stopped}
use Rattle.co_node_parts.specs.declared.rpdo_slots.KeptFrame.{KeptFrame}
use Rattle.co_node_model.specs.declared.address.Address.{Address}
use Rattle.co_node_model.specs.declared.address.Address.TheVariants.{ErrorControl, Nobody, Rpdo, Channel, Nmt, Sync}
use Rattle.co_node_model.specs.declared.device_error.DeviceError.{DeviceError}
use Rattle.co_node_model.specs.Addresses.{address_at}
use Rattle.co_node_model.specs.Device.{moment, with_frame}
use Rattle.co_node_model.specs.Emergencies.{all_raised, communication_bits, emergencies_of, emergency_log, error_register, no_manufacturer, raised, unsent_log}
use Rattle.co_node_model.specs.Heartbeats.{is_heartbeat, loss_errors}
use Rattle.co_node_model.specs.Inputs.{Applied, Framed, InputView, Ticked}
use Rattle.co_node_model.specs.Marks.{marked_rpdo, marked_sync, marked_tick}
use Rattle.co_node_model.specs.Moments.{Constants, History, Moment, contents_at, nothing_of}
use Rattle.co_node_model.specs.Nmt.{is_reset, state_at}
use Rattle.co_node_model.specs.Rpdos.{after_data, all_data_emergencies, arrival_errors, data_emergencies, data_errors, mapped_length, mapping_for, rpdo_errors, value_errors, with_data}
use Rattle.co_node_model.specs.Sync.{sync_errors, sync_length}
use Rattle.conode_compare_laws.specs.Identifiers.{IsNoEvent}

-- bit 0 of the register is set, and the device has no error codes of its own
pub record IsSound (e : Emergency) : Type 0 where
  pub register : e.register % 2 ≡ 1
  pub manufacturer : e.manufacturer ≡ no_manufacturer

abbrev pub AreSound : List Emergency → Type 0
AreSound emergencies = AllByRecursion IsSound emergencies

-- ---- lists

appended : {X : Type 0} (P : X → Type 0) (xs ys : List X) → AllByRecursion P xs → AllByRecursion P ys → AllByRecursion P (xs ++ ys)
appended P [] ys h g = g
appended P (x ∷ xs) ys h g = (h.0, appended P xs ys h.1 g)

dropped : {X : Type 0} (P : X → Type 0) (n : ℕ) (xs : List X) → AllByRecursion P xs → AllByRecursion P (drop n xs)
dropped P zero xs h = h
dropped P (suc n) [] h = tt
dropped P (suc n) (x ∷ xs) h = dropped P n xs h.1

pub front_sound : (queue : List Emergency) → AreSound queue → IfSome (slice_get queue 0) IsSound
front_sound [] h = tt
front_sound (e ∷ queue) h = h.0

-- ---- an error of communication

record IsCommunication (e : DeviceError) : Type 0 where
  bits : e.bits ≡ communication_bits
  manufacturer : e.manufacturer ≡ no_manufacturer

abbrev AreCommunication : List DeviceError → Type 0
AreCommunication errors = AllByRecursion IsCommunication errors

odd : (n : ℕ) → bit_or n communication_bits % 2 ≡ 1
odd n =
    let lowest : bit_or n communication_bits % 2 ≡ max (n % 2) 1 = sym (bit_at_lowest (bit_or n communication_bits)) ∙ bit_at_or n communication_bits 0 ∙ ap (λ x. max x 1) (bit_at_lowest n) in
    lowest ∙ omega arith

sound_of : (rows : Rows) (errors : List DeviceError) (c : Contents) → AreCommunication errors → AreSound (emergencies_of rows errors c)
sound_of rows [] c h = tt
sound_of rows (e ∷ errors) c h = (
  record {
    register = subst (λ bits. bit_or (error_register c) bits % 2 ≡ 1) (sym h.0.bits) (odd (error_register c));
    manufacturer = h.0.manufacturer;
  },
  sound_of rows errors (raised rows e c) h.1,
)

losses : (subs : List ℕ) → AreCommunication (loss_errors subs)
losses [] = tt
losses (sub ∷ subs) = (record { bits = refl; manufacturer = refl }, losses subs)

either_list : (b : Bool) (xs ys : List DeviceError) → AreCommunication xs → AreCommunication ys → AreCommunication (if b then xs else ys)
either_list true xs ys p q = p
either_list false xs ys p q = q

of_sync : (c : Contents) (frame : Option FrameContent) → AreCommunication (sync_errors c frame)
of_sync c None = tt
of_sync c (Some frame) = either_list (length frame.bytes == sync_length c) _ _ tt (record { bits = refl; manufacturer = refl }, tt)

of_rpdo : (d : Description) (c : Contents) (rpdo : Option KeptFrame) → AreCommunication (rpdo_errors d c rpdo)
of_rpdo d c None = tt
of_rpdo d c (Some rpdo) =
    either_list (nat_lt (length rpdo.frame.bytes) (mapped_length d c rpdo.number)) _ _ (record { bits = refl; manufacturer = refl }, tt)
    (either_list (nat_lt (mapped_length d c rpdo.number) (length rpdo.frame.bytes)) _ _ (record { bits = refl; manufacturer = refl }, tt) tt)

of_value : (fault : Option PdoFault) → AreCommunication (value_errors fault)
of_value None = tt
of_value (Some Short) = tt
of_value (Some OutOfLimits) = (record { bits = refl; manufacturer = refl }, tt)
of_value (Some Long) = tt

of_data : (d : Description) (c : Contents) (rpdos : List KeptFrame) → AreSound (all_data_emergencies d c rpdos)
of_data d c [] = tt
of_data d c (rpdo ∷ rpdos) =
    appended IsSound (data_emergencies d c rpdo) (all_data_emergencies d (after_data d c rpdo) rpdos)
    (sound_of d.rows (data_errors d c rpdo) (with_data d c rpdo) (of_value (fault_of d.rows (mapping_for d c rpdo) rpdo.frame.bytes)))
    (of_data d (after_data d c rpdo) rpdos)

-- ---- a log

queued_sound : (es : List Emergency) (log : EmergencyLog) → AreSound es → AreSound (queue_of log) → AreSound (queue_of (with_queued es log))
queued_sound [] log h g = g
queued_sound (e ∷ es) log h g =
    queued_sound es (Noted (Queue e) ∷ log) h.1
    (dropped IsSound (length (queue_of log ++ e ∷ []) - 8) (queue_of log ++ e ∷ []) (appended IsSound (queue_of log) (e ∷ []) g (h.0, tt)))

noted_sound : (reset tick : Bool) (log : EmergencyLog) → AreSound (queue_of log) → AreSound (queue_of (Noted (if reset then Empty else (if tick then Tick else Quiet)) ∷ log))
noted_sound true tick log h = tt
noted_sound false true log h = h
noted_sound false false log h = h

sent_sound : (e : Option Emergency) (inhibit : ℕ) (log : EmergencyLog) → AreSound (queue_of log) → AreSound (queue_of (with_sending e inhibit log))
sent_sound None inhibit log h = h
sent_sound (Some e) inhibit log h = dropped IsSound 1 (queue_of log) h

-- ---- a frame and a tick: the application raises nothing

either_empty : (b : Bool) (x y : Moment) → x.raised_by_app ≡ [] → y.raised_by_app ≡ [] → (if b then x else y).raised_by_app ≡ []
either_empty true x y p q = p
either_empty false x y p q = q

frame_raises : (k : Constants) (history : History) (address : Address) (frame : FrameContent) (input : InputView) (c : Contents) → (with_frame k history address frame (nothing_of input c)).raised_by_app ≡ []
frame_raises k history Nmt frame input c = refl
frame_raises k history Sync frame input c = either_empty (is_state Stopped (state_at history)) _ _ refl refl
frame_raises k history (Channel j) frame input c = either_empty (is_state Stopped (state_at history)) _ _ refl refl
frame_raises k history (Rpdo n) frame input c = either_empty (is_state Operational (state_at history)) _ _ refl refl
frame_raises k history (ErrorControl node) frame input c = either_empty (is_heartbeat (heartbeat_in frame.bytes)) _ _ refl refl
frame_raises k history Nobody frame input c = refl

app_raises : (k : Constants) (history : History) (input : InputView) → IsNoEvent input → (moment k history input).raised_by_app ≡ []
app_raises k history (Framed frame) h = frame_raises k history (address_at k history frame.id) frame (Framed frame) (contents_at k history)
app_raises k history Ticked h = refl
app_raises k history (Applied event) h = absurd h

-- ---- over all inputs

pub unsent_sound : (k : Constants) (history : History) (input : InputView) → IsNoEvent input → AreSound (queue_of (emergency_log history))
    → AreSound (queue_of (unsent_log (moment k history input) (emergency_log history)))
unsent_sound k history input h g =
    let m : Moment = moment k history input in
    let d : Description = k.description in
    let log : EmergencyLog = emergency_log history in
    let arrived : Contents = all_raised d.rows (arrival_errors d m) m.watched in
    noted_sound (is_reset m.mark) (marked_tick m.mark) (with_queued m.raised_by_pdo (with_queued m.raised_by_loss (with_queued m.raised_by_app log)))
    (queued_sound m.raised_by_pdo (with_queued m.raised_by_loss (with_queued m.raised_by_app log))
    (appended IsSound (emergencies_of d.rows (arrival_errors d m) m.watched) (all_data_emergencies d arrived m.taken)
    (sound_of d.rows (arrival_errors d m) m.watched (appended IsCommunication (sync_errors m.watched (marked_sync m.mark)) (rpdo_errors d m.watched (marked_rpdo m.mark)) (of_sync m.watched (marked_sync m.mark)) (of_rpdo d m.watched (marked_rpdo m.mark))))
    (of_data d arrived m.taken))
    (queued_sound m.raised_by_loss (with_queued m.raised_by_app log) (sound_of d.rows (loss_errors m.lost) m.received (losses m.lost))
    (subst (λ es. AreSound (queue_of (with_queued es log))) (sym (app_raises k history input h)) g)))

pub log_sound : (k : Constants) (history : History) (input : InputView) → IsNoEvent input → AreSound (queue_of (emergency_log history)) → AreSound (queue_of (emergency_log (moment k history input ∷ history)))
log_sound k history input h g =
    let m : Moment = moment k history input in
    sent_sound m.emergency (number_at m.contents emergency_inhibit_key) (unsent_log m (emergency_log history)) (unsent_sound k history input h g)

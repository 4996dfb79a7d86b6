-- How many frames an input gives that is neither SDO, SYNC, a tick nor an application event.
use Rattle.std.proofs.Common.{◌≡◌, ℕ, ◌+◌, ◌≤◌, Bool, true, false, cond, List, [], ◌∷◌, ◌++◌, length, Option, Some, None, refl, arith}
use Rattle.std.specs.Prelude.{◌||◌, if◌then◌else◌}
use Rattle.co_frame.specs.FrameContent.{FrameContent}
use Rattle.co_frame.specs.Heartbeats.{heartbeat_in}
use Rattle.co_frame.specs.declared.emergency.Emergency.{Emergency}
use Rattle.co_frame.specs.declared.heartbeat.Heartbeat.{Heartbeat}
use Rattle.co_dict.specs.Rows.{Contents}
use Rattle.co_dict.specs.Stores.{Description}
use Rattle.co_pdo.specs.Schedules.{History as Schedule}
use Rattle.co_node_parts.specs.declared.nmt_state.NodeState.{NodeState}
use Rattle.co_node_parts.specs.declared.nmt_state.NodeState.TheVariants.{Operational}
use Rattle.co_node_parts.specs.NmtStates.{is_state}
use Rattle.co_node_parts.specs.Producers.{ProducerLog, is_heartbeat_due}
use Rattle.co_node_parts.specs.EmergencyQueues.{EmergencyLog, Noted, emergency_due}
use Rattle.co_node_model.specs.declared.address.Address.{Address}
use Rattle.co_node_model.specs.declared.address.Address.TheVariants.{Nmt, Sync, Channel, Rpdo, ErrorControl, Nobody}
use Rattle.co_node_model.specs.declared.mark.Mark.{Mark}
use Rattle.co_node_model.specs.declared.turn.Turn.TheVariants.{Quiet, StartAll}
use Rattle.co_node_model.specs.Inputs.{InputView, Inputs, Framed}
use Rattle.co_node_model.specs.Keys.{is_set}
use Rattle.co_profile.specs.Keys.{producer_key}
use Rattle.co_node_model.specs.Nmt.{is_reset, state_at}
use Rattle.co_node_model.specs.Emergencies.{emergency_event, emergency_frames}
use Rattle.co_node_model.specs.Heartbeats.{producer_event, life_of, producer_log, is_heartbeat, life_frames}
use Rattle.co_node_model.specs.Tpdos.{turn_with, schedule_log, due_at}
use Rattle.co_node_model.specs.Moments.{Constants, Moment, History, contents_at, nothing_of}
use Rattle.co_node_model.specs.Device.{with_frame, moment, frames, moments, prescribed, frame_bound, bound_at}
use Rattle.co_node_model.specs.Addresses.{address_at}
use Rattle.co_node_model.specs.Marks.{marked_event, marked_key, marked_sync, marked_tick}
use Rattle.co_node_laws.specs.Kinds.{is_unanswered}
use Rattle.co_node_laws.proofs.MarkLemmas.{command_event, command_key, command_sync, command_tick}

-- of an input: no entry set, no tick, no SYNC, no event, nothing on SDO
record IsPlain (m : Moment) : Type 0 where
  set : marked_key m.mark ≡ None
  ticked : marked_tick m.mark ≡ false
  sync : marked_sync m.mark ≡ None
  asked : marked_event m.mark ≡ None
  exchange : m.exchange ≡ None
  timed_out : m.timed_out ≡ None

plain_nothing : (input : InputView) (c : Contents) → IsPlain (nothing_of input c)
plain_nothing input c = record { set = refl; ticked = refl; sync = refl; asked = refl; exchange = refl; timed_out = refl }

plain_either : (b : Bool) (x y : Moment) → IsPlain x → IsPlain y → IsPlain (if b then x else y)
plain_either true x y p q = p
plain_either false x y p q = q

plain_frame : (k : Constants) (history : History) (address : Address) (frame : FrameContent) (input : InputView) (c : Contents) → is_unanswered address ≡ true → IsPlain (with_frame k history address frame (nothing_of input c))
plain_frame k history Nmt frame input c is =
    record { set = command_key _; ticked = command_tick _; sync = command_sync _; asked = command_event _; exchange = refl; timed_out = refl }
plain_frame k history Sync frame input c is = absurd (cc)
plain_frame k history (Channel j) frame input c is = absurd (cc)
plain_frame k history (Rpdo n) frame input c is = plain_either (is_state Operational (state_at history)) _ _ (record { set = refl; ticked = refl; sync = refl; asked = refl; exchange = refl; timed_out = refl }) (plain_nothing input c)
plain_frame k history (ErrorControl node) frame input c is = plain_either (is_heartbeat (heartbeat_in frame.bytes)) _ _ (record { set = refl; ticked = refl; sync = refl; asked = refl; exchange = refl; timed_out = refl }) (plain_nothing input c)
plain_frame k history Nobody frame input c is = plain_nothing input c

-- ---- no TPDO

no_turn : (d : Description) (mark : Mark) (c : Contents) (log : Schedule) (outside entering : Bool) → marked_key mark ≡ None → marked_tick mark ≡ false → marked_sync mark ≡ None → marked_event mark ≡ None
    → due_at d (cond outside Quiet (cond entering StartAll (turn_with (marked_key mark) mark))) c log ≡ []
no_turn d mark c log true entering set ticked sync asked = refl
no_turn d mark c log false true set ticked sync asked = refl
no_turn d mark c log false false set ticked sync asked = rw (set, ticked, sync, asked) refl

-- ---- an emergency or a life sign

pub none_after_reset : (may : Bool) (mark : Mark) (log : EmergencyLog) → is_reset mark ≡ true → emergency_due may (Noted (emergency_event mark) ∷ log) ≡ None
none_after_reset true mark log is = rw is refl
none_after_reset false mark log is = refl

pub no_heartbeat_by : (begins : Bool) (mark : Mark) (c : Contents) (log : ProducerLog) → is_reset mark || is_set (marked_key mark) producer_key ≡ begins → marked_tick mark ≡ false → is_heartbeat_due (producer_event mark c) log ≡ false
no_heartbeat_by true mark c log is ticked = rw is refl
no_heartbeat_by false mark c log is ticked = rw (is, ticked) refl

pub emergency_alone : (node : ℕ) (c : Contents) (emergency : Option Emergency) (life : Option Heartbeat) → life ≡ None → length (emergency_frames c emergency) + length (life_frames node life) ≤ 1
emergency_alone node c None life is = rw is (omega arith)
emergency_alone node c (Some emergency) life is = rw is (omega arith)

pub no_life : (mark : Mark) (after : NodeState) (due : Bool) → is_reset mark ≡ false → due ≡ false → life_of mark after due ≡ None
no_life mark after due is off = rw (is, off) refl

pub one_by : (node : ℕ) (c : Contents) (mark : Mark) (may due : Bool) (after : NodeState) (log : EmergencyLog) (reset : Bool) → is_reset mark ≡ reset → due ≡ false
    → length (emergency_frames c (emergency_due may (Noted (emergency_event mark) ∷ log))) + length (life_frames node (life_of mark after due)) ≤ 1
one_by node c mark may due after log true is off = rw (none_after_reset may mark log is, is) (omega arith)
one_by node c mark may due after log false is off = emergency_alone node c (emergency_due may (Noted (emergency_event mark) ∷ log)) (life_of mark after due) (no_life mark after due is off)

-- ---- together

pub joined : {X : Type 0} (xs ys : List X) → length (xs ++ ys) ≡ length xs + length ys
joined [] ys = omega arith
joined (x ∷ xs) ys = omega (arith, joined xs ys)

pub joined_twice : {X : Type 0} (xs ys zs : List X) → length (xs ++ ys ++ zs) ≡ length xs + length ys + length zs
joined_twice xs ys zs = omega (arith, joined (xs ++ ys) zs, joined xs ys)

at_most_one : {X : Type 0} (xs ys : List X) → length xs + length ys ≤ 1 → length (xs ++ ys ++ []) ≤ 1
at_most_one xs ys few = omega (arith, joined_twice xs ys [], few)

one_frame : (k : Constants) (m : Moment) → m.exchange ≡ None → m.timed_out ≡ None → m.due ≡ []
    → length (emergency_frames m.contents m.emergency) + length (life_frames k.description.node m.life) ≤ 1 → length (frames k m) ≤ 1
one_frame k m exchange timed_out due few =
    rw (exchange, timed_out, due) (at_most_one (emergency_frames m.contents m.emergency) (life_frames k.description.node m.life) few)

by_moment : (k : Constants) (history : History) (input : InputView) → IsPlain (moment k history input) → length (frames k (moment k history input)) ≤ 1
by_moment k history input plain =
    let m = moment k history input in
    one_frame k m plain.exchange plain.timed_out
    (no_turn k.description m.mark m.contents (schedule_log k history) _ _ plain.set plain.ticked plain.sync plain.asked)
    (one_by k.description.node m.contents m.mark _ _ _ _ (is_reset m.mark) refl
    (no_heartbeat_by (is_reset m.mark || is_set (marked_key m.mark) producer_key) m.mark m.contents (producer_log k history) refl plain.ticked))

bound_of : (address : Address) (tpdos : ℕ) → is_unanswered address ≡ true → bound_at address tpdos ≡ 1
bound_of Nmt tpdos is = refl
bound_of Sync tpdos is = absurd (cc)
bound_of (Channel j) tpdos is = absurd (cc)
bound_of (Rpdo n) tpdos is = refl
bound_of (ErrorControl node) tpdos is = refl
bound_of Nobody tpdos is = refl

pub few_unanswered : (k : Constants) (inputs : Inputs) (frame : FrameContent) → is_unanswered (address_at k (moments k inputs) frame.id) ≡ true → length (prescribed k inputs (Framed frame)) ≤ frame_bound k inputs (Framed frame)
few_unanswered k inputs frame is =
    let history = moments k inputs in
    let address = address_at k history frame.id in
    let plain : IsPlain (moment k history (Framed frame)) =
    let p = plain_frame k history address frame (Framed frame) (contents_at k history) is in
    record { set = p.set; ticked = p.ticked; sync = p.sync; asked = p.asked; exchange = p.exchange; timed_out = p.timed_out } in
    rw (bound_of address _ is) (by_moment k history (Framed frame) plain)

-- No input gives more frames than its bound.
use Rattle.std.proofs.Common.{◌≡◌, ℕ, ◌+◌, ◌-◌, ◌≤◌, Bool, true, false, cond, List, [], ◌∷◌, ◌++◌, length, Option, Some, None, refl, ap, arith}
use Rattle.std.specs.Prelude.{max, ◌&&◌, ◌||◌, not, is_some, map, option_map, if◌then◌else◌}
use Rattle.std.specs.List.{filter}
use Rattle.std.proofs.lemmas.List.{length-map}
use Rattle.co_value.specs.declared.key.Key.{Key}
use Rattle.co_frame.specs.FrameContent.{FrameContent}
use Rattle.co_frame.specs.declared.emergency.Emergency.{Emergency}
use Rattle.co_frame.specs.Heartbeats.{heartbeat_in}
use Rattle.co_frame.specs.declared.heartbeat.Heartbeat.{Heartbeat}
use Rattle.co_profile.specs.Indices.{is_within, tpdo_communication}
use Rattle.co_dict.specs.CobIds.{is_valid}
use Rattle.co_dict.specs.Rows.{Contents, number_at}
use Rattle.co_dict.specs.Stores.{Description, IsDictionary}
use Rattle.co_sdo.specs.Log.{Log}
use Rattle.co_sdo.specs.Log as sdo
use Rattle.co_sdo.specs.Channels.{ChannelSettings}
use Rattle.co_sdo.specs.Events.{ChannelEvent, frames_at, time_out_on, expired_in, with_each}
use Rattle.co_pdo.specs.declared.settings.Settings.{Settings}
use Rattle.co_pdo.specs.declared.tpdo.Part.{Part}
use Rattle.co_pdo.specs.declared.tpdo.Occasion.{Occasion}
use Rattle.co_pdo.specs.declared.tpdo.Occasion.TheVariants as occasion
use Rattle.co_pdo.specs.Log.{Log as TpdoLog}
use Rattle.co_pdo.specs.Due.{is_due}
use Rattle.co_pdo.specs.Tpdos.{tpdo_key, tpdo_numbers, has_tpdo, is_active, settings_of}
use Rattle.co_pdo.specs.Schedules.{History as Schedule, log_of, is_among, sync_with, is_tpdo_due}
use Rattle.co_node_parts.specs.declared.nmt_state.NodeState.TheVariants.{Operational, Stopped}
use Rattle.co_node_parts.specs.NmtStates.{is_state}
use Rattle.co_node_parts.specs.EmergencyQueues.{EmergencyLog, emergency_due}
use Rattle.co_node_model.specs.declared.address.Address.{Address}
use Rattle.co_node_model.specs.declared.address.Address.TheVariants.{Nmt, Sync, Channel, Rpdo, ErrorControl, Nobody}
use Rattle.co_node_model.specs.declared.mark.Mark.{Mark}
use Rattle.co_node_model.specs.declared.turn.Turn.{Turn}
use Rattle.co_node_model.specs.declared.turn.Turn.TheVariants as turn
use Rattle.co_node_model.specs.Tpdos.{numbers_asked, part_started, start_turn, turn_with, schedule_log, due_at, tpdo_frame, tpdo_count}
use Rattle.co_node_model.specs.Inputs.{InputView, Inputs, AppView, Framed, Ticked, Applied, Written, EventOn, ChangedAt, Raised, Cleared}
use Rattle.co_node_model.specs.AppEvents.{event_refusal, with_app_event}
use Rattle.co_node_model.specs.Keys.{is_set}
use Rattle.co_profile.specs.Keys.{emergency_key, producer_key}
use Rattle.co_node_model.specs.Nmt.{is_reset, state_at}
use Rattle.co_node_model.specs.Moments.{Constants, Moment, History, channels, contents_at, nothing_of}
use Rattle.co_node_model.specs.Sdo.{channel_logs}
use Rattle.co_node_model.specs.Emergencies.{unsent_log, emergency_log, emergency_frames}
use Rattle.co_node_model.specs.Heartbeats.{producer_log, is_heartbeat, life_frames}
use Rattle.co_node_model.specs.Device.{with_frame, moment, frames, moments, prescribed, frame_bound, bound_at}
use Rattle.co_node_model.specs.Addresses.{address_at}
use Rattle.co_node_model.specs.Marks.{marked_event, marked_key, marked_sync, marked_tick}
use Rattle.co_node_laws.specs.Kinds.{is_unanswered}
use Rattle.co_node_laws.specs.Lengths.{HasParts}
use Rattle.co_node_laws.proofs.FewExchanged.{few_exchanged}
use Rattle.co_node_laws.proofs.Counts.{few_unanswered, one_by, joined, joined_twice, no_heartbeat_by}
use Rattle.co_node_laws.proofs.MarkLemmas.{command_tick, written_event, written_sync, written_tick}

-- ---- the TPDOs that are due are at most all that there are

either : {X : Type 0} (a b : Bool) (x : X) (ps qs : List X) → (b ≡ false → a ≡ false) → length ps ≤ length qs → length (cond a (x ∷ ps) ps) ≤ length (cond b (x ∷ qs) qs)
either true true x ps qs each few = omega (arith, few)
either true false x ps qs each few = absurd (let no : true ≡ false = each refl in cc)
either false true x ps qs each few = omega (arith, few)
either false false x ps qs each few = few

fewer : {X : Type 0} (p q : X → Bool) → ((x : X) → q x ≡ false → p x ≡ false) → (xs : List X) → length (filter p xs) ≤ length (filter q xs)
fewer p q each [] = omega arith
fewer p q each (x ∷ xs) = either (p x) (q x) x (filter p xs) (filter q xs) (each x) (fewer p q each xs)

none_of : {X Y : Type 0} (o : Option X) (r : Option Y) → is_some o ≡ is_some r → is_some r ≡ false → o ≡ None
none_of None r e off = refl
none_of (Some x) r e off = absurd (cc)

inactive : (d : Description) (c : Contents) (n : ℕ) → IsDictionary d c → has_tpdo d.rows n ≡ false → is_active c n ≡ false
inactive d c n lawful off = rw (none_of (c (tpdo_key n 1)) (d.rows (tpdo_key n 1)) (lawful.filled.present (tpdo_key n 1)) off) refl

never_due : (s : Settings) (log : TpdoLog) (o : Occasion) → s.is_active ≡ false → is_due s log o ≡ false
never_due s log (occasion.Sync overflow counter) off = rw off refl
never_due s log occasion.Event off = rw off refl
never_due s log occasion.Tick off = rw off refl

not_both : (a b : Bool) → b ≡ false → a && b ≡ false
not_both true b off = off
not_both false b off = refl

few_due : (d : Description) (c : Contents) (t : Turn) (log : Schedule) → IsDictionary d c → length (due_at d t c log) ≤ tpdo_count d.rows
few_due d c turn.Quiet log lawful = omega arith
few_due d c turn.StartAll log lawful = omega arith
few_due d c (turn.Start n part) log lawful = omega arith
few_due d c (turn.Sync counter) log lawful = fewer _ (has_tpdo d.rows) (λ n off. never_due (settings_of c n) (log_of n log) (sync_with counter c) (inactive d c n lawful off)) tpdo_numbers
few_due d c (turn.Asked asked) log lawful =
    fewer _ (has_tpdo d.rows) (λ n off. not_both (is_among n (numbers_asked d c asked)) (is_tpdo_due c log occasion.Event n) (never_due (settings_of c n) (log_of n log) occasion.Event (inactive d c n lawful off))) tpdo_numbers
few_due d c turn.Tick log lawful = fewer _ (has_tpdo d.rows) (λ n off. never_due (settings_of c n) (log_of n log) occasion.Tick (inactive d c n lawful off)) tpdo_numbers

-- ---- an input that is no tick

record IsUnticked (m : Moment) : Type 0 where
  ticked : marked_tick m.mark ≡ false
  timed_out : m.timed_out ≡ None

unticked_either : (b : Bool) (x y : Moment) → IsUnticked x → IsUnticked y → IsUnticked (if b then x else y)
unticked_either true x y p q = p
unticked_either false x y p q = q

unticked_frame : (k : Constants) (history : History) (address : Address) (frame : FrameContent) (input : InputView) (c : Contents) → IsUnticked (with_frame k history address frame (nothing_of input c))
unticked_frame k history Nmt frame input c = record { ticked = command_tick _; timed_out = refl }
unticked_frame k history Sync frame input c = unticked_either (is_state Stopped (state_at history)) _ _ (record { ticked = refl; timed_out = refl }) (record { ticked = refl; timed_out = refl })
unticked_frame k history (Channel j) frame input c = unticked_either (is_state Stopped (state_at history)) _ _ (record { ticked = refl; timed_out = refl }) (record { ticked = written_tick _; timed_out = refl })
unticked_frame k history (Rpdo n) frame input c = unticked_either (is_state Operational (state_at history)) _ _ (record { ticked = refl; timed_out = refl }) (record { ticked = refl; timed_out = refl })
unticked_frame k history (ErrorControl node) frame input c = unticked_either (is_heartbeat (heartbeat_in frame.bytes)) _ _ (record { ticked = refl; timed_out = refl }) (record { ticked = refl; timed_out = refl })
unticked_frame k history Nobody frame input c = record { ticked = refl; timed_out = refl }

unticked_event : (d : Description) (event : AppView) (refusal : Option ℕ) (input : InputView) (c : Contents) → IsUnticked (with_app_event d event refusal (nothing_of input c))
unticked_event d event (Some code) input c = record { ticked = refl; timed_out = refl }
unticked_event d (Written key bytes) None input c = record { ticked = refl; timed_out = refl }
unticked_event d (EventOn n) None input c = record { ticked = refl; timed_out = refl }
unticked_event d (ChangedAt key) None input c = record { ticked = refl; timed_out = refl }
unticked_event d (Raised code bits manufacturer) None input c = record { ticked = refl; timed_out = refl }
unticked_event d (Cleared bits) None input c = record { ticked = refl; timed_out = refl }

four : {X : Type 0} (ws xs ys zs : List X) → length (ws ++ xs ++ ys ++ zs) ≡ length ws + length xs + length ys + length zs
four ws xs ys zs = omega (arith, joined (ws ++ xs ++ ys) zs, joined_twice ws xs ys)

one_besides : {X : Type 0} (ws xs ys zs : List X) (n : ℕ) → length zs ≡ n → length xs + length ys ≤ 1 → length (ws ++ xs ++ ys ++ zs) ≤ length ws + n + 1
one_besides ws xs ys zs n e few = omega (arith, four ws xs ys zs, e, few)

nil_right : {X : Type 0} (xs : List X) → xs ++ [] ≡ xs
nil_right [] = refl
nil_right (x ∷ xs) = ap (λ ys. x ∷ ys) (nil_right xs)

with_answers : (k : Constants) (m : Moment) → m.timed_out ≡ None → length (emergency_frames m.contents m.emergency) + length (life_frames k.description.node m.life) ≤ 1
    → length (frames k m) ≤ length (frames_at m.exchange) + length m.due + 1
with_answers k m timed_out few =
    rw (timed_out, nil_right (frames_at m.exchange))
    (one_besides (frames_at m.exchange) (emergency_frames m.contents m.emergency) (life_frames k.description.node m.life) (map (tpdo_frame k.description m.contents) m.due) (length m.due) (length-map m.due (tpdo_frame k.description m.contents)) few)

by_moment : (k : Constants) (history : History) (input : InputView) → IsUnticked (moment k history input) → length (frames k (moment k history input)) ≤ length (frames_at (moment k history input).exchange) + length (moment k history input).due + 1
by_moment k history input plain =
    let m = moment k history input in
    with_answers k m plain.timed_out
    (one_by k.description.node m.contents m.mark _ _ _ _ (is_reset m.mark) refl
    (no_heartbeat_by (is_reset m.mark || is_set (marked_key m.mark) producer_key) m.mark m.contents (producer_log k history) refl plain.ticked))

-- ---- a tick

both : (a b : Bool) → a && b && not true ≡ false
both true true = refl
both true false = refl
both false true = refl
both false false = refl

emergency_without : (c : Contents) (emergency : Option Emergency) → 0 + length (emergency_frames c emergency) ≤ 1
emergency_without c None = omega arith
emergency_without c (Some emergency) = omega arith

one_aborted : (c : Contents) (a b : Bool) (log : EmergencyLog) (logs : ℕ → Log) (expired : Option ChannelSettings) (o : Option ChannelEvent) → o ≡ option_map (λ s. time_out_on s (logs s.number)) expired
    → length (frames_at o) + length (emergency_frames c (emergency_due (a && b && not (is_some o)) log)) ≤ 1
one_aborted c a b log logs None o is = rw is (emergency_without c (emergency_due (a && b && true) log))
one_aborted c a b log logs (Some s) o is = rw (is, both a b) (omega arith)

at_most_one : (node : ℕ) (life : Option Heartbeat) → length (life_frames node life) ≤ 1
at_most_one node None = omega arith
at_most_one node (Some life) = omega arith

two_besides : {X : Type 0} (ws xs ys zs : List X) (n : ℕ) → length zs ≡ n → length ws + length xs ≤ 1 → length ys ≤ 1 → length (ws ++ xs ++ ys ++ zs) ≤ n + 2
two_besides ws xs ys zs n e few one = omega (arith, four ws xs ys zs, e, few, one)

with_abort : (k : Constants) (m : Moment) → m.exchange ≡ None → length (frames_at m.timed_out) + length (emergency_frames m.contents m.emergency) ≤ 1
    → length (frames k m) ≤ length m.due + 2
with_abort k m exchange few =
    rw exchange
    (two_besides (frames_at m.timed_out) (emergency_frames m.contents m.emergency) (life_frames k.description.node m.life) (map (tpdo_frame k.description m.contents) m.due) (length m.due) (length-map m.due (tpdo_frame k.description m.contents)) few (at_most_one k.description.node m.life))

by_tick : (k : Constants) (history : History) → length (frames k (moment k history Ticked)) ≤ length (moment k history Ticked).due + 2
by_tick k history =
    let m = moment k history Ticked in
    with_abort k m refl (one_aborted m.contents (not (is_state Stopped (state_at (m ∷ history)))) (is_valid (number_at m.contents emergency_key)) (unsent_log m (emergency_log history)) (with_each sdo.Ticked (channel_logs history)) (expired_in (channels k) (with_each sdo.Ticked (channel_logs history))) m.timed_out refl)

-- ---- frames that SYNC or an SDO channel takes

abbrev is_channel : Address → Bool
is_channel (Channel j) = true
is_channel address = false

no_exchange_either : (b : Bool) (x y : Moment) → x.exchange ≡ None → y.exchange ≡ None → (if b then x else y).exchange ≡ None
no_exchange_either true x y p q = p
no_exchange_either false x y p q = q

no_exchange : (k : Constants) (history : History) (address : Address) (frame : FrameContent) (input : InputView) (c : Contents) → is_channel address ≡ false → (with_frame k history address frame (nothing_of input c)).exchange ≡ None
no_exchange k history Nmt frame input c is = refl
no_exchange k history Sync frame input c is = no_exchange_either (is_state Stopped (state_at history)) _ _ refl refl
no_exchange k history (Channel j) frame input c is = absurd (cc)
no_exchange k history (Rpdo n) frame input c is = no_exchange_either (is_state Operational (state_at history)) _ _ refl refl
no_exchange k history (ErrorControl node) frame input c is = no_exchange_either (is_heartbeat (heartbeat_in frame.bytes)) _ _ refl refl
no_exchange k history Nobody frame input c is = refl

no_exchange_event : (d : Description) (event : AppView) (refusal : Option ℕ) (input : InputView) (c : Contents) → (with_app_event d event refusal (nothing_of input c)).exchange ≡ None
no_exchange_event d event (Some code) input c = refl
no_exchange_event d event None input c = refl

record IsRequest (m : Moment) : Type 0 where
  ticked : marked_tick m.mark ≡ false
  sync : marked_sync m.mark ≡ None
  asked : marked_event m.mark ≡ None

request_either : (b : Bool) (x y : Moment) → IsRequest x → IsRequest y → IsRequest (if b then x else y)
request_either true x y p q = p
request_either false x y p q = q

request_frame : (k : Constants) (history : History) (address : Address) (frame : FrameContent) (input : InputView) (c : Contents) → is_channel address ≡ true → IsRequest (with_frame k history address frame (nothing_of input c))
request_frame k history Nmt frame input c is = absurd (cc)
request_frame k history Sync frame input c is = absurd (cc)
request_frame k history (Channel j) frame input c is = request_either (is_state Stopped (state_at history)) _ _ (record { ticked = refl; sync = refl; asked = refl })
    (record { ticked = written_tick _; sync = written_sync _; asked = written_event _ })
request_frame k history (Rpdo n) frame input c is = absurd (cc)
request_frame k history (ErrorControl node) frame input c is = absurd (cc)
request_frame k history Nobody frame input c is = absurd (cc)

none_started : (d : Description) (c : Contents) (log : Schedule) (within : Bool) (n : ℕ) (part : Option Part) → due_at d (cond within (start_turn n part) turn.Quiet) c log ≡ []
none_started d c log false n part = refl
none_started d c log true n None = refl
none_started d c log true n (Some part) = refl

no_turn : (d : Description) (mark : Mark) (c : Contents) (log : Schedule) (outside entering : Bool) (set : Option Key) → marked_tick mark ≡ false → marked_sync mark ≡ None → marked_event mark ≡ None
    → due_at d (cond outside turn.Quiet (cond entering turn.StartAll (turn_with set mark))) c log ≡ []
no_turn d mark c log true entering set ticked sync asked = refl
no_turn d mark c log false true set ticked sync asked = refl
no_turn d mark c log false false None ticked sync asked = rw (ticked, sync, asked) refl
no_turn d mark c log false false (Some key) ticked sync asked = none_started d c log (is_within tpdo_communication key.index) (key.index - 0x1800) (part_started key.sub)

-- ---- sums

without_answers : {X : Type 0} (answers : List X) (total due tpdos : ℕ) → answers ≡ [] → total ≤ length answers + due + 1 → due ≤ tpdos → total ≤ tpdos + 1
without_answers answers total due tpdos is few most =
    let none : length answers ≡ 0 = ap length is in
    omega (arith, none, few, most)

without_due : {X : Type 0} (answers : ℕ) (total : ℕ) (due : List X) → due ≡ [] → total ≤ answers + length due + 1 → answers ≤ 127 → total ≤ 128
without_due answers total due is few most =
    let none : length due ≡ 0 = ap length is in
    omega (arith, none, few, most)

-- ---- all inputs

unticked_input : (k : Constants) (history : History) (frame : FrameContent) → IsUnticked (moment k history (Framed frame))
unticked_input k history frame =
    let p = unticked_frame k history (address_at k history frame.id) frame (Framed frame) (contents_at k history) in
    record { ticked = p.ticked; timed_out = p.timed_out }

by_address : (k : Constants) (inputs : Inputs) (frame : FrameContent) (address : Address) → address_at k (moments k inputs) frame.id ≡ address → HasParts k inputs (Framed frame)
    → length (prescribed k inputs (Framed frame)) ≤ frame_bound k inputs (Framed frame)
by_address k inputs frame Nmt is parts = few_unanswered k inputs frame (ap is_unanswered is)
by_address k inputs frame (Rpdo n) is parts = few_unanswered k inputs frame (ap is_unanswered is)
by_address k inputs frame (ErrorControl node) is parts = few_unanswered k inputs frame (ap is_unanswered is)
by_address k inputs frame Nobody is parts = few_unanswered k inputs frame (ap is_unanswered is)
by_address k inputs frame Sync is parts =
    let history = moments k inputs in
    let m = moment k history (Framed frame) in
    let none = no_exchange k history (address_at k history frame.id) frame (Framed frame) (contents_at k history) (ap is_channel is) in
    rw (ap (λ a. bound_at a (tpdo_count k.description.rows)) is)
    (without_answers (frames_at m.exchange) (length (frames k m)) (length m.due) (tpdo_count k.description.rows) (ap frames_at none) (by_moment k history (Framed frame) (unticked_input k history frame))
    (few_due k.description m.contents _ (schedule_log k history) parts.dictionary))
by_address k inputs frame (Channel j) is parts =
    let history = moments k inputs in
    let m = moment k history (Framed frame) in
    let p = request_frame k history (address_at k history frame.id) frame (Framed frame) (contents_at k history) (ap is_channel is) in
    rw (ap (λ a. bound_at a (tpdo_count k.description.rows)) is)
    (without_due (length (frames_at m.exchange)) (length (frames k m)) m.due (no_turn k.description m.mark m.contents (schedule_log k history) _ _ (marked_key m.mark) p.ticked p.sync p.asked)
    (by_moment k history (Framed frame) (unticked_input k history frame)) (few_exchanged k inputs (Framed frame)))

two_more : (total due tpdos : ℕ) → total ≤ due + 2 → due ≤ tpdos → total ≤ tpdos + 2
two_more total due tpdos few most = omega (arith, few, most)

pub few : (k : Constants) (inputs : Inputs) (input : InputView) → HasParts k inputs input → length (prescribed k inputs input) ≤ frame_bound k inputs input
few k inputs (Framed frame) parts = by_address k inputs frame (address_at k (moments k inputs) frame.id) refl parts
few k inputs Ticked parts =
    let history = moments k inputs in
    let m = moment k history Ticked in
    two_more (length (frames k m)) (length m.due) (tpdo_count k.description.rows) (by_tick k history) (few_due k.description m.contents _ (schedule_log k history) parts.dictionary)
few k inputs (Applied event) parts =
    let history = moments k inputs in
    let m = moment k history (Applied event) in
    let refusal = event_refusal k.description (contents_at k history) event in
    let p = unticked_event k.description event refusal (Applied event) (contents_at k history) in
    without_answers (frames_at m.exchange) (length (frames k m)) (length m.due) (tpdo_count k.description.rows) (ap frames_at (no_exchange_event k.description event refusal (Applied event) (contents_at k history)))
    (by_moment k history (Applied event) (record { ticked = p.ticked; timed_out = p.timed_out }))
    (few_due k.description m.contents _ (schedule_log k history) parts.dictionary)

-- ---- whatever the input

bound_within : (address : Address) (tpdos : ℕ) → bound_at address tpdos ≤ max 127 tpdos + 2
bound_within Nmt tpdos = omega arith
bound_within Sync tpdos = omega arith
bound_within (Channel j) tpdos = omega arith
bound_within (Rpdo n) tpdos = omega arith
bound_within (ErrorControl node) tpdos = omega arith
bound_within Nobody tpdos = omega arith

pub greatest : (k : Constants) (inputs : Inputs) (input : InputView) → frame_bound k inputs input ≤ max 127 (tpdo_count k.description.rows) + 2
greatest k inputs (Framed frame) = bound_within (address_at k (moments k inputs) frame.id) (tpdo_count k.description.rows)
greatest k inputs Ticked = omega arith
greatest k inputs (Applied event) = omega arith

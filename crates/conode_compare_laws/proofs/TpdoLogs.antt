-- The log of a TPDO at an input: how long ago its sendings were, and whether it is sent.
use Rattle.std.proofs.Common.{◌≡◌, ℕ, ◌+◌, ◌-◌, ◌%◌, ◌<◌, Bool, true, false, List, [], ◌∷◌, ◌++◌, map, refl, ap, sym, ◌∙◌, arith}
use Rattle.std.specs.Prelude.{if◌then◌else◌, ◌==◌, ◌&&◌, not, nat_le}
use Rattle.std.specs.List.{list_all}
use Rattle.std.proofs.lemmas.Bool.{and_parts}
use Rattle.std.proofs.lemmas.Bool.Decides.{nat_tests}
use Rattle.co_value.specs.declared.key.Key.{Key}
use Rattle.co_frame.specs.InhibitTimes.{has_elapsed}
use Rattle.co_dict.specs.Rows.{Contents}
use Rattle.co_dict.specs.Stores.{Description}
use Rattle.co_profile.specs.Indices.{is_within, tpdo_communication}
use Rattle.co_profile.specs.TransmissionTypes.{is_event_driven, is_synchronous}
use Rattle.co_pdo.specs.declared.settings.Settings.{Settings}
use Rattle.co_pdo.specs.declared.tpdo.Occasion.{Occasion}
use Rattle.co_pdo.specs.declared.tpdo.Occasion.TheVariants as occasion
use Rattle.co_pdo.specs.Due.{counted_syncs, event_since_sync, event_waits, has_begun, is_due, is_due_at_sync, is_due_by_event, is_inhibit_over, sendings, syncs}
use Rattle.co_pdo.specs.Log.{Happened, Log, LogEntry}
use Rattle.co_pdo.specs.Schedules.{History as Schedule, is_among, is_tpdo_due, log_of}
use Rattle.co_pdo.specs.Tpdos.{settings_of}
use Rattle.co_node_parts.specs.NmtStates.{is_state}
use Rattle.co_node_parts.specs.declared.nmt_state.NodeState.TheVariants.{Operational}
use Rattle.co_node_model.specs.declared.mark.Asked.{Asked}
use Rattle.co_node_model.specs.declared.mark.Mark.{Mark}
use Rattle.co_node_model.specs.declared.mark.Mark.TheVariants as was
use Rattle.co_node_model.specs.declared.turn.Turn.{Turn}
use Rattle.co_node_model.specs.declared.turn.Turn.TheVariants as turn
use Rattle.co_node_model.specs.Device.{moment, moments}
use Rattle.co_node_model.specs.Inputs.{InputView, Inputs}
use Rattle.co_node_model.specs.Marks.{marked_key}
use Rattle.co_node_model.specs.Moments.{Constants, History, Moment}
use Rattle.co_node_model.specs.Nmt.{state_at}
use Rattle.co_node_model.specs.Tpdos.{due_at, numbers_asked, part_started, schedule_log, start_turn, turn_at, turn_by_write, turn_with, with_turn}
use Rattle.co_node_laws.specs.TpdoDistances.{tpdo_log, turn_log}
use Rattle.conode_compare_laws.specs.TpdoParameters.{KeepsTpdos, is_tpdo_parameter, is_tpdo_set}
use Rattle.conode_compare_laws.proofs.TpdoDue.{IsAt, among_filter}

-- ---- the log

log_with : (d : Description) (n : ℕ) (t : Turn) (c : Contents) (due : List ℕ) (history : Schedule) → log_of n (with_turn d t c due history) ≡ turn_log d n t c due ++ log_of n history
log_with d n turn.Quiet c due history = refl
log_with d n turn.StartAll c due history = refl
log_with d n (turn.Start j part) c due history = refl
log_with d n (turn.Sync counter) c due history = refl
log_with d n (turn.Asked asked) c due history = refl
log_with d n turn.Tick c due history = refl

pub log_is : (k : Constants) (n : ℕ) (inputs : Inputs) → log_of n (schedule_log k (moments k inputs)) ≡ tpdo_log k n inputs
log_is k n [] = refl
log_is k n (input ∷ inputs) =
    let m : Moment = moment k (moments k inputs) input in
    let t : Turn = turn_at m (moments k inputs) in
    log_with k.description n t m.contents m.due (schedule_log k (moments k inputs))
    ∙ ap (λ log. turn_log k.description n t m.contents m.due ++ log) (log_is k n inputs)

-- ---- which are due

-- a TPDO that is due isn't one that no event is on
pub asked_alone : (d : Description) (c : Contents) (asked : Asked) (history : Schedule) (n : ℕ) → n < 512 → is_among n (due_at d (turn.Asked asked) c history) ≡ true → is_among n (numbers_asked d c asked) ≡ true
asked_alone d c asked history n less sent =
    (and_parts (is_among n (numbers_asked d c asked)) (is_tpdo_due c history occasion.Event n)
    (sym (among_filter (λ j. is_among j (numbers_asked d c asked) && is_tpdo_due c history occasion.Event j) n less) ∙ sent)).0

-- ---- no TPDO is started again, where no parameter is written

abbrev pub is_start : Turn → Bool
is_start (turn.Start n part) = true
is_start other = false

outside : (b : Bool) (key : Key) → is_within tpdo_communication key.index ≡ b → is_tpdo_parameter key ≡ false → b ≡ false
outside false key is off = refl
outside true key is off = grind (arith, nat_tests)

by_write : (key : Key) → is_tpdo_parameter key ≡ false → is_start (turn_by_write key) ≡ false
by_write key off = by (is_within tpdo_communication key.index) (outside (is_within tpdo_communication key.index) key refl off)
  where
    by : (b : Bool) → b ≡ false → is_start (if b then start_turn (key.index - tpdo_communication.0) (part_started key.sub) else turn.Quiet) ≡ false
    by true h = absurd (cc)
    by false h = refl

by_mark : (mark : Mark) → is_tpdo_set (marked_key mark) ≡ false → is_start (turn_with (marked_key mark) mark) ≡ false
by_mark was.Quiet off = refl
by_mark (was.Command service) off = refl
by_mark (was.Written key) off = by_write key off
by_mark (was.Sync frame) off = refl
by_mark (was.Rpdo frame) off = refl
by_mark (was.Heard node) off = refl
by_mark (was.Tick timed_out) off = refl
by_mark (was.Asked asked) off = refl

pub no_start : (k : Constants) (m : Moment) (history : History) → KeepsTpdos k m → is_start (turn_at m history) ≡ false
no_start k m history keeps = by (is_state Operational (state_at (m ∷ history))) (is_state Operational (state_at history))
  where
    by : (a b : Bool) → is_start (if not a then turn.Quiet else (if not b then turn.StartAll else turn_with (marked_key m.mark) m.mark)) ≡ false
    by false b = refl
    by true false = refl
    by true true = by_mark m.mark keeps.unwritten

-- ---- how long ago its sendings were

-- as an input begins; entering operational forgets them
abbrev pub ages_at : Turn → List ℕ → List ℕ
ages_at turn.Quiet ages = ages
ages_at turn.StartAll ages = []
ages_at (turn.Start n part) ages = ages
ages_at (turn.Sync counter) ages = ages
ages_at (turn.Asked asked) ages = ages
ages_at turn.Tick ages = map (λ n. n + 1) ages

-- and after it, where the TPDO was sent or not
abbrev pub and_sent : Bool → List ℕ → List ℕ
and_sent sent ages = if sent then 0 ∷ ages else ages

asked_ages : (there sent : Bool) (s : Settings) (log : Log) → (sent ≡ true → there ≡ true) → sendings ((if there then Happened occasion.Event s sent ∷ [] else []) ++ log) ≡ and_sent sent (sendings log)
asked_ages true sent s log only = refl
asked_ages false true s log only = absurd (let no : false ≡ true = only refl in cc)
asked_ages false false s log only = refl

turn_ages : (d : Description) (n : ℕ) (t : Turn) (c : Contents) (history : Schedule) (log : Log) → n < 512 → is_start t ≡ false
    → sendings (turn_log d n t c (due_at d t c history) ++ log) ≡ and_sent (is_among n (due_at d t c history)) (ages_at t (sendings log))
turn_ages d n turn.Quiet c history log less off = refl
turn_ages d n turn.StartAll c history log less off = refl
turn_ages d n (turn.Start j part) c history log less off = absurd (cc)
turn_ages d n (turn.Sync counter) c history log less off = refl
turn_ages d n (turn.Asked asked) c history log less off =
    asked_ages (is_among n (numbers_asked d c asked)) (is_among n (due_at d (turn.Asked asked) c history)) (settings_of c n) log (asked_alone d c asked history n less)
turn_ages d n turn.Tick c history log less off = refl

-- of TPDO n over all inputs
abbrev pub ages_of : Constants → ℕ → Inputs → List ℕ
ages_of k n inputs = sendings (tpdo_log k n inputs)

pub next_ages : (k : Constants) (n : ℕ) (inputs : Inputs) (input : InputView) → n < 512 → KeepsTpdos k (moment k (moments k inputs) input)
    → ages_of k n (input ∷ inputs) ≡ and_sent (is_among n (moment k (moments k inputs) input).due) (ages_at (turn_at (moment k (moments k inputs) input) (moments k inputs)) (ages_of k n inputs))
next_ages k n inputs input less keeps =
    let m : Moment = moment k (moments k inputs) input in
    turn_ages k.description n (turn_at m (moments k inputs)) m.contents (schedule_log k (moments k inputs)) (tpdo_log k n inputs) less (no_start k m (moments k inputs) keeps)

-- ---- an event-driven TPDO is sent where the inhibit time of each sending is over

slow : (kind : ℕ) → nat_le 254 kind ≡ true → is_synchronous kind ≡ false
slow kind on = grind (arith, nat_tests)

never : (kind : ℕ) (a b c : Bool) → is_synchronous kind ≡ false → (kind == 0) ≡ false → (if kind == 0 then c else (a && (b && is_synchronous kind))) ≡ false
never kind a b c off some = rw (some, off) (by a b)
  where
    by : (x y : Bool) → (x && (y && false)) ≡ false
    by true true = refl
    by true false = refl
    by false y = refl

some_kind : (kind : ℕ) → nat_le 254 kind ≡ true → (kind == 0) ≡ false
some_kind kind on = grind (arith, nat_tests)

pub sync_off : (kind : ℕ) (log : Log) (sync : LogEntry) → nat_le 254 kind ≡ true → is_due_at_sync kind log sync ≡ false
sync_off kind log sync on = never kind (has_begun (syncs (sync ∷ log))) (counted_syncs (syncs (sync ∷ log)) % kind == 0) (event_since_sync log) (slow kind on) (some_kind kind on)

-- at an occasion that is a tick the sendings are a tick older
abbrev pub ages_then : Occasion → List ℕ → List ℕ
ages_then (occasion.Sync overflow counter) ages = ages
ages_then occasion.Event ages = ages
ages_then occasion.Tick ages = map (λ n. n + 1) ages

over_event : (s : Settings) (log : Log) → is_due_by_event s log ≡ true → is_inhibit_over s.inhibit_time log ≡ true
over_event s log h = (and_parts (event_waits log) (is_inhibit_over s.inhibit_time log) (and_parts (is_event_driven s.transmission_type.0) _ h).1).1

pub over : (s : Settings) (log : Log) (o : Occasion) → is_due s log o ≡ true → nat_le 254 s.transmission_type.0 ≡ true → list_all (λ n. has_elapsed s.inhibit_time n) (ages_then o (sendings log)) ≡ true
over s log (occasion.Sync overflow counter) due on =
    let entry : LogEntry = Happened (occasion.Sync overflow counter) s false in
    absurd (let no : is_due_at_sync s.transmission_type.0 log entry ≡ false = sync_off s.transmission_type.0 log entry on in
    let yes : is_due_at_sync s.transmission_type.0 log entry ≡ true = (and_parts s.is_active (is_due_at_sync s.transmission_type.0 log entry) due).1 in cc)
over s log occasion.Event due on = over_event s (Happened occasion.Event s false ∷ log) (and_parts s.is_active _ due).1
over s log occasion.Tick due on = over_event s (Happened occasion.Tick s false ∷ log) (and_parts s.is_active _ due).1

pub then_at : (c : Contents) (t : Turn) (o : Occasion) (ages : List ℕ) → IsAt c t o → ages_then o ages ≡ ages_at t ages
then_at c turn.Quiet o ages at = absurd at
then_at c turn.StartAll o ages at = absurd at
then_at c (turn.Start n part) o ages at = absurd at
then_at c (turn.Sync counter) o ages at = ap (λ x. ages_then x ages) at
then_at c (turn.Asked asked) o ages at = ap (λ x. ages_then x ages) at
then_at c turn.Tick o ages at = ap (λ x. ages_then x ages) at

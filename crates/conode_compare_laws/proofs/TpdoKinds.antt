-- A difference of a TPDO isn't of a kind, where none of those it is the first of is.
use Rattle.std.proofs.Common.{◌≡◌, ℕ, ◌-◌, Bool, true, false, Option, Some, None, refl}
use Rattle.std.specs.Prelude.{if◌then◌else◌, ◌==◌, ◌&&◌, ◌||◌, nat_le, nat_lt}
use Rattle.conode_compare_pdos.specs.declared.cycle.Cycle.{Cycle}
use Rattle.conode_compare_pdos.specs.declared.deviation.Deviation.{Deviation}
use Rattle.conode_compare_pdos.specs.declared.deviation.Deviation.TheVariants.{Length, NotOperational, WithoutSync, FewSyncs, Inhibit, Timer}
use Rattle.conode_compare_pdos.specs.declared.deviation.Moment.{Moment}
use Rattle.conode_compare_pdos.specs.declared.parameters.Parameters.{Parameters}
use Rattle.conode_compare_pdos.specs.declared.tpdo.Sent.{Sent}
use Rattle.conode_compare_pdos.specs.declared.tpdo.Tpdo.{Tpdo}
use Rattle.conode_compare_pdos.specs.Cycles.{is_cyclic, is_early}
use Rattle.conode_compare_pdos.specs.Deviations.{
  cycle_deviation,
  deviation_at,
  few_syncs,
  few_syncs_of,
  first_of,
  greatest_gap,
  inhibit_deviation,
  inhibit_since,
  is_apart,
  is_certain,
  is_counted,
  is_event_driven,
  is_number,
  is_settled,
  is_synchronous,
  least_gap,
  length_deviation,
  state_deviation,
  sync_deviation,
  time_deviation,
  timed,
  timed_since,
  timer_deviation,
  timer_since,
  was_settled,
}
use Rattle.conode_compare_laws.proofs.TpdoOthers.{is_of}

first_none : (is : Deviation → Bool) (a b : Option Deviation) → is_of is a ≡ false → is_of is b ≡ false → is_of is (first_of a b) ≡ false
first_none is None b p q = q
first_none is (Some deviation) b p q = p

if_none : (is : Deviation → Bool) (b : Bool) (o : Option Deviation) → is_of is o ≡ false → is_of is (if b then o else None) ≡ false
if_none is true o h = h
if_none is false o h = refl

unless_none : (is : Deviation → Bool) (b : Bool) (o : Option Deviation) → is_of is o ≡ false → is_of is (if b then None else o) ≡ false
unless_none is true o h = refl
unless_none is false o h = h

-- the first of five
pub deviation_none : (is : Deviation → Bool) (moment : Moment) (has_sync : Bool) (pdo : Tpdo) (length : ℕ) → is_of is (state_deviation moment) ≡ false → is_of is (length_deviation pdo.parameters.length pdo.odd length) ≡ false
    → is_of is (sync_deviation has_sync pdo) ≡ false → is_of is (cycle_deviation moment has_sync pdo) ≡ false → is_of is (time_deviation moment pdo) ≡ false → is_of is (deviation_at moment has_sync pdo length) ≡ false
unfolding deviation_at
deviation_none is moment has_sync pdo length state bytes sync few time =
    if_none is (is_settled moment pdo.changed) _
    (first_none is (state_deviation moment) _ state
    (first_none is (length_deviation pdo.parameters.length pdo.odd length) _ bytes
    (first_none is (sync_deviation has_sync pdo) _ sync
    (first_none is (cycle_deviation moment has_sync pdo) (time_deviation moment pdo) few time))))

-- ---- kinds that aren't looked for

pub state_none : (is : Deviation → Bool) (moment : Moment) → is NotOperational ≡ false → is_of is (state_deviation moment) ≡ false
state_none is moment h = if_none is moment.idle (Some NotOperational) h

pub length_none : (is : Deviation → Bool) (mapped odd : Option ℕ) (length : ℕ) → ((l m : ℕ) → is (Length l m) ≡ false) → is_of is (length_deviation mapped odd length) ≡ false
length_none is None odd length h = refl
length_none is (Some mapped) odd length h = unless_none is ((length == mapped) || is_number odd length) (Some (Length length mapped)) (h length mapped)

pub sync_none : (is : Deviation → Bool) (has_sync : Bool) (pdo : Tpdo) → is WithoutSync ≡ false → is_of is (sync_deviation has_sync pdo) ≡ false
sync_none is has_sync pdo h = if_none is (has_sync && (is_synchronous pdo.parameters.kind && (pdo.syncs == 0))) (Some WithoutSync) h

few_in : (is : Deviation → Bool) (n : ℕ) (cycle : Option Cycle) → ((s m : ℕ) → is (FewSyncs s m) ≡ false) → is_of is (few_syncs n cycle) ≡ false
few_in is n None h = refl
few_in is n (Some cycle) h = if_none is (is_cyclic n && is_early n cycle) (Some (FewSyncs cycle.syncs n)) (h cycle.syncs n)

few_of : (is : Deviation → Bool) (kind : Option ℕ) (cycle : Option Cycle) → ((s m : ℕ) → is (FewSyncs s m) ≡ false) → is_of is (few_syncs_of kind cycle) ≡ false
few_of is None cycle h = refl
few_of is (Some n) cycle h = few_in is n cycle h

pub few_none : (is : Deviation → Bool) (moment : Moment) (has_sync : Bool) (pdo : Tpdo) → ((s m : ℕ) → is (FewSyncs s m) ≡ false) → is_of is (cycle_deviation moment has_sync pdo) ≡ false
few_none is moment has_sync pdo h = if_none is (has_sync && (is_certain moment pdo.changed && is_apart moment pdo.sent)) (few_syncs_of pdo.parameters.kind pdo.cycle) (few_of is pdo.parameters.kind pdo.cycle h)

pub inhibit_none : (is : Deviation → Bool) (moment : Moment) (inhibit : ℕ) (sent : Sent) → ((passed n : ℕ) → is (Inhibit passed n) ≡ false) → is_of is (inhibit_deviation moment inhibit sent) ≡ false
inhibit_none is moment inhibit sent h = if_none is (nat_lt (moment.micros - sent.free) (least_gap moment inhibit)) (Some (Inhibit (moment.micros - sent.micros) inhibit)) (h (moment.micros - sent.micros) inhibit)

pub timer_none : (is : Deviation → Bool) (moment : Moment) (inhibit timer : ℕ) (sent : Sent) → ((passed n : ℕ) → is (Timer passed n) ≡ false) → is_of is (timer_deviation moment inhibit timer sent) ≡ false
timer_none is moment inhibit timer sent h =
    unless_none is ((timer == 0) || nat_le (moment.free - sent.micros) (greatest_gap moment inhibit timer)) (Some (Timer (moment.micros - sent.micros) timer)) (h (moment.micros - sent.micros) timer)

-- ---- the times of a TPDO

timed_none : (is : Deviation → Bool) (moment : Moment) (changed timer : Option ℕ) (inhibit : ℕ) (sent : Sent) → is_of is (inhibit_deviation moment inhibit sent) ≡ false
    → ((t : ℕ) → timer ≡ Some t → is_of is (timer_deviation moment inhibit t sent) ≡ false) → is_of is (timed moment changed timer inhibit sent) ≡ false
timed_none is moment changed None inhibit sent p q = if_none is (is_counted moment changed sent) (inhibit_deviation moment inhibit sent) p
timed_none is moment changed (Some t) inhibit sent p q =
    first_none is (inhibit_since moment changed inhibit sent) (timer_since moment inhibit t sent) (if_none is (is_counted moment changed sent) (inhibit_deviation moment inhibit sent) p)
    (if_none is (was_settled moment moment.commanded sent.free) (timer_deviation moment inhibit t sent) (q t refl))

-- what is to be shown of each of the times, where it is known and a frame came before
pub record AreTimes (is : Deviation → Bool) (moment : Moment) (parameters : Parameters) (sent : Option Sent) : Type 0 where
  pub inhibit : (i : ℕ) (s : Sent) → parameters.inhibit ≡ Some i → sent ≡ Some s → is_of is (inhibit_deviation moment i s) ≡ false
  pub timer : (i t : ℕ) (s : Sent) → parameters.inhibit ≡ Some i → parameters.timer ≡ Some t → sent ≡ Some s → is_of is (timer_deviation moment i t s) ≡ false

since_none : (is : Deviation → Bool) (moment : Moment) (changed : Option ℕ) (parameters : Parameters) (inhibit : Option ℕ) (sent : Option Sent) → parameters.inhibit ≡ inhibit → AreTimes is moment parameters sent
    → is_of is (timed_since moment changed parameters inhibit sent) ≡ false
since_none is moment changed parameters None sent e times = refl
since_none is moment changed parameters (Some i) None e times = refl
since_none is moment changed parameters (Some i) (Some s) e times = timed_none is moment changed parameters.timer i s (times.inhibit i s e refl) (λ t same. times.timer i t s e same refl)

pub time_none : (is : Deviation → Bool) (moment : Moment) (pdo : Tpdo) → (is_event_driven pdo.parameters.kind ≡ true → AreTimes is moment pdo.parameters pdo.sent) → is_of is (time_deviation moment pdo) ≡ false
unfolding time_deviation
time_none is moment pdo times = by (is_event_driven pdo.parameters.kind) times
  where
    by : (b : Bool) → (b ≡ true → AreTimes is moment pdo.parameters pdo.sent) → is_of is (if b then timed_since moment pdo.changed pdo.parameters pdo.parameters.inhibit pdo.sent else None) ≡ false
    by true h = since_none is moment pdo.changed pdo.parameters pdo.parameters.inhibit pdo.sent refl (h refl)
    by false h = refl

pub untimed : (is : Deviation → Bool) (moment : Moment) (pdo : Tpdo) → ((passed n : ℕ) → is (Inhibit passed n) ≡ false) → ((passed n : ℕ) → is (Timer passed n) ≡ false) → is_of is (time_deviation moment pdo) ≡ false
untimed is moment pdo inhibits timers =
    time_none is moment pdo (λ on. record { inhibit = λ i s known since. inhibit_none is moment i s inhibits; timer = λ i t s known timer since. timer_none is moment i t s timers })

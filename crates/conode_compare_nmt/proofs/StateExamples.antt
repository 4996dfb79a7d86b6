-- What is a difference of NMT states and boot-ups and what isn't, on both sides of each edge, computed
-- from the definitions.
use Rattle.std.proofs.Common.{◌≡◌, ℕ, true, false, [], ◌∷◌, map, Option, Some, None, refl}
use Rattle.co_frame.specs.declared.nmt.NmtService.{NmtService}
use Rattle.co_frame.specs.declared.nmt.NmtService.TheVariants.{Start, Stop, EnterPreOperational, ResetNode}
use Rattle.conode_compare_pdos.specs.Followed.{unknown_pdos}
use Rattle.conode_compare_nmt.specs.declared.finding.Finding.{Finding}
use Rattle.conode_compare_nmt.specs.declared.finding.Finding.TheVariants.{BootMissing, SecondBootUp, NoState, WrongState}
use Rattle.conode_compare_nmt.specs.declared.finding.Remark.TheVariants.{Restarted}
use Rattle.conode_compare_nmt.specs.declared.finding.NmtState.{NmtState}
use Rattle.conode_compare_nmt.specs.declared.finding.NmtState.TheVariants.{Unknown, Initialising, PreOperational, Operational, Stopped}
use Rattle.conode_compare_nmt.specs.declared.leaving.Leaving.TheVariants.{Nothing}
use Rattle.conode_compare_nmt.specs.declared.limits.Subject.{Subject}
use Rattle.conode_compare_nmt.specs.declared.nmt.Nmt.{Nmt}
use Rattle.conode_compare_nmt.specs.declared.repeated.Odd.TheVariants.{Byte, Length}
use Rattle.conode_compare_nmt.specs.States.{either_state, after_boot_up, after_command, after_control, after_other, awaits_boot_up, boot_finding, control_finding, freer, is_same_byte, is_settled, is_steady, is_turn, nothing_commanded, restart_remark, second_boot_up, state_finding, with_state}
use Rattle.conode_compare_nmt.specs.OtherClients.{no_clients}
use Rattle.conode_compare_nmt.proofs.Examples.{entries, limits}

-- ---- states

state_05 : state_finding false PreOperational 5 ≡ Some (WrongState Operational PreOperational)
unfolding state_finding
state_05 = refl

-- NMT startup (1F80h) may say so
starts_itself : state_finding true PreOperational 5 ≡ None
unfolding state_finding
starts_itself = refl

leaves_stopped : state_finding true Stopped 127 ≡ Some (WrongState PreOperational Stopped)
unfolding state_finding
leaves_stopped = refl

-- at a failure a device falls back by itself
falls_back : state_finding false Operational 127 ≡ None
unfolding state_finding
falls_back = refl

stops : state_finding false Operational 4 ≡ None
unfolding state_finding
stops = refl

unknown_state : state_finding false Unknown 5 ≡ None
unfolding state_finding
unknown_state = refl

no_state : state_finding false Unknown 6 ≡ Some (NoState 6)
unfolding state_finding
no_state = refl

no_state_awaiting : state_finding false Initialising 6 ≡ None
unfolding state_finding
no_state_awaiting = refl

-- a state is settled after the tolerance
unsettled : is_settled limits 0 (Some (record { service = Start; micros = 100000 })) 110000 ≡ false
unfolding is_settled
unsettled = refl

settled : is_settled limits 0 (Some (record { service = Start; micros = 100000 })) 110001 ≡ true
unfolding is_settled
settled = refl

unsettled_begin : is_settled limits 100000 None 110000 ≡ false
unfolding is_settled
unsettled_begin = refl

-- ---- boot-ups

abbrev reset_at : ℕ → Nmt
reset_at micros = record {
  state = Initialising;
  commanded = Some (record { service = ResetNode; micros = micros });
  reset = Some micros;
  several = false;
  booted = None;
  due = Unknown;
  followed = None;
  changed = None;
  strayed = Unknown;
  mixed = false;
  odd = None;
  leaving = Nothing;
}

awaited : boot_finding limits (reset_at 1) 10000001 ≡ None
unfolding boot_finding awaits_boot_up
awaited = refl

missing : boot_finding limits (reset_at 1) 10000002 ≡ Some (BootMissing 10000001)
unfolding boot_finding awaits_boot_up
missing = refl

-- a Start that comes meanwhile changes nothing of it
missing_after_start : boot_finding limits (after_command (reset_at 1) Start false 9000000) 10000002 ≡ Some (BootMissing 10000001)
unfolding boot_finding awaits_boot_up after_command
missing_after_start = refl

-- another reset does
awaited_again : boot_finding limits (after_command (reset_at 1) ResetNode false 2) 10000002 ≡ None
unfolding boot_finding awaits_boot_up after_command
awaited_again = refl

-- said once
said_once : boot_finding limits (after_other limits (reset_at 1) 10000002) 20000000 ≡ None
unfolding boot_finding awaits_boot_up after_other
said_once = refl

second : second_boot_up (Some 0) 1000000 ≡ Some (SecondBootUp 1000000)
unfolding second_boot_up
second = refl

again : second_boot_up (Some 0) 1000001 ≡ None
unfolding second_boot_up
again = refl

-- in a recording without stamps, or in one that stamps a batch at its begin
same_stamp : second_boot_up (Some 5) 5 ≡ None
unfolding second_boot_up
same_stamp = refl

just_later : second_boot_up (Some 5) 6 ≡ Some (SecondBootUp 1)
unfolding second_boot_up
just_later = refl

-- a boot-up without a reset
restarted : restart_remark limits (record { state = Stopped; commanded = None; reset = Some 5; several = false; booted = None; due = Unknown; followed = None; changed = None; strayed = Unknown; mixed = false; odd = None; leaving = Nothing }) 9000000 ≡ Some Restarted
unfolding restart_remark second_boot_up
restarted = refl

commanded_boot_up : restart_remark limits (reset_at 1) 9000000 ≡ None
unfolding restart_remark second_boot_up
commanded_boot_up = refl

-- of a device that wasn't seen before
power_on : restart_remark limits nothing_commanded 9000000 ≡ None
unfolding restart_remark second_boot_up
power_on = refl

-- of which more than one boot-up may come
perhaps_commanded : restart_remark limits (record { state = PreOperational; commanded = None; reset = Some 5; several = true; booted = None; due = Unknown; followed = None; changed = None; strayed = Unknown; mixed = false; odd = None; leaving = Nothing }) 9000000 ≡ None
unfolding restart_remark second_boot_up
perhaps_commanded = refl

-- up to 10 s after the newest reset
one_of_several : map (restart_remark limits (record nothing_commanded { state = PreOperational; reset = Some 5; several = true })) (10000005 ∷ 10000006 ∷ []) ≡ None ∷ Some Restarted ∷ []
unfolding restart_remark second_boot_up
one_of_several = refl

-- a second one within a second is another device's
of_another : restart_remark limits (record { state = PreOperational; commanded = None; reset = None; several = false; booted = Some 0; due = Unknown; followed = None; changed = None; strayed = Unknown; mixed = false; odd = None; leaving = Nothing }) 1000000 ≡ None
unfolding restart_remark second_boot_up
of_another = refl

restarted_again : restart_remark limits (record { state = PreOperational; commanded = None; reset = None; several = false; booted = Some 0; due = Unknown; followed = None; changed = None; strayed = Unknown; mixed = false; odd = None; leaving = Nothing }) 1000001 ≡ Some Restarted
unfolding restart_remark second_boot_up
restarted_again = refl

of_one_stamp : restart_remark limits (record nothing_commanded { state = PreOperational; booted = Some 2000000 }) 2000000 ≡ Some Restarted
unfolding restart_remark second_boot_up
of_one_stamp = refl

-- a device that is up answers a reset by one boot-up
one_due : (after_boot_up limits (after_command (record { state = Stopped; commanded = None; reset = None; several = false; booted = None; due = Unknown; followed = None; changed = None; strayed = Unknown; mixed = false; odd = None; leaving = Nothing }) ResetNode false 0) 5).booted ≡ Some 5
unfolding after_command after_boot_up
one_due = refl

-- two resets before a boot-up, or a reset of a device that may be booting, may give two
two_due : (after_boot_up limits (after_command (reset_at 0) ResetNode false 1) 5).booted ≡ None
unfolding after_command after_boot_up
two_due = refl

perhaps_two : (after_boot_up limits (after_command nothing_commanded ResetNode false 0) 5).booted ≡ None
unfolding after_command after_boot_up
perhaps_two = refl

-- another frame of the device doesn't say that none is due any more; that the newest reset is old does
two_still_due : (after_other limits (after_command (reset_at 0) ResetNode false 1) 10000001).several ≡ true
unfolding after_command after_other awaits_boot_up
two_still_due = refl

none_due : (after_other limits (after_command (reset_at 0) ResetNode false 1) 10000002).several ≡ false
unfolding after_command after_other awaits_boot_up
none_due = refl

-- so does a boot-up that comes later: it is none of theirs
abbrev boots_late : ℕ → Nmt
boots_late micros = after_boot_up limits (after_command (reset_at 0) ResetNode false 1) micros

late_boot_up : map (λ micros. (boots_late micros).booted) (10000001 ∷ 10000002 ∷ []) ≡ None ∷ Some 10000002 ∷ []
unfolding after_command after_boot_up
late_boot_up = refl

none_due_then : map (λ micros. (boots_late micros).several) (10000001 ∷ 10000002 ∷ []) ≡ true ∷ false ∷ []
unfolding after_command after_boot_up
none_due_then = refl

abbrev started_at : ℕ → Nmt
started_at micros = record {
  state = Unknown;
  commanded = Some (record { service = Start; micros = micros });
  reset = None;
  several = false;
  booted = None;
  due = Unknown;
  followed = None;
  changed = None;
  strayed = Unknown;
  mixed = false;
  odd = None;
  leaving = Nothing;
}

-- a Start shortly before a boot-up may have been taken
boots_unknown : (after_boot_up limits (started_at 0) 10000000).state ≡ Unknown
unfolding after_boot_up
boots_unknown = refl

boots_known_after : (after_boot_up limits (started_at 0) 10000001).state ≡ PreOperational
unfolding after_boot_up
boots_known_after = refl

boots_after_reset : (after_boot_up limits (reset_at 0) 5).state ≡ PreOperational
unfolding after_boot_up
boots_after_reset = refl

-- while it is initialising it takes no Start
start_initialising : (after_command (reset_at 0) Start false 5).state ≡ Initialising
unfolding after_command
start_initialising = refl

start : (after_command (record { state = PreOperational; commanded = None; reset = None; several = false; booted = Some 0; due = Unknown; followed = None; changed = None; strayed = Unknown; mixed = false; odd = None; leaving = Nothing }) Start false 5).state ≡ Operational
unfolding after_command
start = refl

-- a command to all nodes that the device may have sent itself, as the NMT master: it may follow it or
-- not
abbrev pub up_in : NmtState → Nmt
up_in state = record { state = state; commanded = None; reset = None; several = false; booted = Some 0; due = Unknown; followed = None; changed = None; strayed = Unknown; mixed = false; odd = None; leaving = Nothing }

stop_of_others : (after_command (up_in Operational) Stop false 5).state ≡ Stopped
unfolding after_command
stop_of_others = refl

stop_of_its_own : (after_command (up_in Operational) Stop true 5).state ≡ Unknown
unfolding after_command
stop_of_its_own = refl

same_state : (after_command (up_in Operational) Start true 5).state ≡ Operational
unfolding after_command
same_state = refl

-- a boot-up after a reset command is right, however soon after another one; after another command it
-- isn't
reset_since : second_boot_up (after_command (up_in PreOperational) ResetNode false 5).booted 6 ≡ None
unfolding after_command second_boot_up
reset_since = refl

started_since : second_boot_up (after_command (up_in PreOperational) Start false 5).booted 6 ≡ Some (SecondBootUp 6)
unfolding after_command second_boot_up
started_since = refl

reset_of_its_own : boot_finding limits (after_command (up_in Operational) ResetNode true 1) 10000002 ≡ None
unfolding boot_finding awaits_boot_up after_command
reset_of_its_own = refl

-- after a reset by another one the boot-up is awaited all the same
still_missing : boot_finding limits (after_command (reset_at 0) ResetNode true 1) 10000002 ≡ Some (BootMissing 10000001)
unfolding boot_finding awaits_boot_up after_command
still_missing = refl

-- ---- a command that may be the device's own

either_same : map (λ state. either_state state state) (Initialising ∷ PreOperational ∷ Operational ∷ Stopped ∷ []) ≡ Initialising ∷ PreOperational ∷ Operational ∷ Stopped ∷ []
either_same = refl

either_other : map (either_state PreOperational) (Operational ∷ Stopped ∷ []) ≡ Unknown ∷ Unknown ∷ []
either_other = refl

-- ---- a heartbeat that waited for the bus, after a command at 100 ms

abbrev pub device : Subject
device = record {
  node = 5;
  limits = limits;
  facts = record { before = entries; booted = entries; pdos = unknown_pdos; clients = no_clients; starts_itself = false; modular = false; stores = false; as_sheet = true };
  held = record { entries = record { items = [] } };
  rooms = record { strings = None; domains = None };
}

abbrev pub commanded_to : NmtService → NmtState → Nmt
commanded_to service state = record {
  state = state;
  commanded = Some (record { service = service; micros = 100000 });
  reset = None;
  several = false;
  booted = None;
  due = state;
  followed = None;
  changed = None;
  strayed = Unknown;
  mixed = false;
  odd = None;
  leaving = Nothing;
}

-- the bus was free last 10 ms after it: the heartbeat may be one of the state before
waits_since : control_finding device 0 false false (commanded_to Stop Stopped) 110000 5 ≡ None
unfolding control_finding is_settled
waits_since = refl

free_since : control_finding device 0 false false (commanded_to Stop Stopped) 110001 5 ≡ Some (WrongState Operational Stopped)
unfolding control_finding is_settled state_finding
free_since = refl

-- Once node guarding was seen states aren't judged, with the toggle bit or without. Other bytes are: their seven bits are no state.
abbrev guarded_at : ℕ → ℕ → Option Finding
guarded_at free byte = control_finding device 0 true false (commanded_to Stop Stopped) free byte

guarded_states : map (guarded_at 110001) (4 ∷ 5 ∷ 127 ∷ 0x84 ∷ 0x85 ∷ 0xFF ∷ []) ≡ None ∷ None ∷ None ∷ None ∷ None ∷ None ∷ []
unfolding control_finding is_settled state_finding
guarded_states = refl

guarded_others : map (guarded_at 110001) (3 ∷ 0x83 ∷ 6 ∷ 126 ∷ 0x80 ∷ 0xFE ∷ []) ≡ Some (NoState 3) ∷ Some (NoState 0x83) ∷ Some (NoState 6) ∷ Some (NoState 126) ∷ Some (NoState 0x80) ∷ Some (NoState 0xFE) ∷ []
unfolding control_finding is_settled state_finding
guarded_others = refl

guarded_waits : guarded_at 110000 3 ≡ None
unfolding control_finding is_settled
guarded_waits = refl

-- one with another toggle bit is the same
same_but_toggled : map (λ byte. is_same_byte byte (Some (Byte 0x83))) (3 ∷ 0x83 ∷ 2 ∷ 0x82 ∷ []) ≡ true ∷ true ∷ false ∷ false ∷ []
same_but_toggled = refl

not_same : is_same_byte 3 None ∷ is_same_byte 3 (Some (Length 3)) ∷ [] ≡ false ∷ false ∷ []
not_same = refl

-- the state stays as commanded, or is the one that is shown
shows_none : (after_control limits 0 (commanded_to Start Operational) 110000 150000 127).state ≡ Operational
unfolding after_control after_other awaits_boot_up is_settled
shows_none = refl

shows_its_own : (after_control limits 0 (commanded_to Start Operational) 110001 150000 127).state ≡ PreOperational
unfolding after_control after_other awaits_boot_up is_settled
shows_its_own = refl

-- ---- a device that is slow to follow a command

freer_states : map (λ state. map (freer state) (Unknown ∷ Initialising ∷ PreOperational ∷ Operational ∷ Stopped ∷ [])) (Unknown ∷ Initialising ∷ PreOperational ∷ Operational ∷ Stopped ∷ [])
    ≡ (Unknown ∷ Unknown ∷ Unknown ∷ Unknown ∷ Unknown ∷ [])
    ∷ (Initialising ∷ Initialising ∷ Initialising ∷ Initialising ∷ Initialising ∷ [])
    ∷ (PreOperational ∷ PreOperational ∷ PreOperational ∷ Operational ∷ PreOperational ∷ [])
    ∷ (Operational ∷ Operational ∷ Operational ∷ Operational ∷ Operational ∷ [])
    ∷ (Stopped ∷ Stopped ∷ PreOperational ∷ Operational ∷ Stopped ∷ [])
    ∷ []
freer_states = refl

commanded_is_due : map (λ service. (after_command (up_in PreOperational) service false 5).due) (Start ∷ Stop ∷ EnterPreOperational ∷ ResetNode ∷ []) ≡ Operational ∷ Stopped ∷ PreOperational ∷ Initialising ∷ []
unfolding after_command
commanded_is_due = refl

-- a heartbeat of the state before, 50 ms after Start
abbrev pub slow_start : Nmt
slow_start = after_control limits 0 (commanded_to Start Operational) 150000 150000 127

shows_before : slow_start ≡ record (commanded_to Start Operational) { state = PreOperational; changed = Some 150000 }
unfolding after_control after_other awaits_boot_up is_settled
shows_before = refl

becomes_operational : control_finding device 0 false false slow_start 250000 5 ≡ None
unfolding control_finding state_finding after_control after_other awaits_boot_up is_settled
becomes_operational = refl

-- once a heartbeat showed the state, a device that falls back sends none
abbrev pub fell_back : Nmt
fell_back = after_control limits 0 (after_control limits 0 slow_start 160000 160000 5) 170000 170000 127

-- from stopped to pre-operational
abbrev slow_entry : Nmt
slow_entry = after_control limits 0 (commanded_to EnterPreOperational PreOperational) 150000 150000 4

enters_later : map (control_finding device 0 false false slow_entry 250000) (4 ∷ 127 ∷ 5 ∷ []) ≡ None ∷ None ∷ Some (WrongState Operational PreOperational) ∷ []
unfolding control_finding state_finding after_control after_other awaits_boot_up is_settled
enters_later = refl

-- after a boot-up no state is due, but by a command that it may have taken
due_after_boot_up : map (λ micros. (after_boot_up limits (record (started_at 0) { due = Operational }) micros).due) (10000000 ∷ 10000001 ∷ []) ≡ Operational ∷ Unknown ∷ []
unfolding after_boot_up
due_after_boot_up = refl

-- ---- a device that changes its state by itself, at 100 ms

abbrev pub changed_to : NmtState → Nmt
changed_to state = with_state (up_in Operational) state 100000

steady : map (is_steady limits (changed_to Stopped)) (110000 ∷ 110001 ∷ []) ≡ false ∷ true ∷ []
steady = refl

turns : map (λ state. map (is_turn state) (PreOperational ∷ Operational ∷ Stopped ∷ [])) (Unknown ∷ Initialising ∷ PreOperational ∷ Operational ∷ Stopped ∷ [])
    ≡ (false ∷ false ∷ true ∷ []) ∷ (false ∷ false ∷ false ∷ []) ∷ (false ∷ false ∷ true ∷ []) ∷ (true ∷ false ∷ true ∷ []) ∷ (true ∷ true ∷ false ∷ []) ∷ []
turns = refl

-- a device that becomes operational leaves no doubt
no_doubt : (with_state (up_in PreOperational) Operational 100000).changed ≡ None
no_doubt = refl

no_change : ((changed_to Operational).changed ≡ None) × (is_steady limits (changed_to Operational) 100000 ≡ true)
no_change = (refl, refl)

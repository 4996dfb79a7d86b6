-- The NMT state of a device, as commands and its own frames have it (CiA 301, 7.3.2.2), and what it
-- does otherwise.
use Rattle.std.specs.Prelude.{ℕ, ◌-◌, ◌%◌, ◌==◌, nat_le, Bool, true, false, not, ◌&&◌, ◌||◌, if◌then◌else◌, Option, Some, None, is_some, option_map, option_and_then}
use Rattle.std.specs.Option.{option_map_or}
use Rattle.co_frame.specs.declared.nmt.NmtService.{NmtService}
use Rattle.co_frame.specs.declared.nmt.NmtService.TheVariants.{Start, Stop, EnterPreOperational, ResetNode, ResetCommunication}
use Rattle.conode_compare_nmt.specs.declared.finding.Finding.{Finding}
use Rattle.conode_compare_nmt.specs.declared.finding.Finding.TheVariants.{BootMissing, HeartbeatLength, SecondBootUp, NoState, TwoStates, WrongState}
use Rattle.conode_compare_nmt.specs.declared.finding.Remark.{Remark}
use Rattle.conode_compare_nmt.specs.declared.finding.Remark.TheVariants.{Restarted}
use Rattle.conode_compare_nmt.specs.declared.finding.NmtState.{NmtState}
use Rattle.conode_compare_nmt.specs.declared.finding.NmtState.TheVariants.{Unknown, Initialising, PreOperational, Operational, Stopped}
use Rattle.conode_compare_nmt.specs.declared.limits.Limits.{Limits}
use Rattle.conode_compare_nmt.specs.declared.limits.Subject.{Subject}
use Rattle.conode_compare_nmt.specs.declared.nmt.Commanded.{Commanded}
use Rattle.conode_compare_nmt.specs.declared.leaving.Leaving.{Leaving}
use Rattle.conode_compare_nmt.specs.declared.leaving.Leaving.TheVariants.{Nothing, Awaited}
use Rattle.conode_compare_nmt.specs.declared.repeated.Odd.{Odd}
use Rattle.conode_compare_nmt.specs.declared.repeated.Odd.TheVariants.{Byte, Length}
use Rattle.conode_compare_nmt.specs.declared.nmt.Nmt.{Nmt}
use Rattle.conode_compare_nmt.specs.Leavings.{is_running, leaving_after, leaving_shown, was_stopped}
use Rattle.conode_compare_transfers.specs.Times.{is_past}

abbrev pub nothing_commanded : Nmt
nothing_commanded = record {
  state = Unknown;
  commanded = None;
  reset = None;
  several = false;
  booted = None;
  due = Unknown;
  followed = None;
  changed = None;
  strayed = Unknown;
  mixed = false;
  odd = None;
  leaving = Nothing;
}

-- A recording begins: a device may follow a command that came before, out of stopped too, at any time. Where
-- the recording begins anew since this time, that may have been a reset too, whose boot-up is still
-- to come, also after that of another one.
abbrev pub at_begin : Option ℕ → Nmt
at_begin anew = record nothing_commanded {
  reset = anew;
  several = is_some anew;
  due = Operational;
  leaving = Awaited;
}

-- ---- commands

abbrev pub is_reset : NmtService → Bool
is_reset ResetNode = true
is_reset ResetCommunication = true
is_reset other = false

-- the state that a device goes to
abbrev pub goes_to : NmtService → NmtState
goes_to Start = Operational
goes_to Stop = Stopped
goes_to EnterPreOperational = PreOperational
goes_to ResetNode = Initialising
goes_to ResetCommunication = Initialising

-- while it is initialising it takes no other command than a reset
abbrev pub state_commanded : NmtService → NmtState → NmtState
state_commanded service Unknown = if is_reset service then Initialising else Unknown
state_commanded service Initialising = Initialising
state_commanded service state = goes_to service

-- the state before a command, or after it
abbrev pub either_state : NmtState → NmtState → NmtState
either_state Initialising Initialising = Initialising
either_state PreOperational PreOperational = PreOperational
either_state Operational Operational = Operational
either_state Stopped Stopped = Stopped
either_state before after = Unknown

-- A command to all nodes that the device may have sent itself, as the NMT master: it needn't follow
-- that.
abbrev pub state_after : NmtService → Bool → NmtState → NmtState
state_after service own state =
    if own then either_state state (state_commanded service state) else state_commanded service state

-- the device has booted up and wasn't reset since
abbrev pub is_up : NmtState → Bool
is_up Unknown = false
is_up Initialising = false
is_up state = true

-- More than one boot-up may come: a reset is commanded, and one that was commanded before, or power
-- on, may not have its boot-up yet.
abbrev pub several_after : NmtService → Nmt → Bool
several_after service nmt = nmt.several || (is_reset service && not (is_up nmt.state))

-- a command, which is perhaps its own
unfoldable pub after_command : Nmt → NmtService → Bool → ℕ → Nmt
after_command nmt service own micros = record {
  state = state_after service own nmt.state;
  commanded = Some (record { service = service; micros = micros });
  reset = if is_reset service then Some micros else nmt.reset;
  several = several_after service nmt;
  booted = if is_reset service then None else nmt.booted;
  due = goes_to service;
  followed = None;
  changed = nmt.changed;
  strayed = Unknown;
  mixed = false;
  odd = nmt.odd;
  leaving = leaving_after nmt.state nmt.leaving;
}

-- ---- boot-ups

-- A boot-up is overdue after a reset command, whichever other commands follow: since then so much
-- time has passed.
abbrev pub overdue_since : Limits → ℕ → ℕ → Option ℕ
overdue_since limits reset micros = if is_past reset limits.boot micros then Some (micros - reset) else None

abbrev pub overdue_in : Limits → NmtState → Option ℕ → ℕ → Option ℕ
overdue_in limits Initialising reset micros = option_and_then (λ r. overdue_since limits r micros) reset
overdue_in limits state reset micros = None

unfoldable pub awaits_boot_up : Limits → Nmt → ℕ → Option ℕ
awaits_boot_up limits nmt micros = overdue_in limits nmt.state nmt.reset micros

-- `boot-missing`: a frame of the device that is no boot-up, where one is overdue
unfoldable pub boot_finding : Limits → Nmt → ℕ → Option Finding
boot_finding limits nmt micros = option_map (λ waited. BootMissing waited) (awaits_boot_up limits nmt micros)

-- `second-sender`: another boot-up within a second, and only one was due. Between them came no reset
-- command, and no heartbeat, answer or EMCY of the device; a PDO may be another node's. A device that
-- is switched off and on by hand takes longer than a second, but perhaps not longer than a boot-up may
-- take. Two with one stamp may be far apart: in a recording without stamps, or of a recorder that stamps a batch at its
-- begin, or reads its queue in parts.
unfoldable pub second_boot_up : Option ℕ → ℕ → Option Finding
second_boot_up None micros = None
second_boot_up (Some booted) micros =
    if nat_le micros booted || is_past booted 1000 micros then None else Some (SecondBootUp (micros - booted))

-- more than one boot-up may still come: the newest reset isn't so old that its boot-up would be
-- overdue
abbrev pub several_left : Limits → Nmt → ℕ → Bool
several_left limits nmt micros = option_map_or (λ reset. nmt.several && not (is_past reset limits.boot micros)) nmt.reset false

-- `restarted`: a boot-up of a device that was seen up, though no reset was commanded since; none of
-- several that may be due, and not where it is taken for another device's
unfoldable pub restart_remark : Limits → Nmt → ℕ → Option Remark
restart_remark limits nmt micros =
    if not (is_up nmt.state) || (several_left limits nmt micros || is_some (second_boot_up nmt.booted micros)) then None else Some Restarted

-- After a boot-up a device is pre-operational. Where another command than a reset came shortly
-- before, it may have taken it, and others before that: it may be stopped still.
abbrev pub boots_known : Limits → Option Commanded → ℕ → Bool
boots_known limits commanded micros = option_map_or (λ c. is_reset c.service || is_past c.micros limits.boot micros) commanded true

-- Shortly before it the recording began anew, and no command came since: one of before, which is forgotten or
-- missing, may be followed still.
abbrev pub boots_after_loss : Limits → Nmt → ℕ → Bool
boots_after_loss limits nmt micros =
    not (is_some nmt.commanded) && option_map_or (λ anew. not (is_past anew limits.boot micros)) nmt.reset false

abbrev pub due_booted : Limits → Nmt → ℕ → NmtState
due_booted limits nmt micros =
    if boots_after_loss limits nmt micros then Operational
    else (if boots_known limits nmt.commanded micros then Unknown else nmt.due)

abbrev pub leaving_booted : Limits → Nmt → ℕ → Leaving
leaving_booted limits nmt micros =
    if boots_known limits nmt.commanded micros && not (boots_after_loss limits nmt micros) then Nothing else Awaited

unfoldable pub after_boot_up : Limits → Nmt → ℕ → Nmt
after_boot_up limits nmt micros = record {
  state = if boots_known limits nmt.commanded micros then PreOperational else Unknown;
  commanded = nmt.commanded;
  reset = nmt.reset;
  several = several_left limits nmt micros;
  booted = if several_left limits nmt micros then None else Some micros;
  due = due_booted limits nmt micros;
  followed = None;
  changed = None;
  strayed = Unknown;
  mixed = false;
  odd = None;
  leaving = leaving_booted limits nmt micros;
}

-- a heartbeat, an answer or another frame of error control; after a boot-up that is missing the state
-- is unknown
unfoldable pub after_other : Limits → Nmt → ℕ → Nmt
after_other limits nmt micros = record nmt {
  state = if is_some (awaits_boot_up limits nmt micros) then Unknown else nmt.state;
  several = several_left limits nmt micros;
  booted = None;
}

-- the tolerance is over since the recording began, and since the newest command
unfoldable pub is_settled : Limits → ℕ → Option Commanded → ℕ → Bool
is_settled limits started commanded micros =
    is_past started limits.tolerance micros && option_map_or (λ c. is_past c.micros limits.tolerance micros) commanded true

-- ---- states that change

-- Where the newest command leads to another state than the one that is known, either is right: CiA 301
-- sets no time for a transition. By its rules a frame is judged in the state in which a device may send
-- more.
abbrev pub freer : NmtState → NmtState → NmtState
freer PreOperational Operational = Operational
freer Stopped Operational = Operational
freer Stopped PreOperational = PreOperational
freer state due = state

abbrev pub judged_state : Nmt → NmtState
judged_state nmt = freer nmt.state nmt.due

-- The tolerance is over since a heartbeat showed that a frame may be on its way which the state forbids, or
-- that a request may have come while stopped.
abbrev pub is_steady : Limits → Nmt → ℕ → Bool
is_steady limits nmt micros = option_map_or (λ c. is_past c limits.tolerance micros) nmt.changed true

-- and the device can't have been stopped since a command leads out of that
abbrev pub was_running : Limits → Nmt → ℕ → Bool
was_running limits nmt asked = is_steady limits nmt asked && not (was_stopped nmt.leaving asked)

-- a frame comes that shows that it isn't stopped, or not
abbrev pub with_left : Nmt → Bool → ℕ → Nmt
with_left nmt shows micros = record nmt { leaving = leaving_shown shows micros nmt.leaving }

abbrev pub same_state : NmtState → NmtState → Bool
same_state PreOperational PreOperational = true
same_state Operational Operational = true
same_state Stopped Stopped = true
same_state state other = false

-- by itself a device went to a state that forbids more, or it was stopped
abbrev pub is_turn : NmtState → NmtState → Bool
is_turn Operational PreOperational = true
is_turn Operational Stopped = true
is_turn PreOperational Stopped = true
is_turn Unknown Stopped = true
is_turn Stopped PreOperational = true
is_turn Stopped Operational = true
is_turn state shown = false

-- A heartbeat shows this state. That which the newest command leads to isn't awaited any more once it is
-- shown.
abbrev pub with_state : Nmt → NmtState → ℕ → Nmt
with_state nmt shown micros = record nmt {
  state = shown;
  due = if same_state shown nmt.due then Unknown else nmt.due;
  followed = if same_state shown nmt.state then nmt.followed else None;
  changed = if is_turn nmt.state shown then Some micros else nmt.changed;
  leaving = leaving_shown (is_running shown) micros nmt.leaving;
}

-- ---- a command that was followed

-- PDOs are sent while operational alone
abbrev pub is_idle : Bool → NmtState → Bool
is_idle starts_itself PreOperational = not starts_itself
is_idle starts_itself Stopped = true
is_idle starts_itself state = false

-- a stopped device sends no EMCY and no answer
abbrev pub is_stopped : NmtState → Bool
is_stopped Stopped = true
is_stopped other = false

-- The state that was shown forbids a frame that the device sends, and that which the newest command leads
-- to allows it: the device has followed the command by then.
abbrev pub has_followed : (NmtState → Bool) → Nmt → Bool
has_followed forbids nmt = forbids nmt.state && not (forbids (judged_state nmt))

-- the first such frame since the command
abbrev pub with_followed : Nmt → Bool → ℕ → Nmt
with_followed nmt follows micros = record nmt {
  followed = if follows && not (is_some nmt.followed) then Some micros else nmt.followed;
}

-- A heartbeat shows the state before once more, later than the tolerance after such a frame: the device
-- was in the other state and left it. So that isn't due any more.
abbrev pub is_back : Limits → Nmt → ℕ → NmtState → Bool
is_back limits nmt free shown =
    same_state shown nmt.state && option_map_or (λ f. is_past f limits.tolerance free) nmt.followed false

abbrev pub with_back : Bool → ℕ → Nmt → Nmt
with_back back micros nmt = record nmt {
  due = if back then Unknown else nmt.due;
  followed = if back then None else nmt.followed;
  changed = if back then Some micros else nmt.changed;
}

-- ---- what came before the recording

-- No command came since the recording began, and a device has followed each that came before by now: it takes
-- no longer than from a reset to the boot-up.
abbrev pub is_over : Limits → ℕ → Option Commanded → ℕ → Bool
is_over limits started commanded free = not (is_some commanded) && is_past started limits.boot free

-- then nothing is due any more
abbrev pub with_over : Bool → Nmt → Nmt
with_over over nmt = record nmt { due = if over then Unknown else nmt.due }

-- ---- heartbeats

-- a state with its toggle bit set: an answer of node guarding, whether its remote frame was
-- recorded or not
abbrev pub is_guarded_state : ℕ → Bool
is_guarded_state byte = (byte == 0x84) || ((byte == 0x85) || (byte == 0xFF))

abbrev pub is_state : ℕ → Bool
is_state byte = (byte == 4) || ((byte == 5) || (byte == 127))

abbrev pub state_of : ℕ → NmtState
state_of byte = if byte == 4 then Stopped else (if byte == 5 then Operational else (if byte == 127 then PreOperational else Unknown))

-- A device becomes operational by a command alone, unless its NMT startup (1F80h) may say
-- otherwise, and leaves stopped by a command alone. From operational it may fall back by itself, at
-- a failure (1029h).
abbrev pub is_wrong : Bool → NmtState → NmtState → Bool
is_wrong starts_itself PreOperational Operational = not starts_itself
is_wrong starts_itself Stopped Operational = true
is_wrong starts_itself Stopped PreOperational = true
is_wrong starts_itself state shown = false

abbrev pub is_operational : NmtState → Bool
is_operational Operational = true
is_operational other = false

abbrev pub is_initialising : NmtState → Bool
is_initialising Initialising = true
is_initialising other = false

-- `heartbeat-state`: a state that it can't be in, or a byte that is no state
unfoldable pub state_finding : Bool → NmtState → ℕ → Option Finding
state_finding starts_itself state byte =
    if is_state byte then (if is_wrong starts_itself state (state_of byte) then Some (WrongState (state_of byte) state) else None)
    else (if is_initialising state then None else Some (NoState byte))

-- ---- one mistake is one difference

-- but for bit 7: that is the toggle bit of node guarding (CiA 301, 7.2.8.3.2), which changes with each answer
abbrev pub is_same_byte : ℕ → Option Odd → Bool
is_same_byte byte (Some (Byte other)) = byte % 128 == other % 128
is_same_byte byte odd = false

abbrev pub is_same_length : ℕ → Option Odd → Bool
is_same_length length (Some (Length other)) = length == other
is_same_length length odd = false

-- a byte that is no state isn't said again until another state or length comes, or a boot-up
abbrev pub said_of : Option Odd → Option Finding → Option Finding
said_of odd (Some (NoState byte)) = if is_same_byte byte odd then None else Some (NoState byte)
said_of odd finding = finding

abbrev pub odd_after : Option Finding → ℕ → Option Odd → Option Odd
odd_after (Some (NoState other)) byte odd = Some (Byte other)
odd_after finding byte odd = if is_same_byte byte odd then odd else None

-- `heartbeat-length`: error control of another number of bytes than one; the same isn't said again until
-- one of another length comes, or a boot-up
abbrev pub odd_finding : Nmt → ℕ → Option Finding
odd_finding nmt length = if is_same_length length nmt.odd then None else Some (HeartbeatLength length)

abbrev pub with_odd : Option Odd → Nmt → Nmt
with_odd odd nmt = record nmt { odd = odd }

-- ---- states in turn

-- a heartbeat shows a state that the device can't have reached by itself
abbrev pub strays : Subject → ℕ → Bool → Nmt → ℕ → ℕ → Bool
strays subject started guarded nmt free byte =
    (not guarded && is_settled subject.limits started nmt.commanded free)
    && (is_state byte && is_wrong subject.facts.starts_itself (judged_state nmt) (state_of byte))

-- It went so out of the same state before, and returned to it, and the heartbeat comes sooner than its
-- period: the heartbeats are those of two devices.
abbrev pub strays_again : Subject → ℕ → Bool → Bool → Nmt → ℕ → ℕ → Bool
strays_again subject started guarded early nmt free byte =
    strays subject started guarded nmt free byte && (same_state (judged_state nmt) nmt.strayed && early)

-- of two devices the state is unknown until a boot-up or a command
abbrev pub with_turn : Bool → Bool → NmtState → Nmt → Nmt
with_turn stray again state nmt = record nmt {
  state = if again then Unknown else nmt.state;
  due = if again then Unknown else nmt.due;
  strayed = if stray then state else nmt.strayed;
  mixed = again || nmt.mixed;
}

abbrev pub after_turn : Subject → ℕ → Bool → Bool → Nmt → ℕ → ℕ → Nmt → Nmt
after_turn subject started guarded early nmt free byte next =
    with_turn (strays subject started guarded nmt free byte) (strays_again subject started guarded early nmt free byte) (judged_state nmt) next

-- ---- error control

-- The difference of a heartbeat's byte; the states of node guarding's answers aren't judged, but that they are states: in
-- seven bits, beside the toggle bit. A heartbeat may
-- have waited since the bus was free last: where a command came since, or within the tolerance
-- before, it may be one of the state before that.
unfoldable pub control_finding : Subject → ℕ → Bool → Bool → Nmt → ℕ → ℕ → Option Finding
control_finding subject started guarded early nmt free byte =
    if strays_again subject started guarded early nmt free byte then Some (TwoStates (state_of byte) (judged_state nmt))
    else (if (guarded && is_state byte) || (is_guarded_state byte || not (is_settled subject.limits started nmt.commanded free)) then None
    else said_of nmt.odd (state_finding subject.facts.starts_itself (judged_state nmt) byte))

-- a heartbeat shows the state, once it was settled when the bus was free last, and unless the boot-up
-- is awaited, or two devices send
abbrev pub shows_state : Limits → ℕ → Nmt → ℕ → ℕ → Bool
shows_state limits started nmt free byte =
    is_settled limits started nmt.commanded free && (is_state byte && not (is_initialising nmt.state || nmt.mixed))

abbrev pub shows_back : Limits → ℕ → Nmt → ℕ → ℕ → Bool
shows_back limits started nmt free byte =
    shows_state limits started nmt free byte && is_back limits nmt free (state_of byte)

-- a heartbeat shows the state once that is over
abbrev pub shows_over : Limits → ℕ → Nmt → ℕ → ℕ → Bool
shows_over limits started nmt free byte =
    shows_state limits started nmt free byte && is_over limits started nmt.commanded free

unfoldable pub after_control : Limits → ℕ → Nmt → ℕ → ℕ → ℕ → Nmt
after_control limits started nmt free micros byte =
    if byte == 0 then after_boot_up limits nmt micros
    else with_over (shows_over limits started nmt free byte)
    (with_back (shows_back limits started nmt free byte) micros
    (if shows_state limits started nmt free byte then with_state (after_other limits nmt micros) (state_of byte) micros
    else after_other limits nmt micros))

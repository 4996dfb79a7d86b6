-- A device that may still be stopped after a command that leads out of stopped, on both sides of each edge.
use Rattle.std.proofs.Common.{◌≡◌, true, false, [], ◌∷◌, map, Some, refl}
use Rattle.co_frame.specs.declared.nmt.NmtService.TheVariants.{Start, Stop, EnterPreOperational}
use Rattle.conode_compare_nmt.specs.declared.finding.NmtState.{NmtState}
use Rattle.conode_compare_nmt.specs.declared.finding.NmtState.TheVariants.{Unknown, Initialising, PreOperational, Operational, Stopped}
use Rattle.conode_compare_nmt.specs.declared.leaving.Leaving.TheVariants.{Nothing, Awaited, Shown}
use Rattle.conode_compare_nmt.specs.declared.nmt.Nmt.{Nmt}
use Rattle.conode_compare_nmt.specs.States.{after_boot_up, after_command, after_control, after_other, awaits_boot_up, is_settled, nothing_commanded}
use Rattle.conode_compare_nmt.proofs.Examples.{limits}

-- ---- a command

abbrev pub in_state : NmtState → Nmt
in_state state = record nothing_commanded { state = state }

-- where it may be stopped, as far as is known
started : map (λ state. (after_command (in_state state) Start false 100000).leaving) (Stopped ∷ Unknown ∷ PreOperational ∷ Operational ∷ Initialising ∷ [])
    ≡ Awaited ∷ Awaited ∷ Nothing ∷ Nothing ∷ Nothing ∷ []
unfolding after_command
started = refl

-- another command, and one that it may have sent itself
commanded : map (λ own. (after_command (in_state Stopped) EnterPreOperational own 100000).leaving) (false ∷ true ∷ []) ≡ Awaited ∷ Awaited ∷ []
unfolding after_command
commanded = refl

-- by the first command it is operational, as far as is known; whether it followed it isn't
abbrev pub starting : Nmt
starting = record nothing_commanded {
  state = Operational;
  commanded = Some (record { service = Start; micros = 100000 });
  due = Operational;
  leaving = Awaited;
}

once_more : (after_command starting EnterPreOperational false 200000).leaving ≡ Awaited
unfolding after_command
once_more = refl

-- shown before: a Stop and another Start
stopped_again : (after_command (after_command (record starting { leaving = Shown 150000 }) Stop false 200000) Start false 300000).leaving ≡ Awaited
unfolding after_command
stopped_again = refl

only_stopped : (after_command (record starting { leaving = Shown 150000 }) Stop false 200000).leaving ≡ Shown 150000
unfolding after_command
only_stopped = refl

-- a boot-up within 10 s after the command, which the device may have taken, and another one before it; and later
boots_up : map (λ micros. (after_boot_up limits (record starting { leaving = Nothing }) micros).leaving) (10100000 ∷ 10100001 ∷ []) ≡ Awaited ∷ Nothing ∷ []
unfolding after_boot_up
boots_up = refl

boots_up_later : (after_boot_up limits starting 20000000).leaving ≡ Nothing
unfolding after_boot_up
boots_up_later = refl

-- ---- a heartbeat

-- operational, pre-operational, stopped, no state
heartbeats : map (λ byte. (after_control limits 0 starting 110001 110002 byte).leaving) (5 ∷ 127 ∷ 4 ∷ 6 ∷ []) ≡ Shown 110002 ∷ Shown 110002 ∷ Awaited ∷ Awaited ∷ []
unfolding after_control after_other awaits_boot_up is_settled
heartbeats = refl

-- within the tolerance after the command it may be one of before
too_soon : (after_control limits 0 starting 110000 110002 5).leaving ≡ Awaited
unfolding after_control after_other awaits_boot_up is_settled
too_soon = refl

-- the first one counts; and only after such a command
first_heartbeat : map (λ leaving. (after_control limits 0 (record starting { leaving = leaving }) 200000 200000 5).leaving) (Shown 110002 ∷ Nothing ∷ []) ≡ Shown 110002 ∷ Nothing ∷ []
unfolding after_control after_other awaits_boot_up is_settled
first_heartbeat = refl

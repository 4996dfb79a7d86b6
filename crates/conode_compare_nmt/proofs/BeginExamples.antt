-- The NMT state as a recording begins, also anew: what a command before that allows, on both sides of each edge.
use Rattle.std.proofs.Common.{◌≡◌, ℕ, true, false, [], ◌∷◌, map, Option, Some, None, refl}
use Rattle.co_frame.specs.declared.nmt.NmtService.TheVariants.{Stop, ResetNode}
use Rattle.conode_compare_nmt.specs.declared.finding.NmtState.TheVariants.{Unknown, PreOperational, Operational, Stopped}
use Rattle.conode_compare_nmt.specs.declared.leaving.Leaving.TheVariants.{Nothing, Awaited, Shown}
use Rattle.conode_compare_nmt.specs.declared.nmt.Nmt.{Nmt}
use Rattle.conode_compare_nmt.specs.States as states
use Rattle.conode_compare_nmt.specs.States.{after_boot_up, after_command, after_other, at_begin, awaits_boot_up, is_settled}
use Rattle.conode_compare_nmt.proofs.Examples.{limits}

-- it may be stopped until a heartbeat shows that it isn't: stopped, pre-operational, operational
leaves : map (λ byte. (states.after_control limits 0 (at_begin None) 10001 10002 byte).leaving) (4 ∷ 127 ∷ 5 ∷ []) ≡ Awaited ∷ Shown 10002 ∷ Shown 10002 ∷ []
unfolding states.after_control after_other awaits_boot_up is_settled
leaves = refl

-- ---- a boot-up

abbrev boots : Option ℕ → ℕ → Nmt
boots anew micros = after_boot_up limits (at_begin anew) micros

-- within 10 s after the recording began anew, and later; and in one that began with another frame, or with it
due : map (λ micros. (boots (Some 0) micros).due) (10000000 ∷ 10000001 ∷ []) ≡ Operational ∷ Unknown ∷ []
unfolding after_boot_up
due = refl

leaving : map (λ micros. (boots (Some 0) micros).leaving) (10000000 ∷ 10000001 ∷ []) ≡ Awaited ∷ Nothing ∷ []
unfolding after_boot_up
leaving = refl

state : map (λ micros. (boots (Some 0) micros).state) (10000000 ∷ 10000001 ∷ []) ≡ PreOperational ∷ PreOperational ∷ []
unfolding after_boot_up
state = refl

at_first : ((boots None 0).due ≡ Unknown) × ((boots None 0).leaving ≡ Nothing)
unfolding after_boot_up
at_first = (refl, refl)

-- a device that was shown operational may be started again by a command before its boot-up
due_again : (after_boot_up limits (states.after_control limits 0 (at_begin (Some 0)) 10001 10001 5) 20000).due ≡ Operational
unfolding states.after_control after_boot_up after_other awaits_boot_up is_settled
due_again = refl

-- a reset of the recording ends it; another command of it may have been taken, too
after_reset : ((after_boot_up limits (after_command (at_begin (Some 0)) ResetNode false 5) 10).due ≡ Unknown)
    × ((after_boot_up limits (after_command (at_begin (Some 0)) ResetNode false 5) 10).leaving ≡ Nothing)
unfolding after_command after_boot_up
after_reset = (refl, refl)

after_stop : ((after_boot_up limits (after_command (at_begin (Some 0)) Stop false 5) 10).state ≡ Unknown)
    × ((after_boot_up limits (after_command (at_begin (Some 0)) Stop false 5) 10).due ≡ Stopped)
unfolding after_command after_boot_up
after_stop = (refl, refl)

-- ---- two boot-ups

-- up to 10 s after the recording began anew two may come, of a reset command before that too
none_left : map (λ micros. (after_other limits (at_begin (Some 0)) micros).several) (10000000 ∷ 10000001 ∷ []) ≡ true ∷ false ∷ []
unfolding after_other
none_left = refl

none_at_first : (at_begin None).several ≡ false
none_at_first = refl

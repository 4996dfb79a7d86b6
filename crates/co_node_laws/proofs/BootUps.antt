-- The frames of a reset of all nodes.
use Rattle.std.proofs.Common.{◌≡◌, Bool, true, false, Some, None, [], ◌∷◌, refl}
use Rattle.co_frame.specs.declared.heartbeat.Heartbeat.TheVariants.{BootUp}
use Rattle.co_dict.specs.declared.area.Area.{Area}
use Rattle.co_dict.specs.declared.area.Area.TheVariants.{Communication, All}
use Rattle.co_node_parts.specs.declared.emergencies.EmergencyEvent.TheVariants.{Empty}
use Rattle.co_node_parts.specs.EmergencyQueues.{EmergencyLog, Noted, emergency_due}
use Rattle.co_node_model.specs.Inputs.{Inputs}
use Rattle.co_node_model.specs.Moments.{Constants, Moment}
use Rattle.co_node_model.specs.Emergencies.{emergency_log}
use Rattle.co_node_model.specs.Device.{moment, prescribed, frames, moments}
use Rattle.co_node_model.specs.Nmt.{reset_of}
use Rattle.co_node_model.specs.Heartbeats.{boot_up}

-- after a reset no emergency is due
nothing_due : (may : Bool) (log : EmergencyLog) → emergency_due may (Noted Empty ∷ log) ≡ None
nothing_due true log = refl
nothing_due false log = refl

-- a moment whose only frame is a boot-up
alone : (k : Constants) (m : Moment) → m.exchange ≡ None → m.timed_out ≡ None → m.emergency ≡ None → m.life ≡ Some BootUp → m.due ≡ []
    → frames k m ≡ boot_up k ∷ []
alone k m exchange timed_out emergency life due = rw (exchange, timed_out, emergency, life, due) refl

pub boot_up_alone : (k : Constants) (inputs : Inputs) (area : Area) → prescribed k inputs (reset_of area) ≡ boot_up k ∷ []
boot_up_alone k inputs All = alone k (moment k (moments k inputs) (reset_of All)) refl refl (nothing_due _ (emergency_log (moments k inputs))) refl refl
boot_up_alone k inputs Communication = alone k (moment k (moments k inputs) (reset_of Communication)) refl refl (nothing_due _ (emergency_log (moments k inputs))) refl refl

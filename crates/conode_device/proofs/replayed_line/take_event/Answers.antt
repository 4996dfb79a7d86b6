use Rattle.std.proofs.Common.{refl, ap}
use Rattle.conode_trace.specs.declared.event_line.EventLine.{EventLine}
use Rattle.conode_trace.specs.declared.trace_line.TraceLine.TheVariants.{Event}
use Rattle.conode_trace.specs.Traces.{app, own_input}
use Rattle.conode_device.proofs.replayed_line.take_event.Goals as goal

pub returns-in-App : goal.returns-in-App
returns-in-App c = record {
  input = app c.in-App.applied;
  is_own = ap (λ (event : EventLine). own_input (Event event)) c.in-App.is;
  stands = c.apply.ensures.stands;
  frames = c.apply.ensures.frames;
}

pub returns-in-Ticks : goal.returns-in-Ticks
returns-in-Ticks c = (ap (λ (event : EventLine). own_input (Event event)) c.in-Ticks.is, refl)

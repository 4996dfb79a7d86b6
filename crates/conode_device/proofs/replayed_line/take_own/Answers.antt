use Rattle.std.proofs.Common.{refl, ap, sym, subst}
use Rattle.conode_trace.specs.declared.trace_line.TraceLine.{TraceLine}
use Rattle.conode_trace.specs.Traces.{frame, own_input}
use Rattle.conode_device.specs.Runs.{TookOwn}
use Rattle.conode_device.proofs.replayed_line.take_own.Goals as goal

pub returns-in-Data : goal.returns-in-Data
returns-in-Data c = record {
  input = frame c.in-Data.frame;
  is_own = ap own_input c.in-Data.is;
  stands = c.take.ensures.stands;
  frames = c.take.ensures.frames;
}

pub returns-in-Event : goal.returns-in-Event
returns-in-Event c =
    subst (λ (line : TraceLine). TookOwn c.args.node.now c.take_event.new.node line c.take_event.new.sent.items c.take_event.result) (sym c.in-Event.is) c.take_event.ensures

pub returns-in-Skipped : goal.returns-in-Skipped
returns-in-Skipped c = (ap own_input c.in-Skipped.is, refl)

pub returns-in-PassedOver : goal.returns-in-PassedOver
returns-in-PassedOver c = (ap own_input c.in-PassedOver.is, refl)

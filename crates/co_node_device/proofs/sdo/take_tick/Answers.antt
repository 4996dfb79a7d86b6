use Rattle.std.proofs.Common.{◌≡◌, Bool, ap, ◌∙◌}
use Rattle.std.specs.Prelude.{is_some}
use Rattle.co_sdo.specs.Log.{Ticked}
use Rattle.co_sdo.specs.Events.{time_out_of, with_each}
use Rattle.co_node_model.specs.declared.mark.Mark.TheVariants as was
use Rattle.co_node_device.proofs.Receptions.{is_some_number}
use Rattle.co_node_device.proofs.sdo.take_tick.Goals as goal

pub returns-clause-mark : goal.returns-clause-mark
returns-clause-mark c = λ d channels logs all.
    let gone : c.is_some.result ≡ is_some (time_out_of channels (with_each Ticked logs)) =
    c.is_some.ensures ∙ ap is_some (c.tick-timed_out.ensures.which d channels logs all)
    ∙ is_some_number (time_out_of channels (with_each Ticked logs)) in
    ap (λ (b : Bool). was.Tick b) gone

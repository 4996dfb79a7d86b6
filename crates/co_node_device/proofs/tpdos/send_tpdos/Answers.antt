use Rattle.std.proofs.Common.{arith}
use Rattle.std.proofs.lemmas.Grind.{common_steps}
use Rattle.co_node_device.proofs.tpdos.send_tpdos.Goals as goal

pub loop-number-preserved : goal.loop-number-preserved
loop-number-preserved g c = record {
  count = omega (arith, c.loop-number.invariant.count, c.push.ensures.len);
  sent = λ history stands table.
      grind (arith, common_steps, c.loop-number.invariant.sent history stands table, c.tpdo_frame.ensures history stands table, c.push.ensures.items);
}

pub returns : goal.returns
returns g c = λ history stands table. grind (arith, common_steps, c.loop-number.invariant.sent history stands table)

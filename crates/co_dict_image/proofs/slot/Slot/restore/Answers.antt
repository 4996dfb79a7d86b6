-- The bytes that are put are those that the entry begins with.
use Rattle.std.proofs.Common.{arith}
use Rattle.std.proofs.lemmas.Grind.{common_steps}
use Rattle.co_dict_image.proofs.slot.Slot.restore.Goals as goal

pub returns : goal.returns
returns c = record {
  values = grind (arith, common_steps);
  len = c.fill.ensures.len;
  key = c.fill.ensures.key;
  row = c.fill.ensures.row;
  start = c.fill.ensures.start;
  size = grind (arith, common_steps);
  initial_size = c.fill.ensures.initial_size;
}

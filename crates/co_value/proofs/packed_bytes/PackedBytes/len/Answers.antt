-- The number has as many bytes as its length says.
use Rattle.std.proofs.Common.{◌∙◌, sym, ap, length}
use Rattle.co_value.proofs.Packing.{length-low_bytes}
use Rattle.co_value.proofs.packed_bytes.PackedBytes.len.Goals as goal

pub returns-clause-count : goal.returns-clause-count
returns-clause-count c = sym (length-low_bytes c.self.inside.length c.self.inside.number) ∙ ap length c.self.view_is

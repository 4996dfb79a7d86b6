-- More than four bytes are read by `byteorder`; and a number is below 256 to the power of its bytes.
use Rattle.std.proofs.Common.{◌∙◌, arith}
use Rattle.co_value.proofs.Bytes.{bytes_by_index, unsigned_of-below}
use Rattle.co_value.proofs.Reading.{little-is}
use Rattle.co_value.proofs.packed_bytes.unsigned_of.Goals as goal

pub returns-in_default-clause-number : goal.returns-in_default-clause-number
returns-in_default-clause-number c = c.read_uint.ensures ∙ little-is c.args.bytes.now

pub returns-in_default-clause-fits : goal.returns-in_default-clause-fits
returns-in_default-clause-fits c =
    rw (c.read_uint.ensures, little-is c.args.bytes.now) (unsigned_of-below c.args.bytes.now (bytes_by_index c.args.bytes.now (λ k below. omega (arith, c.type_inv.bytes k))))

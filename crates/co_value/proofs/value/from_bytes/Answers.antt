-- A number of as many bytes as the type is wide fits the width.
use Rattle.std.proofs.Common.{◌≡◌, Some, length, FitsSigned, arith, rules}
use Rattle.std.specs.Int.{w128}
use Rattle.std.proofs.lemmas.Int.{to_z-of_z}
use Rattle.co_value.specs.Types.{width_of}
use Rattle.co_value.proofs.Bytes.{bytes_by_index, number_of-FitsWidth}
use Rattle.co_value.proofs.value.from_bytes.Goals as goal

pub returns-clause-range : goal.returns-clause-range
returns-clause-range c =
    let bytes = bytes_by_index c.args.bytes.now (λ k below. omega (arith, c.type_inv.bytes k)) in
    let width : width_of c.args.data_type ≡ Some (length c.args.bytes.now) = search rules in
    let range : FitsSigned w128 c.number_in.result = search rules in
    let same = to_z-of_z w128 c.number_in.result range in
    rw (same, c.number_in.ensures) (number_of-FitsWidth c.args.data_type c.args.bytes.now bytes width)

-- What is written are the bytes of the number, and those are its bytes in the type's range.
use Rattle.std.specs.Int.{w128}
use Rattle.std.proofs.Common.{refl}
use Rattle.std.proofs.lemmas.Int.{to_z-of_z}
use Rattle.co_value.proofs.Bytes.{IsNumber-bytes_of, fits_width}
use Rattle.co_value.proofs.value.to_bytes.Goals as goal

pub returns-in-Some-clause-number : goal.returns-in-Some-clause-number
returns-in-Some-clause-number c =
    let same = to_z-of_z w128 c.args.value c.ranges.value in
    rw (c.number_bytes.ensures, same) (IsNumber-bytes_of c.args.data_type c.args.value (fits_width c.args.data_type c.args.value (rw same at (c.if-contains.ensures.0 refl))))

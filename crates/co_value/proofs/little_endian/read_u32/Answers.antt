use Rattle.std.proofs.Common.{◌≡◌, ℕ, ◌∙◌, subst}
use Rattle.byteorder.specs.Endian.{little_number}
use Rattle.co_value.specs.Numbers.{unsigned_of}
use Rattle.co_value.proofs.Reading.{little-is}
use Rattle.co_value.proofs.little_endian.read_u32.Goals as goal

pub returns : goal.returns
returns c =
    c.read_u32.ensures ∙ subst (λ (n : ℕ). little_number n c.args.bytes.now ≡ unsigned_of c.args.bytes.now) c.requires (little-is c.args.bytes.now)

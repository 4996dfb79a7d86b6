use Rattle.std.proofs.Common.{◌≡◌, arith, ap, length}
use Rattle.co_text.specs.HexPairs.{pairs_at}
use Rattle.co_text.proofs.Pairs.{length-pairs}
use Rattle.co_text.proofs.hex_pairs.HexPairs.len.Goals as goal

pub returns : goal.returns
returns c =
    let size = length-pairs c.self.inside.digits.now in
    let bytes : length (pairs_at c.self.inside.digits.now).0 ≡ length c.args.self.now = ap length c.self.view_is in
    let rest : length (pairs_at c.self.inside.digits.now).1 ≡ 0 = ap length c.self.invariant in
    omega (arith, size, bytes, rest)

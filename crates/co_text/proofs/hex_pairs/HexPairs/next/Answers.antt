use Rattle.std.proofs.Common.{sym, ◌∙◌}
use Rattle.co_text.proofs.Pairs.{pairs_left}
use Rattle.co_text.proofs.hex_pairs.HexPairs.next.Goals as goal

pub invariant_of-self : goal.invariant_of-self
invariant_of-self c = sym (pairs_left c.self.inside.digits.now c.in_ok-byte.byte c.in_ok-byte.rest.now (sym c.in_ok-byte.ensures.exact)) ∙ c.self.invariant

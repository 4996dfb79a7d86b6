use Rattle.std.proofs.Common.{arith, ◌==◌}
use Rattle.std.proofs.lemmas.Bool.Decides.{nat_tests}
use Rattle.co_text.proofs.CutLemmas.{list_any-position}
use Rattle.co_text.proofs.cut.split_at_first.Goals as goal

pub returns-then-place-text-clause-some : goal.returns-then-place-text-clause-some
returns-then-place-text-clause-some c = rw (list_any-position (λ b. b == c.args.byte) c.args.text.now) (grind (arith, nat_tests, c.place_of-place.ensures.place))

pub returns-clause-some : goal.returns-clause-some
returns-clause-some c = rw (list_any-position (λ b. b == c.args.byte) c.args.text.now) (grind (arith, nat_tests, c.place_of-place.ensures.place))

use Rattle.std.proofs.Common.{sym, ◌∙◌, arith}
use Rattle.conode_trace.proofs.Numbers.{number_short, number_found_part, number_found_whole, number_goes_on, below_twelve}
use Rattle.conode_record.proofs.numbers.number_at.Goals as goal

pub returns-then-count-least-clause-exact : goal.returns-then-count-least-clause-exact
returns-then-count-least-clause-exact c = number_short c.args.least c.args.most c.args.text.now c.loop-count.count (omega arith) (omega arith) c.loop-count.invariant.digits (λ _. grind arith) (omega arith)

pub returns-else-count-least-clause-exact : goal.returns-else-count-least-clause-exact
returns-else-count-least-clause-exact c = number_found_part c.args.least c.args.most c.args.text.now c.loop-count.count (omega arith) (omega arith) c.loop-count.invariant.digits (λ _. grind arith) c.loop-count.number (omega arith) c.loop-count.invariant.number

pub returns-else-count-least-clause-small : goal.returns-else-count-least-clause-small
returns-else-count-least-clause-small c = below_twelve c.loop-count.number c.loop-count.count c.loop-count.invariant.small (omega arith)

pub returns-then-count-most-clause-exact : goal.returns-then-count-most-clause-exact
returns-then-count-most-clause-exact c = number_goes_on c.args.least c.args.most c.args.text.now c.loop-count.count (omega arith) (omega arith) c.loop-count.invariant.digits (sym c.is_digit.ensures ∙ c.if-not-is_digit.false)

pub overflow_mul-number : goal.overflow_mul-number
overflow_mul-number c = omega (arith, below_twelve c.loop-count.number c.loop-count.count c.loop-count.invariant.small (omega arith))

pub overflow_add-number : goal.overflow_add-number
overflow_add-number c = omega (arith, below_twelve c.loop-count.number c.loop-count.count c.loop-count.invariant.small (omega arith))

pub returns-else-text-least-clause-exact : goal.returns-else-text-least-clause-exact
returns-else-text-least-clause-exact c = number_found_whole c.args.least c.args.most c.args.text.now c.loop-count.count (omega arith) (omega arith) c.loop-count.invariant.digits (λ h. absurd (omega arith)) c.loop-count.number (omega arith) (omega arith) c.loop-count.invariant.number

pub returns-else-text-least-clause-small : goal.returns-else-text-least-clause-small
returns-else-text-least-clause-small c = below_twelve c.loop-count.number c.loop-count.count c.loop-count.invariant.small (omega arith)

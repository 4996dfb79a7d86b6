use Rattle.std.proofs.Common.{[], ◌∷◌}
use Rattle.co_node.specs.Inputs.{Framed}
use Rattle.co_node_worked.specs.Worked.{constants}
use Rattle.co_node_worked.proofs.ChainExamples.{response_by, stands_by}
use Rattle.co_node_worked.proofs.chain.respond.Goals as goal

pub returns-clause-responses : goal.returns-clause-responses
returns-clause-responses c begun =
    response_by c.in-Ok.start c.in-Ok-new.request c.step-2.new.outbox.items
    c.in-Ok.ensures.frame c.in-Ok-new.ensures.frame
    (c.step-2.ensures.frames constants (Framed c.in-Ok.start ∷ []) (c.step.ensures.stands constants [] begun))

pub returns-clause-stands : goal.returns-clause-stands
returns-clause-stands c begun =
    stands_by c.in-Ok.start c.in-Ok-new.request c.step-2.new.self c.in-Ok.ensures.frame c.in-Ok-new.ensures.frame
    (c.step-2.ensures.stands constants (Framed c.in-Ok.start ∷ []) (c.step.ensures.stands constants [] begun))

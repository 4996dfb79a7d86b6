use Rattle.co_node_worked.proofs.chain.worked.Goals as goal

pub returns-clause-response : goal.returns-clause-response
returns-clause-response c = c.in-Some-respond.ensures.responses c.in-Some.ensures.begins

pub returns-clause-later : goal.returns-clause-later
returns-clause-later c = c.in-Some-elapse.ensures.heartbeats (c.in-Some-respond.ensures.stands c.in-Some.ensures.begins)

use Rattle.co_node_model.specs.Inputs.{Applied, app_view}
use Rattle.std.proofs.Common.{◌∷◌, ap, ◌∙◌}
use Rattle.co_node_model.specs.declared.app_answer.AppAnswer.{AppAnswer}
use Rattle.bafokun.specs.Ending.{by_answer}
use Rattle.bafokun.proofs.held.Held.take_event.Goals as goal

pub returns-clause-events : goal.returns-clause-events
returns-clause-events c = λ k before stands.
    c.note.ensures k before (Applied (app_view c.args.event)) (c.take_event.ensures.stands k before stands) (c.state-state.ensures k before stands)

pub returns-clause-ending : goal.returns-clause-ending
returns-clause-ending c = λ k before stands.
    c.after_event-self.ensures
    ∙ ap (λ (answer : AppAnswer). by_answer answer (app_view c.args.event) c.args.self.now.ending)
    (c.last_app.ensures k (Applied (app_view c.args.event) ∷ before) (c.take_event.ensures.stands k before stands))

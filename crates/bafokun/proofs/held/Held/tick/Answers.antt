use Rattle.std.proofs.Common.{◌∷◌, ◌==◌, length, ◌∙◌}
use Rattle.co_node_model.specs.Inputs.{Ticked}
use Rattle.co_node_device.specs.Lasts.{last_losses}
use Rattle.bafokun.proofs.Added.{ending_kept, ending_lost}
use Rattle.bafokun.proofs.held.Held.tick.Goals as goal

pub returns-then-note_tick-clause-events : goal.returns-then-note_tick-clause-events
returns-then-note_tick-clause-events c = λ k before stands.
    c.note_tick.ensures.events k before (c.tick.ensures.stands k before stands) (c.state-state.ensures k before stands)

pub returns-then-note_tick-clause-ending : goal.returns-then-note_tick-clause-ending
returns-then-note_tick-clause-ending c = λ k before stands.
    c.after_loss-self.ensures
    ∙ ending_lost (length (last_losses k (Ticked ∷ before)) == 0) c.note_tick.result c.args.self.now.ending
    (c.note_tick.ensures.lost k before (c.tick.ensures.stands k before stands)) c.if-note_tick.true

pub returns-else-note_tick-clause-events : goal.returns-else-note_tick-clause-events
returns-else-note_tick-clause-events c = λ k before stands.
    c.note_tick.ensures.events k before (c.tick.ensures.stands k before stands) (c.state-state.ensures k before stands)

pub returns-else-note_tick-clause-ending : goal.returns-else-note_tick-clause-ending
returns-else-note_tick-clause-ending c = λ k before stands.
    ending_kept (length (last_losses k (Ticked ∷ before)) == 0) c.note_tick.result c.args.self.now.ending
    (c.note_tick.ensures.lost k before (c.tick.ensures.stands k before stands)) c.if-note_tick.false

use Rattle.std.proofs.Common.{◌≡◌, ◌==◌, ℕ, Bool, not, List, [], ◌∷◌, length, sym, ap, ◌∙◌}
use Rattle.co_node_model.specs.Inputs.{Ticked}
use Rattle.co_node_device.specs.Lasts.{last_losses}
use Rattle.bafokun.proofs.Added.{none_by_test, quiet_tick}
use Rattle.bafokun.proofs.happened.Events.note_tick.Goals as goal

pub returns-then-not-is_empty-clause-events : goal.returns-then-not-is_empty-clause-events
returns-then-not-is_empty-clause-events c = λ k past stands was. c.note_late.ensures k past Ticked stands was

pub returns-then-not-is_empty-clause-lost : goal.returns-then-not-is_empty-clause-lost
returns-then-not-is_empty-clause-lost c = λ k past stands.
    ap (λ (b : Bool). not b) (sym c.if-not-is_empty.true ∙ c.is_empty.ensures)
    ∙ ap (λ (subs : List ℕ). not (length subs == 0)) (c.lost-lost.ensures k (Ticked ∷ past) stands)

pub returns-clause-events : goal.returns-clause-events
returns-clause-events c = λ k past stands was.
    let none : c.lost-lost.result.now ≡ [] = none_by_test _ (sym c.if-not-is_empty.false ∙ c.is_empty.ensures) in
    let lost : last_losses k (Ticked ∷ past) ≡ [] = sym (c.lost-lost.ensures k (Ticked ∷ past) stands) ∙ none in
    sym (quiet_tick k past c.args.self.now lost)

pub returns-clause-lost : goal.returns-clause-lost
returns-clause-lost c = λ k past stands.
    ap (λ (b : Bool). not b) (sym c.if-not-is_empty.false ∙ c.is_empty.ensures)
    ∙ ap (λ (subs : List ℕ). not (length subs == 0)) (c.lost-lost.ensures k (Ticked ∷ past) stands)

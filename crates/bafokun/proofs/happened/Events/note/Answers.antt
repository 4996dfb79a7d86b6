use Rattle.std.proofs.Common.{◌≡◌, List, ℕ, [], ◌∷◌, sym, ap, ◌∙◌}
use Rattle.co_node_model.specs.Device.{contents_of}
use Rattle.co_node_device.specs.Lasts.{last_losses}
use Rattle.bafokun.specs.Happened.{with_losses}
use Rattle.bafokun.proofs.Added.{none_by_test, stated}
use Rattle.bafokun.proofs.happened.Events.note.Goals as goal

pub returns-then-not-is_empty : goal.returns-then-not-is_empty
returns-then-not-is_empty c = λ k past input stands was.
    let contents = contents_of k (input ∷ past) in
    c.note_losses.ensures k (input ∷ past) stands
    ∙ ap (λ (subs : List ℕ). with_losses contents subs c.note_state.new.self) (c.lost-lost.ensures k (input ∷ past) stands)
    ∙ ap (with_losses contents (last_losses k (input ∷ past)))
    (stated k past input _ _ _ _ _ _ (c.last_seen.ensures k (input ∷ past) stands) was
    (c.state.ensures k (input ∷ past) stands) c.note_seen.ensures c.note_state.ensures)

pub returns-else-not-is_empty : goal.returns-else-not-is_empty
returns-else-not-is_empty c = λ k past input stands was.
    let contents = contents_of k (input ∷ past) in
    let none : c.lost-lost.result.now ≡ [] = none_by_test _ (sym c.if-not-is_empty.false ∙ c.is_empty.ensures) in
    let lost : [] ≡ last_losses k (input ∷ past) = sym none ∙ c.lost-lost.ensures k (input ∷ past) stands in
    ap (λ (subs : List ℕ). with_losses contents subs c.note_state.new.self) lost
    ∙ ap (with_losses contents (last_losses k (input ∷ past)))
    (stated k past input _ _ _ _ _ _ (c.last_seen.ensures k (input ∷ past) stands) was
    (c.state.ensures k (input ∷ past) stands) c.note_seen.ensures c.note_state.ensures)

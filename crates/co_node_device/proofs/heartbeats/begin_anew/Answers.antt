use Rattle.std.proofs.Common.{ℕ, List, ◌∷◌, subst, ◌∙◌}
use Rattle.co_node_parts.specs.ConsumerTables.{AllBegun, ConsumersStand}
use Rattle.co_node_device.proofs.heartbeats.begin_anew.Goals as goal

pub returns : goal.returns
returns g c = λ log h.
    subst (λ (words : List ℕ). ConsumersStand c.begin_all.new.self (AllBegun words ∷ log)) (c.deref.ensures.0 ∙ c.consumer_words.ensures) (c.begin_all.ensures log h)

use Rattle.std.proofs.Common.{◌≡◌, drop, map}
use Rattle.conode_words.specs.Choices.{choice_named}
use Rattle.conode_words.proofs.choices.choice_named.Given as goal

-- what is found in the rest is found in all
abbrev pub invariant-loop-name : goal.invariant-loop-name
invariant-loop-name g l =
    choice_named (map (λ c. (c.0.now, c.1)) (drop l.name-index l.choices)) l.word ≡ choice_named (map (λ c. (c.0.now, c.1)) l.choices) l.word

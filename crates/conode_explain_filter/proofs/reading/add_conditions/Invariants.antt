use Rattle.std.proofs.Common.{◌≡◌, length}
use denote.Text.{Utf8}
use denote.Shadow.{shadow}
use Rattle.conode_explain_filter.specs.Conditions.{conditions_of, words_in}
use Rattle.conode_explain_filter.proofs.Readings.{onto}
use Rattle.conode_explain_filter.proofs.reading.add_conditions.Given as goal

-- what the words so far ask for, and then those of the rest
abbrev pub invariant-loop-word : goal.invariant-loop-word
invariant-loop-word l = shadow (Utf8 l.rest)
    × (conditions_of l.option (words_in l.option l.text) ≡ onto l.conditions.items (conditions_of l.option (words_in l.option l.rest)))

abbrev pub decreases-loop-word : goal.decreases-loop-word
decreases-loop-word l = length l.rest

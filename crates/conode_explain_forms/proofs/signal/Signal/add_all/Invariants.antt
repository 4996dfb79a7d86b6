use Rattle.std.proofs.Common.{◌≡◌, length}
use denote.Text.{Utf8}
use denote.Shadow.{shadow}
use Rattle.conode_explain_forms.specs.Words.{signals_of, words_in}
use Rattle.conode_explain_forms.proofs.Readings.{onto}
use Rattle.conode_explain_forms.proofs.signal.Signal.add_all.Given as goal

-- what the words so far name, and then those of the rest
abbrev pub invariant-loop-word : goal.invariant-loop-word
invariant-loop-word l = shadow (Utf8 l.rest)
    × (signals_of (words_in l.text) ≡ onto l.signals.items (signals_of (words_in l.rest)))

abbrev pub decreases-loop-word : goal.decreases-loop-word
decreases-loop-word l = length l.rest

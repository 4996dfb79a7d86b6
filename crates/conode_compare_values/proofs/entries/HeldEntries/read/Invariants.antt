use Rattle.std.proofs.Common.{◌≡◌, map, length}
use Rattle.co_sheet.specs.SheetViews.{row_view}
use Rattle.conode_compare_values.specs.HeldWords.{held_of, words_in}
use Rattle.conode_compare_values.proofs.Readings.{onto}
use Rattle.conode_compare_values.proofs.entries.HeldEntries.read.Given as goal

-- what the words so far name, and then those of the rest
abbrev pub invariant-loop-word : goal.invariant-loop-word
invariant-loop-word l =
    held_of (map row_view l.rows) (words_in l.text) ≡ onto l.held.entries.items (held_of (map row_view l.rows) (words_in l.rest))

abbrev pub decreases-loop-word : goal.decreases-loop-word
decreases-loop-word l = length l.rest

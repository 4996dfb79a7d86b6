use Rattle.std.proofs.Common.{◌≡◌, map, take, Ok}
use Rattle.conode_sheets.specs.SheetWords.{sheet_word, word_view}
use Rattle.conode_sheets.proofs.sheet_word.sheet_words.Given as goal

abbrev pub invariant-loop-word : goal.invariant-loop-word
invariant-loop-word l = map (λ word. sheet_word word.now) (take l.word-index l.words) ≡ map (λ word. Ok (word_view word)) l.found.items

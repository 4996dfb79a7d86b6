-- One more word.
use Rattle.std.proofs.Common.{◌++◌, [], ◌∷◌, List, ℕ, length, add-one, ap, ap₂, ◌∙◌, arith, length-append}
use Rattle.conode_explain_cob_ids.specs.Sheets.{words_at}
use Rattle.conode_explain_cob_ids.proofs.sheet.words_at.Goals as goal

pub loop-count-preserved : goal.loop-count-preserved
unfolding words_at
loop-count-preserved c = (
  rw add-one (c.push.ensures.items ∙ ap₂ (λ (words : List ℕ) (word : ℕ). words ++ word ∷ []) c.loop-count.invariant.0 (rw add-one at c.word_at.ensures)),
  omega (arith, ap length c.push.ensures.items, length-append c.loop-count.words.items (c.word_at.result ∷ [])),
)

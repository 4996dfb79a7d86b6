use Rattle.std.proofs.Common.{◌∙◌, ◌++◌, ◌∷◌, [], ℕ, ap}
use Rattle.co_sheet_adapt.specs.Adapted.{shown_byte}
use Rattle.co_sheet_adapt.proofs.LoopLemmas.{map_added}
use Rattle.co_sheet_adapt.proofs.adapted.push_shown.Goals as goal

pub loop-byte-preserved : goal.loop-byte-preserved
loop-byte-preserved c =
    let before = c.loop-byte.text.items in
    map_added shown_byte c.args.bytes.now c.loop-byte.byte-index c.args.text.now.items before _ c.loop-byte-test.true c.loop-byte.invariant
    (c.in_ok-push.ensures.items ∙ ap (λ (b : ℕ). before ++ b ∷ []) c.shown_byte.ensures)

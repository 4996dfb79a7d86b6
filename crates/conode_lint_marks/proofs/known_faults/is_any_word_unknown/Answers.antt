use Rattle.std.proofs.Common.{◌≡◌, false, true, map}
use Rattle.co_sheet.specs.SheetViews.{row_view}
use Rattle.co_sheet_text.specs.Views.{section_view}
use Rattle.conode_lint_marks.specs.KnownFaults.{is_word_unknown}
use Rattle.conode_lint_marks.proofs.LoopLemmas.{tried_here, tried_more}
use Rattle.conode_lint_marks.proofs.known_faults.is_any_word_unknown.Goals as goal

pub returns-then-not-is_known_at : goal.returns-then-not-is_known_at
returns-then-not-is_known_at c =
    let test = is_word_unknown (map row_view c.args.rows.now) (map section_view c.args.sections.now) c.args.kinds.now c.args.index in
    let here : test c.loop-sub.sub ≡ true = cc in
    tried_here test c.loop-sub.sub _ c.loop-sub-test.true here c.loop-sub.invariant

pub loop-sub-preserved : goal.loop-sub-preserved
loop-sub-preserved c =
    let test = is_word_unknown (map row_view c.args.rows.now) (map section_view c.args.sections.now) c.args.kinds.now c.args.index in
    let here : test c.loop-sub.sub ≡ false = cc in
    tried_more test c.loop-sub.sub _ c.loop-sub-test.true here c.loop-sub.invariant

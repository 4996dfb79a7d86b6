use Rattle.std.proofs.Common.{◌∙◌, Some, cond, map, refl, sym}
use Rattle.std.proofs.lemmas.List.{drop_all}
use Rattle.co_value.specs.Keys.{same_key}
use Rattle.co_sheet.specs.Content.{Row}
use Rattle.co_sheet.specs.SheetViews.{row_view}
use Rattle.conode_lint_marks.specs.KnownFaults.{row_at}
use Rattle.conode_lint_marks.proofs.LoopLemmas.{found_here, passed_more}
use Rattle.conode_lint_marks.proofs.known_faults.row_at.Goals as goal

pub loop-row-preserved : goal.loop-row-preserved
loop-row-preserved c =
    let key = c.args.key in
    let is_it = λ (row : Row). same_key row.key key in
    passed_more (λ rows. row_at (map row_view rows) key) (λ row. is_it (row_view row)) (λ row b rest. cond b (Some (row_view row)) rest)
    (λ row rows. refl) (λ x y. refl)
    c.args.rows.now c.loop-row.row-index _ _ c.loop-row-test.true (sym c.eq.ensures ∙ c.if-eq.false) c.loop-row.invariant

pub returns : goal.returns
returns c = rw (drop_all c.loop-row.row-index c.args.rows.now c.loop-row-test.false) at c.loop-row.invariant

pub returns-then-eq : goal.returns-then-eq
returns-then-eq c =
    let key = c.args.key in
    let is_it = λ (row : Row). same_key row.key key in
    found_here (λ rows. row_at (map row_view rows) key) (λ row. is_it (row_view row)) (λ row b rest. cond b (Some (row_view row)) rest)
    (λ row rows. refl)
    c.args.rows.now c.loop-row.row-index _ _ c.loop-row-test.true (sym c.eq.ensures ∙ c.if-eq.true) c.loop-row.invariant

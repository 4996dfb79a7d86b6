use Rattle.std.proofs.Common.{◌∙◌, Some, cond, map, refl, sym}
use Rattle.std.specs.Prelude.{find, option_map}
use Rattle.std.proofs.lemmas.List.{drop_all}
use Rattle.co_value.specs.Keys.{same_key}
use Rattle.co_sheet.specs.Content.{Row}
use Rattle.co_sheet.specs.SheetViews.{row_view}
use Rattle.conode_lint_marks.specs.BuildLines.{row_line}
use Rattle.conode_lint_marks.proofs.LoopLemmas.{found_here, made_first, passed_more}
use Rattle.conode_lint_marks.proofs.build_lines.row_line.Goals as goal

pub loop-entry-preserved : goal.loop-entry-preserved
loop-entry-preserved c =
    let key = c.args.key in
    let is_it = λ (row : Row). same_key row.key key in
    passed_more (λ entries. row_line (map row_view entries) key) (λ entry. is_it (row_view entry)) (λ entry b rest. cond b (Some (row_view entry).line) rest)
    (λ entry entries. made_first (option_map (λ r. r.line)) (is_it (row_view entry)) (row_view entry) (find is_it (map row_view entries))) (λ x y. refl)
    c.args.entries.now c.loop-entry.entry-index _ _ c.loop-entry-test.true (sym c.eq.ensures ∙ c.if-eq.false) c.loop-entry.invariant

pub returns : goal.returns
returns c = rw (drop_all c.loop-entry.entry-index c.args.entries.now c.loop-entry-test.false) at c.loop-entry.invariant

pub returns-then-eq : goal.returns-then-eq
returns-then-eq c =
    let key = c.args.key in
    let is_it = λ (row : Row). same_key row.key key in
    found_here (λ entries. row_line (map row_view entries) key) (λ entry. is_it (row_view entry)) (λ entry b rest. cond b (Some (row_view entry).line) rest)
    (λ entry entries. made_first (option_map (λ r. r.line)) (is_it (row_view entry)) (row_view entry) (find is_it (map row_view entries)))
    c.args.entries.now c.loop-entry.entry-index _ _ c.loop-entry-test.true (sym c.eq.ensures ∙ c.if-eq.true) c.loop-entry.invariant

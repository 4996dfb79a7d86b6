use Rattle.std.proofs.Common.{cond, map, refl}
use Rattle.std.specs.Prelude.{◌==◌, find}
use Rattle.std.specs.Option.{option_map_or}
use Rattle.std.proofs.lemmas.List.{drop_all}
use Rattle.co_sheet.specs.Content.{ObjectRow}
use Rattle.co_sheet.specs.SheetViews.{object_row_view}
use Rattle.conode_lint_marks.specs.BuildLines.{object_line}
use Rattle.conode_lint_marks.proofs.LoopLemmas.{alike, apart, found_here, made_first, passed_more}
use Rattle.conode_lint_marks.proofs.build_lines.object_line.Goals as goal

pub loop-object-preserved : goal.loop-object-preserved
loop-object-preserved c =
    let index = c.args.index in
    let is_it = λ (object : ObjectRow). object.index == index in
    passed_more (λ objects. object_line (map object_row_view objects) index) (λ object. is_it (object_row_view object)) (λ object b rest. cond b (object_row_view object).line rest)
    (λ object objects. made_first (λ found. option_map_or (λ o. o.line) found 0) (is_it (object_row_view object)) (object_row_view object) (find is_it (map object_row_view objects))) (λ x y. refl)
    c.args.objects.now c.loop-object.object-index _ _ c.loop-object-test.true (apart _ _ c.if-object-index.false) c.loop-object.invariant

pub returns : goal.returns
returns c = rw (drop_all c.loop-object.object-index c.args.objects.now c.loop-object-test.false) at c.loop-object.invariant

pub returns-then-object-index : goal.returns-then-object-index
returns-then-object-index c =
    let index = c.args.index in
    let is_it = λ (object : ObjectRow). object.index == index in
    found_here (λ objects. object_line (map object_row_view objects) index) (λ object. is_it (object_row_view object)) (λ object b rest. cond b (object_row_view object).line rest)
    (λ object objects. made_first (λ found. option_map_or (λ o. o.line) found 0) (is_it (object_row_view object)) (object_row_view object) (find is_it (map object_row_view objects)))
    c.args.objects.now c.loop-object.object-index _ _ c.loop-object-test.true (alike _ _ c.if-object-index.true) c.loop-object.invariant

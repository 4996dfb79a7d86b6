use Rattle.std.proofs.Common.{◌||◌, ◌∙◌, ℕ, List, ap, map, refl, sym}
use Rattle.std.specs.List.{list_any}
use Rattle.std.proofs.lemmas.List.{drop_all}
use Rattle.co_sheet_text.specs.Text.{trim}
use Rattle.conode_lint.specs.Formats.{begins_with, has_line}
use Rattle.conode_lint_marks.proofs.LoopLemmas.{found_here, passed_more}
use Rattle.conode_lint.proofs.other_format.has_line.Goals as goal

pub loop-line-preserved : goal.loop-line-preserved
unfolding has_line
loop-line-preserved c =
    let word = c.args.word.now in
    let is_one = λ (line : List ℕ). begins_with word (trim line) in
    passed_more (λ lines. list_any is_one (map (λ line. line.now) lines)) (λ line. is_one line.now) (λ x b y. b || y) (λ x l. refl) (λ x y. refl) c.args.lines.now c.loop-line.line-index _ _ c.loop-line-test.true
    (ap (begins_with word) (sym c.trim.ensures) ∙ sym c.begins_with.ensures ∙ c.if-begins_with.false) c.loop-line.invariant

pub returns : goal.returns
unfolding has_line
returns c = rw (drop_all c.loop-line.line-index c.args.lines.now c.loop-line-test.false) at c.loop-line.invariant

pub returns-then-begins_with : goal.returns-then-begins_with
unfolding has_line
returns-then-begins_with c =
    let word = c.args.word.now in
    let is_one = λ (line : List ℕ). begins_with word (trim line) in
    found_here (λ lines. list_any is_one (map (λ line. line.now) lines)) (λ line. is_one line.now) (λ x b y. b || y) (λ x l. refl) c.args.lines.now c.loop-line.line-index _ _ c.loop-line-test.true
    (ap (begins_with word) (sym c.trim.ensures) ∙ sym c.begins_with.ensures ∙ c.if-begins_with.true) c.loop-line.invariant

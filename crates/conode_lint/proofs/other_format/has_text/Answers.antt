use Rattle.std.proofs.Common.{◌||◌, ◌∙◌, ℕ, List, ap, map, refl, sym}
use Rattle.std.specs.List.{list_any}
use Rattle.std.proofs.lemmas.List.{drop_all}
use Rattle.co_sheet_text.specs.Text.{trim}
use Rattle.conode_lint.specs.Formats.{has_text, is_text}
use Rattle.conode_lint_marks.proofs.LoopLemmas.{found_here, passed_more}
use Rattle.conode_lint.proofs.other_format.has_text.Goals as goal

pub loop-line-preserved : goal.loop-line-preserved
unfolding has_text
loop-line-preserved c =
    let is_one = λ (line : List ℕ). is_text (trim line) in
    passed_more (λ lines. list_any is_one (map (λ line. line.now) lines)) (λ line. is_one line.now) (λ x b y. b || y) (λ x l. refl) (λ x y. refl) c.args.lines.now c.loop-line.line-index _ _ c.loop-line-test.true
    (ap is_text (sym c.trim.ensures) ∙ sym c.is_text.ensures ∙ c.if-is_text.false) c.loop-line.invariant

pub returns : goal.returns
unfolding has_text
returns c = rw (drop_all c.loop-line.line-index c.args.lines.now c.loop-line-test.false) at c.loop-line.invariant

pub returns-then-is_text : goal.returns-then-is_text
unfolding has_text
returns-then-is_text c =
    let is_one = λ (line : List ℕ). is_text (trim line) in
    found_here (λ lines. list_any is_one (map (λ line. line.now) lines)) (λ line. is_one line.now) (λ x b y. b || y) (λ x l. refl) c.args.lines.now c.loop-line.line-index _ _ c.loop-line-test.true
    (ap is_text (sym c.trim.ensures) ∙ sym c.is_text.ensures ∙ c.if-is_text.true) c.loop-line.invariant

use Rattle.std.proofs.Common.{◌||◌, ◌∙◌, ℕ, List, map, refl, sym}
use Rattle.std.specs.List.{list_any}
use Rattle.std.specs.Str.{bytes_eq}
use Rattle.std.proofs.lemmas.List.{drop_all}
use Rattle.conode_lint_marks.proofs.LoopLemmas.{found_here, passed_more}
use Rattle.conode_lint.proofs.allowed.is_among.Goals as goal

pub loop-one-preserved : goal.loop-one-preserved
loop-one-preserved c =
    let is_one = λ (one : List ℕ). bytes_eq one c.args.name.now in
    passed_more (λ names. list_any is_one (map (λ one. one.now) names)) (λ one. is_one one.now) (λ x b y. b || y) (λ x l. refl) (λ x y. refl) c.args.names.now c.loop-one.one-index _ _ c.loop-one-test.true
    (sym c.eq.ensures ∙ c.if-eq.false) c.loop-one.invariant

pub returns : goal.returns
returns c = rw (drop_all c.loop-one.one-index c.args.names.now c.loop-one-test.false) at c.loop-one.invariant

pub returns-then-eq : goal.returns-then-eq
returns-then-eq c =
    let is_one = λ (one : List ℕ). bytes_eq one c.args.name.now in
    found_here (λ names. list_any is_one (map (λ one. one.now) names)) (λ one. is_one one.now) (λ x b y. b || y) (λ x l. refl) c.args.names.now c.loop-one.one-index _ _ c.loop-one-test.true
    (sym c.eq.ensures ∙ c.if-eq.true) c.loop-one.invariant

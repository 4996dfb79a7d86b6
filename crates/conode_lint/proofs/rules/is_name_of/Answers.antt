use Rattle.std.proofs.Common.{◌||◌, ◌∙◌, ℕ, List, ap, refl, sym}
use Rattle.std.specs.List.{list_any}
use Rattle.std.specs.Str.{bytes_eq}
use Rattle.std.proofs.lemmas.List.{drop_all}
use Rattle.conode_lint_marks.proofs.LoopLemmas.{found_here, passed_more}
use Rattle.conode_lint_marks.specs.declared.mark.Subject.{Subject}
use Rattle.conode_lint.specs.Words.{name_of}
use Rattle.conode_lint.proofs.rules.is_name_of.Goals as goal

pub loop-subject-preserved : goal.loop-subject-preserved
loop-subject-preserved c =
    let is_one = λ (subject : Subject). bytes_eq (name_of subject) c.args.name.now in
    passed_more (list_any is_one) is_one (λ x b y. b || y) (λ x l. refl) (λ x y. refl) c.args.subjects.now c.loop-subject.subject-index _ _ c.loop-subject-test.true
    (ap (λ (l : List ℕ). bytes_eq l c.args.name.now) (sym c.name_of.ensures) ∙ sym c.eq.ensures ∙ c.if-eq.false) c.loop-subject.invariant

pub returns : goal.returns
returns c = rw (drop_all c.loop-subject.subject-index c.args.subjects.now c.loop-subject-test.false) at c.loop-subject.invariant

pub returns-then-eq : goal.returns-then-eq
returns-then-eq c =
    let is_one = λ (subject : Subject). bytes_eq (name_of subject) c.args.name.now in
    found_here (list_any is_one) is_one (λ x b y. b || y) (λ x l. refl) c.args.subjects.now c.loop-subject.subject-index _ _ c.loop-subject-test.true
    (ap (λ (l : List ℕ). bytes_eq l c.args.name.now) (sym c.name_of.ensures) ∙ sym c.eq.ensures ∙ c.if-eq.true) c.loop-subject.invariant

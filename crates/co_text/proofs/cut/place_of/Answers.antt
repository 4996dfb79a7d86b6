use Rattle.std.proofs.Common.{◌≡◌, Bool, true, false, refl, sym, eqb, get_or, arith}
use Rattle.std.proofs.lemmas.List.Sums.{position_or_len_is}
use Rattle.co_text.proofs.cut.place_of.Goals as goal

fails : (b : Bool) → (b ≡ true → ⊥) → b ≡ false
fails true h = absurd (h refl)
fails false h = refl

pub returns-in-Some-clause-place : goal.returns-in-Some-clause-place
returns-in-Some-clause-place c =
    sym (position_or_len_is (λ byte. eqb byte c.args.byte) c.args.text.now c.in-Some.place 0 (omega (arith, c.in-Some.ensures.0.high))
    (λ k below. fails (eqb (get_or c.args.text.now k 0) c.args.byte) (c.in-Some.ensures.0.before k (omega arith) below)) (λ _. c.in-Some.ensures.1))

pub returns-in-None-clause-place : goal.returns-in-None-clause-place
returns-in-None-clause-place c =
    sym (position_or_len_is (λ byte. eqb byte c.args.byte) c.args.text.now _ 0 (omega arith)
    (λ k below. fails (eqb (get_or c.args.text.now k 0) c.args.byte) (c.in-None.ensures k (omega arith) below)) (λ h. absurd (omega arith)))

use Rattle.std.proofs.Common.{◌≡◌, ◌∙◌, ℕ, ◌+◌, ◌-◌, ◌<◌, List, ◌∷◌, false, length, take, take_all, drop, length-drop, subst, sym, ap, arith}
use Rattle.std.specs.List.{position_or_len, slice_split}
use Rattle.std.proofs.lemmas.List.Elements.{All-from_get_or}
use Rattle.std.proofs.lemmas.List.Splits.{slice_split_first, slice_split_none}
use Rattle.std.proofs.lemmas.List.Sums.{position_or_len_is}
use Rattle.conode_lint.specs.Allowed.{is_comma}
use Rattle.conode_lint.proofs.allowed.split_name.Goals as goal

pub returns-then-is_comma-clause-some : goal.returns-then-is_comma-clause-some
returns-then-is_comma-clause-some c =
    let text = c.args.text.now in
    let p = c.loop-place.place in
    let is : position_or_len is_comma text ≡ p =
    position_or_len_is is_comma text p 0 (omega arith) c.loop-place.invariant (λ _. sym c.is_comma.ensures ∙ c.if-is_comma.true) in
    let inside : position_or_len is_comma text < length text = omega (arith, is) in
    let cut : slice_split is_comma text ≡ take p text ∷ slice_split is_comma (drop (p + 1) text) =
    subst (λ (n : ℕ). slice_split is_comma text ≡ take n text ∷ slice_split is_comma (drop (n + 1) text)) is (slice_split_first is_comma text 0 inside) in
    let whole : take (length text - (p + 1)) (drop (p + 1) text) ≡ drop (p + 1) text =
    take_all (length text - (p + 1)) (drop (p + 1) text) (simp length-drop (omega arith)) in
    cut ∙ ap (λ (l : List ℕ). take p text ∷ slice_split is_comma l) (sym whole)

pub returns-clause-none : goal.returns-clause-none
returns-clause-none c =
    slice_split_none is_comma c.args.text.now (All-from_get_or (λ b. is_comma b ≡ false) c.args.text.now 0 (λ k below. c.loop-place.invariant k (omega arith)))

use Rattle.std.proofs.Common.{◌≤◌, lit<, ◌^◌, Some, None, ◌∙◌, ap, arith, cond}
use Rattle.std.proofs.Math.Nat.{pow-le-pow_right}
use Rattle.co_sheet_text.specs.Names.{number_in}
use Rattle.co_sheet_text.proofs.NumeralLemmas.{is_number_in-hexadecimal, hexadecimal_small, found}
use Rattle.co_sheet_text.proofs.section_kind.hexadecimal_up_to.Goals as goal

pub returns-in_err-number-clause-value : goal.returns-in_err-number-clause-value
returns-in_err-number-clause-value c =
    let same = is_number_in-hexadecimal c.args.most c.args.text.now c.if-text-most.false c.requires in
    c.from_residual.ensures ∙ c.in_err-number.ensures ∙ ap (λ b. cond b (Some (number_in 16 c.args.text.now)) None) same

pub overflow_cast-result : goal.overflow_cast-result
overflow_cast-result c =
    let same = is_number_in-hexadecimal c.args.most c.args.text.now c.if-text-most.false c.requires in
    let both = found _ (c.in_ok-number.ensures ∙ ap (λ b. cond b (Some (number_in 16 c.args.text.now)) None) same) in
    let small = hexadecimal_small c.args.most c.args.text.now c.if-text-most.false both.0 in
    let few : c.args.most ≤ 4 = c.requires in
    let most : 16 ^ c.args.most ≤ 16 ^ 4 = pow-le-pow_right (lit< tt) few in
    omega (arith, small, both.1, most)

pub returns-clause-value : goal.returns-clause-value
returns-clause-value c =
    let same = is_number_in-hexadecimal c.args.most c.args.text.now c.if-text-most.false c.requires in
    c.in_ok-number.ensures ∙ ap (λ b. cond b (Some (number_in 16 c.args.text.now)) None) same

pub returns-clause-small : goal.returns-clause-small
returns-clause-small c =
    let same = is_number_in-hexadecimal c.args.most c.args.text.now c.if-text-most.false c.requires in
    let both = found _ (c.in_ok-number.ensures ∙ ap (λ b. cond b (Some (number_in 16 c.args.text.now)) None) same) in
    let small = hexadecimal_small c.args.most c.args.text.now c.if-text-most.false both.0 in
    omega (arith, small, both.1)

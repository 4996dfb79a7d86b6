use Rattle.std.proofs.Common.{◌≡◌, ◌<◌, ◌≤◌, ◌+◌, ◌*◌, ◌^◌, length, get_or, arith, eqb, false, ◌∙◌, sym, ap}
use Rattle.std.proofs.lemmas.Bool.Decides.{nat_tests}
use Rattle.std.specs.Char.{digit_value}
use Rattle.co_sheet_text.proofs.NumeralLemmas.{great_at, read_all, next_at}
use Rattle.co_sheet_text.proofs.numeral.number_in.Goals as goal

pub returns-in_err-checked_mul : goal.returns-in_err-checked_mul
returns-in_err-checked_mul c =
    let byte : c.from.result ≡ get_or c.args.text.now c.loop-byte.byte-index 0 = c.from.ensures in
    let digit = c.in_ok-digit.ensures.value in
    let same : digit_value (get_or c.args.text.now c.loop-byte.byte-index 0) ≡ c.in_ok-digit.digit = ap digit_value (sym byte) ∙ sym digit.1 in
    let base : c.from-in-loop-byte.result ≡ c.args.base = c.from-in-loop-byte.ensures in
    let factor : c.loop-byte.number * c.from-in-loop-byte.result ≡ c.loop-byte.number * c.args.base = ap (λ b. c.loop-byte.number * b) base in
    let great : 2 ^ 64 ≤ c.args.base * c.loop-byte.number + c.in_ok-digit.digit = omega (arith, factor, c.in_err-checked_mul.ensures) in
    c.from_residual-in_err-checked_mul.ensures ∙ great_at c.args.base c.loop-byte.number c.loop-byte.byte-index c.in_ok-digit.digit c.args.text.now c.loop-byte-test.true c.requires.low same (omega arith) great c.loop-byte.invariant.same

pub returns-in_err-number : goal.returns-in_err-number
returns-in_err-number c =
    let byte : c.from.result ≡ get_or c.args.text.now c.loop-byte.byte-index 0 = c.from.ensures in
    let digit = c.in_ok-digit.ensures.value in
    let same : digit_value (get_or c.args.text.now c.loop-byte.byte-index 0) ≡ c.in_ok-digit.digit = ap digit_value (sym byte) ∙ sym digit.1 in
    let base : c.from-in-loop-byte.result ≡ c.args.base = c.from-in-loop-byte.ensures in
    let factor : c.loop-byte.number * c.from-in-loop-byte.result ≡ c.loop-byte.number * c.args.base = ap (λ b. c.loop-byte.number * b) base in
    let great : 2 ^ 64 ≤ c.args.base * c.loop-byte.number + c.in_ok-digit.digit = omega (arith, factor, c.in_err-number.ensures, c.in_ok-checked_mul.ensures, c.from-in-loop-byte-2.ensures) in
    c.from_residual-in_err-number.ensures ∙ great_at c.args.base c.loop-byte.number c.loop-byte.byte-index c.in_ok-digit.digit c.args.text.now c.loop-byte-test.true c.requires.low same (omega arith) great c.loop-byte.invariant.same

pub returns : goal.returns
returns c =
    let empty : eqb (length c.args.text.now) 0 ≡ false = sym c.if-is_empty.ensures in
    let some : 0 < length c.args.text.now = grind (arith, nat_tests) in
    read_all c.args.base c.loop-byte.number c.loop-byte.byte-index c.args.text.now some c.loop-byte-test.false (omega arith) c.loop-byte.invariant.same

pub loop-byte-preserved : goal.loop-byte-preserved
loop-byte-preserved c =
    let byte : c.from.result ≡ get_or c.args.text.now c.loop-byte.byte-index 0 = c.from.ensures in
    let digit = c.in_ok-digit.ensures.value in
    let same : digit_value (get_or c.args.text.now c.loop-byte.byte-index 0) ≡ c.in_ok-digit.digit = ap digit_value (sym byte) ∙ sym digit.1 in
    let base : c.from-in-loop-byte.result ≡ c.args.base = c.from-in-loop-byte.ensures in
    let factor : c.loop-byte.number * c.from-in-loop-byte.result ≡ c.loop-byte.number * c.args.base = ap (λ b. c.loop-byte.number * b) base in
    let sum : c.in_ok-number.number ≡ c.args.base * c.loop-byte.number + c.in_ok-digit.digit = omega (arith, factor, c.in_ok-number.ensures, c.in_ok-checked_mul.ensures, c.from-in-loop-byte-2.ensures) in
    record {
      small = omega (arith, c.in_ok-number.ensures);
      same = next_at c.args.base c.loop-byte.number c.loop-byte.byte-index c.in_ok-digit.digit c.in_ok-number.number c.args.text.now c.loop-byte-test.true same (omega arith) sum c.loop-byte.invariant.same;
    }

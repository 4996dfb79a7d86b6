use Rattle.std.proofs.Common.{◌≡◌, ◌<◌, ℕ, length, get_or, true, sym, arith}
use Rattle.std.proofs.lemmas.List.Sums.{prefix_len_is}
use Rattle.co_sheet_text.specs.Names.{is_hexadecimal_digit}
use Rattle.co_sheet_text.proofs.section_kind.hexadecimal_len.Goals as goal

pub returns-then-not-is_digit-clause-len : goal.returns-then-not-is_digit-clause-len
returns-then-not-is_digit-clause-len c =
    sym (prefix_len_is is_hexadecimal_digit c.args.text.now c.loop-place.place 0 (omega arith) c.loop-place.invariant (λ h. sym c.if-not-is_digit.ensures))

pub returns-clause-len : goal.returns-clause-len
returns-clause-len c =
    let all : (k : ℕ) → k < length c.args.text.now → is_hexadecimal_digit (get_or c.args.text.now k 0) ≡ true = λ k h. c.loop-place.invariant k (omega arith) in
    sym (prefix_len_is is_hexadecimal_digit c.args.text.now (length c.args.text.now) 0 (omega arith) all (λ h. absurd (omega arith)))

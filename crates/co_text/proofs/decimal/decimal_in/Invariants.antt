use Rattle.std.proofs.Common.{◌≡◌, ℕ, ◌<◌, ◌≤◌, true, get_or, take}
use Rattle.co_text.specs.Texts.{is_digit, decimal_value}
use Rattle.co_text.proofs.decimal.decimal_in.Given as goal

abbrev pub invariant-loop-byte : goal.invariant-loop-byte
invariant-loop-byte l = record {
  digits : (k : ℕ) → k < l.byte-index → is_digit (get_or l.word k 0) ≡ true;
  number : l.number ≡ decimal_value (take l.byte-index l.word);
  small : l.number ≤ l.most;
}

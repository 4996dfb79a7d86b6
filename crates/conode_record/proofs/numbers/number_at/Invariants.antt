use Rattle.std.proofs.Common.{◌≡◌, ℕ, ◌^◌, ◌<◌, ◌≤◌, true, get_or, take}
use Rattle.co_text.specs.Texts.{is_digit, decimal_value}
use Rattle.conode_record.proofs.numbers.number_at.Given as goal

abbrev pub invariant-loop-count : goal.invariant-loop-count
invariant-loop-count l = record {
  few : l.count ≤ l.most;
  digits : (k : ℕ) → k < l.count → is_digit (get_or l.text k 0) ≡ true;
  number : l.number ≡ decimal_value (take l.count l.text);
  small : l.number < 10 ^ l.count;
}

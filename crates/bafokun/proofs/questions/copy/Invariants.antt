use Rattle.std.proofs.Common.{◌≡◌, ◌≤◌, ◌<◌, ℕ, length, get_or}
use Rattle.bafokun.proofs.questions.copy.Given as goal

-- the places before the index have their bytes, the others what they had
abbrev pub invariant-loop-i : goal.invariant-loop-i
invariant-loop-i l = record {
  room : length l.bytes ≡ length l.fn.bytes;
  copied : (j e : ℕ) → j < l.i → get_or l.bytes j e ≡ get_or l.value j e;
  kept : (j e : ℕ) → l.i ≤ j → get_or l.bytes j e ≡ get_or l.fn.bytes j e;
}

-- Ten digits of seconds as twice five, after a text.
use Rattle.std.proofs.Common.{◌≡◌, ℕ, ◌/◌, ◌%◌, ◌<◌, ◌^◌, List, ◌++◌, refl, append_assoc}
use Rattle.co_text.specs.Printed.{digits_text}
use Rattle.conode_trace.specs.Printed.{seconds_text}
use Rattle.conode_trace.proofs.TenDigits.{seconds_text-ten}

pub ten : (text : List ℕ) (seconds : ℕ) → seconds < 10 ^ 10 → (text ++ digits_text 10 5 (seconds / 100000)) ++ digits_text 10 5 (seconds % 100000) ≡ text ++ seconds_text seconds
ten text seconds few = rw (seconds_text-ten seconds few, append_assoc) refl

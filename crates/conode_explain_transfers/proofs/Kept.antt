-- The first bytes of data that goes on.
use Rattle.std.proofs.Common.{◌≡◌, ℕ, ◌+◌, List, ◌++◌, length, take, ap, ◌∙◌, arith}
use Rattle.std.proofs.Math.Seq.{take-append-add}
use Rattle.conode_explain_transfers.specs.Digests.{shown_bytes}

-- of those that are kept there is room for so many more
pub kept : (first bytes : List ℕ) (room : ℕ) → room + length first ≡ 64 → take shown_bytes (first ++ bytes) ≡ first ++ take room bytes
kept first bytes room h =
    let all : 64 ≡ length first + room = omega (arith, h) in
    ap (λ n. take n (first ++ bytes)) all ∙ take-append-add first bytes room

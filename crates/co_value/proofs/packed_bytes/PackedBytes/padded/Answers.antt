-- Eight bytes of the number are its own, and zeros.
use Rattle.std.proofs.Common.{ℕ, List, ◌∙◌, ap, ◌-◌, ◌++◌, length, replicate}
use Rattle.co_value.proofs.Packing.{packed_padded}
use Rattle.co_value.proofs.packed_bytes.PackedBytes.padded.Goals as goal

pub returns : goal.returns
returns c =
    c.to_le_bytes.ensures ∙ packed_padded c.self.inside.length c.self.inside.number c.self.invariant.0 c.self.invariant.1
    ∙ ap (λ (bytes : List ℕ). bytes ++ replicate (8 - length bytes) 0) c.self.view_is

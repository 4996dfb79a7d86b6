-- Of its bytes and zeros, the first ones are its own.
use Rattle.std.proofs.Common.{ℕ, List, ◌∙◌, ap, sym, ◌-◌, ◌++◌, length, take, replicate}
use Rattle.co_value.proofs.Packing.{packed_front}
use Rattle.co_value.proofs.packed_bytes.PackedBytes.to_list.Goals as goal

pub returns : goal.returns
returns c =
    let held = c.self.inside.length in
    c.truncate.ensures.items ∙ ap (take held) (c.from-list.ensures.0 ∙ c.padded.ensures)
    ∙ ap (λ (bytes : List ℕ). take held (bytes ++ replicate (8 - length c.args.self.now) 0)) (sym c.self.view_is)
    ∙ packed_front held c.self.inside.number (replicate (8 - length c.args.self.now) 0) ∙ c.self.view_is

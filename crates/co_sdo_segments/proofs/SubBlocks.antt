-- The frames of a sub-block, one more at a time.
use Rattle.std.proofs.Common.{◌≡◌, ℕ, ◌+◌, ◌++◌, List, [], ◌∷◌, map, refl, append_assoc, arith}
use Rattle.std.specs.List.{range_with_len}
use Rattle.std.proofs.lemmas.List.{map-append}
use Rattle.std.proofs.lemmas.List.FromFn.{map-range_with_len_more}
use Rattle.co_frame.specs.FrameContent.{FrameContent}
use Rattle.co_frame.specs.BlockSegments.{block_segment_bytes}
use Rattle.co_frame.specs.declared.block_segment.BlockSegment.{BlockSegment}

-- after one more segment was sent, the frames are those of one more segment
pub sub_block_more : (id : ℕ) (g : ℕ → BlockSegment) (k : ℕ) (old before after : List FrameContent) (frame : FrameContent) (segment : BlockSegment)
    → after ≡ before ++ frame ∷ [] → before ≡ old ++ map (λ n. record { id = id; bytes = block_segment_bytes (g n) }) (range_with_len 1 k)
    → frame ≡ record { id = id; bytes = block_segment_bytes segment } → segment ≡ g (k + 1)
    → after ≡ old ++ map (λ n. record { id = id; bytes = block_segment_bytes (g n) }) (range_with_len 1 (k + 1))
sub_block_more id g k old before after frame segment a b f s =
    let h : ℕ → FrameContent = λ n. record { id = id; bytes = block_segment_bytes (g n) } in
    rw (a, b, f, s, append_assoc, map-range_with_len_more h 1 k (k + 1) (omega arith)) refl

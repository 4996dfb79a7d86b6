-- Which frames are aborts, and what is said of their first bytes, on both sides of each edge.
use Rattle.std.proofs.Common.{◌≡◌, true, false, [], ◌∷◌, Some, None, refl}
use Rattle.std.specs.Prelude.{codes, map}
use Rattle.co_text.specs.Printed.{digits_text}
use Rattle.conode_explain_transfers.specs.declared.kinds.Side.TheVariants.{Client}
use Rattle.conode_explain_transfers.specs.declared.kinds.What.{What}
use Rattle.conode_explain_transfers.specs.declared.kinds.What.TheVariants.{Segment, OutOfSequence, LastAgain, Unexpected, Stray}
use Rattle.conode_explain_transfers.specs.declared.told.Told.{Told}
use Rattle.conode_explain.specs.AbortWords.{first_byte_words, has_abort, is_sdo}
use Rattle.conode_explain.specs.Explained.{is_segment}

by_first_byte : map (λ first. has_abort (first ∷ 0x00 ∷ 0x20 ∷ 0x00 ∷ 0x11 ∷ 0x00 ∷ 0x09 ∷ 0x06 ∷ [])) (0x7F ∷ 0x80 ∷ 0x81 ∷ 0x9F ∷ 0xA0 ∷ [])
    ≡ false ∷ true ∷ true ∷ true ∷ false ∷ []
by_first_byte = refl

too_short : has_abort (0x80 ∷ 0x00 ∷ 0x20 ∷ 0x00 ∷ 0x11 ∷ 0x00 ∷ 0x09 ∷ []) ≡ false
too_short = refl

by_identifier : map is_sdo (0x580 ∷ 0x581 ∷ 0x5FF ∷ 0x600 ∷ 0x601 ∷ 0x67F ∷ 0x680 ∷ []) ≡ false ∷ true ∷ true ∷ false ∷ true ∷ true ∷ false ∷ []
by_identifier = refl

first_bytes : map first_byte_words (0x80 ∷ 0x82 ∷ 0x9F ∷ [])
    ≡ [] ∷ codes " (first byte 82h in place of 80h)" ∷ codes " (first byte 9Fh in place of 80h)" ∷ []
unfolding digits_text
first_bytes = refl

-- what is told as a segment of a sub-block has no colour of an abort
abbrev told : What → Told
told what = record { node = 5; part = Some (record { side = Client; what = what; of = None }); left = None; ended = None; unclear = None }

segments : map (λ what. is_segment (Some (told what))) (Segment 2 ∷ OutOfSequence 2 1 ∷ LastAgain 2 ∷ Unexpected ∷ Stray ∷ [])
    ≡ true ∷ true ∷ true ∷ false ∷ false ∷ []
segments = refl

no_segments : map is_segment (None ∷ Some (record { node = 5; part = None; left = None; ended = None; unclear = None }) ∷ []) ≡ false ∷ false ∷ []
no_segments = refl

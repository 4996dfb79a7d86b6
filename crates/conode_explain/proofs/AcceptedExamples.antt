-- With which frames a download goes on whose initiate request they answer, on both sides of each edge.
use Rattle.std.proofs.Common.{◌≡◌, ℕ, List, [], ◌∷◌, Some, None, refl}
use Rattle.std.specs.Prelude.{map}
use Rattle.co_value.specs.declared.key.Key.{Key}
use Rattle.co_frame.specs.SdoResponses.{response_row_in}
use Rattle.conode_record.specs.declared.content.Content.{Content}
use Rattle.conode_record.specs.declared.content.Content.TheVariants.{Data, Remote}
use Rattle.conode_explain_transfers.specs.declared.ended.Ended.{Ended}
use Rattle.conode_explain_transfers.specs.declared.kinds.Side.TheVariants.{Client, Server}
use Rattle.conode_explain_transfers.specs.declared.kinds.What.TheVariants.{Part, Repeated, Unexpected}
use Rattle.conode_explain.specs.ToldWords.{accepted_key}

-- a frame of 2011:00 with this first byte
abbrev frame : ℕ → Content
frame first = Data (first ∷ 0x11 ∷ 0x20 ∷ 0 ∷ 0 ∷ 0 ∷ 0 ∷ 0 ∷ [])

abbrev key : Key
key = record { index = 0x2011; sub = 0 }

-- of the specifiers 2, 3 and 4 it is 3
by_specifier : map (λ first. accepted_key Server Part None (frame first)) (0x40 ∷ 0x60 ∷ 0x80 ∷ []) ≡ None ∷ Some key ∷ None ∷ []
unfolding response_row_in
by_specifier = refl

-- a client's request of a segment has 3, too
of_client : map (λ first. accepted_key Client Part None (frame first)) (0x60 ∷ 0x70 ∷ []) ≡ None ∷ None ∷ []
of_client = refl

out_of_turn : map (λ what. accepted_key Server what None (frame 0x60)) (Unexpected ∷ Repeated ∷ []) ≡ None ∷ None ∷ []
out_of_turn = refl

-- the transfer ended with it
at_end : (ended : Ended) → accepted_key Server Part (Some ended) (frame 0x60) ≡ None
at_end ended = refl

no_data : accepted_key Server Part None (Remote 8) ≡ None
no_data = refl

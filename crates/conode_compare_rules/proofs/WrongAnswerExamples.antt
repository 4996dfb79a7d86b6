-- A wrong answer to a request, after which its transfer isn't followed any more, on both sides of each edge.
use Rattle.std.proofs.Common.{◌≡◌, ℕ, Bool, true, false, [], ◌∷◌, map, Some, None, refl}
use Rattle.std.specs.Prelude.{is_some}
use Rattle.co_frame.specs.SdoRequests.{request_row_in}
use Rattle.co_frame.specs.SdoResponses.{response_row_in}
use Rattle.conode_explain_transfers.specs.declared.kinds.Side.TheVariants.{Client, Server}
use Rattle.conode_explain_transfers.specs.declared.kinds.What.{What}
use Rattle.conode_explain_transfers.specs.declared.kinds.What.TheVariants.{Overtaken, Part, Repeated, Stray, Unexpected}
use Rattle.conode_compare_transfers.specs.declared.dialogue.Exchange.{Exchange}
use Rattle.conode_compare_transfers.specs.Breaches.{breach_at}
use Rattle.conode_compare_transfers.specs.Dialogues.{dialogue_heard, exchange_in, is_certain, owes}
use Rattle.conode_compare_transfers.specs.NewestFrames.{newest_after, newest_with}
use Rattle.conode_compare_rules.specs.declared.progress.Progress.{Progress}
use Rattle.conode_compare_rules.specs.Channels.{after_sdo, channel_heard, exchange_at, exchange_noted, is_wrong}
use Rattle.conode_compare_rules.specs.Gaps.{before_recording, begun}
use Rattle.conode_compare_rules.proofs.MissingExamples.{subject}

-- ---- which answers are wrong

abbrev answer : Bool → Bool → What → Exchange
answer certain owed what = record { heard = record { what = what; of = None; ended = None }; asked = None; owed = owed; certain = certain; breach = None; awaited = None }

wrong : map (λ what. is_wrong Server (answer true true what)) (Overtaken ∷ Unexpected ∷ Part ∷ Stray ∷ Repeated ∷ []) ≡ true ∷ true ∷ false ∷ false ∷ false ∷ []
wrong = refl

-- where an earlier request may be answered, and where none is owed, nothing is said; nor of a frame of the client
not_said : is_wrong Server (answer false true Unexpected) ∷ is_wrong Server (answer true false Unexpected) ∷ is_wrong Client (answer true true Unexpected) ∷ []
    ≡ false ∷ false ∷ false ∷ []
not_said = refl

-- ---- the next request

abbrev asked : Progress → ℕ → Progress
asked before micros = after_sdo subject before micros Client (record { id = 0x605; bytes = 0x40 ∷ 0x18 ∷ 0x10 ∷ 2 ∷ 0 ∷ 0 ∷ 0 ∷ 0 ∷ [] })

-- 1018:02 is asked for at 2 s, and the answer is of this sub-index
abbrev answered : ℕ → Progress
answered sub =
    record (after_sdo subject (asked (record (before_recording subject) { newest = Some 2000000; free = 2000000 }) 2000000) 2001000 Server (record { id = 0x585; bytes = 0x43 ∷ 0x18 ∷ 0x10 ∷ sub ∷ 1 ∷ 0 ∷ 0 ∷ 0 ∷ [] }))
    { newest = Some 2001000; free = 2001000 }

answers : map (λ sub. (answered sub).wrong) (1 ∷ 2 ∷ []) ≡ true ∷ false ∷ []
unfolding channel_heard exchange_at exchange_noted exchange_in dialogue_heard is_certain newest_after newest_with breach_at request_row_in response_row_in
answers = refl

-- with a frame at the same time its transfer is open still, with a later one it isn't
open_after : map (λ micros. is_some (begun subject (answered 1) micros).dialogue.channel.transfer) (2001000 ∷ 2001001 ∷ []) ≡ true ∷ false ∷ []
unfolding begun channel_heard exchange_at exchange_noted exchange_in dialogue_heard is_certain newest_after newest_with breach_at request_row_in response_row_in
open_after = refl

wrong_after : map (λ micros. (begun subject (answered 1) micros).wrong) (2001000 ∷ 2001001 ∷ []) ≡ true ∷ false ∷ []
unfolding begun channel_heard exchange_at exchange_noted exchange_in dialogue_heard is_certain newest_after newest_with breach_at request_row_in response_row_in
wrong_after = refl

-- until a second after that frame the next request is in doubt, then an answer is owed to it
owed_after : map (λ micros. owes 1000 0 (asked (begun subject (answered 1) 2500000) micros).dialogue) (3500000 ∷ 3500001 ∷ []) ≡ false ∷ true ∷ []
unfolding begun channel_heard exchange_at exchange_noted exchange_in dialogue_heard is_certain newest_after newest_with breach_at request_row_in response_row_in
owed_after = refl

-- the request is the next frame itself
next_itself : owes 1000 0 (asked (begun subject (answered 1) 2900000) 2900000).dialogue ≡ false
unfolding begun channel_heard exchange_at exchange_noted exchange_in dialogue_heard is_certain newest_after newest_with breach_at request_row_in response_row_in
next_itself = refl

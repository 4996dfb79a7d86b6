-- Node guarding (CiA 301, 7.2.8.3.2.1): a master asks by a remote frame, the node answers with its
-- state and a bit that toggles from answer to answer.
use Rattle.std.specs.Prelude.{ℕ, ◌%◌, ◌==◌, Bool, true, false, not, ◌&&◌, ◌||◌, nat_lt, if◌then◌else◌, List, [], ◌∷◌, codes, decimal, Option, Some, None}
use Rattle.conode_text.specs.Filled.{filled}
use Rattle.conode_explain_services.specs.declared.guarding.Guarding.{Guarding}
use Rattle.conode_explain_services.specs.declared.guarding.Guarding.TheVariants.{NotSeen, BootedUp, Requested, Answered}
use Rattle.conode_explain_services.specs.Parts.{words_in}

-- the lower seven bits of the byte are the state, the upper one toggles
abbrev pub toggle_of : ℕ → Bool
toggle_of byte = nat_lt 127 byte

unfoldable pub state_words : ℕ → List ℕ
state_words byte = words_in ((4, codes "stopped") ∷ (5, codes "operational") ∷ (127, codes "pre-operational") ∷ []) (byte % 128)

abbrev pub is_state : ℕ → Bool
is_state byte = (byte % 128 == 4) || ((byte % 128 == 5) || (byte % 128 == 127))

-- neither a boot-up nor a state, as 0 with the toggle bit
abbrev pub is_no_state : ℕ → Bool
is_no_state byte = not (byte == 0) && not (is_state byte)

-- the toggle bit that the node's next answer has; after a boot-up it is 0
abbrev pub awaited_of : Guarding → Option Bool
awaited_of NotSeen = None
awaited_of BootedUp = Some false
awaited_of (Requested awaited) = awaited
awaited_of (Answered awaited) = Some awaited

-- whether a byte without the toggle bit is an answer, else it is a heartbeat: after a request, or
-- where it is the next answer
abbrev pub answers_zero : Guarding → Bool
answers_zero NotSeen = false
answers_zero BootedUp = false
answers_zero (Requested awaited) = true
answers_zero (Answered awaited) = not awaited

abbrev pub is_answer : Guarding → ℕ → Bool
is_answer guarding byte = is_state byte && (toggle_of byte || answers_zero guarding)

-- the guarding of a node after a state that it sent: a heartbeat ends it
abbrev pub after_state : Guarding → ℕ → Guarding
after_state guarding byte = if is_answer guarding byte then Answered (not (toggle_of byte)) else NotSeen

-- after a byte on its identifier of error control
abbrev pub guarding_after : Guarding → ℕ → Guarding
guarding_after guarding byte =
    if byte == 0 then BootedUp else (if is_state byte then after_state guarding byte else guarding)

-- and after a request
abbrev pub guarding_asked : Guarding → Guarding
guarding_asked guarding = Requested (awaited_of guarding)

abbrev pub toggle_text : Bool → List ℕ
toggle_text toggle = if toggle then codes "1" else codes "0"

-- where the toggle bit should have been another
abbrev pub awaited_text : Option Bool → Bool → List ℕ
awaited_text None toggle = []
awaited_text (Some true) toggle = if toggle then [] else codes " (1 is awaited)"
awaited_text (Some false) toggle = if toggle then codes " (0 is awaited)" else []

unfoldable pub guarding_answer_words : ℕ → Guarding → ℕ → List ℕ
guarding_answer_words node guarding byte =
    filled (codes "guarding answer node % % toggle %%")
    (decimal node ∷ state_words byte ∷ toggle_text (toggle_of byte) ∷ awaited_text (awaited_of guarding) (toggle_of byte) ∷ [])

-- where the toggle bit is set
abbrev pub set_toggle_text : Bool → List ℕ
set_toggle_text toggle = if toggle then codes " toggle 1" else []

-- why it is none. The state 0 is that of a boot-up message, which is a whole byte of 0 (CiA 301, 7.2.8.3.3); no node that
-- answers guarding requests is in it
abbrev pub why_none : ℕ → List ℕ
why_none byte =
    if byte == 128 then codes "a boot-up has no toggle bit, a guarding answer no state 0" else codes "CiA 301 has no such state"

unfoldable pub no_state_words : ℕ → ℕ → List ℕ
no_state_words node byte =
    filled (codes "error control node % state %% (%)")
    (decimal node ∷ decimal (byte % 128) ∷ set_toggle_text (toggle_of byte) ∷ why_none byte ∷ [])

unfoldable pub guarding_request_words : ℕ → List ℕ
guarding_request_words node = filled (codes "guarding request node %") (decimal node ∷ [])

-- Which frames of error control say something new.
use Rattle.std.proofs.Common.{◌≡◌, ℕ, true, false, List, [], ◌∷◌, Some, None, refl}
use Rattle.std.specs.Prelude.{codes, map}
use Rattle.conode_record.specs.declared.content.Content.{Content}
use Rattle.conode_record.specs.declared.content.Content.TheVariants.{Data, Remote}
use Rattle.conode_record.specs.declared.fields.Identifier.{Identifier}
use Rattle.conode_record.specs.declared.fields.Identifier.TheVariants.{Base, Extended}
use Rattle.conode_record.specs.declared.line.Record.{Record}
use Rattle.conode_explain_filter.specs.Changes.{Said, is_new, kept}
use Rattle.conode_explain_filter.specs.declared.kind.Kind.TheVariants.{Heartbeat, Pdo}
use Rattle.conode_explain_filter.specs.declared.subject.Subject.{Subject}
use Rattle.conode_explain.specs.Filtered.{has_toggle, said_id, said_of}

-- ---- guarding answers, and requests

abbrev frame : Identifier → Content → Record
frame id content = record { micros = 5; interface = codes "can0"; id = id; content = content; direction = None }

abbrev subject : Subject
subject = record { id = record { wide = false; number = 0x705 }; kind = Heartbeat; node = Some 5 }

-- an answer of node 5 with a byte that says this, and a request
abbrev answer : ℕ → List ℕ → Said
answer byte words = said_of subject (frame (Base 0x705) (Data (byte ∷ []))) words

abbrev zero : Said
zero = answer 0x05 (codes "guarding answer node 5 operational toggle 0")

abbrev one : Said
one = answer 0x85 (codes "guarding answer node 5 operational toggle 1")

abbrev not_toggled : Said
not_toggled = answer 0x05 (codes "guarding answer node 5 operational toggle 0 (1 is awaited)")

abbrev request : Said
request = said_of subject (frame (Base 0x705) (Remote 1)) (codes "guarding request node 5")

-- the awaited toggle bit alone is nothing new
toggled : one ≡ zero
toggled = refl

nothing_new : is_new (kept [] zero) one ≡ false
unfolding is_new kept
nothing_new = refl

-- another state is, and a toggle bit that isn't awaited; and the first one after it
other_state : is_new (kept [] zero) (answer 0xFF (codes "guarding answer node 5 pre-operational toggle 1")) ≡ true
unfolding is_new kept
other_state = refl

awaited : is_new (kept [] zero) not_toggled ≡ true
unfolding is_new kept
awaited = refl

toggled_again : is_new (kept [] not_toggled) one ≡ true
unfolding is_new kept
toggled_again = refl

-- requests are told apart from answers
first_request : is_new (kept [] zero) request ≡ true
unfolding is_new kept
first_request = refl

next_request : is_new (kept (kept [] request) zero) request ≡ false
unfolding is_new kept
next_request = refl

next_answer : is_new (kept (kept [] zero) request) one ≡ false
unfolding is_new kept
next_answer = refl

-- what has no toggle bit at its end
toggles : map (has_toggle Heartbeat) (codes "a toggle 0" ∷ codes " toggle 1" ∷ codes "a toggle 2" ∷ codes "toggle 1" ∷ codes "a toggle 1 (0 is awaited)"
    ∷ codes "boot-up node 10" ∷ [] ∷ []) ≡ true ∷ true ∷ false ∷ false ∷ false ∷ false ∷ false ∷ []
toggles = refl

no_toggle : has_toggle Pdo (codes "a toggle 0") ≡ false
no_toggle = refl

ids : said_id 0x705 (Base 0x705) (Data []) ∷ said_id 0x705 (Base 0x705) (Remote 0) ∷ said_id 0x705 (Extended 0x705) (Remote 0) ∷ []
    ≡ 0x705 ∷ 0x40000705 ∷ 0x705 ∷ []
ids = refl

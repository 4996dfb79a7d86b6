-- Whether words are new, and what is kept, on both sides of each edge.
use Rattle.std.proofs.Common.{◌≡◌, ℕ, true, false, List, [], ◌∷◌, length, refl}
use Rattle.std.specs.Prelude.{codes, replicate}
use Rattle.conode_explain_filter.specs.Changes.{Said, is_new, kept}

said : List ℕ → ℕ → List ℕ → Said
said interface id words = record { interface = interface; id = id; bytes = []; words = words }

-- the same with a byte
byte_said : List ℕ → ℕ → ℕ → List ℕ → Said
byte_said interface id byte words = record { interface = interface; id = id; bytes = byte ∷ []; words = words }

can0 : List ℕ
can0 = codes "can0"

-- of 185h on can0 A was said last, of 705h B
lasts : List Said
lasts = kept (kept [] (said can0 0x185 (codes "A"))) (said can0 0x705 (codes "B"))

nothing_said : is_new [] (said can0 0x185 (codes "A")) ≡ true
unfolding is_new said can0
nothing_said = refl

same_words : is_new lasts (said can0 0x185 (codes "A")) ≡ false
unfolding is_new kept said can0 lasts
same_words = refl

other_words : is_new lasts (said can0 0x185 (codes "B")) ≡ true
unfolding is_new kept said can0 lasts
other_words = refl

longer_words : is_new lasts (said can0 0x185 (codes "AB")) ≡ true
unfolding is_new kept said can0 lasts
longer_words = refl

no_words : is_new lasts (said can0 0x185 []) ≡ true
unfolding is_new kept said can0 lasts
no_words = refl

other_bytes : is_new lasts (byte_said can0 0x185 1 (codes "A")) ≡ true
unfolding is_new kept said byte_said can0 lasts
other_bytes = refl

same_bytes : is_new (kept lasts (byte_said can0 0x185 1 (codes "A"))) (byte_said can0 0x185 1 (codes "A")) ≡ false
unfolding is_new kept said byte_said can0 lasts
same_bytes = refl

other_identifier : is_new lasts (said can0 0x186 (codes "A")) ≡ true
unfolding is_new kept said can0 lasts
other_identifier = refl

other_interface : is_new lasts (said (codes "can1") 0x185 (codes "A")) ≡ true
unfolding is_new kept said can0 lasts
other_interface = refl

-- A, B, A: each is new, and the last one is kept
back_again : is_new (kept lasts (said can0 0x185 (codes "B"))) (said can0 0x185 (codes "A")) ≡ true
unfolding is_new kept said can0 lasts
back_again = refl

kept_as_it_is : kept lasts (said can0 0x185 (codes "A")) ≡ lasts
unfolding is_new kept said can0 lasts
kept_as_it_is = refl

kept_in_place : kept lasts (said can0 0x185 (codes "B")) ≡ said can0 0x185 (codes "B") ∷ said can0 0x705 (codes "B") ∷ []
unfolding is_new kept said can0 lasts
kept_in_place = refl

-- ---- 1,024 identifiers

full : ℕ → List Said
full count = replicate count (said [] 0 [])

room_for_one : length (kept (full 1023) (said can0 1 [])) ≡ 1024
unfolding is_new kept full said can0
room_for_one = refl

no_room : length (kept (full 1024) (said can0 1 [])) ≡ 1024
unfolding is_new kept full said can0
no_room = refl

new_without_room : is_new (kept (full 1024) (said can0 1 [])) (said can0 1 []) ≡ true
unfolding is_new kept full said can0
new_without_room = refl

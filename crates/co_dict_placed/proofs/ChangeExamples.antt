-- Changes, computed from the definitions.
use Rattle.std.proofs.Common.{◌≡◌, [], ◌∷◌, true, false, refl}
use Rattle.co_dict.proofs.ExampleDevice.{at, device}
use Rattle.co_dict_placed.specs.Changes.{is_changed, with_keys, with_change, without_change}

-- both ends of a byte, and the next one
lowest : with_change (0 ∷ 0 ∷ []) 0 ≡ 1 ∷ 0 ∷ []
lowest = refl

highest : with_change (1 ∷ 0 ∷ []) 7 ≡ 129 ∷ 0 ∷ []
highest = refl

next : with_change (129 ∷ 0 ∷ []) 8 ≡ 129 ∷ 1 ∷ []
next = refl

last : with_change (129 ∷ 1 ∷ []) 15 ≡ 129 ∷ 129 ∷ []
last = refl

past : with_change (129 ∷ 129 ∷ []) 16 ≡ 129 ∷ 129 ∷ []
past = refl

again : with_change (129 ∷ 129 ∷ []) 7 ≡ 129 ∷ 129 ∷ []
again = refl

taken : without_change (129 ∷ 129 ∷ []) 7 ≡ 1 ∷ 129 ∷ []
taken = refl

taken_again : without_change (1 ∷ 129 ∷ []) 7 ≡ 1 ∷ 129 ∷ []
taken_again = refl

is_set : is_changed (0 ∷ 64 ∷ []) 14 ≡ true
is_set = refl

not_before : is_changed (0 ∷ 64 ∷ []) 13 ≡ false
not_before = refl

not_after : is_changed (0 ∷ 64 ∷ []) 15 ≡ false
not_after = refl

none_past : is_changed (0 ∷ 255 ∷ []) 16 ≡ false
none_past = refl

-- 2002:00 is the entry at place 33; 2FFF:00 isn't there
of_entries : with_keys device (at 0x2002 0 ∷ at 0x2FFF 0 ∷ []) (0 ∷ 0 ∷ 0 ∷ 0 ∷ 0 ∷ []) ≡ 0 ∷ 0 ∷ 0 ∷ 0 ∷ 2 ∷ []
of_entries = refl

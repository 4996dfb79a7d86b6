-- Frames, or anything else that comes one after another, grouped by a key: an identifier, or the
-- name of an interface. A test says which keys are the same.
use Rattle.std.specs.Prelude.{ℕ, ◌+◌, nat_lt, Bool, if◌then◌else◌, List, [], ◌∷◌, ◌++◌, length, map, filter, slice_set, position, Option, Some, None}
use Rattle.std.specs.List.{slice_index_or, position_or_len}

-- ---- by definition

-- a key is appended, if it isn't there yet and there is room
abbrev pub key_with : {K : Type 0} → (K → K → Bool) → ℕ → List K → K → List K
key_with same most keys key =
    if nat_lt (position_or_len (λ k. same k key) keys) (length keys) then keys
    else (if nat_lt (length keys) most then keys ++ key ∷ [] else keys)

-- the keys of frames, the newest first, in the order in which they came; so many at most
unfoldable pub keys_of : {F K : Type 0} → (K → K → Bool) → (F → K) → ℕ → List F → List K
keys_of same key most [] = []
keys_of same key most (frame ∷ older) = key_with same most (keys_of same key most older) (key frame)

-- for each key, what is made of the frames with it
unfoldable pub grouped : {F K R : Type 0} → (K → K → Bool) → (F → K) → ℕ → (K → List F → R) → List F → List R
grouped same key most make frames =
    map (λ k. make k (filter (λ frame. same k (key frame)) frames)) (keys_of same key most frames)

-- 1 for a key that isn't there and has no room
abbrev pub left_out_by : {K : Type 0} → (K → K → Bool) → ℕ → List K → K → ℕ
left_out_by same most keys key =
    if nat_lt (position_or_len (λ k. same k key) keys) (length keys) then 0
    else (if nat_lt (length keys) most then 0 else 1)

-- how many frames have a key that wasn't there and had no room
unfoldable pub left_out : {F K : Type 0} → (K → K → Bool) → (F → K) → ℕ → List F → ℕ
left_out same key most [] = 0
left_out same key most (frame ∷ older) =
    left_out_by same most (keys_of same key most older) (key frame) + left_out same key most older

-- ---- one frame more, as it is counted

-- adds to the row at a place, or else to a new row, if there is room
abbrev pub group_at : {R : Type 0} → Option ℕ → (R → R) → R → ℕ → List R → List R
group_at (Some place) add new most rows = slice_set rows place (add (slice_index_or rows place new))
group_at None add new most rows = if nat_lt (length rows) most then rows ++ add new ∷ [] else rows

-- adds to the first row that is its own
unfoldable pub group_with : {R : Type 0} → (R → Bool) → (R → R) → R → ℕ → List R → List R
group_with is_own add new most rows = group_at (position is_own rows) add new most rows

-- 1 if there is no such row, and no room for one
abbrev pub no_room_at : {R : Type 0} → Option ℕ → ℕ → List R → ℕ
no_room_at (Some place) most rows = 0
no_room_at None most rows = if nat_lt (length rows) most then 0 else 1

unfoldable pub no_room : {R : Type 0} → (R → Bool) → ℕ → List R → ℕ
no_room is_own most rows = no_room_at (position is_own rows) most rows

-- Stamps of frames, in microseconds, the newest first, and the gaps between them.
use Rattle.std.specs.Prelude.{ℕ, ◌+◌, ◌-◌, ◌^◌, nat_lt, min, max, if◌then◌else◌, List, [], ◌∷◌}

-- the greatest number that is kept
abbrev pub most : ℕ
most = 2 ^ 64 - 1

-- a count or a sum saturates at the greatest number
abbrev pub counted : ℕ → ℕ
counted number = min number most

-- the gaps, each to the stamp before; no gap where a stamp steps back
unfoldable pub gaps : List ℕ → List ℕ
gaps [] = []
gaps (stamp ∷ []) = []
gaps (stamp ∷ before ∷ older) =
    if nat_lt stamp before then gaps (before ∷ older) else (stamp - before) ∷ gaps (before ∷ older)

-- how many stamps step back: they are before the one before them
unfoldable pub steps_back : List ℕ → ℕ
steps_back [] = 0
steps_back (stamp ∷ []) = 0
steps_back (stamp ∷ before ∷ older) = (if nat_lt stamp before then 1 else 0) + steps_back (before ∷ older)

-- the stamp before the last one that steps back, 0 where none does
unfoldable pub step_from : List ℕ → ℕ
step_from [] = 0
step_from (stamp ∷ []) = 0
step_from (stamp ∷ before ∷ older) = if nat_lt stamp before then before else step_from (before ∷ older)

-- the last stamp that steps back, 0 where none does
unfoldable pub step_to : List ℕ → ℕ
step_to [] = 0
step_to (stamp ∷ []) = 0
step_to (stamp ∷ before ∷ older) = if nat_lt stamp before then stamp else step_to (before ∷ older)

-- the smallest of numbers below 2^64, and 2^64 - 1 of no number
unfoldable pub smallest : List ℕ → ℕ
smallest [] = most
smallest (x ∷ xs) = min (smallest xs) x

-- the greatest of numbers, 0 of no number
unfoldable pub greatest : List ℕ → ℕ
greatest [] = 0
greatest (x ∷ xs) = max (greatest xs) x

-- the stamp of the newest frame, 0 where there is none
abbrev pub newest : List ℕ → ℕ
newest [] = 0
newest (stamp ∷ older) = stamp

-- the stamp of the first frame, 0 where there is none
unfoldable pub oldest : List ℕ → ℕ
oldest [] = 0
oldest (stamp ∷ []) = stamp
oldest (stamp ∷ before ∷ older) = oldest (before ∷ older)

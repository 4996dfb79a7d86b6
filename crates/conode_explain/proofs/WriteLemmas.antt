-- Lines that are written where they are asked for.
use Rattle.std.proofs.Common.{◌≡◌, ℕ, Bool, true, false, if◌then◌else◌, ◌⊎◌, inl, inr, List, [], Option}
use Rattle.std.proofs.KnownBytes.{Appends-nil}
use Rattle.conode_io.specs.Written.{WritesLines}

-- lines, where they are shown
pub are_shown : (old new : Option (List ℕ)) (shown : Bool) (lines : List (List ℕ)) → shown ≡ true → WritesLines old new lines
    → WritesLines old new (if shown then lines else [])
are_shown old new shown lines is written = rw is written

pub are_hidden : (old : Option (List ℕ)) (shown : Bool) (lines : List (List ℕ)) → shown ≡ false → WritesLines old old (if shown then lines else [])
are_hidden old shown lines is = rw is (Appends-nil old)

-- ---- statuses

pub or_two : (status : ℕ) → (status ≡ 0) ⊎ (status ≡ 1) → (status ≡ 0) ⊎ ((status ≡ 1) ⊎ (status ≡ 2))
or_two status (inl none) = inl none
or_two status (inr one) = inr (inl one)

pub one_or_two : (status : ℕ) → (status ≡ 1) ⊎ (status ≡ 2) → (status ≡ 0) ⊎ ((status ≡ 1) ⊎ (status ≡ 2))
one_or_two status h = inr h

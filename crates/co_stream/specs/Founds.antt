-- What a call of `advance` finds.
use Rattle.std.specs.Prelude.{◌≡◌, ℕ, ◌<◌, ◌≤◌, ◌⊎◌, ◌==◌, Bool, true, false, List, [], ◌∷◌, length, Option, Some, None, IfSome, ⊤}
use Rattle.std.specs.Io.KnownBytes.{IsAtEnd}
use Rattle.co_stream.specs.Lines.{has_line_feed, GivesLine}
use Rattle.co_stream.specs.declared.bounded_lines.Found.{Found}
use Rattle.co_stream.specs.declared.bounded_lines.Found.TheVariants.{Line, Last, TooLong, End}

-- the last line has its line feed
abbrev pub is_closed : List ℕ → Bool
is_closed [] = true
is_closed (byte ∷ []) = byte == 10
is_closed (byte ∷ next ∷ more) = is_closed (next ∷ more)

-- the last line has its line feed in both, or in neither
abbrev pub ClosesAlike : Option (List ℕ) → Option (List ℕ) → Type 0
ClosesAlike None new = ⊤
ClosesAlike (Some bytes) None = ⊥
ClosesAlike (Some bytes) (Some rest) = is_closed bytes ≡ is_closed rest

-- what was found, with its line; `old` and `new` are the bytes to come before and after, where they
-- are known
abbrev pub Finds : Option (List ℕ) → Option (List ℕ) → List ℕ → Found → Type 0
Finds old new line Line = GivesLine old new line × (length line ≤ 512) × ClosesAlike old new
Finds old new line Last = GivesLine old new line × (length line ≤ 512) × IfSome old (λ bytes. has_line_feed bytes ≡ false)
Finds old new line TooLong =
    (long : List ℕ) × GivesLine old new long × (512 < length long) × (IsAtEnd new ⊎ ClosesAlike old new)
Finds old new line End = IsAtEnd old

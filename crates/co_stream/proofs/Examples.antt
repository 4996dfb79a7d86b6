-- Lines at the edges, evaluated.
use Rattle.std.proofs.Common.{◌≡◌, ℕ, zero, suc, true, false, List, [], ◌∷◌, ◌++◌, length, Some, None, replicate, refl, ap, arith}
use Rattle.std.specs.Prelude.{codes}
use Rattle.std.proofs.Math.Seq.{drop-nil}
use Rattle.std.proofs.lemmas.Bool.Decides.{nat_tests}
use Rattle.std.specs.Str.Lines.{lines}
use Rattle.co_stream.specs.Lines.{has_line_feed, EndsAt, IsTooLong, GivesLine}
use Rattle.co_stream.specs.Readings.{known_bytes}

-- what follows a line in the same piece is still to come
rest_of_piece : GivesLine (Some (codes "a" ++ 13 ∷ 10 ∷ codes "b" ++ 10 ∷ [])) (Some (codes "b" ++ 10 ∷ [])) (codes "a")
rest_of_piece = refl

empty_line : GivesLine (Some (10 ∷ codes "b")) (Some (codes "b")) []
empty_line = refl

-- a carriage return at the end of a last line without a line feed belongs to the line
last_return : GivesLine (Some (codes "a" ++ 13 ∷ [])) (Some []) (codes "a" ++ 13 ∷ [])
last_return = refl

before_end : known_bytes false (codes "a") (Some (codes "b")) ≡ Some (codes "ab")
before_end = refl

after_end : known_bytes true (codes "a") (Some (codes "b")) ≡ Some (codes "a")
after_end = refl

-- of four bytes, the second a line feed, a line ends among those from a start on where it is below 2
last_end : EndsAt 2 (codes "a" ++ 10 ∷ codes "bc")
last_end zero = refl
last_end (suc zero) = refl
last_end (suc (suc zero)) = refl
last_end (suc (suc (suc zero))) = refl
last_end (suc (suc (suc (suc start)))) = let none = ap has_line_feed (drop-nil start) in grind (arith, nat_tests, none)

-- 512 bytes with a carriage return and a line feed are a line
longest_line : lines (replicate 512 59 ++ 13 ∷ 10 ∷ []) ≡ replicate 512 59 ∷ []
longest_line = refl

too_long_line : IsTooLong (replicate 513 59 ++ 10 ∷ [])
too_long_line = (replicate 513 59, [], refl, omega arith)

too_long_last_line : IsTooLong (replicate 512 59 ++ 13 ∷ [])
too_long_last_line = (replicate 512 59 ++ 13 ∷ [], [], refl, omega arith)

-- how many bytes the first of some lines has
abbrev first_length : List (List ℕ) → ℕ
first_length [] = 0
first_length (line ∷ more) = length line

-- 512 bytes are not too long, with a line feed alone and without one
longest_with_feed : IsTooLong (replicate 512 59 ++ 10 ∷ []) → ⊥
longest_with_feed (line, more, first, long) = let count : 512 ≡ length line = ap first_length first in omega (arith, count)

longest_last_line : IsTooLong (replicate 512 59) → ⊥
longest_last_line (line, more, first, long) = let count : 512 ≡ length line = ap first_length first in omega (arith, count)

-- bytes that were known don't become unknown by a line
none_forgotten : GivesLine (Some (codes "a" ++ 10 ∷ [])) None (codes "a") → ⊥
none_forgotten h = h

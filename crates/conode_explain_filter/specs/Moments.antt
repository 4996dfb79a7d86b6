-- Times of a filter, in microseconds.
use Rattle.std.specs.Prelude.{ℕ, ◌+◌, ◌*◌, nat_le, Bool, if◌then◌else◌, List, [], ◌∷◌, length, Option, None, option_map, option_and_then, ◌==◌}
use Rattle.std.specs.List.{list_any, before_first, after_first}
use Rattle.co_text.specs.Texts.{decimal_in}
use Rattle.conode_explain_text.specs.declared.so_far.Times.{Times}
use Rattle.conode_explain_filter.specs.declared.moment.Moment.{Moment}
use Rattle.conode_explain_filter.specs.declared.moment.Moment.TheVariants.{SinceFirst, Recorded}

-- what one of the last of so many digits after the point counts
abbrev pub scale_of : ℕ → ℕ
scale_of count =
    if count == 1 then 100000
    else (if count == 2 then 10000
    else (if count == 3 then 1000
    else (if count == 4 then 100
    else (if count == 5 then 10 else 1))))

-- one to six digits after the point
unfoldable pub fraction_in : List ℕ → Option ℕ
fraction_in word =
    if nat_le (length word) 6 then option_map (λ number. number * scale_of (length word)) (decimal_in 0 999999 word)
    else None

-- seconds, up to 2^32 - 1
abbrev pub seconds_in : List ℕ → Option ℕ
seconds_in word = option_map (λ seconds. 1000000 * seconds) (decimal_in 0 4294967295 word)

-- seconds, and perhaps a point and digits after it
unfoldable pub micros_in : List ℕ → Option ℕ
micros_in word =
    if list_any (λ b. b == 46) word
    then option_and_then (λ seconds. option_map (λ fraction. seconds + fraction) (fraction_in (after_first (λ b. b == 46) word)))
    (seconds_in (before_first (λ b. b == 46) word))
    else seconds_in word

-- after `@` a stamp as the recording has it, else a time since the first frame
abbrev pub moment_in : List ℕ → Option Moment
moment_in [] = None
moment_in (first ∷ word) =
    if first == 64 then option_map Recorded (micros_in word) else option_map SinceFirst (micros_in (first ∷ word))

-- a frame comes at that time or later
abbrev pub is_from : Times → Moment → Bool
is_from times (SinceFirst micros) = nat_le (times.first + micros) times.now
is_from times (Recorded micros) = nat_le micros times.now

-- at that time or before
abbrev pub is_until : Times → Moment → Bool
is_until times (SinceFirst micros) = nat_le times.now (times.first + micros)
is_until times (Recorded micros) = nat_le times.now micros

-- Progress through a log.
use Rattle.std.specs.Prelude.{◌≡◌, ℕ, ◌+◌, List, ◌++◌, Option, Some, None, ⊤}
use Rattle.std.specs.Str.Lines.{lines}
use Rattle.co_stream.specs.Held.{Held, to_come}
use Rattle.co_stream.specs.Readings.{Gave}
use Rattle.conode_io.specs.Written.{WritesLines}
use Rattle.conode_logs.specs.declared.log.Form.{Form}
use Rattle.conode_logs.specs.declared.log.Log.{Log}
use Rattle.conode_convert.specs.Converted.{at_start, bad_count, converted, converted_from}

-- if the bytes are known: they give these lines and those of the bytes left, and so many bad lines
-- and those of the bytes left
abbrev pub Gives : Option (List ℕ) → Option (List ℕ) → Log → Log → List (List ℕ) → ℕ → Type 0
Gives None left first next written bad = ⊤
Gives (Some text) None first next written bad = ⊥
Gives (Some text) (Some rest) first next written bad =
    (converted_from first (lines text) ≡ written ++ converted_from next (lines rest))
    × (bad_count first text ≡ bad + bad_count next rest)

-- Lines were taken: a writer has what they are converted to, and so many of them are bad. `held`
-- and `holds` are what is held of the reader before and after, `before` and `after` its bytes, as
-- far as known, `old` and `new` the writer's.
pub record Takes (held holds : Held) (before after : Option (List ℕ)) (first next : Log) (old new : Option (List ℕ)) (bad : ℕ) : Type 0 where
  pub written : List (List ℕ)
  pub appended : WritesLines old new written
  pub gives : Gave held.ended holds.ended before after (λ had has. Gives (to_come held had) (to_come holds has) first next written bad)

-- all of a text is converted, and so many of its lines are bad
abbrev pub Converts : Form → Option (List ℕ) → Option (List ℕ) → ℕ → List ℕ → Type 0
Converts form old new bad text = WritesLines old new (converted form text) × (bad ≡ bad_count (at_start form) text)

-- How far a log is explained.
use Rattle.std.specs.Prelude.{◌≡◌, ℕ, ◌+◌, Bool, if◌then◌else◌, List, [], ◌++◌, Option, Some, None, ⊤}
use Rattle.std.specs.Str.Lines.{lines}
use Rattle.co_stream.specs.Held.{Held, to_come}
use Rattle.co_stream.specs.Readings.{Gave}
use Rattle.conode_explain_cob_ids.specs.Known.{KnownSheet}
use Rattle.conode_io.specs.Written.{WritesLines}
use Rattle.conode_logs.specs.declared.log.Log.{Log}
use Rattle.conode_explain.specs.declared.progress.Layout.{Layout}
use Rattle.conode_explain.specs.declared.progress.Progress.{Progress}
use Rattle.conode_explain.specs.Explained.{bad_count, bad_read, explained, explained_from, lines_read}

-- the lines that are read of the bytes that are left: none, where a bad line ended it
abbrev pub lines_left : Bool → Layout → Log → List ℕ → List (List ℕ)
lines_left stopped form log rest = if stopped then [] else lines_read form log (lines rest)

-- known bytes give these lines, then those of the bytes that are left, unless a bad line ended it; and
-- so many bad lines, then those of the bytes that are left
abbrev pub Gives : Layout → List KnownSheet → Option (List ℕ) → Option (List ℕ)
    → Log → Log → Progress → Progress → List (List ℕ) → ℕ → Bool → Type 0
Gives form sheets None left log after first next written bad stopped = ⊤
Gives form sheets (Some text) None log after first next written bad stopped = ⊥
Gives form sheets (Some text) (Some rest) log after first next written bad stopped =
    (explained_from form sheets log first (lines_read form log (lines text))
    ≡ written ++ explained_from form sheets after next (lines_left stopped form after rest))
    × (bad_count log text ≡ bad + bad_count after rest)

-- Lines were taken: a writer has those of their frames, and so many of them are bad. `held` and
-- `holds` are what is held of the reader before and after, `before` and `after` what is known of
-- its bytes, `old` and `new` the writer's; `stopped`: the last of them is bad and ends it.
pub record Takes (form : Layout) (sheets : List KnownSheet)
    (held holds : Held) (before after : Option (List ℕ)) (log left : Log) (first next : Progress) (old new : Option (List ℕ)) (bad : ℕ) (stopped : Bool) : Type 0 where
  pub written : List (List ℕ)
  pub appended : WritesLines old new written
  pub gives : Gave held.ended holds.ended before after
      (λ had has. Gives form sheets (to_come held had) (to_come holds has) log left first next written bad stopped)

-- all of a text is explained, or where the first bad line ends it all up to there, and so many of the
-- lines that were read are bad
abbrev pub Explains : Layout → List KnownSheet → Option (List ℕ) → Option (List ℕ) → ℕ → List ℕ → Type 0
Explains form sheets old new bad text =
    WritesLines old new (explained form sheets text) × (bad ≡ bad_read form text)

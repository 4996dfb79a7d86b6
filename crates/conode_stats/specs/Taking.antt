-- Progress through a recording.
use Rattle.std.specs.Prelude.{◌≡◌, ℕ, ◌+◌, List, Option, Some, None, ⊤}
use Rattle.std.specs.Str.Lines.{lines}
use Rattle.co_stream.specs.Held.{Held, to_come}
use Rattle.co_stream.specs.Readings.{Gave}
use Rattle.conode_convert.specs.Converted.{at_start}
use Rattle.conode_logs.specs.declared.log.Form.{Form}
use Rattle.conode_logs.specs.declared.log.Log.{Log}
use Rattle.conode_record.specs.declared.line.Record.{Record}
use Rattle.conode_stats_counts.specs.Buses.{Counted, counts_of}
use Rattle.conode_stats.specs.Frames.{bad_count, frames_from, frames_of}

-- If the bytes are known: their frames are these and then those of the bytes left, and so many
-- lines are bad. A reader whose bytes are known stays one.
abbrev pub Gives : Option (List ℕ) → Option (List ℕ) → Log → Log → List Record → List Record → ℕ → Type 0
Gives None left log after first next bad = ⊤
Gives (Some text) None log after first next bad = ⊥
Gives (Some text) (Some rest) log after first next bad =
    (frames_from log first (lines text) ≡ frames_from after next (lines rest))
    × (bad_count log text ≡ bad + bad_count after rest)

-- Lines were taken after these frames: the counts are then those of all frames. `held` and `holds`
-- are what is held of the reader before and after, `before` and `after` its bytes, as far as known.
pub record Takes (held holds : Held) (before after : Option (List ℕ)) (log left : Log) (first : List Record) (counts : Counted) (bad : ℕ) : Type 0 where
  pub frames : List Record
  pub stands : counts ≡ counts_of frames
  pub gives : Gave held.ended holds.ended before after (λ had has. Gives (to_come held had) (to_come holds has) log left first frames bad)

-- the counts are those of the frames of a text, and so many of its lines are bad
abbrev pub CountsText : Form → Counted → ℕ → List ℕ → Type 0
CountsText form counts bad text = (counts ≡ counts_of (frames_of form text)) × (bad ≡ bad_count (at_start form) text)

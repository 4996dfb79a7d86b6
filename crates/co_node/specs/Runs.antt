-- Inputs one after another, and their record.
use Rattle.std.specs.Prelude.{ℕ, ◌+◌, List, [], ◌∷◌, ◌++◌, length, max}
use Rattle.co_node_model.specs.Inputs.{InputView, Inputs}
use Rattle.co_node_model.specs.Moments.{Constants}
use Rattle.co_node_model.specs.Device.{all_frames, prescribed}
use Rattle.co_node_model.specs.Tpdos.{tpdo_count}
use Rattle.co_node.specs.Records.{Recorded}

-- for each input the number of frames up to its end, with `before` frames before the first
abbrev pub all_ends : Constants → Inputs → ℕ → List InputView → List ℕ
all_ends k inputs before [] = []
all_ends k inputs before (input ∷ more) =
    (before + length (prescribed k inputs input))
    ∷ all_ends k (input ∷ inputs) (before + length (prescribed k inputs input)) more

-- a record after some inputs
abbrev pub recorded_after : Constants → Inputs → List InputView → Recorded → Recorded
recorded_after k inputs more r = record r {
  frames = r.frames ++ all_frames k inputs more;
  ends = r.ends ++ all_ends k inputs (length r.frames) more;
}

-- the most frames of an input: 129, or the number of TPDOs plus 2 if that is more
abbrev pub most_frames : Constants → ℕ
most_frames k = max 127 (tpdo_count k.description.rows) + 2

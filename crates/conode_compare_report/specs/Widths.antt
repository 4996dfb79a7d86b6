-- The spans of a whole recording: the law that nothing is lost where spans are joined while it goes on.
use Rattle.std.specs.Prelude.{ℕ, ◌-◌, ◌^◌, ◌<◌, ⊤, List, [], ◌∷◌, ◌++◌, Option}
use Rattle.conode_compare_nmt.specs.declared.finding.NmtState.{NmtState}
use Rattle.conode_compare_report.specs.declared.lanes.Bin.{Bin}
use Rattle.conode_compare_report.specs.declared.lanes.Lane.{Lane}
use Rattle.conode_compare_report.specs.Coverages.{lane_of}
use Rattle.conode_compare_report.specs.Histories.{Happening, Framed}
use Rattle.conode_compare_report.specs.Reports.{number_found}
use Rattle.conode_compare_report.specs.Spans.{bin_with, place_in, spans_with}

-- what of a frame is in the lanes: its stamp, the state that is known after it, its lane, and how many differences it has
pub record Seen : Type 0 where
  pub micros : ℕ
  pub state : NmtState
  pub lane : Option Lane
  pub differences : ℕ

abbrev pub seen_in : Happening → List Seen
seen_in (Framed rows micros kind before state free judged found) =
    record { micros = micros; state = state; lane = lane_of kind before.role; differences = number_found found } ∷ []
seen_in other = []

-- the frames that were compared, the newest first
unfoldable pub seen_of : List Happening → List Seen
seen_of [] = []
seen_of (newest ∷ older) = seen_in newest ++ seen_of older

-- the spans of frames, each of this width from the begin on: a frame is counted in the span of its stamp, and none are joined
unfoldable pub spans_of : ℕ → ℕ → List Seen → List Bin
spans_of begin width [] = []
spans_of begin width (newest ∷ older) =
    spans_with (place_in width (newest.micros - begin)) (bin_with newest.state newest.lane newest.differences) (spans_of begin width older)

-- each stamp is below 2^64, as those of all frames are
abbrev pub StampsFit : List Seen → Type 0
StampsFit [] = ⊤
StampsFit (newest ∷ older) = (newest.micros < 2 ^ 64) × StampsFit older

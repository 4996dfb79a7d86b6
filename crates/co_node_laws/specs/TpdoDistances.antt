-- When the TPDOs of a device are due, over all inputs (CiA 301, 7.2.2.2 to 7.2.2.4 and 7.5.2.37).
use Rattle.std.specs.Prelude.{ℕ, ◌+◌, ◌==◌, Bool, List, [], ◌∷◌, ◌++◌, if◌then◌else◌}
use Rattle.co_dict.specs.Rows.{Contents}
use Rattle.co_dict.specs.Stores.{Description}
use Rattle.co_pdo.specs.declared.tpdo.Occasion.TheVariants as occasion
use Rattle.co_pdo.specs.declared.tpdo.Part.TheVariants.{Whole}
use Rattle.co_pdo.specs.Log.{Log, Started, Happened}
use Rattle.co_pdo.specs.Schedules.{is_among, sync_with}
use Rattle.co_pdo.specs.Tpdos.{settings_of}
use Rattle.co_node_model.specs.Tpdos.{numbers_asked, turn_at}
use Rattle.co_node_model.specs.Inputs.{InputView, Inputs}
use Rattle.co_node_model.specs.declared.turn.Turn.{Turn}
use Rattle.co_node_model.specs.declared.turn.Turn.TheVariants.{Quiet, StartAll, Start, Sync, Asked, Tick}
use Rattle.co_node_model.specs.Moments.{Constants}
use Rattle.co_node_model.specs.Device.{moments, contents_of}
use Rattle.co_node_laws.specs.Distances.{moment_at}

-- the turn of one more input
abbrev pub turn_of_input : Constants → Inputs → InputView → Turn
turn_of_input k inputs input = turn_at (moment_at k inputs input) (moments k inputs)

-- TPDO n is sent at one more input
abbrev pub is_sent : Constants → ℕ → Inputs → InputView → Bool
is_sent k n inputs input = is_among n (moment_at k inputs input).due

-- the part of one input in the log of TPDO n, with the entries at its end: a start when operational
-- is entered, and when 1800h + n:01, 02 or 05 is written in operational; else each SYNC, each tick,
-- and each event of it
abbrev pub turn_log : Description → ℕ → Turn → Contents → List ℕ → Log
turn_log d n Quiet contents due = []
turn_log d n StartAll contents due = Started Whole (settings_of contents n) ∷ []
turn_log d n (Start j part) contents due = if j == n then Started part (settings_of contents n) ∷ [] else []
turn_log d n (Sync counter) contents due = Happened (sync_with counter contents) (settings_of contents n) (is_among n due) ∷ []
turn_log d n (Asked asked) contents due =
    if is_among n (numbers_asked d contents asked) then Happened occasion.Event (settings_of contents n) (is_among n due) ∷ [] else []
turn_log d n Tick contents due = Happened occasion.Tick (settings_of contents n) (is_among n due) ∷ []

-- the log of TPDO n over all inputs, newest first
abbrev pub tpdo_log : Constants → ℕ → Inputs → Log
tpdo_log k n [] = []
tpdo_log k n (input ∷ inputs) =
    turn_log k.description n (turn_of_input k inputs input) (contents_of k (input ∷ inputs)) (moment_at k inputs input).due
    ++ tpdo_log k n inputs

-- how many ticks came since the event timer of TPDO n began, after one more turn: it begins when
-- the TPDO is started or sent
abbrev pub timer_after : ℕ → Turn → Bool → ℕ → ℕ
timer_after n Quiet sent before = before
timer_after n StartAll sent before = 0
timer_after n (Start j part) sent before = if j == n then 0 else before
timer_after n (Sync counter) sent before = if sent then 0 else before
timer_after n (Asked asked) sent before = if sent then 0 else before
timer_after n Tick sent before = if sent then 0 else before + 1

-- the same after all inputs
abbrev pub ticks_of_timer : Constants → ℕ → Inputs → ℕ
ticks_of_timer k n [] = 0
ticks_of_timer k n (input ∷ inputs) = timer_after n (turn_of_input k inputs input) (is_sent k n inputs input) (ticks_of_timer k n inputs)

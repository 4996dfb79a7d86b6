-- TPDOs: the turn of their schedule at an input, which are due then, and their frames (CiA 301,
-- 7.2.2.2 to 7.2.2.4 and 7.5.2.37).
use Rattle.std.specs.Prelude.{ℕ, length, Bool, false, ◌&&◌, List, [], ◌∷◌, ◌==◌, ◌||◌, Option, Some, None, if◌then◌else◌, ◌-◌, is_some, not}
use Rattle.std.specs.List.{list_any, filter}
use Rattle.co_value.specs.declared.key.Key.{Key}
use Rattle.co_value.specs.Keys.{same_key}
use Rattle.co_frame.specs.FrameContent.{FrameContent}
use Rattle.co_profile.specs.Indices.{pdo_cob_id, transmission_type, event_timer, tpdo_communication, is_within}
use Rattle.co_dict.specs.Rows.{Rows, Contents, number_at}
use Rattle.co_dict.specs.declared.side.Side.TheVariants.{Tpdo}
use Rattle.co_dict.specs.Stores.{Description}
use Rattle.co_dict.specs.CobIds.{identifier_of}
use Rattle.co_dict.specs.declared.side.Side.TheVariants as side
use Rattle.co_pdo.specs.Tpdos.{tpdos_of, is_active, tpdo_numbers, tpdo_key}
use Rattle.co_pdo.specs.declared.mapping.Mapped.{Mapped}
use Rattle.co_pdo.specs.declared.mapping.Mapped.TheVariants.{Entry, Dummy}
use Rattle.co_pdo.specs.Mappings.{mapping_of}
use Rattle.co_pdo.specs.declared.tpdo.Part.{Part}
use Rattle.co_pdo.specs.declared.tpdo.Part.TheVariants.{Whole, Timer}
use Rattle.co_pdo.specs.Schedules.{History as Schedule, sync_with, all_due, all_due_among, with_start, with_all_started, with_sync, with_events, with_tick}
use Rattle.co_pdo.specs.Images.{image_of}
use Rattle.co_pdo.specs.declared.tpdo.Occasion.TheVariants as occasion
use Rattle.co_node_parts.specs.declared.nmt_state.NodeState.TheVariants.{Operational}
use Rattle.co_node_parts.specs.declared.nmt_state.Transition.{Transition}
use Rattle.co_node_parts.specs.NmtStates.{is_state}
use Rattle.co_node_model.specs.declared.mark.Asked.{Asked}
use Rattle.co_node_model.specs.declared.mark.Asked.TheVariants.{Event, Changed}
use Rattle.co_node_model.specs.declared.turn.Turn.{Turn}
use Rattle.co_node_model.specs.Sync.{counter_in}
use Rattle.co_node_model.specs.declared.mark.Mark.{Mark}
use Rattle.co_node_model.specs.Nmt.{transition_of}
use Rattle.co_node_model.specs.Moments.{Moment, History, Constants}
use Rattle.co_node_model.specs.declared.turn.Turn.TheVariants as turn
use Rattle.co_node_model.specs.Marks.{marked_event, marked_key, marked_sync, marked_tick}

-- how many TPDOs a dictionary has
abbrev pub tpdo_count : Rows → ℕ
tpdo_count rows = length (tpdos_of rows)

-- ---- an event of the application

-- a mapped object is this entry
abbrev pub is_entry : Key → Mapped → Bool
is_entry key (Entry mapped width) = same_key mapped key
is_entry key (Dummy width) = false

-- TPDO k is active and maps an entry, once or more
abbrev pub is_mapped_into : Description → Contents → Key → ℕ → Bool
is_mapped_into d contents key k = is_active contents k && list_any (is_entry key) (mapping_of Tpdo d contents k)

-- the numbers of the TPDOs of an application event, increasing
abbrev pub numbers_asked : Description → Contents → Asked → List ℕ
numbers_asked d contents (Event k) = k ∷ []
numbers_asked d contents (Changed key) = filter (is_mapped_into d contents key) tpdo_numbers

-- ---- the turn of the schedule at an input

-- the part of a TPDO that a write to a sub-index of its communication parameter starts
abbrev pub part_started : ℕ → Option Part
part_started sub = if sub == pdo_cob_id || sub == transmission_type then Some Whole else (if sub == event_timer then Some Timer else None)

-- a start of TPDO k, if there is one
abbrev pub start_turn : ℕ → Option Part → Turn
start_turn k None = turn.Quiet
start_turn k (Some part) = turn.Start k part

-- the turn of a written entry: it may start a TPDO
abbrev pub turn_by_write : Key → Turn
turn_by_write key = if is_within tpdo_communication key.index then start_turn (key.index - tpdo_communication.0) (part_started key.sub) else turn.Quiet

-- the turn of a SYNC, if one was received
abbrev pub turn_by_sync : Option FrameContent → Turn
turn_by_sync None = turn.Quiet
turn_by_sync (Some frame) = turn.Sync (counter_in frame)

-- the turn of an application event, if it was one
abbrev pub turn_by_asked : Option Asked → Turn
turn_by_asked None = turn.Quiet
turn_by_asked (Some asked) = turn.Asked asked

-- the turn in operational, by the entry that was written, if any
abbrev pub turn_with : Option Key → Mark → Turn
turn_with (Some key) mark = turn_by_write key
turn_with None mark =
    if marked_tick mark then turn.Tick
    else (if is_some (marked_sync mark) then turn_by_sync (marked_sync mark) else turn_by_asked (marked_event mark))

-- the turn of an input, by the states before and after it: quiet outside operational; entering it
-- starts all TPDOs
abbrev pub turn_of : Mark → Transition → Turn
turn_of mark t =
    if not (is_state Operational t.after) then turn.Quiet
    else (if not (is_state Operational t.before) then turn.StartAll else turn_with (marked_key mark) mark)

-- ---- which are due

-- the TPDOs that are due, increasing
abbrev pub due_at : Description → Turn → Contents → Schedule → List ℕ
due_at d turn.Quiet contents history = []
due_at d turn.StartAll contents history = []
due_at d (turn.Start n part) contents history = []
due_at d (turn.Sync counter) contents history = all_due contents history (sync_with counter contents)
due_at d (turn.Asked asked) contents history = all_due_among (numbers_asked d contents asked) contents history
due_at d turn.Tick contents history = all_due contents history occasion.Tick

-- the calls of the schedule with one more turn, at which these TPDOs were sent
abbrev pub with_turn : Description → Turn → Contents → List ℕ → Schedule → Schedule
with_turn d turn.Quiet contents due history = history
with_turn d turn.StartAll contents due history = with_all_started contents history
with_turn d (turn.Start n part) contents due history = with_start n part contents history
with_turn d (turn.Sync counter) contents due history = with_sync counter contents due history
with_turn d (turn.Asked asked) contents due history = with_events (numbers_asked d contents asked) contents due history
with_turn d turn.Tick contents due history = with_tick contents due history

-- ---- over all inputs, with the entries at the end of each

-- the turn of an input
abbrev pub turn_at : Moment → History → Turn
turn_at m history = turn_of m.mark (transition_of m history)

-- the calls of the schedule
abbrev pub schedule_log : Constants → History → Schedule
schedule_log k [] = []
schedule_log k (m ∷ history) = with_turn k.description (turn_at m history) m.contents m.due (schedule_log k history)

-- ---- what is sent: by number

-- the moment with the TPDOs that are due, by number (7.2.2)
abbrev pub with_tpdos : Constants → History → Moment → Moment
with_tpdos k history m = record m { due = due_at k.description (turn_at m history) m.contents (schedule_log k history) }

-- TPDO n with the entries at the end of the input (7.2.2)
abbrev pub tpdo_frame : Description → Contents → ℕ → FrameContent
tpdo_frame d contents n =
    record { id = identifier_of (number_at contents (tpdo_key n 1)); bytes = image_of contents (mapping_of side.Tpdo d contents n) }

-- The entries that an input sets, by SDO or by RPDOs (CiA 301, 7.2.2 and 7.2.4.3).
use Rattle.std.specs.Prelude.{List, [], ◌∷◌, ◌++◌}
use Rattle.std.specs.List.{cons_option}
use Rattle.co_value.specs.declared.key.Key.{Key}
use Rattle.co_dict.specs.Rows.{Contents}
use Rattle.co_dict.specs.Stores.{Description}
use Rattle.co_pdo_compiled.specs.SetEntries.{keys_set}
use Rattle.co_node_parts.specs.declared.nmt_state.Transition.{Transition}
use Rattle.co_node_parts.specs.declared.rpdo_slots.KeptFrame.{KeptFrame}
use Rattle.co_node_parts.specs.RpdoSlots.{SlotLog}
use Rattle.co_node_model.specs.Inputs.{Applied, Framed, InputView, Inputs, Ticked}
use Rattle.co_node_model.specs.declared.mark.Mark.{Mark}
use Rattle.co_node_model.specs.Marks.{marked_key}
use Rattle.co_node_model.specs.Moments.{Constants, Moment}
use Rattle.co_node_model.specs.Emergencies.{all_raised}
use Rattle.co_node_model.specs.Rpdos.{after_data, arrival_errors, mapping_for}
use Rattle.co_node_model.specs.Device.{moment, moments}
use Rattle.co_node_device.specs.Effects.{after_lengths, taken_now}

-- ---- by RPDOs

-- the entries that the data of a frame set when they take effect
abbrev pub set_by_data : Description → Contents → KeptFrame → List Key
set_by_data d contents rpdo = keys_set d.rows (mapping_for d contents rpdo) rpdo.frame.bytes

-- those that the data of several frames set, in order
abbrev pub set_by_all_data : Description → Contents → List KeptFrame → List Key
set_by_all_data d contents [] = []
set_by_all_data d contents (rpdo ∷ rpdos) =
    set_by_data d contents rpdo ++ set_by_all_data d (after_data d contents rpdo) rpdos

-- those that data set at an input, by its mark
abbrev pub set_by_effects : Description → Contents → Mark → Transition → SlotLog → List Key
set_by_effects d contents mark t log = set_by_all_data d (after_lengths d contents mark) (taken_now d contents mark t log)

-- those of a moment: of the frames whose data took effect
abbrev pub set_by_rpdos : Constants → Moment → List Key
set_by_rpdos k m =
    set_by_all_data k.description (all_raised k.description.rows (arrival_errors k.description m) m.watched) m.taken

-- ---- by SDO

-- the entry of the download that a frame completes: its mark has it. A write by the application has
-- such a mark too, and is no download
abbrev pub set_by_request : InputView → Mark → List Key
set_by_request (Framed frame) mark = cons_option (marked_key mark) []
set_by_request Ticked mark = []
set_by_request (Applied event) mark = []

-- ---- over all inputs

-- by an input with its moment
abbrev pub set_in : Constants → InputView → Moment → List Key
set_in k input m = set_by_request input m.mark ++ set_by_rpdos k m

-- by the last input, newest first
abbrev pub last_set : Constants → Inputs → List Key
last_set k [] = []
last_set k (input ∷ inputs) = set_in k input (moment k (moments k inputs) input)

-- The effects of SYNC and RPDO frames, by the mark of an input (CiA 301, 7.2.2 and 7.2.5).
use Rattle.std.specs.Prelude.{List, ◌++◌}
use Rattle.co_frame.specs.declared.emergency.Emergency.{Emergency}
use Rattle.co_dict.specs.Rows.{Contents}
use Rattle.co_dict.specs.Stores.{Description}
use Rattle.co_node_parts.specs.declared.nmt_state.Transition.{Transition}
use Rattle.co_node_parts.specs.declared.rpdo_slots.KeptFrame.{KeptFrame}
use Rattle.co_node_parts.specs.RpdoSlots.{SlotLog, taken_at}
use Rattle.co_node_model.specs.Rpdos.{slot_event, rpdo_errors, immediate, after_all_data, all_data_emergencies}
use Rattle.co_node_model.specs.declared.mark.Mark.{Mark}
use Rattle.co_node_model.specs.declared.device_error.DeviceError.{DeviceError}
use Rattle.co_node_model.specs.Emergencies.{all_raised, emergencies_of}
use Rattle.co_node_model.specs.Sync.{sync_errors}
use Rattle.co_node_model.specs.Marks.{marked_rpdo, marked_sync}

-- the errors of the length of a SYNC, or of an RPDO's frame
abbrev pub length_errors_of : Description → Contents → Mark → List DeviceError
length_errors_of d contents mark = sync_errors contents (marked_sync mark) ++ rpdo_errors d contents (marked_rpdo mark)

-- the frames whose data take effect
abbrev pub taken_now : Description → Contents → Mark → Transition → SlotLog → List KeptFrame
taken_now d contents mark t log =
    taken_at 512 (slot_event d contents mark t) log ++ immediate d contents (marked_rpdo mark)

-- the entries after the errors of length
abbrev pub after_lengths : Description → Contents → Mark → Contents
after_lengths d contents mark = all_raised d.rows (length_errors_of d contents mark) contents

-- the entries after the data took effect
abbrev pub after_effects : Description → Contents → Mark → Transition → SlotLog → Contents
after_effects d contents mark t log =
    after_all_data d (after_lengths d contents mark) (taken_now d contents mark t log)

-- the emergencies that are queued
abbrev pub effect_emergencies : Description → Contents → Mark → Transition → SlotLog → List Emergency
effect_emergencies d contents mark t log =
    emergencies_of d.rows (length_errors_of d contents mark) contents
    ++ all_data_emergencies d (after_lengths d contents mark) (taken_now d contents mark t log)

-- What the entries of a node's PDO have, by what a recording shows of them.
use Rattle.std.specs.Prelude.{ℕ, ◌==◌, Bool, true, false, not, ◌&&◌, ◌||◌, if◌then◌else◌, map, replicate, slice_set, Option, Some, None}
use Rattle.conode_explain_entries.specs.declared.event.Event.{Event}
use Rattle.conode_explain_entries.specs.declared.event.Event.TheVariants.{Written, Read, BootedUp, Saved, Restored, Unclear}
use Rattle.conode_explain_entries.specs.declared.event.PdoPart.{PdoPart}
use Rattle.conode_explain_entries.specs.declared.event.PdoPart.TheVariants.{CobId, Mapping}
use Rattle.conode_explain_entries.specs.declared.state.PdoState.{PdoState}
use Rattle.conode_explain_entries.specs.declared.state.PdoValues.{PdoValues}
use Rattle.conode_explain_entries.specs.declared.state.Value.{Value}
use Rattle.conode_explain_entries.specs.declared.state.Value.TheVariants as values

-- what the sheet says is assumed
unfoldable pub assumed_values : PdoValues
assumed_values = record { cob_id = values.Assumed; mapping = replicate 65 values.Assumed }

abbrev pub nothing_shown : PdoState
nothing_shown = record { now = assumed_values; stored = assumed_values; is_being_changed = false }

-- ---- a transfer shows a number of an entry

-- nothing is known where data are missing in the recording, or have another length than the type
abbrev pub shown_value : Option ℕ → Value
shown_value None = values.Unknown
shown_value (Some number) = values.Seen number

-- the values with another one of an entry
abbrev pub values_with : PdoValues → PdoPart → Value → PdoValues
values_with old CobId value = record old { cob_id = value }
values_with old (Mapping sub) value = record old { mapping = slice_set old.mapping sub value }

-- a number of entries that is known to be 0
abbrev pub is_no_count : Option ℕ → Bool
is_no_count None = false
is_no_count (Some number) = number == 0

-- the mapping is being changed once sub-index 0 or a word of it is acknowledged, and until sub-index 0
-- is shown with a number of entries other than 0; where that number isn't known, the mapping isn't
abbrev pub changes_written : Bool → PdoPart → Option ℕ → Bool
changes_written changes CobId number = changes
changes_written changes (Mapping sub) number = not (sub == 0) || is_no_count number

-- of those that are read, only sub-index 0 counts: it ends a change as one that is written does. It begins
-- none, since nothing was written
abbrev pub changes_read : Bool → PdoPart → Option ℕ → Bool
changes_read changes CobId number = changes
changes_read changes (Mapping sub) number = changes && (not (sub == 0) || is_no_count number)

-- a download counts once it is acknowledged: the device has decided
abbrev pub state_written : PdoState → PdoPart → Option ℕ → PdoState
state_written state part number = record {
  now = values_with state.now part (shown_value number);
  stored = state.stored;
  is_being_changed = changes_written state.is_being_changed part number;
}

-- an upload was answered
abbrev pub state_read : PdoState → PdoPart → Option ℕ → PdoState
state_read state part number = record {
  now = values_with state.now part (shown_value number);
  stored = state.stored;
  is_being_changed = changes_read state.is_being_changed part number;
}

-- ---- stored values

-- what comes back of a value that is stored; where it isn't known whether it is, nothing is known of
-- it, unless the sheet's is assumed either way
abbrev pub stored_value : Bool → Value → Value
stored_value certain (values.Seen number) = if certain then values.Saved number else values.Unknown
stored_value certain (values.Saved number) = if certain then values.Saved number else values.Unknown
stored_value certain value = value

abbrev pub stored_values : Bool → PdoValues → PdoValues
stored_values certain old = record { cob_id = stored_value certain old.cob_id; mapping = map (stored_value certain) old.mapping }

-- the device type is a constant, which no boot-up changes (CiA 301, 7.5.2.1)
abbrev pub is_constant : ℕ → Bool
is_constant index = index == 0x1000

-- ---- all events

-- what the entries of a PDO have after an event of its node (CiA 301, 7.5.2.13 and 7.5.2.14)
abbrev pub state_with : PdoState → ℕ → Event → PdoState
state_with state index (Written of number) = if of.index == index then state_written state of.part number else state
state_with state index (Read of number) = if of.index == index then state_read state of.part number else state
-- a boot-up puts back what was stored, and what the sheet says where nothing was
state_with state index BootedUp =
    if is_constant index then state else record { now = state.stored; stored = state.stored; is_being_changed = false }
-- what they have is stored
state_with state index Saved = record { now = state.now; stored = stored_values true state.now; is_being_changed = state.is_being_changed }
-- what they have may be stored, or what the sheet says may come back
state_with state index Unclear = record { now = state.now; stored = stored_values false state.now; is_being_changed = state.is_being_changed }
-- what the sheet says comes back
state_with state index Restored = record { now = state.now; stored = assumed_values; is_being_changed = state.is_being_changed }

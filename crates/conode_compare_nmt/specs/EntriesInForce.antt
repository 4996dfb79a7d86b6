-- The entries that say what a device sends by itself: by its data sheet (CiA 301, 7.5.2.17,
-- 7.5.2.18 and 7.5.2.20), and by what a recording shows.
use Rattle.std.specs.Prelude.{ℕ, ◌+◌, ◌==◌, Bool, true, false, not, ◌&&◌, ◌||◌, if◌then◌else◌, List, Option, Some, None, is_some}
use Rattle.std.specs.Option.{option_map_or}
use Rattle.co_frame.specs.FrameContent.{FrameContent}
use Rattle.co_profile.specs.Indices.{module_list, nmt_startup, store_parameters}
use Rattle.co_profile.specs.Keys.{producer_key, emergency_key, emergency_inhibit_key}
use Rattle.co_sheet.specs.Content.{Row}
use Rattle.co_value.specs.declared.key.Key.{Key}
use Rattle.co_value.specs.Keys.{same_key}
use Rattle.co_sheet_changes.specs.Names.{row_at}
use Rattle.conode_explain_transfers.specs.declared.ended.Ended.{Ended}
use Rattle.conode_explain_transfers.specs.declared.ended.Ending.{Ending}
use Rattle.conode_explain_transfers.specs.declared.ended.Ending.TheVariants.{Done}
use Rattle.conode_explain_transfers.specs.declared.kinds.Protocol.{Protocol}
use Rattle.conode_explain_transfers.specs.declared.kinds.Protocol.TheVariants.{Expedited}
use Rattle.conode_explain_transfers.specs.declared.kinds.Side.{Side}
use Rattle.conode_explain_transfers.specs.declared.kinds.Side.TheVariants.{Client, Server}
use Rattle.conode_compare_pdos.specs.Followed.{pdos_of, uncounted, unknown_pdos}
use Rattle.conode_compare_pdos.specs.Identifiers.{is_constant_access, may_change, may_get, may_have}
use Rattle.conode_compare_pdos.specs.SheetNumbers.{first_word, number_of, preset_at, small}
use Rattle.conode_compare_transfers.specs.Breaches.{key_in}
use Rattle.conode_compare_transfers.specs.Dialogues.{asks_to_write, word_written}
use Rattle.conode_compare_nmt.specs.declared.entries.Entries.{Entries}
use Rattle.conode_compare_nmt.specs.declared.entries.Facts.{Facts}
use Rattle.conode_compare_nmt.specs.OtherClients.{clients_of, has_hidden_channel, is_channel}

-- ---- a data sheet

-- an object that has a sub-index 0
abbrev pub has_object : List Row → ℕ → Bool
has_object rows index = is_some (row_at rows (record { index = index; sub = 0 }))

-- an entry that isn't there doesn't change either
abbrev pub is_constant : List Row → Key → Bool
is_constant rows key = option_map_or (λ row. is_constant_access row.access) (row_at rows key) true

-- without an entry 1015:00 no time is kept between EMCY
abbrev pub inhibit_of : List Row → ℕ → Option ℕ
inhibit_of rows node = option_map_or (λ row. small (number_of node row.default)) (row_at rows emergency_inhibit_key) (Some 0)

abbrev pub is_number : Option ℕ → ℕ → Bool
is_number (Some n) other = n == other
is_number None other = false

-- the default identifier of EMCY (CiA 301, 7.3.5)
abbrev pub emergency_id : ℕ → ℕ
emergency_id node = 0x80 + node

-- What a data sheet has, where nothing was stored. CiA 301 doesn't restrict the identifier of EMCY: a
-- frame with it may be of a TPDO that has it too.
unfoldable pub sheet_entries : List Row → ℕ → Entries
sheet_entries rows node = record {
  period = small (preset_at rows node producer_key);
  emergencies = is_number (preset_at rows node emergency_key) (emergency_id node) && not (may_have rows node (emergency_id node));
  inhibit = inhibit_of rows node;
  inhibit_shown = None;
}

-- what of it never changes
unfoldable pub initial_entries : List Row → Entries → Entries
initial_entries rows sheet = record {
  period = if is_constant rows producer_key then sheet.period else None;
  emergencies = is_constant rows emergency_key && (not (may_change rows) && sheet.emergencies);
  inhibit = if is_constant rows emergency_inhibit_key then sheet.inhibit else None;
  inhibit_shown = None;
}

-- Before a boot-up only what never changes is known. After one what the data sheet has is; but
-- where the device can store parameters, it may have stored others, the values of a configuration
-- (DCF) are written by a master, or not yet, and those of a device with another SDO channel by its
-- client, whose frames perhaps can't be told.
unfoldable pub facts_of : List Row → ℕ → Bool → Facts
facts_of rows node configured =
    let sheet = sheet_entries rows node in
    record {
      before = initial_entries rows sheet;
      booted = if has_object rows store_parameters || (configured || has_hidden_channel rows node) then initial_entries rows sheet else sheet;
      pdos = if has_object rows store_parameters || (configured || has_hidden_channel rows node) then unknown_pdos else pdos_of rows node;
      clients = clients_of rows node;
      starts_itself = has_object rows nmt_startup;
      modular = has_object rows module_list;
      stores = has_object rows store_parameters && not configured;
      as_sheet = not (has_object rows store_parameters || configured);
    }

-- A device whose sheet has SimpleBootUpMaster=1 (CiA 306-1) may be the NMT master and start itself, as one with NMT
-- startup.
abbrev pub with_master : Bool → Facts → Facts
with_master master facts = if master then record facts { starts_itself = true; pdos = uncounted facts.pdos } else facts

-- ---- a recording

-- Between a request to write and its answer both values may hold. Once the parameters of another SDO
-- channel may have been written, its client may write each of these entries.
unfoldable pub asked_to_write : Entries → Key → Entries
asked_to_write entries key = record {
  period = if same_key key producer_key || is_channel key then None else entries.period;
  emergencies = not (same_key key emergency_key || is_channel key) && entries.emergencies;
  inhibit = if same_key key emergency_inhibit_key || is_channel key then None else entries.inhibit;
  inhibit_shown = entries.inhibit_shown;
}

-- a client of another SDO channel sends: it may have written each of these entries
unfoldable pub overwritten : Entries → Entries
overwritten entries = record { period = None; emergencies = false; inhibit = None; inhibit_shown = entries.inhibit_shown }

-- What a client's frame asks to write, whatever it is in the transfers of the channel: a server may
-- have given up the block download that was open, as one that was stopped, and then the frame isn't the
-- segment that it seems to be.
abbrev pub asked_by : Side → FrameContent → Entries → Entries
asked_by Client frame entries = if asks_to_write frame then asked_to_write entries (key_in frame) else entries
asked_by Server frame entries = entries

-- so a client asks to write what may give a TPDO the identifier of EMCY
abbrev pub shares_id : ℕ → Side → FrameContent → Bool
shares_id node Client frame = asks_to_write frame && may_get (emergency_id node) (key_in frame) (word_written frame)
shares_id node Server frame = false

abbrev pub with_sharing : Bool → Entries → Entries
with_sharing shares entries = record entries { emergencies = not shares && entries.emergencies }

-- after a reset command the inhibit time isn't known until the boot-up
abbrev pub reset_entries : Entries → Entries
reset_entries entries = record entries { inhibit = None }

-- an expedited transfer of 1017:00 or 1015:00 that is done shows what it has
abbrev pub done_word : Protocol → Ending → List ℕ → Option ℕ
done_word Expedited (Done crc) bytes = first_word bytes
done_word protocol ending bytes = None

unfoldable pub shown_period : Ended → Option ℕ
shown_period ended = if same_key ended.key producer_key then done_word ended.protocol ended.ending ended.first.items else None

unfoldable pub shown_inhibit : Ended → Option ℕ
shown_inhibit ended =
    if same_key ended.key emergency_inhibit_key then done_word ended.protocol ended.ending ended.first.items else None

abbrev pub with_period : Entries → Option ℕ → Entries
with_period entries (Some period) = record entries { period = Some period }
with_period entries None = entries

-- where it has what it is known to have, that is in force as before
abbrev pub with_inhibit : Entries → Option ℕ → ℕ → Entries
with_inhibit entries (Some inhibit) end = record entries {
  inhibit = Some inhibit;
  inhibit_shown = if is_number entries.inhibit inhibit then entries.inhibit_shown else Some end;
}
with_inhibit entries None end = entries

abbrev pub ended_entries : Entries → Ended → Entries
ended_entries entries ended = with_inhibit (with_period entries (shown_period ended)) (shown_inhibit ended) ended.end

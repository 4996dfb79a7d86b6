-- The first four TPDOs of a device, followed through a recording.
use Rattle.std.specs.Prelude.{ℕ, Bool, false, ◌&&◌, ◌||◌, if◌then◌else◌, List, Option, Some, None, is_some, option_and_then}
use Rattle.co_profile.specs.Indices.{nmt_startup}
use Rattle.co_profile.specs.Keys.{sync_key}
use Rattle.co_sheet.specs.Content.{Row}
use Rattle.co_value.specs.declared.key.Key.{Key}
use Rattle.co_sheet_changes.specs.Names.{row_at}
use Rattle.co_value.specs.Keys.{same_key}
use Rattle.conode_explain_transfers.specs.declared.ended.Ended.{Ended}
use Rattle.conode_compare_pdos.specs.declared.cycle.Cycle.{Cycle}
use Rattle.conode_compare_pdos.specs.declared.deviation.Moment.{Moment}
use Rattle.conode_compare_pdos.specs.declared.pdos.Pdos.{Pdos}
use Rattle.conode_compare_pdos.specs.declared.pdos.Sighting.{Sighting}
use Rattle.conode_compare_pdos.specs.declared.tpdo.Tpdo.{Tpdo}
use Rattle.conode_compare_pdos.specs.Cycles.{new_cycle}
use Rattle.conode_compare_pdos.specs.Deviations.{deviation_at, is_judged}
use Rattle.conode_compare_pdos.specs.PdoParameters.{identifier_of, key_of, parameters_of}
use Rattle.conode_compare_pdos.specs.SheetNumbers.{preset_at}
use Rattle.conode_compare_pdos.specs.Tpdos.{after_command, after_frame, after_gap, after_poll, after_request, after_sync, after_transfer, booted_tpdo, is_id, unknown_tpdo, without_cycle}

abbrev pub four : Option ℕ → Tpdo → Pdos
four sync pdo = record { sync = sync; first = pdo; second = pdo; third = pdo; fourth = pdo }

abbrev pub unknown_pdos : Pdos
unknown_pdos = four None unknown_tpdo

abbrev pub each : (ℕ → Tpdo → Tpdo) → Pdos → Pdos
each change pdos = record {
  sync = pdos.sync;
  first = change 0 pdos.first;
  second = change 1 pdos.second;
  third = change 2 pdos.third;
  fourth = change 3 pdos.fourth;
}

-- SYNCs are counted, unless the device may become operational by itself (1F80h, CiA 302-2): the
-- recording doesn't show when its count begins then
abbrev pub cycle_of : List Row → Option Cycle
cycle_of rows = if is_some (row_at rows (key_of nmt_startup 0)) then None else Some new_cycle

-- after a boot-up: what the data sheet has
unfoldable pub pdos_of : List Row → ℕ → Pdos
pdos_of rows node = record {
  sync = option_and_then identifier_of (preset_at rows node sync_key);
  first = booted_tpdo (cycle_of rows) (parameters_of rows node 0);
  second = booted_tpdo (cycle_of rows) (parameters_of rows node 1);
  third = booted_tpdo (cycle_of rows) (parameters_of rows node 2);
  fourth = booted_tpdo (cycle_of rows) (parameters_of rows node 3);
}

-- SYNCs aren't counted
abbrev pub uncounted : Pdos → Pdos
uncounted pdos = each (λ number. without_cycle) pdos

-- an NMT command came, or a heartbeat shows another state than operational
abbrev pub commanded : Pdos → Pdos
commanded pdos = each (λ number. after_command) pdos

abbrev pub interrupted : Pdos → Pdos
interrupted pdos = each (λ number. after_gap) pdos

abbrev pub synced : Pdos → ℕ → Pdos
synced pdos length = each (λ number. after_sync length) pdos

abbrev pub polled : Pdos → ℕ → Pdos
polled pdos id = each (λ number. after_poll id) pdos

-- a download is requested
unfoldable pub requested : Pdos → Key → ℕ → Pdos
requested pdos key micros =
    let pdos = each (after_request key micros) pdos in
    if same_key key sync_key then record pdos { sync = None } else pdos

-- a transfer ended
unfoldable pub transferred : Pdos → Ended → ℕ → Pdos
transferred pdos ended micros = each (after_transfer ended micros) pdos

-- a data frame with this identifier and so many bytes: a SYNC, or a TPDO
unfoldable pub framed : Pdos → Moment → ℕ → ℕ → Pdos
framed pdos moment id length =
    if is_id pdos.sync id then synced pdos length else each (λ number. after_frame moment id length) pdos

-- ---- what is said of a frame

abbrev pub seen : Moment → Bool → ℕ → Tpdo → ℕ → ℕ → Option Sighting
seen moment has_sync number pdo id length =
    if is_id pdo.parameters.id id then Some (record {
      number = number;
      deviation = deviation_at moment has_sync pdo length;
      judged = is_judged moment pdo length;
    }) else None

abbrev pub or_else : Option Sighting → Option Sighting → Option Sighting
or_else (Some sighting) other = Some sighting
or_else None other = other

-- one of them has this identifier
abbrev pub has_id : Pdos → ℕ → Bool
has_id pdos id =
    is_id pdos.first.parameters.id id || (is_id pdos.second.parameters.id id || (is_id pdos.third.parameters.id id || is_id pdos.fourth.parameters.id id))

-- at least two of four
abbrev pub are_several : Bool → Bool → Bool → Bool → Bool
are_several first second third fourth = (first && (second || (third || fourth))) || ((second && (third || fourth)) || (third && fourth))

-- more than one of them has this identifier: of which one a frame is isn't known
abbrev pub is_shared : Pdos → ℕ → Bool
is_shared pdos id =
    are_several (is_id pdos.first.parameters.id id) (is_id pdos.second.parameters.id id) (is_id pdos.third.parameters.id id) (is_id pdos.fourth.parameters.id id)

abbrev pub unjudged : Option Sighting → Option Sighting
unjudged None = None
unjudged (Some seen) = Some (record seen { deviation = None; judged = false })

abbrev pub first_seen : Moment → Pdos → ℕ → ℕ → Option Sighting
first_seen moment pdos id length =
    let has_sync = is_some pdos.sync in
    or_else (seen moment has_sync 1 pdos.first id length) (or_else (seen moment has_sync 2 pdos.second id length)
    (or_else (seen moment has_sync 3 pdos.third id length) (seen moment has_sync 4 pdos.fourth id length)))

-- a data frame with this identifier and so many bytes, where it is one of the TPDOs
unfoldable pub sighting : Moment → Pdos → ℕ → ℕ → Option Sighting
sighting moment pdos id length =
    if is_shared pdos id then unjudged (first_seen moment pdos id length) else first_seen moment pdos id length

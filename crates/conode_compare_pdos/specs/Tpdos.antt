-- A TPDO in a recording: its parameters, its newest frame, and the SYNCs that it may answer (CiA
-- 301, 7.2.2).
use Rattle.std.specs.Prelude.{ℕ, ◌+◌, ◌-◌, ◌==◌, nat_le, Bool, true, false, ◌||◌, if◌then◌else◌, Option, Some, None, option_map}
use Rattle.co_value.specs.declared.key.Key.{Key}
use Rattle.conode_explain_transfers.specs.declared.ended.Ended.{Ended}
use Rattle.conode_explain_transfers.specs.declared.ended.Ending.{Ending}
use Rattle.conode_explain_transfers.specs.declared.ended.Ending.TheVariants.{Done}
use Rattle.conode_explain_transfers.specs.declared.kinds.Direction.{Direction}
use Rattle.conode_explain_transfers.specs.declared.kinds.Direction.TheVariants.{Download}
use Rattle.conode_explain_transfers.specs.declared.kinds.Protocol.{Protocol}
use Rattle.conode_explain_transfers.specs.declared.kinds.Protocol.TheVariants.{Expedited}
use Rattle.conode_compare_pdos.specs.declared.cycle.Cycle.{Cycle}
use Rattle.conode_compare_pdos.specs.declared.deviation.Moment.{Moment}
use Rattle.conode_compare_pdos.specs.declared.parameters.Parameters.{Parameters}
use Rattle.conode_compare_pdos.specs.declared.tpdo.Tpdo.{Tpdo}
use Rattle.conode_compare_pdos.specs.Cycles.{cycle_sent, cycle_synced, new_cycle}
use Rattle.conode_compare_pdos.specs.Deviations.{is_certain, shows_length}
use Rattle.conode_compare_pdos.specs.PdoParameters.{asked_to_write, communication, mapping, nothing_known, shown}

-- A slow device may answer a SYNC after the next one came, so two may be unanswered. So it is
-- assumed where frames may be missing; after a boot-up each SYNC is in the recording.
abbrev pub most_syncs : ℕ
most_syncs = 2

abbrev pub unknown_tpdo : Tpdo
unknown_tpdo = record { parameters = nothing_known; sent = None; syncs = most_syncs; cycle = None; changed = None; odd = None }

-- after a boot-up; its SYNCs may be counted
abbrev pub booted_tpdo : Option Cycle → Parameters → Tpdo
booted_tpdo cycle parameters =
    record { parameters = parameters; sent = None; syncs = 0; cycle = cycle; changed = None; odd = None }

-- the count begins anew
abbrev pub anew : Option Cycle → Option Cycle
anew cycle = option_map (λ c. new_cycle) cycle

-- SYNCs aren't counted
abbrev pub without_cycle : Tpdo → Tpdo
without_cycle pdo = record pdo { cycle = None }

-- times and SYNCs count anew after an NMT command
abbrev pub after_command : Tpdo → Tpdo
after_command pdo = record pdo { sent = None; cycle = anew pdo.cycle }

-- frames may be missing
abbrev pub after_gap : Tpdo → Tpdo
after_gap pdo = record pdo { sent = None; syncs = most_syncs; cycle = anew pdo.cycle }

-- a SYNC with so many bytes came
abbrev pub after_sync : ℕ → Tpdo → Tpdo
after_sync length pdo = record pdo {
  syncs = if nat_le most_syncs pdo.syncs then most_syncs else pdo.syncs + 1;
  cycle = option_map (cycle_synced length) pdo.cycle;
}

-- the identifier is this one
abbrev pub is_id : Option ℕ → ℕ → Bool
is_id (Some own) id = own == id
is_id None id = false

-- A remote frame asks for it. Which frame answers that isn't known, so SYNCs aren't counted any more.
abbrev pub after_poll : ℕ → Tpdo → Tpdo
after_poll id pdo = if is_id pdo.parameters.id id then record (after_gap pdo) { cycle = None } else pdo

-- it was sent, with so many bytes; a wrong number of them isn't said again
abbrev pub after_frame : Moment → ℕ → ℕ → Tpdo → Tpdo
after_frame moment id length pdo =
    if is_id pdo.parameters.id id then record pdo {
      sent = Some (record { free = moment.free; micros = moment.micros });
      syncs = pdo.syncs - 1;
      cycle = option_map (cycle_sent (is_certain moment pdo.changed) pdo.parameters.kind) pdo.cycle;
      odd = if shows_length moment pdo length then Some length else pdo.odd;
    } else pdo

-- ---- its parameters are written and read

abbrev pub with_parameters : ℕ → Tpdo → Parameters → Tpdo
with_parameters micros pdo parameters =
    record (after_gap pdo) { parameters = parameters; changed = Some micros }

-- a download is requested: a mapping that is written isn't known any more
abbrev pub after_request : Key → ℕ → ℕ → Tpdo → Tpdo
after_request key micros number pdo =
    if key.index == communication number then with_parameters micros pdo (asked_to_write pdo.parameters key.sub)
    else (if key.index == mapping number then with_parameters micros pdo (record pdo.parameters { length = None }) else pdo)

abbrev pub shows_bytes : Protocol → Ending → Bool
shows_bytes Expedited (Done crc) = true
shows_bytes protocol ending = false

-- one in segments or blocks doesn't show what its entry has
abbrev pub parameters_shown : Ended → Parameters → Parameters
parameters_shown ended parameters =
    if shows_bytes ended.protocol ended.ending then shown parameters ended.key.sub ended.first.items else parameters

abbrev pub is_download : Direction → Bool
is_download Download = true
is_download other = false

-- A transfer ended. A device may begin the event timer anew where a parameter is written, whatever the
-- sub-index and the protocol; an upload that shows nothing changes nothing.
abbrev pub after_transfer : Ended → ℕ → ℕ → Tpdo → Tpdo
after_transfer ended micros number pdo =
    if ended.key.index == communication number then
    (if is_download ended.direction || shows_bytes ended.protocol ended.ending
    then with_parameters micros pdo (parameters_shown ended pdo.parameters) else pdo)
    else pdo

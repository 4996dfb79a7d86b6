-- At which SYNC a TPDO of type 1 to 240 is sent first (CiA 301, 7.2.2.2 and 7.5.2.37): without a SYNC
-- start value that is left to the device. Ours counts the SYNCs from when it enters operational, and
-- sends at each n-th.
use Rattle.std.specs.Prelude.{ℕ, ◌+◌, ◌==◌, nat_le, nat_lt, Bool, true, false, not, ◌&&◌, ◌||◌, if◌then◌else◌, List, Option, Some, None, is_some, option_and_then}
use Rattle.std.specs.Option.{option_map_or, option_or}
use Rattle.co_frame.specs.FrameContent.{FrameContent}
use Rattle.co_frame.specs.declared.nmt.NmtService.{NmtService}
use Rattle.co_frame.specs.declared.nmt.NmtService.TheVariants.{Start}
use Rattle.co_profile.specs.Indices.{sync_start_value}
use Rattle.co_sheet.specs.Content.{Row}
use Rattle.co_value.specs.declared.key.Key.{Key}
use Rattle.co_value.specs.Keys.{same_key}
use Rattle.co_sheet_changes.specs.Names.{row_at}
use Rattle.conode_explain_transfers.specs.declared.kinds.Side.TheVariants.{Client}
use Rattle.conode_explain_transfers.specs.declared.kinds.What.{What}
use Rattle.conode_explain_transfers.specs.declared.kinds.What.TheVariants.{Initiate}
use Rattle.conode_compare_pdos.specs.declared.pdos.Pdos.{Pdos}
use Rattle.conode_compare_pdos.specs.declared.tpdo.Tpdo.{Tpdo}
use Rattle.conode_compare_pdos.specs.SheetNumbers.{number_of}
use Rattle.conode_compare_pdos.specs.Tpdos.{is_id}
use Rattle.conode_compare_transfers.specs.declared.dialogue.Exchange.{Exchange}
use Rattle.conode_compare_transfers.specs.Breaches.{key_in}
use Rattle.conode_compare_transfers.specs.Dialogues.{asks_to_write, is_timed}
use Rattle.conode_compare_nmt.specs.declared.finding.NmtState.{NmtState}
use Rattle.conode_compare_nmt.specs.declared.finding.NmtState.TheVariants.{PreOperational, Stopped}
use Rattle.conode_compare_rules.specs.declared.kind.FrameKind.{FrameKind}
use Rattle.conode_compare_rules.specs.declared.kind.FrameKind.TheVariants.{Command, CommandToAll, Control, Polled, Process, Sdo}
use Rattle.conode_compare_nmt.specs.declared.limits.Subject.{Subject}
use Rattle.conode_compare_rules.specs.declared.progress.Progress.{Progress}
use Rattle.conode_compare_rules.specs.NmtFrames.{was_asked}
use Rattle.conode_compare_nmt.specs.States.{is_operational}
use Rattle.conode_compare_choices.specs.declared.choice.Choice.{Choice}
use Rattle.conode_compare_choices.specs.declared.choice.Choice.TheVariants.{Phase as PhaseChoice}
use Rattle.conode_compare_choices.specs.declared.phases.Phase.{Phase}
use Rattle.conode_compare_choices.specs.declared.phases.Phases.{Phases}

abbrev pub no_phase : Phase
no_phase = record { free = false; awaited = false }

abbrev pub no_phases : Phases
no_phases = record { idle = false; syncs = 0; first = no_phase; second = no_phase; third = no_phase; fourth = no_phase }

-- of each TPDO by its number, from 0 on
abbrev pub each : (ℕ → Phase → Phase) → Phases → Phases
each change phases = record {
  idle = phases.idle;
  syncs = phases.syncs;
  first = change 0 phases.first;
  second = change 1 phases.second;
  third = change 2 phases.third;
  fourth = change 3 phases.fourth;
}

-- ---- the SYNC start value

-- After a boot-up entries have what the data sheet says: then the event timer of the first TPDO is
-- known, 0 where it has none. No client of another SDO channel may write them.
abbrev pub has_presets : Subject → Bool
has_presets subject = is_some subject.facts.pdos.first.parameters.timer && nat_lt subject.facts.clients.highest subject.facts.clients.lowest

abbrev pub start_key : ℕ → Key
start_key number = record { index = 0x1800 + number; sub = sync_start_value }

-- none is in force: the entry isn't there, or is 0
abbrev pub is_row_open : Subject → Option Row → Bool
is_row_open subject None = true
is_row_open subject (Some row) = has_presets subject && option_map_or (λ n. n == 0) (number_of subject.node row.default) false

abbrev pub is_open : Subject → List Row → ℕ → Bool
is_open subject rows number = is_row_open subject (row_at rows (start_key number))

-- after a boot-up; `asked`: a client asked to write an entry right before the boot-up frame
abbrev pub booted_phase : Subject → Bool → List Row → ℕ → Phase
booted_phase subject asked rows number = record { free = not asked && is_open subject rows number; awaited = false }

abbrev pub booted_phases : Subject → Bool → List Row → Phases → Phases
booted_phases subject asked rows phases = each (λ number phase. booted_phase subject asked rows number) phases

-- ---- which first frames are awaited

-- the device enters operational
abbrev pub started : Phases → Phases
started phases = record (each (λ number phase. record phase { awaited = phase.free }) phases) { syncs = 0 }

-- none is
abbrev pub left : Phases → Phases
left phases = each (λ number phase. record phase { awaited = false }) phases

-- a frame with this identifier comes, or a remote frame asks for it
abbrev pub after_frame : Tpdo → ℕ → Phase → Phase
after_frame pdo id phase = if is_id pdo.parameters.id id then record phase { awaited = false } else phase

abbrev pub framed : Pdos → ℕ → Phases → Phases
framed pdos id phases = record phases {
  first = after_frame pdos.first id phases.first;
  second = after_frame pdos.second id phases.second;
  third = after_frame pdos.third id phases.third;
  fourth = after_frame pdos.fourth id phases.fourth;
}

-- A download to an entry of a TPDO is requested: that may begin its count anew. One that restores
-- parameters, or loads a program, may change each entry.
abbrev pub after_request : Key → ℕ → Phase → Phase
after_request key number phase =
    if not (is_timed key) then no_phase
    else (if nat_lt key.index 0x1800 || nat_le 0x1C00 key.index then phase
    else record { free = phase.free && not (same_key key (start_key number)); awaited = false })

abbrev pub requested : Key → Phases → Phases
requested key phases = each (after_request key) phases

-- ---- SYNCs

-- one more, up to 255
abbrev pub synced : Phases → Phases
synced phases = record phases { syncs = if nat_lt phases.syncs 255 then phases.syncs + 1 else phases.syncs }

abbrev pub after_data : Pdos → ℕ → Phases → Phases
after_data pdos id phases = if is_id pdos.sync id then synced phases else framed pdos id phases

-- ---- every frame

abbrev pub is_idle : NmtState → Bool
is_idle PreOperational = true
is_idle Stopped = true
is_idle state = false

-- it was pre-operational or stopped, is commanded to start, and doesn't start itself
abbrev pub enters : Subject → Phases → NmtState → Bool
enters subject phases state = phases.idle && (is_operational state && not subject.facts.starts_itself)

-- by the state after it
abbrev pub after_command : Subject → Phases → NmtService → NmtState → Phases
after_command subject phases Start state = if enters subject phases state then started phases else phases
after_command subject phases service state = phases

abbrev pub after_part : FrameContent → What → Phases → Phases
after_part frame Initiate phases = if asks_to_write frame then requested (key_in frame) phases else phases
after_part frame what phases = phases

abbrev pub after_exchange : FrameContent → Option Exchange → Phases → Phases
after_exchange frame None phases = phases
after_exchange frame (Some exchange) phases = after_part frame exchange.heard.what phases

abbrev pub after_kind : Subject → List Row → Phases → FrameKind → Progress → Phases
after_kind subject rows phases (Control byte) progress = if byte == 0 then booted_phases subject (was_asked subject progress) rows phases else phases
after_kind subject rows phases (Command service) progress = after_command subject phases service progress.nmt.state
after_kind subject rows phases (CommandToAll service) progress = after_command subject phases service progress.nmt.state
after_kind subject rows phases (Process id length) progress = after_data progress.pdos id phases
after_kind subject rows phases (Polled id) progress = framed progress.pdos id phases
after_kind subject rows phases (Sdo Client frame) progress = after_exchange frame progress.exchange phases
after_kind subject rows phases kind progress = phases

-- by the state after a frame
abbrev pub in_state : NmtState → Phases → Phases
in_state state phases = record (if is_operational state then phases else left phases) { idle = is_idle state }

-- by what the recording shows with it
unfoldable pub phases_with : Subject → List Row → Phases → FrameKind → Progress → Phases
phases_with subject rows phases kind progress = in_state progress.nmt.state (after_kind subject rows phases kind progress)

-- ---- the choice

abbrev pub early : ℕ → ℕ → ℕ → Option Choice
early syncs number kind =
    if nat_lt 0 syncs && (nat_lt syncs kind && nat_le kind 240) then Some (PhaseChoice (number + 1) syncs kind) else None

-- `choice-phase`: the first frame of a TPDO of type n comes before the n-th SYNC since the device
-- entered operational. A slow device may answer a SYNC after the next one: so a later frame says
-- nothing.
abbrev pub seen : ℕ → ℕ → ℕ → Tpdo → Phase → Option Choice
seen syncs id number pdo phase =
    if phase.awaited && is_id pdo.parameters.id id then option_and_then (early syncs number) pdo.parameters.kind else None

abbrev pub seen_in : Phases → Pdos → ℕ → Option Choice
seen_in phases pdos id =
    option_or (option_or (option_or (seen phases.syncs id 0 pdos.first phases.first) (seen phases.syncs id 1 pdos.second phases.second))
    (seen phases.syncs id 2 pdos.third phases.third)) (seen phases.syncs id 3 pdos.fourth phases.fourth)

-- of a data frame; where it is known which frames are SYNCs
unfoldable pub phase_choice : Phases → FrameKind → Progress → Option Choice
phase_choice phases (Process id length) progress =
    if is_some progress.pdos.sync then seen_in phases progress.pdos id else None
phase_choice phases kind progress = None

-- What RPDOs write to the entries that are held to what was written (CiA 301, 7.2.2 and 7.3.2.2.3):
-- beside what a recording shows of the device.
use Rattle.std.specs.Prelude.{ℕ, ◌==◌, nat_lt, Bool, true, false, not, ◌&&◌, ◌||◌, if◌then◌else◌, List, length, Option, Some, None, is_some}
use Rattle.std.specs.Option.{option_map_or}
use Rattle.co_frame.specs.FrameContent.{FrameContent}
use Rattle.co_frame.specs.declared.nmt.NmtService.{NmtService}
use Rattle.co_sheet.specs.Content.{Row}
use Rattle.co_value.specs.declared.key.Key.{Key}
use Rattle.conode_explain_transfers.specs.declared.ended.Ended.{Ended}
use Rattle.conode_explain_transfers.specs.declared.kinds.Direction.{Direction}
use Rattle.conode_explain_transfers.specs.declared.kinds.Direction.TheVariants.{Download, Upload}
use Rattle.conode_explain_transfers.specs.declared.kinds.Side.{Side}
use Rattle.conode_explain_transfers.specs.declared.kinds.Side.TheVariants.{Client, Server}
use Rattle.conode_explain_transfers.specs.declared.kinds.What.{What}
use Rattle.conode_record.specs.declared.content.Content.{Content}
use Rattle.conode_record.specs.declared.content.Content.TheVariants.{Data, Remote, Fd}
use Rattle.conode_record.specs.declared.fields.Identifier.{Identifier}
use Rattle.conode_record.specs.declared.fields.Identifier.TheVariants.{Base, Extended, Error}
use Rattle.conode_compare_pdos.specs.declared.pdos.Pdos.{Pdos}
use Rattle.conode_compare_pdos.specs.declared.rpdo.Rpdo.{Rpdo}
use Rattle.conode_compare_pdos.specs.declared.rpdos.Rpdos.{Rpdos}
use Rattle.conode_compare_pdos.specs.Rpdos.{all_at_once, any_receives, has_few_rpdos, is_immediate, mapped_length, receiver, rpdos_of, rpdos_requested, rpdos_transferred, unknown_rpdos}
use Rattle.conode_compare_pdos.specs.Tpdos.{is_id}
use Rattle.conode_compare_transfers.specs.declared.dialogue.Exchange.{Exchange}
use Rattle.conode_compare_transfers.specs.Breaches.{key_in}
use Rattle.conode_compare_transfers.specs.Dialogues.{asks_to_write, is_download, is_initiate, is_timed}
use Rattle.conode_compare_transfers.specs.Times.{is_past}
use Rattle.conode_compare_values.specs.declared.rpdo_writes.RpdoWrites.{RpdoWrites}
use Rattle.conode_compare_values.specs.declared.written.Written.{Written}
use Rattle.conode_compare_values.specs.HeldNumbers.{is_restricted, unmapped, unmapped_at}
use Rattle.conode_compare_values.specs.RpdoWrites.{all_fit, forgotten, no_writes, received, settled, without_values}
use Rattle.conode_compare_rules.specs.declared.kind.FrameKind.{FrameKind}
use Rattle.conode_compare_rules.specs.declared.kind.FrameKind.TheVariants.{Command, CommandToAll, LongCommand, Guarding, Control, OddControl, Emergency, OddEmergency, Sdo, Process, Polled, Fault, Other}
use Rattle.conode_compare_nmt.specs.declared.limits.Subject.{Subject}
use Rattle.conode_compare_rules.specs.declared.progress.Progress.{Progress}
use Rattle.conode_compare_receptions.specs.declared.other_ids.OtherIds.{OtherIds}
use Rattle.conode_compare_receptions.specs.declared.receptions.Receptions.{Receptions}
use Rattle.conode_compare_receptions.specs.OtherIds.{has_further_ids, ids_asked, ids_ended, may_use, other_ids_of, unknown_ids}
use Rattle.conode_compare_rules.specs.NmtFrames.{was_asked}
use Rattle.conode_compare_rules.specs.Progresses.{is_begun, takes_rpdos}
use Rattle.conode_compare_nmt.specs.States.{is_reset}

-- ---- boot-ups, commands and heartbeats

unfoldable pub no_receptions : Receptions
no_receptions = record { rpdos = unknown_rpdos; others = unknown_ids; writes = no_writes; followed = false; writing = true; touched = None; operational = None }

-- After a boot-up no RPDO that came before takes effect. RPDOs are followed where there are none but
-- the first four, and neither TPDOs after those nor further SDO channels. A device with 1F80h may become operational by itself; which RPDOs a modular one has,
-- its modules decide.
unfoldable pub booted_receptions : Subject → List Row → Receptions
booted_receptions subject rows = record {
  rpdos = rpdos_of rows subject.node subject.facts.as_sheet;
  others = other_ids_of rows subject.node subject.facts.as_sheet;
  writes = no_writes;
  followed = (not subject.facts.starts_itself && not subject.facts.modular) && (has_few_rpdos rows && not (has_further_ids rows));
  writing = false;
  touched = None;
  operational = None;
}

-- what is known of the entries is what the recording shows, and nothing of what RPDOs brought
abbrev pub with_written : Receptions → Written → Receptions
with_written r written = record r { writes = record r.writes { written = written } }

abbrev pub without_brought : Receptions → Receptions
without_brought r = record r { writes = without_values r.writes; operational = None }

-- a heartbeat that shows the device operational, when the bus was free last
abbrev pub with_beat : Receptions → ℕ → ℕ → Receptions
with_beat r free byte = if byte == 5 then record r { operational = Some free } else without_brought r

-- Not where a client asked to write an entry of the communication profile right before the boot-up frame.
abbrev pub unless_asked : Bool → Receptions → Receptions
unless_asked asked r = record r { followed = r.followed && not asked }

abbrev pub controlled : Subject → List Row → Receptions → Progress → ℕ → Receptions
controlled subject rows r progress byte =
    if byte == 0 then unless_asked (was_asked subject progress) (booted_receptions subject rows) else with_written (with_beat r progress.free byte) progress.written

-- a command, whatever it is: the device may not have taken a frame before it
abbrev pub commanded : Receptions → Progress → NmtService → Receptions
commanded r progress service = if is_reset service then no_receptions else with_written (without_brought r) progress.written

-- ---- the SDO channel

-- a client asks to write, whatever its frame is in the transfers of the channel
abbrev pub asks : Side → FrameContent → Bool
asks Client frame = asks_to_write frame
asks Server frame = false

abbrev pub rpdos_ended : Rpdos → Bool → Option Ended → ℕ → Rpdos
rpdos_ended rpdos certain None micros = rpdos
rpdos_ended rpdos certain (Some ended) micros = if certain then rpdos_transferred rpdos ended micros else rpdos

abbrev pub others_ended : OtherIds → Bool → Option Ended → OtherIds
others_ended ids certain None = ids
others_ended ids certain (Some ended) = if certain then ids_ended ids ended else ids

-- what restores parameters, or loads a program, may change all of them
abbrev pub rpdos_asked : Rpdos → Key → ℕ → Rpdos
rpdos_asked rpdos key micros = if is_timed key then rpdos_requested rpdos key micros else unknown_rpdos

abbrev pub others_asked : OtherIds → Key → OtherIds
others_asked ids key = if is_timed key then ids_asked ids key else unknown_ids

-- the device ends a download, and no earlier request can be answered
abbrev pub closes : Side → Bool → Option Ended → Bool
closes Server certain (Some ended) = certain && is_download ended.direction
closes Server certain None = false
closes Client certain ended = false

-- A frame that may have been an RPDO came after the request of a download, or within the tolerance
-- before it: the device may have taken it later than the download.
abbrev pub may_be_later : ℕ → Option ℕ → ℕ → Bool
may_be_later tolerance touched begun = option_map_or (λ t. not (is_past t tolerance begun)) touched false

abbrev pub written_by : Subject → Written → Option ℕ → Direction → Ended → Written
written_by subject written touched Download ended =
    if may_be_later subject.limits.tolerance touched ended.begun then unmapped_at subject.held.entries.items written ended.key else written
written_by subject written touched Upload ended = written

abbrev pub written_ended : Subject → Written → Option ℕ → Option Ended → Written
written_ended subject written touched None = written
written_ended subject written touched (Some ended) = written_by subject written touched ended.direction ended

-- A download to the communication profile may change how RPDOs are taken, another one writes its
-- entry.
abbrev pub writes_asked : Subject → RpdoWrites → Key → RpdoWrites
writes_asked subject writes key = if nat_lt key.index 0x2000 then without_values writes else forgotten subject.held.entries.items writes key

abbrev pub with_asked : Subject → Receptions → FrameContent → ℕ → Receptions
with_asked subject r frame micros = record r {
  rpdos = rpdos_asked r.rpdos (key_in frame) micros;
  others = others_asked r.others (key_in frame);
  writes = writes_asked subject r.writes (key_in frame);
  writing = true;
}

abbrev pub with_ended : Subject → Receptions → Progress → Side → Exchange → ℕ → Receptions
with_ended subject r progress side exchange micros = record r {
  rpdos = rpdos_ended r.rpdos exchange.certain exchange.heard.ended micros;
  others = others_ended r.others exchange.certain exchange.heard.ended;
  writes = record r.writes { written = written_ended subject progress.written r.touched exchange.heard.ended };
  writing = r.writing && not (closes side exchange.certain exchange.heard.ended);
}

abbrev pub requests : Side → What → Bool
requests Client what = is_initiate what
requests Server what = false

-- what RPDOs brought before a request is known, as far as the device was operational
abbrev pub with_settled : Subject → Receptions → Receptions
with_settled subject r =
    record r { writes = settled subject.held.entries.items r.writes subject.limits.tolerance r.operational }

unfoldable pub exchanged_by : Subject → Receptions → Progress → ℕ → Side → FrameContent → Exchange → Receptions
exchanged_by subject r progress micros side frame exchange =
    let ended = with_ended subject r progress side exchange micros in
    let asked = if asks side frame then with_asked subject ended frame micros else ended in
    if requests side exchange.heard.what then with_settled subject asked else asked

abbrev pub exchanged : Subject → Receptions → Progress → ℕ → Side → FrameContent → Option Exchange → Receptions
exchanged subject r progress micros side frame None = with_written r progress.written
exchanged subject r progress micros side frame (Some exchange) = exchanged_by subject r progress micros side frame exchange

-- ---- data frames

-- a TPDO of the device has an identifier
abbrev pub is_tpdo : Pdos → ℕ → Bool
is_tpdo pdos id =
    is_id pdos.first.parameters.id id
    || (is_id pdos.second.parameters.id id || (is_id pdos.third.parameters.id id || is_id pdos.fourth.parameters.id id))

-- the tolerance is over since one of its parameters was written or read
abbrev pub is_rpdo_settled : ℕ → Option ℕ → ℕ → Bool
is_rpdo_settled tolerance changed free = option_map_or (λ c. is_past c tolerance free) changed true

-- of none of them: a frame may be taken as by the parameters before
abbrev pub all_settled : ℕ → Rpdos → ℕ → Bool
all_settled tolerance rpdos free =
    is_rpdo_settled tolerance rpdos.first.changed free && (is_rpdo_settled tolerance rpdos.second.changed free
    && (is_rpdo_settled tolerance rpdos.third.changed free && is_rpdo_settled tolerance rpdos.fourth.changed free))

-- what an RPDO receives takes effect at once, whether by its parameters or by those before
abbrev pub is_prompt : ℕ → ℕ → Rpdo → Bool
is_prompt tolerance free rpdo = is_rpdo_settled tolerance rpdo.changed free || is_immediate rpdo

abbrev pub all_prompt : ℕ → Rpdos → ℕ → Bool
all_prompt tolerance rpdos free =
    is_prompt tolerance free rpdos.first && (is_prompt tolerance free rpdos.second
    && (is_prompt tolerance free rpdos.third && is_prompt tolerance free rpdos.fourth))

-- what an RPDO writes with a frame, at once, is known: the parameters of all are, no download is open,
-- and nothing else may have its identifier
unfoldable pub is_sure : Subject → Receptions → Progress → ℕ → Rpdo → Bool
is_sure subject r progress id rpdo =
    ((r.followed && not r.writing) && (is_some rpdo.cob_id && is_immediate rpdo))
    && (all_settled subject.limits.tolerance r.rpdos progress.free
    && (takes_rpdos subject progress && not (may_use id r.others)))

-- A frame that may be an RPDO: what the entries have that a PDO may have is unknown. Where what it
-- writes may wait for a SYNC, that is unknown until the next boot-up.
abbrev pub doubted : Subject → Receptions → Progress → ℕ → ℕ → Receptions
doubted subject r progress micros id = record r {
  writes = record (without_values r.writes) { written = unmapped subject.held.entries.items progress.written };
  followed = (r.followed && all_at_once id r.rpdos) && all_prompt subject.limits.tolerance r.rpdos progress.free;
  touched = Some micros;
}

-- one with fewer bytes than are mapped isn't processed; of one with more the first bytes count
abbrev pub brought : Subject → Receptions → ℕ → ℕ → Rpdo → List ℕ → Receptions
brought subject r micros id rpdo bytes =
    record r { writes = received subject.held.entries.items r.writes r.rpdos id rpdo bytes micros; touched = Some micros }

abbrev pub taken : Subject → List Row → Receptions → Progress → ℕ → ℕ → Rpdo → List ℕ → ℕ → Receptions
taken subject rows r progress micros id rpdo bytes mapped =
    if nat_lt (length bytes) mapped then r
    else (if all_fit rows rpdo bytes then brought subject r micros id rpdo bytes else doubted subject r progress micros id)

abbrev pub taken_by : Subject → List Row → Receptions → Progress → ℕ → ℕ → List ℕ → Rpdo → Option ℕ → Receptions
taken_by subject rows r progress micros id bytes rpdo None = doubted subject r progress micros id
taken_by subject rows r progress micros id bytes rpdo (Some mapped) =
    if is_sure subject r progress id rpdo then taken subject rows r progress micros id rpdo bytes mapped else doubted subject r progress micros id

abbrev pub received_by : Subject → List Row → Receptions → Progress → ℕ → ℕ → List ℕ → Option Rpdo → Receptions
received_by subject rows r progress micros id bytes None = doubted subject r progress micros id
received_by subject rows r progress micros id bytes (Some rpdo) = taken_by subject rows r progress micros id bytes rpdo (mapped_length rpdo)

-- none of its RPDOs has this identifier, nor had it within the tolerance
abbrev pub is_apart : Subject → Receptions → Progress → ℕ → Bool
is_apart subject r progress id =
    is_restricted id || (not (any_receives id r.rpdos) && all_settled subject.limits.tolerance r.rpdos progress.free)

-- where RPDOs aren't followed, each frame may be one, or a SYNC, but those of the device's TPDOs
abbrev pub with_any : Subject → Receptions → Progress → ℕ → ℕ → Receptions
with_any subject r progress micros id =
    if is_restricted id || is_tpdo progress.pdos id then with_written r progress.written else doubted subject r progress micros id

unfoldable pub process_received : Subject → List Row → Receptions → Progress → ℕ → FrameContent → Receptions
process_received subject rows r progress micros frame =
    if not r.followed then with_any subject r progress micros frame.id
    else (if is_apart subject r progress frame.id then r else received_by subject rows r progress micros frame.id frame.bytes (receiver frame.id r.rpdos))

-- with an identifier of 29 bits, or of CAN FD: what an RPDO writes with it may wait for a SYNC
abbrev pub other_received : Receptions → Progress → ℕ → Receptions
other_received r progress micros = record r {
  writes = record (without_values r.writes) { written = progress.written };
  followed = false;
  touched = Some micros;
}

abbrev pub base_received : Subject → List Row → Receptions → Progress → ℕ → ℕ → Content → Receptions
base_received subject rows r progress micros id (Data bytes) = process_received subject rows r progress micros (record { id = id; bytes = bytes })
base_received subject rows r progress micros id (Remote length) = other_received r progress micros
base_received subject rows r progress micros id (Fd flags bytes) = other_received r progress micros

abbrev pub frame_received : Subject → List Row → Receptions → Progress → ℕ → Identifier → Content → Receptions
frame_received subject rows r progress micros (Base id) content = base_received subject rows r progress micros id content
frame_received subject rows r progress micros (Extended id) content = other_received r progress micros
frame_received subject rows r progress micros (Error class) content = other_received r progress micros

-- ---- every frame

-- CiA 301 doesn't restrict the identifier of EMCY: an RPDO may have it
abbrev pub receptions_at : Subject → List Row → Receptions → Progress → ℕ → FrameKind → Identifier → Content → Receptions
receptions_at subject rows r progress micros (Control byte) id content = controlled subject rows r progress byte
receptions_at subject rows r progress micros (OddControl length) id content = with_written (without_brought r) progress.written
receptions_at subject rows r progress micros (Command service) id content = commanded r progress service
receptions_at subject rows r progress micros (CommandToAll service) id content = commanded r progress service
receptions_at subject rows r progress micros (LongCommand service) id content = commanded r progress service
receptions_at subject rows r progress micros (Sdo side frame) id content = exchanged subject r progress micros side frame progress.exchange
receptions_at subject rows r progress micros (Emergency code register) id content = frame_received subject rows r progress micros id content
receptions_at subject rows r progress micros (OddEmergency length) id content = frame_received subject rows r progress micros id content
receptions_at subject rows r progress micros (Process own length) id content = frame_received subject rows r progress micros id content
receptions_at subject rows r progress micros Other id content = frame_received subject rows r progress micros id content
receptions_at subject rows r progress micros (Polled polled) id content = r
receptions_at subject rows r progress micros Guarding id content = r
receptions_at subject rows r progress micros Fault id content = r

-- where the recording begins anew, nothing is known
abbrev pub receptions_before : Receptions → Progress → Receptions
receptions_before r progress = if is_begun progress then no_receptions else r

-- no entry is held
abbrev pub holds_none : Subject → Bool
holds_none subject = length subject.held.entries.items == 0

-- after a frame, by what the recording shows with it
unfoldable pub receptions_with : Subject → List Row → Receptions → Progress → ℕ → FrameKind → Identifier → Content → Receptions
receptions_with subject rows r progress micros kind id content =
    if holds_none subject then r else receptions_at subject rows (receptions_before r progress) progress micros kind id content

-- and what is known then of the entries
unfoldable pub with_receptions : Subject → Progress → Receptions → Progress
with_receptions subject progress r = if holds_none subject then progress else record progress { written = r.writes.written }

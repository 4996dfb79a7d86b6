-- What a user may want to know of a device, though it is no difference: that it restarted by itself,
-- that it may have stored values, that a value changed after it was written; and what `Versions` and
-- `Histories` have.
use Rattle.std.specs.Prelude.{ℕ, ◌-◌, ◌==◌, nat_le, nat_lt, Bool, true, false, not, ◌&&◌, ◌||◌, if◌then◌else◌, List, [], Option, Some, None, is_some, option_and_then}
use Rattle.std.specs.Option.{option_or}
use Rattle.co_frame.specs.FrameContent.{FrameContent}
use Rattle.co_sheet.specs.Content.{Row}
use Rattle.co_value.specs.declared.key.Key.{Key}
use Rattle.co_sheet_changes.specs.Names.{row_at}
use Rattle.conode_explain_transfers.specs.declared.ended.Ended.{Ended}
use Rattle.conode_explain_transfers.specs.declared.kinds.Direction.{Direction}
use Rattle.conode_explain_transfers.specs.declared.kinds.Direction.TheVariants.{Download, Upload}
use Rattle.conode_explain_transfers.specs.declared.kinds.Side.{Side}
use Rattle.conode_explain_transfers.specs.declared.kinds.Side.TheVariants.{Client, Server}
use Rattle.conode_explain_transfers.specs.declared.kinds.What.{What}
use Rattle.conode_explain_transfers.specs.declared.kinds.What.TheVariants.{Initiate}
use Rattle.conode_compare_pdos.specs.SheetNumbers.{number_of as sheet_number}
use Rattle.conode_compare_transfers.specs.declared.dialogue.Exchange.{Exchange}
use Rattle.conode_compare_transfers.specs.Breaches.{key_in}
use Rattle.conode_compare_transfers.specs.Dialogues.{asks_to_write, is_timed}
use Rattle.conode_compare_values.specs.SheetValues.{is_read_only}
use Rattle.conode_compare_values.specs.HeldNumbers.{is_done}
use Rattle.conode_compare_values.specs.HeldWords.{entry_of}
use Rattle.conode_compare_nmt.specs.declared.finding.Remark.{Remark}
use Rattle.conode_compare_nmt.specs.declared.finding.Remark.TheVariants.{Restarted as RestartedRemark, EarlyHeartbeat}
use Rattle.conode_compare_rules.specs.declared.kind.FrameKind.{FrameKind}
use Rattle.conode_compare_rules.specs.declared.kind.FrameKind.TheVariants.{Command, CommandToAll, LongCommand, Control, Emergency, Sdo}
use Rattle.conode_compare_nmt.specs.declared.limits.Subject.{Subject}
use Rattle.conode_compare_rules.specs.declared.progress.Progress.{Progress}
use Rattle.conode_compare_rules.specs.NmtFrames.{was_asked}
use Rattle.conode_compare_rules.specs.Progresses.{is_begun}
use Rattle.conode_compare_nmt.specs.States.{is_reset}
use Rattle.conode_compare_notes.specs.declared.contents.Content.{Content}
use Rattle.conode_compare_notes.specs.declared.contents.Content.TheVariants.{Number, Bytes}
use Rattle.conode_compare_notes.specs.declared.warning.Warning.{Warning}
use Rattle.conode_compare_notes.specs.declared.warning.Warning.TheVariants.{Restarted, Stored, SteppedBack}
use Rattle.conode_compare_notes.specs.declared.watched.Watched.{Watched}
use Rattle.conode_compare_notes.specs.declared.writes.Wrote.{Wrote}
use Rattle.conode_compare_notes.specs.Contents.{content_warning, shown_content, written_content}
use Rattle.conode_compare_notes.specs.Histories.{error_warning, errors_with, nothing_signalled}
use Rattle.conode_compare_notes.specs.Versions.{code_warning, version_warning}
use Rattle.conode_compare_notes.specs.WrittenContents.{content_of, with_content}

-- ---- entries

-- A setting of the communication profile, which a client alone writes (CiA 301, 7.5): COB-IDs and
-- times of SYNC, TIME, EMCY and heartbeats, the error behaviour, the parameters of SDOs and PDOs. Not
-- what a write of 1010h or 1011h does, nor the running time 1013h.
abbrev pub is_setting : ℕ → Bool
is_setting index =
    (nat_le 0x1005 index && (nat_le index 0x1019 && not ((index == 0x1010) || ((index == 0x1011) || (index == 0x1013)))))
    || ((index == 0x1029) || (nat_le 0x1200 index && nat_lt index 0x1C00))

-- An entry that a client can write, and that keeps its value as far as the data sheet shows: no PDO
-- may have it.
abbrev pub is_kept : Row → Bool
is_kept row =
    not row.mappable && (not (is_read_only row.access) && (is_setting row.key.index || nat_le 0x2000 row.key.index))

-- ---- an upload

-- `changed-after-write`: not of an entry that is held, of which it is a difference
abbrev pub changed_warning : Subject → Key → Content → Option Content → Option Warning
changed_warning subject key shown written =
    if is_some (entry_of subject.held.entries.items key) then None else option_and_then (content_warning key shown) written

-- `stored`: another number than the data sheet's, of a setting that wasn't asked to be written
abbrev pub stored_with : Key → ℕ → ℕ → Option Warning
stored_with key shown sheet = if shown == sheet then None else Some (Stored key shown sheet)

abbrev pub stored_warning : ℕ → Row → ℕ → Option Warning
stored_warning node row shown =
    if is_setting row.key.index then option_and_then (stored_with row.key shown) (sheet_number node row.default) else None

abbrev pub stored_content : ℕ → Row → Content → Option Warning
stored_content node row (Number shown) = stored_warning node row shown
stored_content node row (Bytes count checksum) = None

abbrev pub warning_by : Subject → Bool → Row → Content → Option (Option Content) → Option Warning
warning_by subject fresh row shown None = if fresh then stored_content subject.node row shown else None
warning_by subject fresh row shown (Some written) = changed_warning subject row.key shown written

-- by what an upload shows of an entry
abbrev pub shown_warning : Subject → Watched → Row → Content → Option Warning
shown_warning subject watched row shown =
    if is_kept row then warning_by subject watched.fresh row shown (content_of watched.writes row.key) else None

abbrev pub row_warning : Subject → Watched → Ended → Row → Option Warning
row_warning subject watched ended row = option_and_then (shown_warning subject watched row) (shown_content row ended)

abbrev pub upload_warning : Subject → List Row → Watched → Ended → Option Warning
upload_warning subject rows watched ended = option_and_then (row_warning subject watched ended) (row_at rows ended.key)

-- ---- the end of a transfer

-- a transfer that is done, where no earlier request can be answered
abbrev pub is_plain : Bool → Ended → Bool
is_plain certain ended = certain && is_done ended.ending

abbrev pub warning_of : Subject → List Row → Watched → Bool → Direction → Ended → Option Warning
warning_of subject rows watched certain Upload ended = if is_plain certain ended then upload_warning subject rows watched ended else None
warning_of subject rows watched certain Download ended = None

abbrev pub ended_warning : Subject → List Row → Watched → Bool → Ended → Option Warning
ended_warning subject rows watched certain ended = warning_of subject rows watched certain ended.direction ended

-- what a download wrote, where that is known
abbrev pub downloaded : Row → Bool → Ended → Option Content
downloaded row certain ended = if is_plain certain ended then written_content row ended else None

abbrev pub wrote_by : List Wrote → Bool → Ended → Option Row → List Wrote
wrote_by writes certain ended None = writes
wrote_by writes certain ended (Some row) = with_content writes ended.key (downloaded row certain ended)

-- what was written is compared with the next upload alone
abbrev pub read_by : List Wrote → Bool → Ended → Option (Option Content) → List Wrote
read_by writes certain ended (Some (Some content)) = if is_plain certain ended then with_content writes ended.key None else writes
read_by writes certain ended content = writes

abbrev pub writes_of : List Row → List Wrote → Bool → Direction → Ended → List Wrote
writes_of rows writes certain Download ended = wrote_by writes certain ended (row_at rows ended.key)
writes_of rows writes certain Upload ended = read_by writes certain ended (content_of writes ended.key)

abbrev pub is_stored : Option Warning → Bool
is_stored (Some (Stored key shown sheet)) = true
is_stored warning = false

-- the first value that it may have stored is warned of
abbrev pub after_end : Subject → List Row → Watched → Bool → Ended → Watched
after_end subject rows watched certain ended = record watched {
  fresh = watched.fresh && not (is_stored (ended_warning subject rows watched certain ended));
  writes = writes_of rows watched.writes certain ended.direction ended;
}

abbrev pub with_end : Subject → List Row → Watched → Bool → Option Ended → Watched
with_end subject rows watched certain None = watched
with_end subject rows watched certain (Some ended) = after_end subject rows watched certain ended

-- ---- a request

-- nothing is known of what was written
abbrev pub nothing_watched : Watched
nothing_watched = record { fresh = false; writes = []; errors = nothing_signalled }

-- A download is requested: what its entry has is unknown until it ends. A write that restores
-- parameters, or loads a program, may change any entry.
abbrev pub after_request : List Row → Watched → Key → Watched
after_request rows watched key =
    if is_timed key then (if is_some (row_at rows key) then record watched { writes = with_content watched.writes key None } else watched)
    else nothing_watched

abbrev pub is_initiate : What → Bool
is_initiate Initiate = true
is_initiate what = false

abbrev pub with_request : List Row → Watched → Side → What → FrameContent → Watched
with_request rows watched Client what frame = if is_initiate what && asks_to_write frame then after_request rows watched (key_in frame) else watched
with_request rows watched Server what frame = watched

-- ---- every frame

-- before a frame, by what the recording shows with it
abbrev pub watched_before : Watched → Progress → Watched
watched_before watched progress = if is_begun progress then nothing_watched else watched

-- After a boot-up all entries have the data sheet's values, or stored ones; or what a client asked to write right
-- before the boot-up frame.
abbrev pub booted : Subject → Progress → Watched
booted subject progress = record nothing_watched { fresh = subject.facts.stores && not (was_asked subject progress) }

-- by another frame than one of the SDO channel; a reset ends what is known
abbrev pub after_other : Subject → Watched → FrameKind → Progress → Watched
after_other subject watched (Control byte) progress = if byte == 0 then booted subject progress else watched
after_other subject watched (Command service) progress = if is_reset service then nothing_watched else watched
after_other subject watched (CommandToAll service) progress = if is_reset service then nothing_watched else watched
after_other subject watched (LongCommand service) progress = if is_reset service then nothing_watched else watched
after_other subject watched kind progress = watched

-- by a frame of the SDO channel: it may end a transfer, or request one
unfoldable pub exchanged : Subject → List Row → Watched → Side → FrameContent → Exchange → Watched
exchanged subject rows watched side frame exchange =
    with_request rows (with_end subject rows watched exchange.certain exchange.heard.ended) side exchange.heard.what frame

abbrev pub heard : Subject → List Row → Watched → Side → FrameContent → Option Exchange → Watched
heard subject rows watched side frame None = watched
heard subject rows watched side frame (Some exchange) = exchanged subject rows watched side frame exchange

-- by what the frame is to the device, and on its SDO channel
abbrev pub watched_at : Subject → List Row → Watched → FrameKind → Progress → Watched
watched_at subject rows watched (Sdo side frame) progress = heard subject rows watched side frame progress.exchange
watched_at subject rows watched kind progress = after_other subject watched kind progress

-- after a frame, by what the recording shows with it
unfoldable pub watched_with : Subject → List Row → Watched → FrameKind → Progress → Watched
watched_with subject rows watched kind progress =
    let before = watched_before watched progress in
    record (watched_at subject rows before kind progress) { errors = errors_with subject.limits before.errors kind progress }

-- ---- the warning of a frame

-- `restarted`: a boot-up that is remarked
abbrev pub remark_warning : Option Remark → Option Warning
remark_warning None = None
remark_warning (Some RestartedRemark) = Some Restarted
remark_warning (Some (EarlyHeartbeat passed period)) = None

-- of an EMCY, or by the remark
abbrev pub other_warning : Bool → FrameKind → Option Remark → Option Warning
other_warning emergencies (Emergency code register) remark = code_warning emergencies code register
other_warning emergencies kind remark = remark_warning remark

-- by the end of a transfer
abbrev pub end_warning : Subject → List Row → Watched → Bool → Ended → Option Warning
end_warning subject rows watched certain ended =
    option_or (ended_warning subject rows watched certain ended) (version_warning subject.node subject.facts.modular rows certain ended)

abbrev pub exchange_warning : Subject → List Row → Watched → Exchange → Option Warning
exchange_warning subject rows watched exchange =
    option_and_then (end_warning subject rows watched exchange.certain) exchange.heard.ended

abbrev pub heard_warning : Subject → List Row → Watched → Option Exchange → Option Warning
heard_warning subject rows watched exchange = option_and_then (exchange_warning subject rows watched) exchange

abbrev pub frame_warning : Subject → List Row → Watched → FrameKind → Progress → Option Warning
frame_warning subject rows watched (Sdo side frame) progress = heard_warning subject rows watched progress.exchange
frame_warning subject rows watched kind progress = other_warning progress.entries.emergencies kind progress.remark

abbrev pub warning_in : Subject → List Row → Watched → FrameKind → Progress → Option Warning
warning_in subject rows watched kind progress =
    option_or (frame_warning subject rows watched kind progress) (error_warning subject.limits watched.errors kind progress.newest)

-- by what the recording shows with it
unfoldable pub warning_at : Subject → List Row → Watched → FrameKind → Progress → Option Warning
warning_at subject rows watched kind progress = warning_in subject rows (watched_before watched progress) kind progress

-- ---- the clock of the recording

-- `stepped-back`: the stamp of a frame is before that of the last one
abbrev pub stepped_back : Option ℕ → Option ℕ → Option Warning
stepped_back (Some last) (Some micros) = if nat_lt micros last then Some (SteppedBack (last - micros)) else None
stepped_back last micros = None

-- The frames of a device's SDO channel (CiA 301, 7.2.4), and what they show of it.
use Rattle.std.specs.Prelude.{ℕ, ◌==◌, nat_le, nat_lt, Bool, true, false, not, ◌&&◌, ◌||◌, if◌then◌else◌, List, length, Option, Some, None, is_some}
use Rattle.std.specs.Option.{option_map_or, option_or}
use Rattle.co_frame.specs.FrameContent.{FrameContent}
use Rattle.co_value.specs.declared.key.Key.{Key}
use Rattle.co_sheet.specs.Content.{Row}
use Rattle.conode_explain_transfers.specs.declared.ended.Ended.{Ended}
use Rattle.conode_explain_transfers.specs.declared.kinds.Side.{Side}
use Rattle.conode_explain_transfers.specs.declared.kinds.Side.TheVariants.{Client, Server}
use Rattle.conode_explain_transfers.specs.declared.kinds.What.{What}
use Rattle.conode_explain_transfers.specs.declared.kinds.What.TheVariants.{Part, Overtaken, Unexpected}
use Rattle.conode_compare_pdos.specs.declared.pdos.Pdos.{Pdos}
use Rattle.conode_compare_pdos.specs.Followed as tpdos
use Rattle.conode_compare_rules.specs.declared.progress.Progress.{Progress}
use Rattle.conode_compare_transfers.specs.declared.dialogue.Asked.{Asked}
use Rattle.conode_compare_transfers.specs.declared.dialogue.Exchange.{Exchange}
use Rattle.conode_compare_transfers.specs.declared.newest.Newest.{Newest}
use Rattle.conode_compare_nmt.specs.declared.entries.Entries.{Entries}
use Rattle.conode_compare_nmt.specs.declared.finding.Finding.{Finding}
use Rattle.conode_compare_transfers.specs.declared.dialogue.Dialogue.{Dialogue}
use Rattle.conode_compare_nmt.specs.declared.heartbeats.Heartbeats.{Heartbeats}
use Rattle.conode_compare_nmt.specs.declared.limits.Limits.{Limits}
use Rattle.conode_compare_nmt.specs.declared.limits.Subject.{Subject}
use Rattle.conode_compare_nmt.specs.declared.nmt.Nmt.{Nmt}
use Rattle.conode_compare_rules.specs.declared.verdict.Findings.{Findings}
use Rattle.conode_compare_rules.specs.Answers.{answer_finding, confirmed_finding, held_finding, is_abort, stopped_finding}
use Rattle.conode_compare_transfers.specs.Dialogues.{asks_to_write, comes_in_turn, dialogue_heard, is_awaited, is_download, exchange_in}
use Rattle.conode_compare_transfers.specs.Breaches.{byte_at, key_in}
use Rattle.conode_compare_values.specs.HeldNumbers.{written_heard}
use Rattle.conode_compare_nmt.specs.EntriesInForce.{asked_by, asked_to_write, ended_entries, shares_id, with_sharing}
use Rattle.conode_compare_nmt.specs.OtherClients.{is_channel}
use Rattle.conode_compare_nmt.specs.Leavings.{may_be_stopped_at}
use Rattle.conode_compare_nmt.specs.Heartbeats.{after_transfer, newest_asked, period_asked_by, with_asked, with_former}
use Rattle.conode_compare_nmt.specs.States as states
use Rattle.conode_compare_nmt.specs.States.{boot_finding, has_followed, is_settled, is_steady, nothing_commanded, with_followed, with_left, is_stopped}
use Rattle.conode_compare_transfers.specs.Times.{is_past}
use Rattle.conode_compare_rules.specs.Verdicts.{found, nothing_found}
use Rattle.conode_compare_rules.specs.Gaps.{period_then}
use Rattle.conode_compare_rules.specs.NmtFrames.{is_overdue, late_by, heartbeats_by}

-- A transfer that ended shows what an entry has. Once the client of another SDO channel has sent it
-- shows nothing: that may write the entry meanwhile.
abbrev pub shown_beside : Bool → Option Ended → Option Ended
shown_beside true ended = None
shown_beside false ended = ended

-- an earlier request may still be answered
abbrev pub is_doubtful : ℕ → Dialogue → ℕ → Bool
is_doubtful answer dialogue micros =
    is_awaited dialogue.slow micros || not (option_map_or (λ d. is_past d answer micros) dialogue.doubted true)

-- Then the answer that ends a download may be that to an earlier one of the same entry: what it has stays
-- unknown.
abbrev pub leaves_unknown : Bool → Option Ended → Bool
leaves_unknown doubtful None = false
leaves_unknown doubtful (Some ended) = doubtful && is_download ended.direction

abbrev pub leaves_unknown_at : Subject → Progress → ℕ → Option Ended → Bool
leaves_unknown_at subject progress micros ended =
    leaves_unknown (is_doubtful subject.limits.answer progress.dialogue micros) ended

-- a transfer that ended shows nothing
abbrev pub hides_end : Subject → Progress → ℕ → Option Ended → Bool
hides_end subject progress micros ended = progress.other_client || leaves_unknown_at subject progress micros ended

-- what a transfer that ended shows, and what a request asks to write
abbrev pub entries_ended : Entries → Option Ended → Entries
entries_ended entries None = entries
entries_ended entries (Some ended) = ended_entries entries ended

abbrev pub entries_asked : Entries → Option Asked → Entries
entries_asked entries None = entries
entries_asked entries (Some asked) = if asked.writes then asked_to_write entries asked.key else entries

abbrev pub entries_heard : Entries → Option Ended → Option Asked → Entries
entries_heard entries ended asked = entries_asked (entries_ended entries ended) asked

abbrev pub pdos_ended : Pdos → Option Ended → ℕ → Pdos
pdos_ended pdos None micros = pdos
pdos_ended pdos (Some ended) micros = tpdos.transferred pdos ended micros

-- a request to write an entry; the client of another SDO channel may write the parameters of each
abbrev pub pdos_requested : Pdos → Key → ℕ → Pdos
pdos_requested pdos key micros = if is_channel key then tpdos.unknown_pdos else tpdos.requested pdos key micros

abbrev pub pdos_asked : Pdos → Option Asked → ℕ → Pdos
pdos_asked pdos None micros = pdos
pdos_asked pdos (Some asked) micros = if asked.writes then pdos_requested pdos asked.key micros else pdos

abbrev pub pdos_heard : Pdos → Option Ended → Option Asked → ℕ → Pdos
pdos_heard pdos ended asked micros = pdos_asked (pdos_ended pdos ended micros) asked micros

-- by such a download of a parameter of a TPDO (1800h to 1803h) the device may begin its times anew
abbrev pub is_parameter : Key → Bool
is_parameter key = nat_le 0x1800 key.index && nat_le key.index 0x1803

abbrev pub is_of_parameter : Option Ended → Bool
is_of_parameter None = false
is_of_parameter (Some ended) = is_parameter ended.key

abbrev pub pdos_beside : Bool → Option Ended → Pdos → Pdos
pdos_beside unknown ended pdos = if unknown && is_of_parameter ended then tpdos.interrupted pdos else pdos

-- what a client's frame of eight bytes asks to write, whatever it is in the transfers of the channel, as
-- in `asked_by`
abbrev pub pdos_by : Side → FrameContent → Pdos → ℕ → Pdos
pdos_by Client frame pdos micros =
    if (length frame.bytes == 8) && asks_to_write frame then pdos_requested pdos (key_in frame) micros else pdos
pdos_by Server frame pdos micros = pdos

-- a client's frame that asks to write an entry of the communication profile, 1000h to 1FFFh (CiA 301, 7.4.2.1)
abbrev pub asks_for_profile : Side → FrameContent → Bool
asks_for_profile Client frame = asks_to_write frame && (nat_le 0x1000 (key_in frame).index && nat_lt (key_in frame).index 0x2000)
asks_for_profile Server frame = false

abbrev pub asked_then : Bool → Option ℕ → ℕ → Option ℕ
asked_then asks before micros = if asks then Some micros else before

unfoldable pub exchange_at : Subject → Progress → ℕ → Side → FrameContent → Exchange
exchange_at subject progress micros side frame = exchange_in subject.limits.answer progress.started progress.dialogue micros side frame

-- a stopped device answers no request that came later than the tolerance after the command, or the change
abbrev pub follows_asked : Limits → ℕ → Nmt → Option Asked → Bool
follows_asked limits started nmt None = false
follows_asked limits started nmt (Some asked) =
    is_settled limits started nmt.commanded asked.micros && is_steady limits nmt asked.micros

abbrev pub shows_by_answer : Limits → ℕ → Nmt → Exchange → Bool
shows_by_answer limits started nmt exchange = exchange.certain && follows_asked limits started nmt exchange.asked

abbrev pub follows_by_answer : Limits → ℕ → Nmt → Exchange → Bool
follows_by_answer limits started nmt exchange = has_followed is_stopped nmt && shows_by_answer limits started nmt exchange

-- by an answer: that it isn't stopped, and that it has followed a command, where a heartbeat showed stopped
abbrev pub nmt_heard : Limits → ℕ → Nmt → ℕ → Side → Exchange → Nmt
nmt_heard limits started nmt micros Client exchange = nmt
nmt_heard limits started nmt micros Server exchange =
    with_left (with_followed nmt (follows_by_answer limits started nmt exchange) micros) (shows_by_answer limits started nmt exchange) micros

-- the client's confirmation of a block upload, ccs = 5 and cs = 1
abbrev pub is_confirmation : FrameContent → Bool
is_confirmation frame = byte_at frame 0 == 0xA1

-- A stopped device takes no frame of a client (7.3.2.2), and no transfer ends by that. So where it may be stopped
-- a client's abort, cs = 4, and its confirmation of a block upload may end none: the device may go on with the transfer.
abbrev pub may_miss_end : Nmt → ℕ → FrameContent → Bool
may_miss_end nmt micros frame =
    (is_abort frame || is_confirmation frame) && may_be_stopped_at nmt.state nmt.leaving micros

-- Then a request is in doubt as one that may be a segment: it may be taken for one, or be answered by an abort of
-- that transfer.
abbrev pub left_open : Side → Bool → Dialogue → Dialogue
left_open Client misses next = record next { sub_block = misses || next.sub_block }
left_open Server misses next = next

unfoldable pub channel_heard : Subject → Progress → ℕ → Side → FrameContent → Progress
channel_heard subject progress micros side frame =
    let next = dialogue_heard subject.limits.answer progress.started progress.dialogue micros side frame in
    let ended = (exchange_at subject progress micros side frame).heard.ended in
    let shown = shown_beside (hides_end subject progress micros ended) ended in
    let beside = pdos_beside (leaves_unknown_at subject progress micros ended) ended progress.pdos in
    let entries = with_sharing (shares_id subject.node side frame) (asked_by side frame (entries_heard progress.entries shown next.asked)) in
    record progress {
      nmt = nmt_heard subject.limits progress.started progress.nmt micros side (exchange_at subject progress micros side frame);
      heartbeats = with_asked (newest_asked side frame progress.heartbeats.asked)
          (with_former (after_transfer progress.heartbeats ended micros) (period_asked_by side frame (period_then progress)) progress.entries.period entries.period micros);
      entries = entries;
      pdos = pdos_by side frame (pdos_heard beside shown next.asked micros) micros;
      dialogue = left_open side (may_miss_end progress.nmt micros frame) next;
      asked_at = asked_then (asks_for_profile side frame) progress.asked_at micros;
    }

-- A wrong answer to a request: of another entry, or none that its protocol has. It was owed, and no earlier request can
-- be answered, so that is said.
abbrev pub is_other_answer : What → Bool
is_other_answer Overtaken = true
is_other_answer Unexpected = true
is_other_answer what = false

abbrev pub is_wrong : Side → Exchange → Bool
is_wrong Client exchange = false
is_wrong Server exchange = exchange.certain && (exchange.owed && is_other_answer exchange.heard.what)

-- what the frame is, what was written to the entries that are held, and whether it is a wrong answer
unfoldable pub exchange_noted : Subject → Side → Progress → Exchange → Progress
exchange_noted subject side progress exchange = record progress {
  written = written_heard subject.held.entries.items progress.written exchange.certain exchange.heard.ended progress.dialogue.asked;
  exchange = Some exchange;
  wrong = is_wrong side exchange;
}

abbrev pub after_sdo : Subject → Progress → ℕ → Side → FrameContent → Progress
after_sdo subject progress micros side frame =
    exchange_noted subject side (channel_heard subject progress micros side frame) (exchange_at subject progress micros side frame)

-- an answer comes, by which a heartbeat may be missing
unfoldable pub late_noted : Subject → Progress → Heartbeats → ℕ → Progress
late_noted subject progress heartbeats micros = record progress {
  nmt = states.after_other subject.limits progress.nmt micros;
  heartbeats = heartbeats;
}

abbrev pub answer_noted : Subject → Progress → ℕ → Progress
answer_noted subject progress micros = late_noted subject progress (heartbeats_by subject progress true micros) micros

-- the state by which an answer is judged: none while a heartbeat is late
abbrev pub answer_nmt : Subject → Progress → ℕ → Nmt
answer_nmt subject progress micros =
    if is_overdue subject progress then nothing_commanded else (answer_noted subject progress micros).nmt

-- A frame of the device is judged where it follows an initiate request, and answers that; and where it goes on with the
-- open transfer, or is its end, as each of its frames in its turn. `newest`: whose frame the one before it was.
abbrev pub is_part : What → Bool
is_part Part = true
is_part other = false

abbrev pub is_judged : Option Newest → Exchange → FrameContent → Bool
is_judged newest exchange frame =
    exchange.certain && (comes_in_turn newest exchange.heard frame || (is_some exchange.asked && is_part exchange.heard.what))

unfoldable pub answer_findings : Subject → List Row → Progress → ℕ → FrameContent → Findings
answer_findings subject rows progress micros frame =
    let noted = answer_noted subject progress micros in
    let exchange = exchange_at subject noted micros Server frame in
    found (boot_finding subject.limits progress.nmt micros) (late_by subject progress true micros) None
    (option_or (stopped_finding subject.limits noted.started (answer_nmt subject progress micros) exchange)
    (option_or (answer_finding subject rows micros (answer_nmt subject progress micros) exchange frame) (held_finding subject noted.written exchange)))
    (is_judged noted.dialogue.newest exchange frame)

abbrev pub after_answer : Subject → Progress → ℕ → FrameContent → Progress
after_answer subject progress micros frame = after_sdo subject (answer_noted subject progress micros) micros Server frame

-- a request, or another frame of the client: with one that ends a block upload the device's end of
-- it counts, and what it uploaded
abbrev pub confirmed_findings : Option Finding → Findings
confirmed_findings None = nothing_found
confirmed_findings (Some finding) = found None None None (Some finding) false

unfoldable pub request_findings : Subject → List Row → Progress → ℕ → FrameContent → Findings
request_findings subject rows progress micros frame =
    confirmed_findings (confirmed_finding subject rows progress.written (exchange_at subject progress micros Client frame) frame)

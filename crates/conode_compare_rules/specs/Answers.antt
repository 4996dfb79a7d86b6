-- Answers of a device on its default SDO channel (CiA 301, 7.2.4.3).
use Rattle.std.specs.Prelude.{ℕ, ◌-◌, ◌/◌, ◌%◌, ◌==◌, Bool, true, false, not, ◌&&◌, if◌then◌else◌, List, Option, Some, None, option_map, option_and_then}
use Rattle.std.specs.Option.{option_map_or, option_or}
use Rattle.co_frame.specs.FrameContent.{FrameContent}
use Rattle.co_sheet.specs.Content.{Row}
use Rattle.co_value.specs.Keys.{same_key}
use Rattle.conode_explain_transfers.specs.declared.ended.Ended.{Ended}
use Rattle.conode_explain_transfers.specs.declared.kinds.Protocol.{Protocol}
use Rattle.conode_explain_transfers.specs.declared.kinds.Protocol.TheVariants.{Expedited, Segmented}
use Rattle.conode_explain_transfers.specs.declared.kinds.What.{What}
use Rattle.conode_explain_transfers.specs.declared.kinds.What.TheVariants.{Part, Overtaken, Unexpected, Stray}
use Rattle.conode_compare_transfers.specs.declared.breach.Breach.{Breach}
use Rattle.conode_compare_transfers.specs.Breaches.{byte_at, key_in}
use Rattle.conode_compare_values.specs.declared.written.Written.{Written}
use Rattle.conode_compare_values.specs.HeldNumbers.{held_mismatch}
use Rattle.conode_compare_values.specs.declared.mismatch.Mismatch.{Mismatch}
use Rattle.conode_compare_values.specs.SheetValues.{mismatch_at}
use Rattle.conode_compare_transfers.specs.declared.dialogue.Asked.{Asked}
use Rattle.conode_compare_transfers.specs.declared.dialogue.Dialogue.{Dialogue}
use Rattle.conode_compare_transfers.specs.declared.dialogue.Exchange.{Exchange}
use Rattle.conode_compare_nmt.specs.declared.finding.Finding.{Finding}
use Rattle.conode_compare_nmt.specs.declared.finding.Finding.TheVariants.{NoAnswer, Unasked, AnswerKey, AnswerForm, AnswerStopped, Transfer, Value, Held}
use Rattle.conode_compare_nmt.specs.declared.finding.NmtState.{NmtState}
use Rattle.conode_compare_nmt.specs.declared.finding.NmtState.TheVariants.{PreOperational, Operational}
use Rattle.conode_compare_nmt.specs.declared.limits.Limits.{Limits}
use Rattle.conode_compare_nmt.specs.declared.limits.Subject.{Subject}
use Rattle.conode_compare_nmt.specs.declared.nmt.Nmt.{Nmt}
use Rattle.conode_compare_transfers.specs.Dialogues.{is_certain, is_timed}
use Rattle.conode_compare_nmt.specs.States.{is_stopped, is_settled, is_steady, judged_state, was_running}
use Rattle.conode_compare_transfers.specs.Timeouts.{early_abort}
use Rattle.conode_compare_transfers.specs.Times.{is_past}

-- abort SDO transfer, cs = 4
abbrev pub is_abort : FrameContent → Bool
is_abort frame = byte_at frame 0 / 32 == 4

-- An upload that ends with a frame shows how many of its bytes count: expedited with s = 1; in a last
-- segment with n other than 0; in blocks always.
abbrev pub is_exact : Protocol → FrameContent → Bool
is_exact Expedited frame = byte_at frame 0 % 2 == 1
is_exact Segmented frame = not (byte_at frame 0 / 2 % 8 == 0)
is_exact protocol frame = true

-- `no-answer`: a request isn't answered in time
abbrev pub late_after : Limits → Asked → ℕ → Option Finding
late_after limits asked micros =
    if is_timed asked.key && is_past asked.micros limits.answer micros then Some (NoAnswer asked.key (micros - asked.micros)) else None

abbrev pub late_answer : Limits → Option Asked → ℕ → Option Finding
late_answer limits asked micros = option_and_then (λ a. late_after limits a micros) asked

-- `second-sender`: an answer without a request; a server may abort what has timed out
abbrev pub unasked_finding : FrameContent → Option Finding
unasked_finding frame = if is_abort frame then None else Some Unasked

-- `answer-key`: the multiplexer isn't that of the request
abbrev pub key_finding : Option Asked → Option Finding
key_finding asked = option_map (λ a. AnswerKey a.key) asked

-- `answer-form`: the protocol of the request has no such answer
abbrev pub form_finding : Option Asked → Option Finding
form_finding asked = option_map (λ a. AnswerForm a.key) asked

-- an abort of another entry, whose request came earlier
abbrev pub refuses_other : FrameContent → Ended → Bool
refuses_other frame ended = is_abort frame && not (same_key (key_in frame) ended.key)

-- otherwise than the data sheet has the entry
abbrev pub value_finding : Option Mismatch → Option Finding
value_finding mismatch = option_map (λ m. Value m) mismatch

abbrev pub known_finding : Subject → List Row → FrameContent → Ended → Option Finding
known_finding subject rows frame ended =
    if refuses_other frame ended then None
    else value_finding (mismatch_at subject.node subject.facts.modular subject.rooms rows (is_exact ended.protocol frame) ended)

-- by the end of the transfer
abbrev pub ended_finding : Subject → List Row → FrameContent → Option Ended → Option Finding
ended_finding subject rows frame ended = option_and_then (known_finding subject rows frame) ended

abbrev pub finding_of : Subject → List Row → Exchange → FrameContent → What → Option Finding
finding_of subject rows exchange frame Stray = unasked_finding frame
finding_of subject rows exchange frame Overtaken = key_finding exchange.asked
finding_of subject rows exchange frame Unexpected = form_finding exchange.asked
finding_of subject rows exchange frame Part = ended_finding subject rows frame exchange.heard.ended
finding_of subject rows exchange frame what = None

unfoldable pub what_finding : Subject → List Row → Exchange → FrameContent → Option Finding
what_finding subject rows exchange frame = finding_of subject rows exchange frame exchange.heard.what

-- the device wasn't stopped as it was asked, nor since: a stopped one answers none, and perhaps once it isn't stopped any more
abbrev pub could_answer_since : Limits → Nmt → Option Asked → Bool
could_answer_since limits nmt asked = option_map_or (λ a. was_running limits nmt a.micros) asked false

-- an answer that took too long, to a request that it is owed
abbrev pub overdue_answer : Limits → Nmt → Exchange → ℕ → Option Finding
overdue_answer limits nmt exchange micros =
    if exchange.owed && could_answer_since limits nmt exchange.asked then late_answer limits exchange.asked micros else None

-- within the open transfer
abbrev pub breach_finding : Option Breach → Option Finding
breach_finding breach = option_map (λ b. Transfer b) breach

-- that, or that the server times out too early
abbrev pub transfer_breach : Limits → Exchange → Option Breach
transfer_breach limits exchange = option_or exchange.breach (early_abort limits.tolerance limits.drift limits.time exchange)

abbrev pub known_answer : Subject → List Row → Exchange → FrameContent → Option Finding
known_answer subject rows exchange frame =
    option_or (what_finding subject rows exchange frame) (breach_finding (transfer_breach subject.limits exchange))

-- the difference of an answer, where no earlier request can be answered
unfoldable pub answer_finding : Subject → List Row → ℕ → Nmt → Exchange → FrameContent → Option Finding
answer_finding subject rows micros nmt exchange frame =
    if exchange.certain then option_or (overdue_answer subject.limits nmt exchange micros) (known_answer subject rows exchange frame)
    else None

-- `answer-state`: the answer to a request that came while the device was stopped, once the
-- tolerance after the command, or the change, was over
abbrev pub stopped_with : Limits → ℕ → Nmt → Option Asked → Option Finding
stopped_with limits started nmt None = None
stopped_with limits started nmt (Some asked) =
    if is_stopped (judged_state nmt) && (is_settled limits started nmt.commanded asked.micros && is_steady limits nmt asked.micros) then Some (AnswerStopped asked.key) else None

unfoldable pub stopped_finding : Limits → ℕ → Nmt → Exchange → Option Finding
stopped_finding limits started nmt exchange = if exchange.certain then stopped_with limits started nmt exchange.asked else None

-- `value-held`: an upload shows another number than the last download of an entry that is held
unfoldable pub held_finding : Subject → Written → Exchange → Option Finding
held_finding subject written exchange =
    option_map (λ m. Held m) (held_mismatch subject.held.entries.items written exchange.certain exchange.heard.ended)

-- the client's confirmation shows what the device did in the block upload that ends with it
unfoldable pub confirmed_finding : Subject → List Row → Written → Exchange → FrameContent → Option Finding
confirmed_finding subject rows written exchange frame =
    if exchange.certain
    then option_or (breach_finding exchange.breach)
    (option_or (ended_finding subject rows frame exchange.heard.ended) (held_finding subject written exchange))
    else None

-- ---- no answer at all

-- a device answers while pre-operational and operational
abbrev pub answers_in : NmtState → Bool
answers_in PreOperational = true
answers_in Operational = true
answers_in other = false

-- Where a heartbeat after the request shows that the device left stopped, or no frame before the request shows
-- that it has, it may have been stopped.
abbrev pub could_answer : Limits → ℕ → Nmt → Dialogue → Asked → Bool
could_answer limits started nmt dialogue asked =
    answers_in nmt.state
    && (is_settled limits started nmt.commanded asked.micros
    && (was_running limits nmt asked.micros && is_certain limits.answer started dialogue.slow dialogue.doubted asked.micros))

-- `no-answer`, by a heartbeat: the device lives, and could have answered since it was asked
abbrev pub silence_of : Limits → ℕ → Nmt → Dialogue → Option Asked → ℕ → Option Finding
silence_of limits started nmt dialogue None micros = None
silence_of limits started nmt dialogue (Some asked) micros =
    if could_answer limits started nmt dialogue asked then late_after limits asked micros else None

-- A heartbeat, or an answer of node guarding, that shows stopped: the device may have stopped by
-- itself, at a failure (1029h), before it was asked, and needn't have answered.
abbrev pub shows_stopped : ℕ → Bool
shows_stopped byte = byte % 128 == 4

unfoldable pub silence_finding : Limits → ℕ → Nmt → Dialogue → ℕ → ℕ → Option Finding
silence_finding limits started nmt dialogue micros byte =
    if shows_stopped byte then None else silence_of limits started nmt dialogue dialogue.asked micros

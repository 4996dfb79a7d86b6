-- What is kept and what is done in a recording, after every log.
use Rattle.std.proofs.Common.{◌≡◌, ℕ, List, [], ◌∷◌, refl}
use Rattle.std.specs.Prelude.{Bool, true, false, if◌then◌else◌, Option, Some, None, IfSome}
use Rattle.co_frame.specs.SdoResponses.{response_in}
use Rattle.co_value.specs.declared.key.Key.{Key}
use Rattle.conode_explain_transfers.specs.declared.channel.Heard.{Heard}
use Rattle.conode_explain_transfers.specs.declared.ended.Ended.{Ended}
use Rattle.conode_explain_transfers.specs.declared.ended.Ending.{Ending}
use Rattle.conode_explain_transfers.specs.declared.ended.Ending.TheVariants.{Done, Interrupted, Repeated, Unanswered}
use Rattle.conode_explain_transfers.specs.declared.kinds.Side.{Side}
use Rattle.conode_explain_transfers.specs.declared.kinds.Side.TheVariants.{Client, Server}
use Rattle.conode_explain_transfers.specs.declared.kinds.What.{What}
use Rattle.conode_explain_transfers.specs.declared.reading.Reading.{Reading}
use Rattle.conode_explain_transfers.specs.declared.reading.Reading.TheVariants.{Begin}
use Rattle.conode_explain_transfers.specs.declared.stage.Stage.TheVariants.{SubBlock, AllAcknowledged}
use Rattle.conode_explain_transfers.specs.declared.transfer.Transfer.{Transfer}
use Rattle.conode_explain_transfers.specs.BlockTurns.{most_segments}
use Rattle.conode_explain_transfers.specs.Data.{IfDone, IsDoneWith, data_by}
use Rattle.conode_explain_transfers.specs.Doubtful.{begun_by, freed, freed_by, if_answered, is_answer, noted, shown_by}
use Rattle.conode_explain_transfers.specs.Followed.{Event, Framed, BootedUp, Following, ends_as, followed, with_frame}
use Rattle.conode_explain_transfers.specs.HeardData.{beside, heard_after, heard_of, data_freed, data_heard, heard_data, IsDoneHeard}
use Rattle.conode_explain_transfers.specs.Hearings.{after_aside, aside, awaits_answer, heard_next, hearing_by, hearing_in, hearing_late, hearing_where, is_over, lacks_acknowledge, lacks_start, last_again, late, late_segment, leaves_after_last, left_awaiting, made_up, may_mean_this, named, sure_end, sure_ending}
use Rattle.conode_explain_transfers.specs.Readings.{plain_reading, reading_of}
use Rattle.conode_explain_transfers.specs.Transfers.{irregular}
use Rattle.conode_explain_transfers.specs.Turns.{turn_of}
use Rattle.conode_explain_transfers.proofs.DataLemmas.{IsOpenWith, StaysOpen, frame_open, frame_step}
use Rattle.conode_explain_transfers.proofs.DoneLemmas.{frame_done}

-- ---- what the code makes of a frame

pub says_next : (old x : Following) (said : Heard) (awaits : Option Bool) (again : Option What) (what : What) (end : Option Ended) (micros : ℕ) (side : Side) (frame : List ℕ)
    → x ≡ record old { transfer = made_up old.transfer side frame } → said ≡ (followed x micros side frame).says → awaits ≡ awaits_answer micros old.transfer
    → again ≡ last_again old.transfer side frame → what ≡ named again said.what → end ≡ sure_end awaits said.ended → record { what = what; of = said.of; ended = end } ≡ (heard_next old micros side frame).says
says_next old x said awaits again what end micros side frame made is was came name sure = rw (sure, name, came, was, is, made) refl

pub next_next : (old x y new : Following) (what : What) (micros : ℕ) (side : Side) (frame : List ℕ)
    → x ≡ record old { transfer = made_up old.transfer side frame } → y ≡ (followed x micros side frame).next → what ≡ (followed x micros side frame).says.what
    → new ≡ record y { transfer = noted side what micros frame y.transfer } → new ≡ (heard_next old micros side frame).next
next_next old x y new what micros side frame made is said note = rw (note, said, is, made) refl

-- ---- a frame

-- frames that are missing take no data
made_open : (current : Option Transfer) (side : Side) (frame bytes : List ℕ) → StaysOpen current bytes → StaysOpen (made_up current side frame) bytes
made_open None side frame bytes h = tt
made_open (Some transfer) side frame bytes h = by (lacks_start transfer side frame) (lacks_acknowledge transfer side frame) (leaves_after_last transfer side frame)
  where
    by : (start acknowledge leaves : Bool)
        → IsOpenWith (if start then record transfer { irregular = true; stage = SubBlock false }
        else (if acknowledge then record transfer { block_size = most_segments }
        else (if leaves then record transfer { stage = AllAcknowledged } else transfer))) bytes
    by true acknowledge leaves = record { unconfirmed = refl; taken = h.taken }
    by false true leaves = record { unconfirmed = h.unconfirmed; taken = h.taken }
    by false false true = record { unconfirmed = refl; taken = h.taken }
    by false false false = h

-- nor does one that is put aside
aside_open : (current : Option Transfer) (frame bytes : List ℕ) → StaysOpen current bytes → StaysOpen (after_aside current frame) bytes
aside_open None frame bytes h = tt
aside_open (Some transfer) frame bytes h = by (may_mean_this frame transfer)
  where
    by : (abort : Bool) → IsOpenWith (if abort then record transfer { put_aside = true; by = Server } else record transfer { put_aside = true }) bytes
    by true = record { unconfirmed = h.unconfirmed; taken = h.taken }
    by false = record { unconfirmed = h.unconfirmed; taken = h.taken }

sure_done : (awaits : Option Bool) (end : Option Ended) (fact : Bool → Type 0) → IfSome end (λ e. IfDone e.ending fact) → IfSome (sure_end awaits end) (λ e. IfDone e.ending fact)
sure_done awaits None fact h = h
sure_done awaits (Some e) fact h = by awaits e.ending h
  where
    left : (x : Bool) → IfDone (left_awaiting x) fact
    left true = tt
    left false = tt

    by : (x : Option Bool) (ending : Ending) → IfDone ending fact → IfDone (sure_ending x ending) fact
    by None ending h = h
    by (Some x) (Done crc) h = h
    by (Some x) Unanswered h = left x
    by (Some x) Repeated h = left x
    by (Some x) Interrupted h = left x
    by (Some x) _ h = tt

-- one that is left isn't done
left_open : (current : Option Transfer) (micros : ℕ) (fact : Bool → Type 0) → IfSome (ends_as current micros Interrupted) (λ e. IfDone e.ending fact)
left_open None micros fact = tt
left_open (Some transfer) micros fact = tt

-- nor does the note of the client's newest frame
noted_open : (side : Side) (what : What) (micros : ℕ) (frame : List ℕ) (current : Option Transfer) (bytes : List ℕ)
    → StaysOpen current bytes → StaysOpen (noted side what micros frame current) bytes
noted_open side what micros frame None bytes h = tt
noted_open Client what micros frame (Some transfer) bytes h = record { unconfirmed = h.unconfirmed; taken = h.taken }
noted_open Server what micros frame (Some transfer) bytes h = h

-- nor does the last segment after its acknowledge
late_open : (what : What) (following : Following) (micros : ℕ) (side : Side) (frame bytes : List ℕ) → StaysOpen following.transfer bytes
    → StaysOpen (late following what micros side frame).next.transfer bytes
late_open what following micros side frame bytes h = of following.transfer h
  where
    of : (current : Option Transfer) → StaysOpen current bytes → StaysOpen (late (record following { transfer = current }) what micros side frame).next.transfer bytes
    of None h = tt
    of (Some transfer) h =
        noted_open side what micros frame (Some (with_frame what (irregular transfer) micros side)) bytes
        (frame_open what (irregular transfer) micros side bytes (record { unconfirmed = h.unconfirmed; taken = h.taken }))

-- a request that was taken for a segment begins without data
begun_open : (reading : Reading) (transfer : Transfer) → StaysOpen (begun_by reading transfer) []
begun_open (Begin initiate) transfer = record { unconfirmed = refl; taken = refl }
begun_open _ transfer = tt

answered_open : (request : Option Transfer) (entry : Key) (frame : List ℕ) → StaysOpen request [] → StaysOpen (if_answered request entry frame) []
answered_open None entry frame h = tt
answered_open (Some request) entry frame h = by (is_answer entry request (response_in frame) frame)
  where
    by : (answer : Bool) → StaysOpen (if answer then Some request else None) []
    by true = h
    by false = tt

shown_open : (current : Option Transfer) (side : Side) (frame : List ℕ) → StaysOpen (shown_by current side frame) []
shown_open None side frame = tt
shown_open (Some transfer) Client frame = tt
shown_open (Some transfer) Server frame =
    answered_open (begun_by (plain_reading Client transfer.doubtful.bytes) transfer) transfer.key frame
    (begun_open (plain_reading Client transfer.doubtful.bytes) transfer)

freed_open : (shown current : Option Transfer) (bytes : List ℕ) → StaysOpen shown [] → StaysOpen current bytes
    → StaysOpen (freed_by shown current) (data_freed shown bytes)
freed_open None current bytes s h = h
freed_open (Some request) current bytes s h = s

-- ---- every log

heard_step : (following : Following) (micros : ℕ) (side : Side) (frame bytes : List ℕ) → StaysOpen following.transfer bytes
    → StaysOpen (hearing_in following micros side frame).next.transfer
    (data_heard (beside (late_segment following.transfer side frame) (aside following.transfer side frame)) (made_up following.transfer side frame) side frame bytes)
heard_step following micros side frame bytes h = where_over (is_over following.transfer side frame)
  where
    current : Option Transfer
    current = made_up following.transfer side frame

    by : (x : Option What) → StaysOpen (hearing_by x following micros side frame).next.transfer (data_heard x current side frame bytes)
    by (Some what) = aside_open following.transfer frame bytes h
    by None =
        let x : Following = record following { transfer = current } in
        noted_open side (followed x micros side frame).says.what micros frame (followed x micros side frame).next.transfer
        (data_by current (reading_of current side frame) frame bytes)
        (frame_step following.heard current (reading_of current side frame) micros side frame bytes (made_open following.transfer side frame bytes h))

    where_late : (x : Option What) → StaysOpen (hearing_late x following micros side frame).next.transfer (data_heard (beside x (aside following.transfer side frame)) current side frame bytes)
    where_late (Some what) = late_open what following micros side frame bytes h
    where_late None = by (aside following.transfer side frame)

    where_over : (over : Bool) → StaysOpen (hearing_where over following micros side frame).next.transfer
        (data_heard (beside (late_segment following.transfer side frame) (aside following.transfer side frame)) current side frame bytes)
    where_over true = tt
    where_over false = where_late (late_segment following.transfer side frame)

-- what is open before a frame
abbrev before : List Event → Side → List ℕ → Following
before log side frame = record (heard_after log) { transfer = freed (heard_after log).transfer side frame }

abbrev data_before : List Event → Side → List ℕ → List ℕ
data_before log side frame = data_freed (shown_by (heard_after log).transfer side frame) (heard_data log)

before_open : (log : List Event) (side : Side) (frame : List ℕ) → StaysOpen (heard_after log).transfer (heard_data log)
    → StaysOpen (before log side frame).transfer (data_before log side frame)
before_open log side frame h =
    let current = (heard_after log).transfer in
    freed_open (shown_by current side frame) current (heard_data log) (shown_open current side frame) h

pub heard_open : (log : List Event) → StaysOpen (heard_after log).transfer (heard_data log)
heard_open [] = tt
heard_open (Framed micros side frame ∷ older) =
    heard_step (before older side frame) micros side frame (data_before older side frame) (before_open older side frame (heard_open older))
heard_open (BootedUp micros ∷ older) = tt

pub heard_done : (log : List Event) (micros : ℕ) (side : Side) (frame : List ℕ)
    → IfSome (heard_of log micros side frame).ended (λ e. IfDone e.ending (IsDoneHeard log micros side frame))
heard_done log micros side frame = where_over (is_over following.transfer side frame)
  where
    following : Following
    following = before log side frame

    current : Option Transfer
    current = made_up following.transfer side frame

    kept : List ℕ
    kept = data_before log side frame

    Fact : Option What → Bool → Type 0
    Fact x crc =
        IfSome current (λ transfer.
        IsDoneWith transfer (reading_of current side frame) (turn_of transfer (reading_of current side frame) frame) (data_heard x current side frame kept) crc)

    by : (x : Option What) → IfSome (hearing_by x following micros side frame).says.ended (λ e. IfDone e.ending (Fact x))
    by (Some what) = tt
    by None =
        sure_done (awaits_answer micros following.transfer) _ (Fact None)
        (frame_done following.heard current (reading_of current side frame) micros side frame kept
        (made_open following.transfer side frame kept (before_open log side frame (heard_open log))))

    where_late : (x : Option What) → IfSome (hearing_late x following micros side frame).says.ended (λ e. IfDone e.ending (Fact (beside x (aside following.transfer side frame))))
    where_late (Some what) = tt
    where_late None = by (aside following.transfer side frame)

    where_over : (over : Bool) → IfSome (hearing_where over following micros side frame).says.ended (λ e. IfDone e.ending (IsDoneHeard log micros side frame))
    where_over true = left_open following.transfer micros (IsDoneHeard log micros side frame)
    where_over false = where_late (late_segment following.transfer side frame)

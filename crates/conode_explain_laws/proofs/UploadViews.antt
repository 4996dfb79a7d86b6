-- What explain knows of a channel after each frame, for its uploads, and which frames are nothing to them.
use Rattle.std.proofs.Common.{◌≡◌, ℕ, suc, Bool, true, false, List, [], ◌∷◌, ◌++◌, length, Option, Some, None, refl, sym, ap, ◌∙◌, ◌⊎◌, inl, inr}
use Rattle.std.specs.Prelude.{if◌then◌else◌, IfSome}
use Rattle.std.proofs.lemmas.Bool.{false≢true}
use Rattle.co_value.specs.declared.key.Key.{Key}
use Rattle.co_frame.specs.declared.sdo_response.SdoResponse.TheVariants.{Abort as Refuse}
use Rattle.co_sdo.specs.Log.{Answer, Response as Replied, answer_bytes}
use Rattle.co_sdo.specs.Replies.{aborted}
use Rattle.conode_explain_transfers.specs.declared.kinds.Direction.TheVariants.{Download}
use Rattle.conode_explain_transfers.specs.declared.kinds.Side.{Side}
use Rattle.conode_explain_transfers.specs.declared.kinds.Side.TheVariants.{Client, Server}
use Rattle.conode_explain_transfers.specs.declared.kinds.What.{What}
use Rattle.conode_explain_transfers.specs.declared.kinds.What.TheVariants.{Overtaken}
use Rattle.conode_explain_transfers.specs.declared.transfer.Transfer.{Transfer}
use Rattle.conode_explain_transfers.specs.Data.{data_with, data_after}
use Rattle.conode_explain_transfers.specs.Endings.{verdict}
use Rattle.conode_explain_transfers.specs.Followed.{Event, Followed, following_after, with_frame, turns, turns_at}
use Rattle.conode_explain_transfers.specs.Stages.{confirmed_with}
use Rattle.conode_explain_transfers.specs.Transfers.{Turn, after, is_same_request}
use Rattle.conode_explain_transfers.specs.Unanswered.{is_lost, not_followed_by, number_of, segment_follows}
use Rattle.conode_explain_laws.specs.Recordings.{and_frame, and_answers}
use Rattle.conode_explain_laws.specs.Downloads.{Complete, if_done}
use Rattle.conode_explain_laws.specs.Uploads.{is_upload, read_said, uploads_done}
use Rattle.conode_explain_laws.proofs.Readings.{Reading, Segment, Begin, Abort, Request, Response, Nothing, reading_of, turn_of, follows_by, bytes_by, same as same_reading}
use Rattle.conode_explain_laws.proofs.Kept.{Keeps, keeps}
use Rattle.conode_explain_laws.proofs.Follows.{IsLate}
use Rattle.conode_explain_laws.proofs.Views.{abort_no_write, View, Knows, Closes, no_write, left_no_write, is_abort_reading, is_begin, server_no_begin, abort_is}

-- ---- what explain knows

abbrev pub view_of : List Event → View
view_of recording = record {
  following = following_after recording;
  got = data_after recording;
  done = uploads_done recording;
  count = length recording;
}

-- after what a frame makes of it
abbrev pub after_frame : View → Followed → List ℕ → View
after_frame v followed got = record {
  following = followed.next;
  got = got;
  done = read_said followed.says.ended got (suc v.count) ++ v.done;
  count = suc v.count;
}

-- after a frame that is read so
abbrev pub read_as : ℕ → Side → List ℕ → View → Reading → View
read_as micros side frame v reading =
    after_frame v (follows_by v.following.heard v.following.transfer reading micros side frame)
    (bytes_by v.following.transfer reading frame v.got)

-- after a frame
abbrev pub hears : (ℕ → ℕ) → Side → List ℕ → View → View
hears stamp side frame v = read_as (stamp v.count) side frame v (reading_of v.following.transfer side (stamp v.count) frame)

pub hears_frame : (stamp : ℕ → ℕ) (side : Side) (frame : List ℕ) (recording : List Event)
    → view_of (and_frame stamp side frame recording) ≡ hears stamp side frame (view_of recording)
hears_frame stamp side frame recording =
    let v = view_of recording in
    let s = same_reading v.following.heard v.following.transfer (stamp v.count) side frame v.got in
    ap (λ f. after_frame v f (data_after (and_frame stamp side frame recording))) s.followed
    ∙ ap (λ bytes. after_frame v (follows_by v.following.heard v.following.transfer (reading_of v.following.transfer side (stamp v.count) frame) (stamp v.count) side frame) bytes) s.bytes_are

-- after answers
abbrev pub hears_answers : (ℕ → ℕ) → List Answer → View → View
hears_answers stamp [] v = v
hears_answers stamp (answer ∷ later) v = hears_answers stamp later (hears stamp Server (answer_bytes answer) v)

pub hears_all : (stamp : ℕ → ℕ) (answers : List Answer) (recording : List Event)
    → view_of (and_answers stamp answers recording) ≡ hears_answers stamp answers (view_of recording)
hears_all stamp [] recording = refl
hears_all stamp (answer ∷ later) recording =
    hears_all stamp later (and_frame stamp Server (answer_bytes answer) recording)
    ∙ ap (hears_answers stamp later) (hears_frame stamp Server (answer_bytes answer) recording)

-- explain has this transfer, or none
abbrev pub holds : Bool → Option Transfer → List ℕ → List Complete → ℕ → View
holds heard current got done count = record { following = record { heard = heard; transfer = current }; got = got; done = done; count = count }

-- ---- an initiate request

-- it ends no transfer that is done
pub begin_writes : (micros : ℕ) (frame : List ℕ) (heard : Bool) (current : Option Transfer) (got : List ℕ) (done : List Complete) (count : ℕ) (new : Transfer)
    → (read_as micros Client frame (holds heard current got done count) (Begin new)).done ≡ done
begin_writes micros frame heard None got done count new = refl
begin_writes micros frame heard (Some t) got done count new =
    ap (λ w. w ++ done) (no_write (is_upload t.direction) _ (left_no_write (segment_follows t frame) (is_lost t) (is_same_request t frame) (number_of frame) t.by _))

-- ---- aborts

pub abort_closes : (micros : ℕ) (side : Side) (frame : List ℕ) (heard : Bool) (current : Option Transfer) (got : List ℕ) (done : List Complete) (count : ℕ) (reading : Reading)
    → is_abort_reading reading ≡ true → Closes done (read_as micros side frame (holds heard current got done count) reading)
abort_closes micros side frame heard None got done count (Abort code) h = record { none = refl; same = refl }
abort_closes micros side frame heard (Some t) got done count (Abort code) h = record {
  none = refl;
  same = ap (λ w. w ++ done) (no_write (is_upload t.direction) _ (abort_no_write side (not_followed_by side t frame) code _));
}
abort_closes micros side frame heard current got done count _ h = absurd (false≢true h)

pub aborted_closes : (stamp : ℕ → ℕ) (key : Key) (code : ℕ) (v : View) → Closes v.done (hears_answers stamp (aborted key code) v)
aborted_closes stamp key code v =
    let frame = answer_bytes (Replied (Refuse key (record { 0 = code }))) in
    abort_closes (stamp v.count) Server frame v.following.heard v.following.transfer v.got v.done v.count (reading_of v.following.transfer Server (stamp v.count) frame) (abort_is v.following.transfer (stamp v.count) key code)

-- ---- a frame that completes nothing

-- after a frame that makes this of the open transfer
abbrev pub turned : ℕ → Side → Bool → Transfer → List ℕ → List Complete → ℕ → Turn → View
turned micros side heard t got done count turn = record {
  following = (turns heard t turn micros side).next;
  got = data_with got turn.takes;
  done = read_said (turns heard t turn micros side).says.ended (data_with got turn.takes) (suc count) ++ done;
  count = suc count;
}

spoilt_ending : (u : Transfer) (crc : Option ℕ) (write : List Complete) → u.irregular ≡ true → if_done (verdict u crc) write ≡ []
spoilt_ending u crc write i = rw i refl

late_turns : (x : Option (Option ℕ)) (heard : Bool) (what : What) (u : Transfer) (got : List ℕ) (done : List Complete) (count micros : ℕ) (side : Side)
    → confirmed_with u.stage ≡ x → (u.irregular ≡ true) ⊎ (confirmed_with u.stage ≡ None)
    → read_said (turns_at x heard what u micros side).says.ended got count ++ done ≡ done
late_turns None heard what u got done count micros side e late = refl
late_turns (Some crc) heard what u got done count micros side e (inl i) = ap (λ w. w ++ done) (no_write (is_upload u.direction) _ (spoilt_ending u crc _ i))
late_turns (Some crc) heard what u got done count micros side e (inr n) = absurd (let f : None ≡ Some crc = sym n ∙ e in cc)

-- its transfer isn't confirmed, or is irregular
pub late_turn : (micros : ℕ) (side : Side) (heard : Bool) (t : Transfer) (got : List ℕ) (done : List Complete) (count : ℕ) (turn : Turn)
    → IsLate turn → (turned micros side heard t got done count turn).done ≡ done
late_turn micros side heard t got done count turn late =
    late_turns (confirmed_with turn.transfer.stage) heard turn.what (after t turn) (data_with got turn.takes) done (suc count) micros side refl late

-- ---- transfers that aren't followed any more

-- it's a download; or frames are missing, where some uploads may be left out (`Loose`)
abbrev pub IsAside : Type 0 → Transfer → Type 0
IsAside Loose t = (Loose × (t.irregular ≡ true)) ⊎ (t.direction ≡ Download)

-- what is known of one that isn't followed
abbrev pub KnowsAside : Type 0 → List Complete → View → Type 0
KnowsAside Loose done v = Knows (λ t got. IsAside Loose t) done v

module _ (Loose : Type 0) where
  stays_aside : (t u : Transfer) → Keeps t u → IsAside Loose t → IsAside Loose u
  stays_aside t u k (inl i) = inl (i.0, k.irregular i.1)
  stays_aside t u k (inr d) = inr (k.direction ∙ d)

  aside_frame : (what : What) (u : Transfer) (micros : ℕ) (side : Side) → IsAside Loose u → IsAside Loose (with_frame what u micros side)
  aside_frame Overtaken u micros side h = h
  aside_frame _ u micros side h = h

  aside_write : (u : Transfer) (crc : Option ℕ) (write : List Complete) → IsAside Loose u → (if is_upload u.direction then if_done (verdict u crc) write else []) ≡ []
  aside_write u crc write (inl i) = no_write (is_upload u.direction) _ (spoilt_ending u crc write i.1)
  aside_write u crc write (inr d) = rw d refl

  -- a turn's transfer, kept or confirmed
  aside_turns : (x : Option (Option ℕ)) (heard : Bool) (what : What) (u : Transfer) (got : List ℕ) (done : List Complete) (count micros : ℕ) (side : Side) → IsAside Loose u
      → KnowsAside Loose done (record {
        following = (turns_at x heard what u micros side).next;
        got = got;
        done = read_said (turns_at x heard what u micros side).says.ended got count ++ done;
        count = count;
      })
  aside_turns None heard what u got done count micros side h = record { holds = aside_frame what u micros side h; same = refl }
  aside_turns (Some crc) heard what u got done count micros side h = record { holds = tt; same = ap (λ w. w ++ done) (aside_write u crc _ h) }

  pub aside_turn : (micros : ℕ) (side : Side) (frame : List ℕ) (heard : Bool) (t : Transfer) (got : List ℕ) (done : List Complete) (count : ℕ) (reading : Reading)
      → IsAside Loose (turn_of t reading frame).transfer → KnowsAside Loose done (turned micros side heard t got done count (turn_of t reading frame))
  aside_turn micros side frame heard t got done count reading h =
      let turn = turn_of t reading frame in
      aside_turns (confirmed_with turn.transfer.stage) heard turn.what (after t turn) (data_with got turn.takes) done (suc count) micros side h

  aside_kept : (micros : ℕ) (side : Side) (frame : List ℕ) (heard : Bool) (t : Transfer) (got : List ℕ) (done : List Complete) (count : ℕ) (reading : Reading)
      → IsAside Loose t → KnowsAside Loose done (turned micros side heard t got done count (turn_of t reading frame))
  aside_kept micros side frame heard t got done count reading h =
      aside_turn micros side frame heard t got done count reading (stays_aside t (turn_of t reading frame).transfer (keeps t reading frame) h)

  pub aside_reads : (micros : ℕ) (side : Side) (frame : List ℕ) (heard : Bool) (current : Option Transfer) (got : List ℕ) (done : List Complete) (count : ℕ) (reading : Reading)
      → IfSome current (IsAside Loose) → is_begin reading ≡ false → KnowsAside Loose done (read_as micros side frame (holds heard current got done count) reading)
  aside_reads micros side frame heard current got done count (Begin new) h n = absurd (false≢true (sym n))
  aside_reads micros side frame heard None got done count _ h n = record { holds = tt; same = refl }
  aside_reads micros side frame heard (Some t) got done count (Abort code) h n = record {
    holds = tt;
    same = ap (λ w. w ++ done) (no_write (is_upload t.direction) _ (abort_no_write side (not_followed_by side t frame) code _));
  }
  aside_reads micros side frame heard (Some t) got done count (Segment segment) h n = aside_kept micros side frame heard t got done count (Segment segment) h
  aside_reads micros side frame heard (Some t) got done count (Request request) h n = aside_kept micros side frame heard t got done count (Request request) h
  aside_reads micros side frame heard (Some t) got done count (Response response) h n = aside_kept micros side frame heard t got done count (Response response) h
  aside_reads micros side frame heard (Some t) got done count Nothing h n = aside_kept micros side frame heard t got done count Nothing h

  -- whatever the server answers
  pub aside_answers : (stamp : ℕ → ℕ) (answers : List Answer) (done : List Complete) (v : View) → KnowsAside Loose done v → KnowsAside Loose done (hears_answers stamp answers v)
  aside_answers stamp [] done v h = h
  aside_answers stamp (answer ∷ later) done v h =
      let frame = answer_bytes answer in
      let step = aside_reads (stamp v.count) Server frame v.following.heard v.following.transfer v.got v.done v.count (reading_of v.following.transfer Server (stamp v.count) frame) h.holds (server_no_begin v.following.transfer (stamp v.count) frame) in
      aside_answers stamp later done (hears stamp Server frame v) (record { holds = step.holds; same = step.same ∙ h.same })

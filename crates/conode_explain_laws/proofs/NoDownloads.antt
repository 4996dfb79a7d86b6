-- An upload, or nothing: no frame makes a download of it.
use Rattle.std.proofs.Common.{◌≡◌, ℕ, suc, Bool, false, List, [], ◌∷◌, ◌++◌, Option, Some, None, refl, sym, ap, ◌∙◌, inr}
use Rattle.std.specs.Prelude.{IfSome}
use Rattle.std.proofs.lemmas.Bool.{false≢true}
use Rattle.co_frame.specs.declared.sdo_request.SdoRequest.{SdoRequest}
use Rattle.co_dict.specs.Rows.{Rows}
use Rattle.co_sdo.specs.Log.{Answer, answer_bytes}
use Rattle.conode_explain_transfers.specs.declared.kinds.Direction.TheVariants.{Upload}
use Rattle.conode_explain_transfers.specs.declared.kinds.Side.{Side}
use Rattle.conode_explain_transfers.specs.declared.kinds.Side.TheVariants.{Server}
use Rattle.conode_explain_transfers.specs.declared.kinds.What.{What}
use Rattle.conode_explain_transfers.specs.declared.kinds.What.TheVariants.{Overtaken}
use Rattle.conode_explain_transfers.specs.declared.transfer.Transfer.{Transfer}
use Rattle.conode_explain_transfers.specs.Data.{data_with}
use Rattle.conode_explain_transfers.specs.Followed.{with_frame, turns, turns_at}
use Rattle.conode_explain_transfers.specs.Stages.{confirmed_with}
use Rattle.conode_explain_transfers.specs.Transfers.{after, is_download}
use Rattle.conode_explain_transfers.specs.Unanswered.{not_followed_by}
use Rattle.conode_explain_laws.specs.Downloads.{Complete, initiated_by, write_said}
use Rattle.conode_explain_laws.proofs.Readings.{Reading, Segment, Begin, Abort, Request, Response, Nothing, reading_of, turn_of}
use Rattle.conode_explain_laws.proofs.Kept.{keeps}
use Rattle.conode_explain_laws.proofs.Views.{abort_no_write, View, read_as, hears, hears_answers, Knows, no_write, aside_write, is_begin, server_no_begin}

abbrev pub IsUpload : Transfer → Type 0
IsUpload t = t.direction ≡ Upload

-- what is known of one
abbrev pub KnowsUpload : List Complete → View → Type 0
KnowsUpload done v = Knows (λ t got. IsUpload t) done v

upload_frame : (what : What) (u : Transfer) (micros : ℕ) (side : Side) → IsUpload u → IsUpload (with_frame what u micros side)
upload_frame Overtaken u micros side h = h
upload_frame _ u micros side h = h

upload_turns : (rows : Rows) (x : Option (Option ℕ)) (heard : Bool) (what : What) (u : Transfer) (initiate : Option SdoRequest) (got : List ℕ) (done : List Complete) (count micros : ℕ) (side : Side) → IsUpload u
    → KnowsUpload done (record {
      following = (turns_at x heard what u micros side).next;
      got = got;
      done = write_said rows initiate (turns_at x heard what u micros side).says.ended got count ++ done;
      count = count;
    })
upload_turns rows None heard what u initiate got done count micros side h = record { holds = upload_frame what u micros side h; same = refl }
upload_turns rows (Some crc) heard what u initiate got done count micros side h = record {
  holds = tt;
  same = ap (λ w. w ++ done) (aside_write u crc _ (inr (ap is_download h)));
}

upload_turn : (rows : Rows) (micros : ℕ) (side : Side) (frame : List ℕ) (heard : Bool) (t : Transfer) (got : List ℕ) (done : List Complete) (count : ℕ) (reading : Reading) → IsUpload t
    → KnowsUpload done (record {
      following = (turns heard t (turn_of t reading frame) micros side).next;
      got = data_with got (turn_of t reading frame).takes;
      done =
          write_said rows (initiated_by (Some t)) (turns heard t (turn_of t reading frame) micros side).says.ended (data_with got (turn_of t reading frame).takes) (suc count)
          ++ done;
      count = suc count;
    })
upload_turn rows micros side frame heard t got done count reading h =
    let turn = turn_of t reading frame in
    upload_turns rows (confirmed_with turn.transfer.stage) heard turn.what (after t turn) (initiated_by (Some t)) (data_with got turn.takes) done (suc count) micros side
    ((keeps t reading frame).direction ∙ h)

pub upload_reads : (rows : Rows) (micros : ℕ) (side : Side) (frame : List ℕ) (heard : Bool) (current : Option Transfer) (got : List ℕ) (done : List Complete) (count : ℕ) (reading : Reading)
    → IfSome current IsUpload → is_begin reading ≡ false
    → KnowsUpload done (read_as rows micros side frame (record { following = record { heard = heard; transfer = current }; got = got; done = done; count = count }) reading)
upload_reads rows micros side frame heard current got done count (Begin new) h n = absurd (false≢true (sym n))
upload_reads rows micros side frame heard None got done count _ h n = record { holds = tt; same = refl }
upload_reads rows micros side frame heard (Some t) got done count (Abort code) h n = record {
  holds = tt;
  same = ap (λ w. w ++ done) (no_write (is_download t.direction) _ (abort_no_write side (not_followed_by side t frame) code _));
}
upload_reads rows micros side frame heard (Some t) got done count (Segment segment) h n = upload_turn rows micros side frame heard t got done count (Segment segment) h
upload_reads rows micros side frame heard (Some t) got done count (Request request) h n = upload_turn rows micros side frame heard t got done count (Request request) h
upload_reads rows micros side frame heard (Some t) got done count (Response response) h n = upload_turn rows micros side frame heard t got done count (Response response) h
upload_reads rows micros side frame heard (Some t) got done count Nothing h n = upload_turn rows micros side frame heard t got done count Nothing h

-- whatever the server answers
pub upload_answers : (rows : Rows) (stamp : ℕ → ℕ) (answers : List Answer) (done : List Complete) (v : View) → KnowsUpload done v → KnowsUpload done (hears_answers rows stamp answers v)
upload_answers rows stamp [] done v h = h
upload_answers rows stamp (answer ∷ later) done v h =
    let frame = answer_bytes answer in
    let step = upload_reads rows (stamp v.count) Server frame v.following.heard v.following.transfer v.got v.done v.count (reading_of v.following.transfer Server (stamp v.count) frame) h.holds (server_no_begin v.following.transfer (stamp v.count) frame) in
    upload_answers rows stamp later done (hears rows stamp Server frame v) (record { holds = step.holds; same = step.same ∙ h.same })

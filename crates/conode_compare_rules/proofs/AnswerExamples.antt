-- What is found of answers while the device is stopped, and by the client's confirmation of a block upload, computed from the definitions.
use Rattle.std.proofs.Common.{◌≡◌, ℕ, Bool, true, false, List, [], ◌∷◌, map, Option, Some, None, refl}
use Rattle.std.specs.Prelude.{pos}
use Rattle.co_frame.specs.FrameContent.{FrameContent}
use Rattle.co_frame.specs.declared.nmt.NmtService.TheVariants.{Stop}
use Rattle.co_profile.specs.declared.access.Access.TheVariants.{Rw, Constant}
use Rattle.co_sheet.specs.Limits.{absent, number}
use Rattle.co_value.specs.declared.data_type.DataType.TheVariants.{Unsigned32, VisibleString}
use Rattle.conode_explain_transfers.specs.declared.ended.Ending.TheVariants.{Aborted, Done}
use Rattle.conode_explain_transfers.specs.declared.kinds.Direction.TheVariants.{Download, Upload}
use Rattle.conode_explain_transfers.specs.declared.kinds.Protocol.{Protocol}
use Rattle.conode_explain_transfers.specs.declared.kinds.Protocol.TheVariants.{Expedited, Segmented, Block}
use Rattle.conode_explain_transfers.specs.declared.kinds.Side.TheVariants.{Server}
use Rattle.conode_explain_transfers.specs.declared.kinds.What.TheVariants.{Part}
use Rattle.conode_compare_transfers.specs.declared.breach.Breach.TheVariants.{Early, Toggle}
use Rattle.conode_compare_transfers.specs.declared.dialogue.Exchange.{Exchange}
use Rattle.conode_compare_transfers.specs.declared.newest.Newest.TheVariants.{AllAcknowledged, Answer, Request}
use Rattle.conode_compare_transfers.specs.Dialogues.{comes_in_turn}
use Rattle.conode_compare_transfers.specs.NewestFrames.{newest_after, newest_with}
use Rattle.conode_compare_values.specs.declared.mismatch.Mismatch.TheVariants.{BeyondRoom, ValueConst, ValueLength}
use Rattle.conode_compare_values.specs.SheetValues.{mismatch_at, row_mismatch, value_mismatch}
use Rattle.conode_compare_values.specs.HeldNumbers.{held_mismatch, nothing_written}
use Rattle.conode_compare_nmt.specs.declared.finding.Finding.{Finding}
use Rattle.conode_compare_nmt.specs.declared.finding.Finding.TheVariants.{AnswerStopped, Transfer, Value}
use Rattle.conode_compare_nmt.specs.declared.finding.NmtState.TheVariants.{Unknown, PreOperational, Operational, Stopped}
use Rattle.conode_compare_nmt.specs.declared.leaving.Leaving.TheVariants.{Nothing}
use Rattle.conode_compare_nmt.specs.declared.limits.Subject.{Subject}
use Rattle.conode_compare_nmt.specs.declared.nmt.Nmt.{Nmt}
use Rattle.conode_compare_rules.specs.Answers.{answer_finding, confirmed_finding, ended_finding, held_finding, is_exact, stopped_finding, what_finding}
use Rattle.conode_compare_nmt.specs.EntriesInForce.{facts_of}
use Rattle.conode_compare_rules.specs.Channels.{follows_by_answer, is_judged}
use Rattle.conode_compare_nmt.specs.States.{is_settled, nothing_commanded}
use Rattle.conode_compare_nmt.proofs.Examples.{limits, key, row}

-- ---- answers while stopped

abbrev stopped_at : ℕ → Nmt
stopped_at micros = record {
  state = Stopped;
  commanded = Some (record { service = Stop; micros = micros });
  reset = None;
  several = false;
  booted = None;
  due = Stopped;
  followed = None;
  changed = None;
  strayed = Unknown;
  mixed = false;
  odd = None;
  leaving = Nothing;
}

abbrev answered_in : Bool → Exchange
answered_in certain = record {
  heard = record { what = Part; of = None; ended = None };
  asked = Some (record { key = key 0x1000 0; micros = 110001; writes = false; switches = false });
  owed = true;
  certain = certain;
  breach = Some (Toggle (key 0x1000 0));
  awaited = None;
}

answered_stopped : stopped_finding limits 0 (stopped_at 100000) (answered_in true) ≡ Some (AnswerStopped (key 0x1000 0))
unfolding stopped_finding is_settled
answered_stopped = refl

-- requested within the tolerance after the command
requested_just_now : stopped_finding limits 0 (stopped_at 100001) (answered_in true) ≡ None
unfolding stopped_finding is_settled
requested_just_now = refl

-- the device had stopped by itself just then
stopped_just_now : map (λ changed. stopped_finding limits 0 (record (stopped_at 0) { changed = Some changed }) (answered_in true)) (100000 ∷ 100001 ∷ []) ≡ Some (AnswerStopped (key 0x1000 0)) ∷ None ∷ []
unfolding stopped_finding is_settled
stopped_just_now = refl

-- it may have left stopped by the newest command, whatever the heartbeat showed since
leaves_stopped : map (λ due. stopped_finding limits 0 (record (stopped_at 0) { due = due }) (answered_in true)) (Operational ∷ PreOperational ∷ []) ≡ None ∷ None ∷ []
unfolding stopped_finding is_settled
leaves_stopped = refl

-- the answer shows that it has, once the tolerance after the command and after the heartbeat that showed stopped was over
follows : map (λ due. follows_by_answer limits 0 (record (stopped_at 100000) { due = due }) (answered_in true)) (Operational ∷ PreOperational ∷ Stopped ∷ Unknown ∷ []) ≡ true ∷ true ∷ false ∷ false ∷ []
unfolding is_settled
follows = refl

follows_perhaps : map (λ changed. follows_by_answer limits 0 (record (stopped_at 0) { due = PreOperational; changed = Some changed }) (answered_in true)) (100000 ∷ 100001 ∷ []) ≡ true ∷ false ∷ []
unfolding is_settled
follows_perhaps = refl

follows_command : map (λ micros. follows_by_answer limits 0 (record (stopped_at micros) { due = PreOperational }) (answered_in true)) (100000 ∷ 100001 ∷ []) ≡ true ∷ false ∷ []
unfolding is_settled
follows_command = refl

uncertain_answer : follows_by_answer limits 0 (record (stopped_at 0) { due = PreOperational }) (answered_in false) ≡ false
uncertain_answer = refl

-- a request that came before may be answered
perhaps_earlier : stopped_finding limits 0 (stopped_at 100000) (answered_in false) ≡ None
unfolding stopped_finding is_settled
perhaps_earlier = refl

answered_operational : stopped_finding limits 0 (record (stopped_at 100000) { state = Operational }) (answered_in true) ≡ None
unfolding stopped_finding is_settled
answered_operational = refl

-- ---- which answers are judged

abbrev answer : ℕ → FrameContent
answer first = record { id = 0x585; bytes = first ∷ 0 ∷ 0 ∷ 0 ∷ 0 ∷ 0 ∷ 0 ∷ 0 ∷ [] }

abbrev later_answer : Exchange
later_answer = record (answered_in true) { asked = None }

-- that of the initiate request; a confirmation in its turn; another one, and one of a transfer that isn't judged
judged_answers : is_judged None (answered_in true) (answer 0x60) ∷ map (λ newest. is_judged newest later_answer (answer 0x20)) (Some Request ∷ Some Answer ∷ None ∷ [])
    ≡ true ∷ true ∷ false ∷ false ∷ []
unfolding comes_in_turn newest_after newest_with
judged_answers = refl

-- an earlier request may be answered; the end of a block upload, which counts with the client's confirmation
unjudged_answers : is_judged (Some Request) (answered_in false) (answer 0x60) ∷ is_judged (Some AllAcknowledged) later_answer (answer 0xC1) ∷ [] ≡ false ∷ false ∷ []
unfolding comes_in_turn newest_after newest_with
unjudged_answers = refl

-- ---- by the client's confirmation

abbrev device : Subject
device = record {
  node = 5;
  limits = limits;
  facts = facts_of [] 5 false;
  held = record { entries = record { items = [] } };
  rooms = record { strings = Some 16; domains = None };
}

-- end SDO block upload, ccs = 5, cs = 1
abbrev confirmation : FrameContent
confirmation = record { id = 0x605; bytes = 0xA1 ∷ 0 ∷ 0 ∷ 0 ∷ 0 ∷ 0 ∷ 0 ∷ 0 ∷ [] }

-- a block upload of 1000:00, which is 191h in the sheet
abbrev uploaded_in_blocks : ℕ → List ℕ → Exchange
uploaded_in_blocks count bytes = record {
  heard = record {
    what = Part;
    of = Some (key 0x1000 0);
    ended = Some (record {
      key = key 0x1000 0;
      direction = Upload;
      protocol = Block;
      bytes = count;
      first = record { items = bytes };
      frames = 7;
      begun = 1;
      newest = 2;
      end = 3;
      ending = Done true;
      fault = None;
    });
  };
  asked = None;
  owed = false;
  certain = true;
  breach = None;
  awaited = None;
}

abbrev confirmed_value : ℕ → List ℕ → Option Finding
confirmed_value count bytes = confirmed_finding device (row 0x1000 0 Unsigned32 Constant (number (pos 0x191)) ∷ []) nothing_written (uploaded_in_blocks count bytes) confirmation

confirmed_values : confirmed_value 4 (0x91 ∷ 1 ∷ 0 ∷ 0 ∷ []) ∷ confirmed_value 4 (0x92 ∷ 1 ∷ 0 ∷ 0 ∷ []) ∷ confirmed_value 5 (0x91 ∷ 1 ∷ 0 ∷ 0 ∷ 0 ∷ []) ∷ []
    ≡ None ∷ Some (Value (ValueConst (key 0x1000 0) 0x192 0x191)) ∷ Some (Value (ValueLength (key 0x1000 0) 5 4)) ∷ []
unfolding confirmed_finding held_finding held_mismatch value_mismatch row_mismatch mismatch_at facts_of
confirmed_values = refl

-- a last segment with n = 0 and 1; expedited with s = 0 and 1; in blocks
abbrev exact_by : Protocol → ℕ → Bool
exact_by protocol first = is_exact protocol (record { id = 0x585; bytes = first ∷ 0 ∷ 0 ∷ 0 ∷ 0 ∷ 0 ∷ 0 ∷ 0 ∷ [] })

exact_ends : exact_by Segmented 0x11 ∷ exact_by Segmented 0x13 ∷ exact_by Segmented 0x0F ∷ exact_by Expedited 0x42 ∷ exact_by Expedited 0x4F ∷ exact_by Block 0xA1 ∷ []
    ≡ false ∷ true ∷ true ∷ false ∷ true ∷ true ∷ []
exact_ends = refl

confirmed : confirmed_finding device [] nothing_written (answered_in true) confirmation ≡ Some (Transfer (Toggle (key 0x1000 0)))
unfolding confirmed_finding
confirmed = refl

confirmed_in_doubt : confirmed_finding device [] nothing_written (answered_in false) confirmation ≡ None
unfolding confirmed_finding
confirmed_in_doubt = refl

-- ---- the room that is given

-- the confirmation of the last segment of a download, scs = 1
abbrev segment_confirmed : FrameContent
segment_confirmed = record { id = 0x585; bytes = 0x20 ∷ 0 ∷ 0 ∷ 0 ∷ 0 ∷ 0 ∷ 0 ∷ 0 ∷ [] }

abbrev written_in_segments : ℕ → Option Finding
written_in_segments count = ended_finding device (row 0x2005 0 VisibleString Rw absent ∷ []) segment_confirmed (Some (record {
  key = key 0x2005 0;
  direction = Download;
  protocol = Segmented;
  bytes = count;
  first = record { items = [] };
  frames = 8;
  begun = 1;
  newest = 2;
  end = 3;
  ending = Done false;
  fault = None;
}))

beyond_the_room : written_in_segments 16 ∷ written_in_segments 17 ∷ [] ≡ None ∷ Some (Value (BeyondRoom (key 0x2005 0) 17 16)) ∷ []
unfolding row_mismatch mismatch_at facts_of
beyond_the_room = refl

-- ---- a server that times out

-- it aborts a transfer of 2000:01 as timed out, 979,999 µs after the client's last frame
abbrev gives_up : Bool → Exchange
gives_up certain = record {
  heard = record {
    what = Part;
    of = None;
    ended = Some (record {
      key = key 0x2000 1;
      direction = Upload;
      protocol = Segmented;
      bytes = 7;
      first = record { items = [] };
      frames = 5;
      begun = 1;
      newest = 2;
      end = 3;
      ending = Aborted Server (record { 0 = 0x05040000 });
      fault = None;
    });
  };
  asked = None;
  owed = false;
  certain = certain;
  breach = None;
  awaited = Some 979999;
}

abbrev abort_frame : FrameContent
abort_frame = record { id = 0x585; bytes = 0x80 ∷ 0 ∷ 0x20 ∷ 1 ∷ 0 ∷ 0 ∷ 4 ∷ 5 ∷ [] }

-- after 1000 ms, or that isn't known
abbrev given_up : Option ℕ → Bool → Option Finding
given_up time certain = answer_finding (record device { limits = record limits { time = time } }) [] 3 nothing_commanded (gives_up certain) abort_frame

given_up_early : given_up (Some 1000) true ∷ given_up None true ∷ given_up (Some 1000) false ∷ []
    ≡ Some (Transfer (Early (key 0x2000 1) 979999 1000)) ∷ None ∷ None ∷ []
unfolding answer_finding what_finding mismatch_at row_mismatch facts_of
given_up_early = refl

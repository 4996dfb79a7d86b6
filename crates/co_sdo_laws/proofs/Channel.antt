-- A channel: what one more event makes of it, what it answers and sets, and channels that have a past.
use Rattle.std.proofs.Common.{◌≡◌, ℕ, List, ◌∷◌, length, Option, Some, None, refl, ap, ◌∙◌, subst, Bool, true, false, [], sym, arith, ◌==◌, not, map}
use Rattle.co_dict.specs.Rows.{Rows, Contents, fits, takes, written}
use Rattle.co_dict.specs.Stores.{Description, IsDictionary, IsFilled}
use Rattle.co_sdo.specs.Log.{Exchanged, Ticked, Log, Answer, answer_bytes, TimedOut}
use Rattle.co_sdo.specs.OpenTransfers.{Since, open_since, and_event, since_initiate, open_transfer, Transfer}
use Rattle.co_sdo.specs.Opened.{OpenTransfer, opened, opened_after, opened_by}
use Rattle.co_sdo.specs.Replies.{reply_to, answers_to, aborted, time_out_reply}
use Rattle.co_sdo.specs.Completed.{set_by, contents_with}
use Rattle.co_sdo.specs.Steps.{opened_next, set_next}
use Rattle.co_sdo.specs.Standing.{is_under_way, Standing, Stands, is_transfer_after}
use Rattle.co_sdo.proofs.Initiations.{exchange}
use Rattle.co_sdo.proofs.TakeLemmas.{steps_to, set_is}
use Rattle.std.specs.Prelude.{if◌then◌else◌, is_some, nat_lt, nat_le, ◌||◌, is_none, option_and_then, unwrap_or}
use Rattle.std.specs.Option.{option_map_or}
use Rattle.co_value.specs.declared.key.Key.{Key}
use Rattle.co_value.specs.Keys.{same_key, same_key-is}
use Rattle.co_value.specs.Numbers.{AreBytes}
use Rattle.co_dict.specs.declared.row.Row.{Row}
use Rattle.co_frame.specs.SdoRequests.{request_in}
use Rattle.co_frame.specs.declared.sdo_request.SdoRequest.{SdoRequest}
use Rattle.co_frame.specs.declared.sdo_request.SdoRequest.TheVariants.{DownloadInitiate, Upload, BlockUploadInitiate, BlockDownloadInitiate}
use Rattle.co_sdo_laws.specs.World.{Setup}
use Rattle.std.proofs.lemmas.Bool.Decides.{nat_tests}
use Rattle.co_value.specs.Types.{width_of}
use Rattle.co_dict.specs.Refusals.{refused_if, first_of, first_refusal}
use Rattle.co_dict.specs.Objects.{has_object}
use Rattle.co_dict.specs.OwnRules.{own_refusal}
use Rattle.co_dict.specs.WriteRefusals.{is_read_only, is_sdo_parameter, size_refusal, total_refusal, limit_refusal}
use Rattle.co_sdo.specs.Refused.{completion_refusal}
use Rattle.co_sdo.proofs.RefusalLemmas.{first_none, second_none, not_refused}
use Rattle.co_sdo_laws.proofs.Turns.{Takes}
use Rattle.co_sdo_laws.proofs.Failures.{Refuses, abort_read}

-- this is open after a log
pub record Serves (rows : Rows) (log : Log) (current : Option OpenTransfer) : Type 0 where
  pub opens : opened_after log ≡ current
  pub under_way : is_under_way rows (open_transfer log)

-- a channel that has nothing open
pub serves_first : (rows : Rows) (log : Log) → open_transfer log ≡ None → Serves rows log None
serves_first rows log idle = record { opens = ap opened idle; under_way = rw idle tt }

-- what one request makes of it
pub record Served (d : Description) (contents : Contents) (log : Log) (current : Option OpenTransfer) (frame : List ℕ) : Type 0 where
  pub replies : reply_to d contents log frame ≡ answers_to d contents current frame
  pub sets : set_by d contents log frame ≡ set_next d contents current frame
  pub next : Serves d.rows (Exchanged (exchange frame contents (reply_to d contents log frame)) ∷ log) (opened_next d contents current frame)

pub served : (d : Description) (contents : Contents) (log : Log) (current : Option OpenTransfer) (frame : List ℕ) → Serves d.rows log current → IsDictionary d contents → length frame ≡ 8
    → Served d contents log current frame
served d contents log current frame s lawful n =
    let step = steps_to d contents log frame s.under_way lawful n in
    record {
      replies = ap (λ c. answers_to d contents c frame) s.opens;
      sets = set_is d contents log frame s.under_way ∙ ap (λ c. set_next d contents c frame) s.opens;
      next = record { opens = step.opens ∙ ap (λ c. opened_next d contents c frame) s.opens; under_way = step.under_way };
    }

tick_since : (s : Option Since) → open_since (and_event Ticked s) ≡ open_since s
tick_since None = refl
tick_since (Some s) = refl

pub tick_opens : (log : Log) → open_transfer (Ticked ∷ log) ≡ open_transfer log
tick_opens log = tick_since (since_initiate log)

-- a tick changes nothing of what is open
pub serves_ticked : (rows : Rows) (log : Log) (current : Option OpenTransfer) → Serves rows log current → Serves rows (Ticked ∷ log) current
serves_ticked rows log current s = record {
  opens = ap opened (tick_opens log) ∙ s.opens;
  under_way = rw (tick_opens log) s.under_way;
}

pub moved : (rows : Rows) (log : Log) (a b : Option OpenTransfer) → a ≡ b → Serves rows log a → Serves rows log b
moved rows log a b e h = subst (Serves rows log) e h

-- ---- idle channels

opens_one : (rows : Rows) (begin : Option SdoRequest) (t : Transfer) → is_transfer_after rows begin t → opened_by begin t ≡ None → ⊥
opens_one rows (Some (DownloadInitiate key size)) t u e = cc
opens_one rows (Some (Upload key)) t u e = cc
opens_one rows (Some (BlockUploadInitiate key size threshold)) t u e = cc
opens_one rows (Some (BlockDownloadInitiate key size)) t u e = cc
opens_one rows _ t u e = u

none_open : (rows : Rows) (t : Option Transfer) → is_under_way rows t → opened t ≡ None → t ≡ None
none_open rows None u e = refl
none_open rows (Some t) u e = absurd (opens_one rows (request_in t.begin.request) t u e)

-- a channel with nothing open, after whatever it received and sent before, is one that an undisturbed transfer may begin with
pub idle : (d : Description) (channel : Standing) (log : Log) → Stands d channel log → channel.current ≡ None → open_transfer log ≡ None
idle d channel log h e = none_open d.rows (open_transfer log) h.under_way (sym h.current ∙ e)

pub unopened : (rows : Rows) (log : Log) → Serves rows log None → open_transfer log ≡ None
unopened rows log h = none_open rows (open_transfer log) h.under_way h.opens

-- ---- what a transfer before has written

some_row : (row : Option Row) (size : ℕ) → option_map_or (λ r. fits r size) row false ≡ true → true ≡ is_some row
some_row None size h = sym h
some_row (Some r) size h = refl

-- after a write of bytes that the entry takes, each entry still has bytes that fit it
pub is_filled : (rows : Rows) (contents : Contents) (key : Key) (bytes : List ℕ) → IsFilled rows contents → takes rows key (length bytes) ≡ true → AreBytes bytes → IsFilled rows (written contents key bytes)
is_filled rows contents key bytes h room small = record {
  present = λ other. present other (same_key other key) refl;
  fitting = λ other row held r c. fitting other row held r (same_key other key) refl c;
  bytes = λ other held c. all_small other held (same_key other key) c;
}
  where
    present : (other : Key) (same : Bool) → same_key other key ≡ same → is_some (if same then Some bytes else contents other) ≡ is_some (rows other)
    present other true e = some_row (rows key) (length bytes) room ∙ ap (λ k. is_some (rows k)) (sym (same_key-is other key e))
    present other false e = h.present other

    fitting : (other : Key) (row : Row) (held : List ℕ) → rows other ≡ Some row → (same : Bool) → same_key other key ≡ same → (if same then Some bytes else contents other) ≡ Some held → fits row (length held) ≡ true
    fitting other row held r true e c =
        let is : rows key ≡ Some row = ap rows (sym (same_key-is other key e)) ∙ r in
        let is_held : held ≡ bytes = cc in
        let fit : option_map_or (λ r. fits r (length bytes)) (Some row) false ≡ true = ap (λ o. option_map_or (λ r. fits r (length bytes)) o false) (sym is) ∙ room in
        rw is_held fit
    fitting other row held r false e c = h.fitting other row held r c

    all_small : (other : Key) (held : List ℕ) (same : Bool) → (if same then Some bytes else contents other) ≡ Some held → AreBytes held
    all_small other held true c = let is : bytes ≡ held = cc in subst AreBytes is small
    all_small other held false c = h.bytes other held c

-- ---- nothing is open, or this

pub record IsServing (s : Setup) (Lawful : Contents → Type 0) (current : Option OpenTransfer) (log : Log) (contents : Contents) : Type 0 where
  pub serves : Serves s.description.rows log current
  pub lawful : Lawful contents

pub serving_ticks : (s : Setup) (Lawful : Contents → Type 0) (current : Option OpenTransfer) (log : Log) (contents : Contents) → IsServing s Lawful current log contents → IsServing s Lawful current (Ticked ∷ log) contents
serving_ticks s Lawful current log contents h = record { serves = serves_ticked _ _ _ h.serves; lawful = h.lawful }

ended_since : (answers : List Answer) (x : Option Since) → open_since (and_event (TimedOut answers) x) ≡ None
ended_since answers None = refl
ended_since answers (Some x) = refl

pub ended : (log : Log) (answers : List Answer) → open_transfer (TimedOut answers ∷ log) ≡ None
ended log answers = ended_since answers (since_initiate log)

pub serving_ends : (s : Setup) (Lawful : Contents → Type 0) (current : Option OpenTransfer) (log : Log) (contents : Contents) → IsServing s Lawful current log contents
    → IsServing s Lawful None (TimedOut (time_out_reply log) ∷ log) contents
serving_ends s Lawful current log contents h = record { serves = serves_first s.description.rows (TimedOut (time_out_reply log) ∷ log) (ended log (time_out_reply log)); lawful = h.lawful }

-- ---- one request

-- what a request makes of what is open: its answers, what is open then, and the contents
abbrev pub Steps : Description → Contents → Option OpenTransfer → List ℕ
    → List Answer → Option OpenTransfer → Contents → Type 0
Steps d contents current frame answers next after = ◌≡◌ {A = List Answer × Option OpenTransfer × Contents} (
  answers_to d contents current frame,
  opened_next d contents current frame,
  contents_with contents (set_next d contents current frame),
) (answers, next, after)

-- what a request makes of a channel
pub record IsServed (s : Setup) (log : Log) (contents : Contents) (frame : List ℕ) (answers : List Answer) (next : Option OpenTransfer) (after : Contents) : Type 0 where
  pub replies : reply_to s.description contents log frame ≡ answers
  pub serves : Serves s.description.rows (Exchanged (exchange frame contents (reply_to s.description contents log frame)) ∷ log) next
  pub sets : contents_with contents (set_by s.description contents log frame) ≡ after

pub is_served : (s : Setup) (log : Log) (contents : Contents) (current : Option OpenTransfer) (frame : List ℕ) (answers : List Answer) (next : Option OpenTransfer) (after : Contents)
    → Serves s.description.rows log current → IsDictionary s.description contents → length frame ≡ 8 → Steps s.description contents current frame answers next after
    → IsServed s log contents frame answers next after
is_served s log contents current frame answers next after h lawful long step =
    let one = served s.description contents log current frame h lawful long in
    record {
      replies = one.replies ∙ ap (λ x. x.0) step;
      serves = moved _ _ _ _ (ap (λ x. x.1) step) one.next;
      sets = ap (contents_with contents) one.sets ∙ ap (λ x. x.2) step;
    }

pub takes_it : (s : Setup) (log : Log) (contents : Contents) (frame : List ℕ) (answer : Answer) (next : Option OpenTransfer) (after : Contents) (Next : Log → Contents → Type 0)
    → IsServed s log contents frame (answer ∷ []) next after
    → ((longer : Log) (set : Contents) → Serves s.description.rows longer next → set ≡ after → Next longer set)
    → Takes s log contents frame (answer_bytes answer) Next
takes_it s log contents frame answer next after Next h holds = record {
  replies = ap (map answer_bytes) h.replies;
  next = holds _ _ h.serves h.sets;
}

-- an abort, and nothing is open or set
pub refuses_it : (s : Setup) (Lawful : Contents → Type 0) (log : Log) (contents : Contents) (frame : List ℕ) (key : Key) (code : ℕ)
    → Lawful contents → IsServed s log contents frame (aborted key code) None contents → Refuses s log contents frame (IsServing s Lawful None)
refuses_it s Lawful log contents frame key code lawful h = record {
  answer = _;
  is_abort = abort_read key code;
  takes = record {
    replies = ap (map answer_bytes) h.replies;
    next = record { serves = h.serves; lawful = subst Lawful (sym h.sets) lawful };
  };
  same = h.sets;
}

-- ---- what was written fits

fits_row : (row : Row) (size : ℕ) (width : Option ℕ) → ((w : ℕ) → width ≡ Some w → row.capacity ≡ w) → nat_lt row.capacity size ≡ false → nat_lt size (unwrap_or width 0) ≡ false
    → option_map_or (λ w. size == w) width (nat_le size row.capacity) ≡ true
fits_row row size None is above below = grind (arith, nat_tests)
fits_row row size (Some w) is above below = let e : row.capacity ≡ w = is w refl in grind (arith, nat_tests)

by_row : (row : Option Row) (found : Bool) (indicated : Option ℕ) (size : ℕ) (a b : Row → Option ℕ) (rest : Row → List (Option ℕ)) (c1 c2 : ℕ)
    → ((r : Row) (w : ℕ) → row ≡ Some r → width_of r.data_type ≡ Some w → r.capacity ≡ w)
    → first_of (first_refusal (refused_if (not found) c1 ∷ refused_if (is_none row) c2 ∷ []))
    (option_and_then (λ r. first_refusal (a r ∷ b r ∷ option_and_then (λ n. total_refusal n size) indicated ∷ first_refusal (size_refusal r size ∷ rest r) ∷ [])) row) ≡ None
    → option_map_or (λ r. fits r size) row false ≡ true
by_row None true indicated size a b rest c1 c2 is h = cc
by_row None false indicated size a b rest c1 c2 is h = cc
by_row (Some r) false indicated size a b rest c1 c2 is h = cc
by_row (Some r) true indicated size a b rest c1 c2 is h =
    let later = second_none (b r) _ (second_none (a r) _ h) in
    let value = first_none (first_refusal (size_refusal r size ∷ rest r)) None (second_none (option_and_then (λ n. total_refusal n size) indicated) _ later) in
    let fitting : size_refusal r size ≡ None = first_none (size_refusal r size) (first_refusal (rest r)) value in
    let above : nat_lt r.capacity size ≡ false = not_refused _ _ (first_none _ _ fitting) in
    let below : nat_lt size (unwrap_or (width_of r.data_type) 0) ≡ false = not_refused _ 0x06070013 (first_none _ _ (second_none (refused_if (nat_lt r.capacity size) 0x06070012) _ fitting)) in
    fits_row r size (width_of r.data_type) (λ w e. is r w refl e) above below

-- bytes that aren't refused fit their entry
taken_by : (d : Description) (contents : Contents) (key : Key) (indicated : Option ℕ) (bytes : List ℕ) → IsDictionary d contents → completion_refusal d contents key indicated bytes ≡ None
    → takes d.rows key (length bytes) ≡ true
unfolding completion_refusal
taken_by d contents key indicated bytes lawful h =
    by_row (d.rows key) (has_object d.rows key.index) indicated (length bytes)
    (λ row. refused_if (is_read_only row.access || is_sdo_parameter key.index) 0x06010002) (λ row. option_and_then (size_refusal row) indicated)
    (λ row. limit_refusal row bytes ∷ own_refusal d contents key bytes ∷ []) 0x06020000 0x06090011
    (λ r w e wide. lawful.description.width key r w e wide) h

pub stays_lawful : (d : Description) (contents : Contents) (key : Key) (indicated : Option ℕ) (bytes : List ℕ) → IsDictionary d contents → AreBytes bytes
    → completion_refusal d contents key indicated bytes ≡ None → IsDictionary d (written contents key bytes)
stays_lawful d contents key indicated bytes lawful small h = record {
  description = lawful.description;
  initially = lawful.initially;
  filled = is_filled d.rows contents key bytes lawful.filled (taken_by d contents key indicated bytes lawful h) small;
}

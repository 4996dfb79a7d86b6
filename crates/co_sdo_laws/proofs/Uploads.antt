-- Uploads at once and in segments, whatever the dictionary permits and the client has room for: what the client and the channel
-- make of each frame that may come.
use Rattle.std.proofs.Common.{◌≡◌, ℕ, zero, suc, ◌+◌, ◌*◌, ◌<◌, Bool, true, false, not, List, [], ◌∷◌, length, take, Option, Some, None, refl, sym, ap, ◌∙◌, arith, length-take, ◌⊎◌, inl, inr}
use Rattle.std.specs.Prelude.{nat_le, nat_lt, if◌then◌else◌}
use Rattle.std.proofs.lemmas.Bool.Decides.{nat_tests}
use Rattle.co_value.specs.Keys.{same_key-refl}
use Rattle.co_frame.specs.declared.sdo_request.SdoRequest.TheVariants.{Upload as UploadRequest, UploadSegment as NextSegment}
use Rattle.co_frame.specs.declared.sdo_response.SdoResponse.TheVariants.{UploadInitiated, UploadSegment, UploadExpedited}
use Rattle.co_frame.specs.SdoRequests.{request_bytes}
use Rattle.co_frame.specs.SdoResponses.{response_in}
use Rattle.co_sdo_client.specs.declared.stage.Stage.TheVariants.{Begun, Upload as Receiving}
use Rattle.co_sdo_client.specs.Calls.{Request, Event as ClientEvent, Answered, answers as answers_of, Answers, since_first, with_answer}
use Rattle.co_sdo_client.specs.Segments.{is_odd, cap_of, part_after, segments_for}
use Rattle.co_sdo_client.specs.Stages.{stage_since, held_since, size_by, segments_joined}
use Rattle.co_sdo_client.specs.Verdicts.{Verdict, GoesOn, Ends, GivesUp, upload_complete, verdict, answer_verdict}
use Rattle.co_sdo_client.specs.Outcomes.{state_by}
use Rattle.co_dict.specs.Rows.{Contents}
use Rattle.co_sdo.specs.declared.stage.Stage.TheVariants.{Upload as Uploading}
use Rattle.co_sdo.specs.Refused.{reading_refusal}
use Rattle.co_sdo.specs.Log.{Answer, Response, answer_bytes}
use Rattle.co_sdo.specs.Uploads.{value_at}
use Rattle.co_sdo.specs.Opened.{OpenTransfer}
use Rattle.co_sdo.specs.Replies.{is_in_sub_block}
use Rattle.co_sdo.proofs.Continuations.{not_odd}
use Rattle.co_sdo_laws.specs.World.{Setup}
use Rattle.co_sdo_laws.specs.Undisturbed.{is_short}
use Rattle.co_sdo_laws.proofs.Frames.{upload_read, next_read, upload_initiated_read, segment_sent_read, expedited_sent_read}
use Rattle.co_sdo_laws.proofs.Segments.{same, other_toggle, joined, taken_all, part_small, not_end, is_end}
use Rattle.co_sdo_laws.proofs.Permits.{value, reads_in_segments, small_value, IsUpload, lawful_of, none≢some, not_above, below_itself, short_bytes}
use Rattle.co_sdo_laws.proofs.Client.{verdict_since}
use Rattle.co_sdo_laws.proofs.Turns.{GoesOnWith}
use Rattle.co_sdo_laws.proofs.Failures.{Fails, IsAbort, has_failed, aborted_fails, toggles_differ}
use Rattle.co_sdo_laws.proofs.StopAndWait.{Parts, IsRefused, Reacts, takes, takes_last, refuses, StopAndWait}
use Rattle.co_frame.specs.declared.sdo_request.ExpeditedData.TheVariants.{Indicated}

abbrev request : Setup → ℕ → List ℕ
request s zero = request_bytes (UploadRequest s.call.key)
request s (suc k) = request_bytes (NextSegment (is_odd k))

abbrev is_last : Setup → ℕ → Bool
is_last s k = nat_le (length (value s)) (7 * k + 7)

-- the answer to the begin: the value at once where it is short, or its size
abbrev first_reply : Setup → Bool → Answer
first_reply s true = Response (UploadExpedited s.call.key (Indicated (record { items = value s })))
first_reply s false = Response (UploadInitiated s.call.key (Some (length (value s))))

abbrev reply : Setup → Bool → ℕ → Answer
reply s short zero = first_reply s short
reply s short (suc k) = Response (UploadSegment (is_odd k) (record { items = part_after k (value s) }) (is_last s k))

abbrev answer : Setup → Bool → ℕ → List ℕ
answer s short k = answer_bytes (reply s short k)

-- how many segments follow
abbrev last : Setup → Bool → ℕ
last s short = if short then 0 else segments_for (length (value s))

abbrev open_at : Setup → ℕ → OpenTransfer
open_at s k = record { key = s.call.key; stage = Uploading k; bytes = value s }

-- the first k answers to segments, newest first
abbrev later_answers : Setup → ℕ → List (List ℕ)
later_answers s zero = []
later_answers s (suc k) = answer s false (suc k) ∷ later_answers s k

-- the first answer, and the k segments after it
abbrev since_initiate : Setup → ℕ → Answers
since_initiate s k = record { first = answer s false 0; later = later_answers s k }

-- what a client has taken that waits for answer k
abbrev taken_at : Setup → ℕ → Option Answers
taken_at s zero = None
taken_at s (suc k) = Some (since_initiate s k)

abbrev AtClient : Setup → ℕ → List ClientEvent → Type 0
AtClient s k events = since_first (answers_of events) ≡ taken_at s k

abbrev pub parts : (s : Setup) → Bool → Parts s
parts s short = record {
  last = last s short;
  value = value s;
  request = request s;
  reply = reply s short;
  open_at = open_at s;
  Lawful = λ contents. contents ≡ s.contents;
  left = λ contents. contents;
  Sound = Unit {0};
  IsSet = λ contents. Unit {0};
  Client = AtClient s;
}

-- ---- the channel

module _ (s : Setup) (p : Type 0) (m : IsUpload s p reads_in_segments) where
  begins : (short : Bool) → is_short (length (value s)) ≡ short
      → (current : Option OpenTransfer) (contents : Contents) → is_in_sub_block current ≡ false
      → contents ≡ s.contents → (refusal : Option ℕ)
      → reading_refusal s.description contents s.call.key ≡ refusal
      → Reacts s p (parts s short) 0 current contents
  begins true short current contents outside kept None e =
      let read = upload_read s.call.key m.key in
      let is : value_at contents s.call.key ≡ value s = ap (λ (c : Contents). value_at c s.call.key) kept in
      takes_last refl (rw (outside, read, e, is, short) refl) (λ sound. kept)
  begins false long current contents outside kept None e =
      let read = upload_read s.call.key m.key in
      let is : value_at contents s.call.key ≡ value s = ap (λ (c : Contents). value_at c s.call.key) kept in
      takes (omega arith) (rw (outside, read, e, is, long) refl)
  begins short n current contents outside kept (Some code) e =
      let read = upload_read s.call.key m.key in
      refuses (λ x same. none≢some _ code (m.may_read x) (ap (λ (c : Contents). reading_refusal s.description c s.call.key) (sym kept) ∙ e))
      (record { key = s.call.key; code = code; step = rw (outside, read, e) refl })

  is_long : (k : ℕ) → length (request s k) ≡ 8
  is_long zero = refl
  is_long (suc k) = refl

  goes_on : (short : Bool) (k : ℕ) (contents : Contents) → k < last s short → contents ≡ s.contents
      → (end : Bool) → is_last s k ≡ end
      → Reacts s p (parts s short) (suc k) (Some (open_at s k)) contents
  goes_on true k contents more kept end l = absurd (omega arith)
  goes_on false k contents more kept true l =
      takes_last (grind (arith, nat_tests)) (rw (next_read (is_odd k), same (is_odd k), l) refl) (λ sound. kept)
  goes_on false k contents more kept false l =
      let one : k + 1 ≡ suc k = omega arith in
      takes (grind (arith, nat_tests)) (rw (next_read (is_odd k), same (is_odd k), l, one) refl)

  refuses_idle : (short : Bool) (k : ℕ) (contents : Contents)
      → IsRefused s (parts s short) (suc k) None contents
  refuses_idle short k contents =
      record { key = record { index = 0; sub = 0 }; code = 0x05040001; step = rw (next_read (is_odd k)) refl }

  refuses_again : (short : Bool) (k : ℕ) (contents : Contents)
      → IsRefused s (parts s short) (suc k) (Some (open_at s (suc k))) contents
  refuses_again short k contents =
      record { key = s.call.key; code = 0x05030000; step = rw (next_read (is_odd k), not_odd k, other_toggle (is_odd k)) refl }

  -- ---- the client

  later_count : (k : ℕ) → length (later_answers s k) ≡ k
  later_count zero = refl
  later_count (suc k) = ap suc (later_count k)

  segment_is_read : (k : ℕ)
      → response_in (answer s false (suc k)) ≡ Some (UploadSegment (is_odd k) (record { items = part_after k (value s) }) (is_last s k))
  segment_is_read k = segment_sent_read (is_odd k) (part_after k (value s)) (is_last s k) (part_small k (value s))

  later_joined : (k : ℕ) → segments_joined (later_answers s k) ≡ take (7 * k) (value s)
  later_joined zero = refl
  later_joined (suc k) = rw (later_joined k, segment_is_read k) (joined (value s) k)

  initiate_read : response_in (answer s false 0) ≡ Some (UploadInitiated s.call.key (Some (length (value s))))
  initiate_read =
      let small = small_value s m.dictionary in upload_initiated_read s.call.key (length (value s)) m.key (omega arith)

  -- what answer k makes of a client that waits for it, where there is room for what it holds then, or not
  abbrev given : Option Answers → List ℕ → Verdict
  given a frame = answer_verdict s.call (stage_since s.call a) (held_since s.call a) frame

  abbrev held_with : ℕ → ℕ
  held_with zero = length (value s)
  held_with (suc k) = length (take (7 * suc k) (value s))

  segment_taken : (k : ℕ) (above : Bool) → nat_lt (cap_of s.call.job) (held_with (suc k)) ≡ above
      → given (taken_at s (suc k)) (answer s false (suc k)) ≡ (if above then GivesUp 0x05040005
      else (if is_last s k then upload_complete (Some (length (value s))) (take (7 * suc k) (value s))
      else GoesOn (Request (NextSegment (not (is_odd k))) ∷ [])))
  segment_taken k above e =
      let read = initiate_read in
      let part = segment_is_read k in
      let held = later_joined k in
      let count = later_count k in
      rw (m.transfer, read, part, held, count, same (is_odd k), joined (value s) k, e) refl

  no_room : (k : ℕ) → nat_lt (cap_of s.call.job) (held_with k) ≡ true
      → has_failed (state_by (given (taken_at s k) (answer s false k))) ≡ true
  no_room zero above = rw (initiate_read, m.transfer, same_key-refl s.call.key, above) refl
  no_room (suc k) above = rw (segment_taken k true above) refl

  more : (k : ℕ) → k < last s false → nat_lt (cap_of s.call.job) (held_with k) ≡ false
      → given (taken_at s k) (answer s false k) ≡ GoesOn (Request (NextSegment (is_odd k)) ∷ [])
  more zero l room = rw (initiate_read, m.transfer, same_key-refl s.call.key, room) refl
  more (suc k) l room = rw (segment_taken k false room, not_end k (length (value s)) l, not_odd k) refl

  all : (k : ℕ) → k ≡ last s false → nat_lt (cap_of s.call.job) (held_with k) ≡ false
      → given (taken_at s k) (answer s false k) ≡ Ends [] (value s)
  all zero l room = absurd (omega arith)
  all (suc k) l room =
      let e = is_end k (length (value s)) l in
      rw (segment_taken k false room, e, taken_all (value s) k e, below_itself (length (value s))) refl

  -- the answer before it
  stale : (k : ℕ) → has_failed (state_by (given (taken_at s (suc k)) (answer s false k))) ≡ true
  stale zero = rw (m.transfer, initiate_read) refl
  stale (suc k) = rw (m.transfer, initiate_read, later_count k, segment_is_read k, toggles_differ k) refl

  fails_since : (events : List ClientEvent) (frame : List ℕ) (a : Option Answers)
      → since_first (answers_of events) ≡ a → has_failed (state_by (given a frame)) ≡ true
      → Fails s events frame
  fails_since events frame a h g = ap (λ (v : Verdict). has_failed (state_by v)) (verdict_since s.call events frame a h) ∙ g

  client_next : (k : ℕ) (events : List ClientEvent) → AtClient s k events
      → AtClient s (suc k) (Answered (answer s false k) ∷ events)
  client_next zero events h = ap (λ (a : Option Answers). Some (with_answer (answer s false 0) a)) h
  client_next (suc k) events h = ap (λ (a : Option Answers). Some (with_answer (answer s false (suc k)) a)) h

  -- where it is permitted there is room
  has_room : (k : ℕ) → nat_lt (cap_of s.call.job) (held_with k) ≡ true → p → ⊥
  has_room zero above x = not_above (cap_of s.call.job) _ (m.fits x) above
  has_room (suc k) above x =
      not_above (cap_of s.call.job) (held_with (suc k)) (let f = m.fits x in let n = length-take (7 * suc k) (value s) in omega arith) above

  client_goes_on : (short : Bool) (k : ℕ) (events : List ClientEvent) → k < last s short
      → AtClient s k events → (above : Bool) → nat_lt (cap_of s.call.job) (held_with k) ≡ above
      → GoesOnWith s events (answer s short k) (request s (suc k)) (AtClient s (suc k)) ⊎ ((p → ⊥) × Fails s events (answer s short k))
  client_goes_on true k events l h above e = absurd (omega arith)
  client_goes_on false k events l h true e =
      inr (has_room k e, fails_since events (answer s false k) (taken_at s k) h (no_room k e))
  client_goes_on false k events l h false e = inl (record {
    message = Request (NextSegment (is_odd k));
    goes_on = verdict_since s.call events (answer s false k) (taken_at s k) h ∙ more k l e;
    asks = refl;
    next = client_next k events h;
  })

  client_ends : (short : Bool) → is_short (length (value s)) ≡ short
      → (k : ℕ) (events : List ClientEvent) → k ≡ last s short → AtClient s k events
      → (above : Bool) → nat_lt (cap_of s.call.job) (held_with k) ≡ above
      → (verdict s.call events (Answered (answer s short k)) ≡ Ends [] (value s)) ⊎ ((p → ⊥) × Fails s events (answer s short k))
  client_ends true n (suc k) events l h above e = absurd (omega arith)
  client_ends true n zero events l h true e =
      let few = short_bytes (length (value s)) n in
      inr (
        has_room 0 e,
        fails_since events (answer s true 0) None h
            (rw (expedited_sent_read s.call.key (value s) m.key few.0 few.1, m.transfer, same_key-refl s.call.key, e) refl),
      )
  client_ends true n zero events l h false e =
      let few = short_bytes (length (value s)) n in
      inl (verdict_since s.call events (answer s true 0) None h
      ∙ rw (expedited_sent_read s.call.key (value s) m.key few.0 few.1, m.transfer, same_key-refl s.call.key, e) refl)
  client_ends false n k events l h true e =
      inr (has_room k e, fails_since events (answer s false k) (taken_at s k) h (no_room k e))
  client_ends false n k events l h false e =
      inl (verdict_since s.call events (answer s false k) (taken_at s k) h ∙ all k l e)

  client_stale : (short : Bool) (k : ℕ) (events : List ClientEvent) → k < last s short
      → AtClient s (suc k) events → Fails s events (answer s short k)
  client_stale true k events l h = absurd (omega arith)
  client_stale false k events l h = fails_since events (answer s false k) (taken_at s (suc k)) h (stale k)

  abort_comes : (events : List ClientEvent) (frame : List ℕ) → IsAbort frame → Fails s events frame
  abort_comes events frame h = by (since_first (answers_of events)) refl
    where
      by : (a : Option Answers) → since_first (answers_of events) ≡ a → Fails s events frame
      by None e = fails_since events frame None e (aborted_fails s.call Begun [] (response_in frame) h)
      by (Some a) e = fails_since events frame (Some a) e
          (rw m.transfer (aborted_fails s.call (Receiving (size_by (response_in a.first)) (is_odd (length a.later))) (segments_joined a.later) (response_in frame) h))

  -- ---- the transfer

  pub stop_and_wait : (short : Bool) → is_short (length (value s)) ≡ short
      → StopAndWait s p (parts s short)
  stop_and_wait short n = record {
    first_request = rw m.transfer refl;
    first_client = refl;
    first_lawful = refl;
    idle = m.idle;
    long = is_long;
    outside = refl;
    dictionary = lawful_of s m.dictionary;
    sets = λ contents h. tt;
    begins = λ current contents outside h. begins short n current contents outside h _ refl;
    goes_on = λ k contents l h. goes_on short k contents l h _ refl;
    refuses_idle = λ k contents l. refuses_idle short k contents;
    refuses_again = λ k contents l. refuses_again short k contents;
    client_goes_on = λ k events l h. client_goes_on short k events l h _ refl;
    client_ends = λ k events l h. client_ends short n k events l h _ refl;
    client_stale = λ k events l h. client_stale short k events l h;
    client_aborted = λ k events frame h abort. abort_comes events frame abort;
    client_ticks = λ k events h. h;
  }

-- A download in segments or at once, whatever the dictionary permits: what its client and its channel make of each frame that may
-- come.
use Rattle.std.proofs.Common.{◌≡◌, ℕ, zero, suc, ◌+◌, ◌*◌, ◌<◌, ◌≤◌, Bool, true, false, cond, List, [], ◌∷◌, ◌++◌, length, map, take, Option, Some, None, refl, sym, ap, ◌∙◌, arith, length-take, inl}
use Rattle.std.specs.Prelude.{nat_lt, if◌then◌else◌}
use Rattle.std.proofs.lemmas.Bool.Decides.{nat_tests}
use Rattle.arrayvec.specs.ArrayVec.{ArrayVec}
use Rattle.co_value.specs.Keys.{same_key-refl}
use Rattle.co_value.specs.Numbers.{AreBytes}
use Rattle.co_frame.specs.declared.sdo_request.SdoRequest.TheVariants.{DownloadExpedited, DownloadInitiate, DownloadSegment}
use Rattle.co_frame.specs.declared.sdo_request.ExpeditedData.TheVariants.{Indicated}
use Rattle.co_frame.specs.declared.sdo_response.SdoResponse.TheVariants.{DownloadDone, DownloadSegmentDone}
use Rattle.co_frame.specs.SdoRequests.{request_in, request_bytes}
use Rattle.co_frame.specs.SdoResponses.{response_in}
use Rattle.co_sdo_client.specs.declared.stage.Stage.TheVariants.{Begun, Download as Sending}
use Rattle.co_sdo_client.specs.declared.mode.Mode.TheVariants.{Segmented}
use Rattle.co_sdo_client.specs.Calls.{Download as DownloadJob, message_bytes, Event as ClientEvent, Answered, answers as answers_of, since_first, with_answer}
use Rattle.co_sdo_client.specs.Segments.{is_odd, bytes_of, size_sent, transfer_of, transfer_by, part_after, is_last_after, segment_after, segments_for}
use Rattle.co_sdo_client.specs.Stages.{stage_since, held_after}
use Rattle.co_sdo_client.specs.Verdicts.{Verdict, GoesOn, Ends, verdict, answer_verdict}
use Rattle.co_sdo_client.specs.Outcomes.{state_by, asked}
use Rattle.co_dict.specs.Rows.{Contents, written}
use Rattle.co_dict.specs.Stores.{Description, IsDictionary}
use Rattle.co_sdo.specs.declared.stage.Stage.TheVariants.{Download}
use Rattle.co_sdo.specs.OpenTransfers.{open_transfer}
use Rattle.co_sdo.specs.Refused.{capacity_at, initiate_refusal, completion_refusal}
use Rattle.co_sdo.specs.Log.{Answer, Response, answer_bytes}
use Rattle.co_sdo.specs.Opened.{OpenTransfer}
use Rattle.co_sdo.specs.Replies.{is_in_sub_block, toggle_refusal, room_refusal, segment_refusal}
use Rattle.co_sdo.proofs.Continuations.{not_odd}
use Rattle.co_sdo.proofs.RefusalLemmas.{first_none, second_none}
use Rattle.co_sdo_laws.specs.World.{Setup}
use Rattle.co_sdo_laws.proofs.Frames.{expedited_read, expedited_long, begin_read, begin_long, segment_read, segment_long, done_read, segment_done_read}
use Rattle.co_sdo_laws.proofs.Segments.{same, other_toggle, joined, taken_all, part_small, not_end, is_end}
use Rattle.co_sdo_laws.proofs.Permits.{Protocol, sends_at_once, sends_in_segments, bytes, indicated, IsDownload, none≢some, entry_is}
use Rattle.co_sdo_laws.proofs.Channel.{stays_lawful}
use Rattle.co_sdo_laws.proofs.Turns.{Turns, GoesOnWith}
use Rattle.co_sdo_laws.proofs.Failures.{Fails, IsAbort, has_failed, aborted_fails, toggles_differ, later_count}
use Rattle.co_sdo_laws.proofs.StopAndWait.{Parts, IsRefused, Reacts, takes, takes_last, refuses, StopAndWait}
use Rattle.co_sdo_laws.proofs.InTurns.{turns_of}

abbrev pub request : Setup → ℕ → List ℕ
request s zero = request_bytes (DownloadInitiate s.call.key (size_sent s.call.job))
request s (suc k) = message_bytes (segment_after k (bytes_of s.call.job))

abbrev reply : Setup → ℕ → Answer
reply s zero = Response (DownloadDone s.call.key)
reply s (suc k) = Response (DownloadSegmentDone (is_odd k))

abbrev pub answer : Setup → ℕ → List ℕ
answer s k = answer_bytes (reply s k)

-- how many segments the bytes have
abbrev last : Setup → ℕ
last s = segments_for (length (bytes s))

-- at once, where this is short, or in segments
abbrev protocol : Bool → Protocol
protocol short = if short then sends_at_once else sends_in_segments

abbrev request_by : Setup → Bool → ℕ → List ℕ
request_by s true k = request_bytes (DownloadExpedited s.call.key (Indicated (record { items = bytes s })))
request_by s false k = request s k

abbrev last_by : Setup → Bool → ℕ
last_by s short = if short then 0 else last s

-- what an expedited download needs besides
pub record IsShort (s : Setup) (p : Type 0) : Type 0 where
  pub few : (1 ≤ length (bytes s)) × (length (bytes s) ≤ 4)
  pub may_complete : p → completion_refusal s.description s.contents s.call.key None (bytes s) ≡ None

abbrev pub Needs : Setup → Type 0 → Bool → Type 0
Needs s p true = IsShort s p
Needs s p false = Unit {0}

-- what is open after so many segments
abbrev open_at : Setup → ℕ → OpenTransfer
open_at s k = record { key = s.call.key; stage = Download (indicated s) (is_odd k); bytes = take (7 * k) (bytes s) }

abbrev AtClient : ℕ → List ClientEvent → Type 0
AtClient k events = length (answers_of events) ≡ k

abbrev pub parts : (s : Setup) → Bool → Parts s
parts s short = record {
  last = last_by s short;
  value = [];
  request = request_by s short;
  reply = reply s;
  open_at = open_at s;
  Lawful = IsDictionary s.description;
  left = λ contents. written contents s.call.key (bytes s);
  Sound = AreBytes (bytes s);
  IsSet = λ contents. contents s.call.key ≡ Some (bytes s);
  Client = AtClient;
}

-- ---- the channel

begins : (s : Setup) (p : Type 0) → IsDownload s p sends_in_segments → (current : Option OpenTransfer) (contents : Contents)
    → is_in_sub_block current ≡ false → (refusal : Option ℕ)
    → initiate_refusal s.description s.call.key (indicated s) ≡ refusal → Reacts s p (parts s false) 0 current contents
begins s p m current contents outside None e =
    let read = begin_read s.call.key (size_sent s.call.job) m.key in
    takes (omega arith) (rw (outside, read, e) refl)
begins s p m current contents outside (Some code) e =
    let read = begin_read s.call.key (size_sent s.call.job) m.key in
    refuses (λ x same. none≢some _ code (m.may_begin x) e)
    (record { key = s.call.key; code = code; step = rw (outside, read, e) refl })

at_once : (s : Setup) (p : Type 0) → IsDownload s p sends_at_once → IsShort s p → (current : Option OpenTransfer) (contents : Contents)
    → is_in_sub_block current ≡ false → IsDictionary s.description contents → (refusal : Option ℕ)
    → completion_refusal s.description contents s.call.key None (bytes s) ≡ refusal → Reacts s p (parts s true) 0 current contents
at_once s p m n current contents outside lawful None e =
    let read = expedited_read s.call.key (bytes s) m.key n.few.0 n.few.1 in
    takes_last refl (rw (outside, read, e) refl) (λ small. stays_lawful s.description contents s.call.key None (bytes s) lawful small e)
at_once s p m n current contents outside lawful (Some code) e =
    let read = expedited_read s.call.key (bytes s) m.key n.few.0 n.few.1 in
    refuses (λ x same. none≢some _ code (ap (λ (c : Contents). completion_refusal s.description c s.call.key None (bytes s)) same ∙ n.may_complete x) e)
    (record { key = s.call.key; code = code; step = rw (outside, read, e) refl })

begins_by : (s : Setup) (p : Type 0) (short : Bool) → IsDownload s p (protocol short) → Needs s p short → (current : Option OpenTransfer)
    (contents : Contents) → is_in_sub_block current ≡ false → IsDictionary s.description contents → Reacts s p (parts s short) 0 current contents
begins_by s p true m n current contents outside lawful = at_once s p m n current contents outside lawful _ refl
begins_by s p false m n current contents outside lawful = begins s p m current contents outside _ refl

-- segment k + 1, as it is read
abbrev part : Setup → ℕ → ArrayVec ℕ
part s k = record { items = part_after k (bytes s) }

is_read : (s : Setup) (k : ℕ) (end : Bool) → is_last_after k (bytes s) ≡ end
    → request_in (request s (suc k)) ≡ Some (DownloadSegment (is_odd k) (part s k) end)
is_read s k end e =
    segment_read (is_odd k) (part_after k (bytes s)) (is_last_after k (bytes s)) (part_small k (bytes s))
    ∙ ap (λ b. Some (DownloadSegment (is_odd k) (part s k) b)) e

is_long : (s : Setup) (p : Type 0) (short : Bool) → Needs s p short → (k : ℕ) → length (request_by s short k) ≡ 8
is_long s p true n k = expedited_long s.call.key (bytes s) n.few.1
is_long s p false n zero = begin_long s.call.key (size_sent s.call.job)
is_long s p false n (suc k) = segment_long (is_odd k) (part_after k (bytes s)) (is_last_after k (bytes s)) (part_small k (bytes s))

-- why segment k + 1 is refused after j segments
abbrev refusal_of : Setup → Contents → ℕ → ℕ → Bool → Option ℕ
refusal_of s contents j k end =
    segment_refusal s.description contents (open_at s j) (indicated s) (is_odd j) (is_odd k) (part_after k (bytes s)) end

refused : (s : Setup) (contents : Contents) (j k : ℕ) (code : ℕ) → refusal_of s contents j k (is_last_after k (bytes s)) ≡ Some code
    → IsRefused s (parts s false) (suc k) (Some (open_at s j)) contents
refused s contents j k code e = record { key = s.call.key; code = code; step = rw (is_read s k _ refl, e) refl }

has_room : (s : Setup) (p : Type 0) → IsDownload s p sends_in_segments → p → (k : ℕ)
    → nat_lt (capacity_at s.description.rows s.call.key) (length (take (7 * suc k) (bytes s))) ≡ false
has_room s p m x k = let n = length-take (7 * suc k) (bytes s) in let r = m.room x in grind (arith, nat_tests)

-- where it is permitted, the next one isn't
not_refused : (s : Setup) (p : Type 0) → IsDownload s p sends_in_segments → p → (k : ℕ) (contents : Contents) (end : Bool)
    → contents ≡ s.contents → is_last_after k (bytes s) ≡ end → refusal_of s contents k k end ≡ None
not_refused s p m x k contents true c l =
    rw (joined (bytes s) k, same (is_odd k), has_room s p m x k, c, taken_all (bytes s) k l, m.may_complete x) refl
not_refused s p m x k contents false c l = rw (joined (bytes s) k, same (is_odd k), has_room s p m x k) refl

-- a segment that isn't refused, with c: nor is the completion
completes : (d : Description) (contents : Contents) (o : OpenTransfer) (size : Option ℕ) (expected toggle : Bool) (part : List ℕ)
    → segment_refusal d contents o size expected toggle part true ≡ None
    → completion_refusal d contents o.key size (o.bytes ++ part) ≡ None
completes d contents o size expected toggle part h =
    first_none _ _ (second_none (room_refusal d.rows o.key (o.bytes ++ part)) _ (second_none (toggle_refusal toggle expected) _ h))

goes_on : (s : Setup) (p : Type 0) (short : Bool) → IsDownload s p (protocol short) → (k : ℕ) (contents : Contents) → k < last_by s short
    → IsDictionary s.description contents → (end : Bool) → is_last_after k (bytes s) ≡ end
    → (refusal : Option ℕ) → refusal_of s contents k k end ≡ refusal → Reacts s p (parts s short) (suc k) (Some (open_at s k)) contents
goes_on s p true m k contents more lawful end l refusal e = absurd (omega arith)
goes_on s p false m k contents more lawful end l (Some code) e =
    refuses (λ x c. none≢some _ code (not_refused s p m x k contents end c l) e) (refused s contents k k code (rw l e))
goes_on s p false m k contents more lawful true l None e =
    let all : take (7 * k) (bytes s) ++ part_after k (bytes s) ≡ bytes s = joined (bytes s) k ∙ taken_all (bytes s) k l in
    let free : completion_refusal s.description contents s.call.key (indicated s) (bytes s) ≡ None =
    ap (completion_refusal s.description contents s.call.key (indicated s)) (sym all)
    ∙ completes s.description contents (open_at s k) (indicated s) (is_odd k) (is_odd k) (part_after k (bytes s)) e in
    takes_last (grind (arith, nat_tests)) (rw (is_read s k true l, e, all) refl) (λ small. stays_lawful s.description contents s.call.key (indicated s) (bytes s) lawful small free)
goes_on s p false m k contents more lawful false l None e =
    takes (grind (arith, nat_tests)) (rw (is_read s k false l, e, joined (bytes s) k, not_odd k) refl)

refuses_idle : (s : Setup) (short : Bool) (k : ℕ) (contents : Contents) → k < last_by s short → IsRefused s (parts s short) (suc k) None contents
refuses_idle s true k contents more = absurd (omega arith)
refuses_idle s false k contents more =
    record { key = record { index = 0; sub = 0 }; code = 0x05040001; step = rw (is_read s k _ refl) refl }

refuses_again : (s : Setup) (short : Bool) (k : ℕ) (contents : Contents) → suc k < last_by s short
    → IsRefused s (parts s short) (suc k) (Some (open_at s (suc k))) contents
refuses_again s true k contents more = absurd (omega arith)
refuses_again s false k contents more = refused s contents (suc k) k 0x05030000 (rw (not_odd k, other_toggle (is_odd k)) refl)

-- ---- the client

-- what an answer makes of a client, by the answers that it has taken
abbrev verdict_of : Setup → List (List ℕ) → List ℕ → List ℕ → Verdict
verdict_of s xs held frame = answer_verdict s.call (stage_since s.call (since_first xs)) held frame

-- the answer to the begin is awaited, or the one before
initiate_answered : (s : Setup) (p : Type 0) → IsDownload s p sends_in_segments → (xs : List (List ℕ)) (held : List ℕ)
    → length xs ≡ 0 → verdict_of s xs held (answer s 0) ≡ GoesOn (segment_after 0 (bytes s) ∷ [])
initiate_answered s p m [] held h = rw (done_read s.call.key m.key, m.transfer, same_key-refl s.call.key) refl
initiate_answered s p m (x ∷ xs) held h = absurd (omega arith)

initiate_again : (s : Setup) (p : Type 0) → IsDownload s p sends_in_segments → (xs : List (List ℕ)) (held : List ℕ)
    → length xs ≡ 1 → has_failed (state_by (verdict_of s xs held (answer s 0))) ≡ true
initiate_again s p m [] held h = absurd (omega arith)
initiate_again s p m (x ∷ xs) held h = rw (m.transfer, done_read s.call.key m.key) refl

-- the answer to a segment
segment_answered : (s : Setup) (p : Type 0) → IsDownload s p sends_in_segments → (xs : List (List ℕ)) (k : ℕ) (held : List ℕ)
    (last : Bool) → length xs ≡ suc k → is_last_after k (bytes s) ≡ last
    → verdict_of s xs held (answer s (suc k)) ≡ cond last (Ends [] []) (GoesOn (segment_after (k + 1) (bytes s) ∷ []))
segment_answered s p m [] k held last h l = absurd (omega arith)
segment_answered s p m (x ∷ xs) k held last h l =
    let n : length (with_answer x (since_first xs)).later ≡ k = let c = later_count x xs in omega arith in
    rw (m.transfer, segment_done_read (is_odd k), n, same (is_odd k), l) refl

segment_again : (s : Setup) (p : Type 0) → IsDownload s p sends_in_segments → (xs : List (List ℕ)) (k : ℕ) (held : List ℕ)
    → length xs ≡ suc (suc k) → has_failed (state_by (verdict_of s xs held (answer s (suc k)))) ≡ true
segment_again s p m [] k held h = absurd (omega arith)
segment_again s p m (x ∷ xs) k held h =
    let n : length (with_answer x (since_first xs)).later ≡ suc k = let c = later_count x xs in omega arith in
    rw (m.transfer, segment_done_read (is_odd k), n, toggles_differ k) refl

-- the answer to a download at once
at_once_answered : (s : Setup) (p : Type 0) → IsDownload s p sends_at_once → (xs : List (List ℕ)) (held : List ℕ) → length xs ≡ 0
    → verdict_of s xs held (answer s 0) ≡ Ends [] []
at_once_answered s p m [] held h = rw (done_read s.call.key m.key, m.transfer, same_key-refl s.call.key) refl
at_once_answered s p m (x ∷ xs) held h = absurd (omega arith)

client_goes_on : (s : Setup) (p : Type 0) (short : Bool) → IsDownload s p (protocol short) → (k : ℕ) (events : List ClientEvent)
    → k < last_by s short → AtClient k events → GoesOnWith s events (answer s k) (request_by s short (suc k)) (AtClient (suc k))
client_goes_on s p true m k events more h = absurd (omega arith)
client_goes_on s p false m zero events more h = record {
  message = segment_after 0 (bytes s);
  goes_on = initiate_answered s p m (answers_of events) (held_after s.call events) h;
  asks = refl;
  next = ap suc h;
}
client_goes_on s p false m (suc k) events more h = record {
  message = segment_after (k + 1) (bytes s);
  goes_on = segment_answered s p m (answers_of events) k (held_after s.call events) false h (not_end k (length (bytes s)) more);
  asks = let one : k + 1 ≡ suc k = omega arith in rw one refl;
  next = ap suc h;
}

client_ends : (s : Setup) (p : Type 0) (short : Bool) → IsDownload s p (protocol short) → (k : ℕ) (events : List ClientEvent)
    → k ≡ last_by s short → AtClient k events → verdict s.call events (Answered (answer s k)) ≡ Ends [] []
client_ends s p true m zero events e h = at_once_answered s p m (answers_of events) (held_after s.call events) h
client_ends s p true m (suc k) events e h = absurd (omega arith)
client_ends s p false m zero events e h = absurd (omega arith)
client_ends s p false m (suc k) events e h =
    segment_answered s p m (answers_of events) k (held_after s.call events) true h (is_end k (length (bytes s)) e)

client_stale : (s : Setup) (p : Type 0) (short : Bool) → IsDownload s p (protocol short) → (k : ℕ) (events : List ClientEvent)
    → k < last_by s short → AtClient (suc k) events → Fails s events (answer s k)
client_stale s p true m k events more h = absurd (omega arith)
client_stale s p false m zero events more h = initiate_again s p m (answers_of events) (held_after s.call events) h
client_stale s p false m (suc k) events more h = segment_again s p m (answers_of events) k (held_after s.call events) h

abort_comes : (s : Setup) (p : Type 0) (short : Bool) → IsDownload s p (protocol short) → (xs : List (List ℕ)) (held frame : List ℕ)
    → IsAbort frame → has_failed (state_by (verdict_of s xs held frame)) ≡ true
abort_comes s p short m [] held frame h = aborted_fails s.call Begun held (response_in frame) h
abort_comes s p true m (x ∷ xs) held frame h = rw m.transfer (aborted_fails s.call Begun held (response_in frame) h)
abort_comes s p false m (x ∷ xs) held frame h =
    rw m.transfer (aborted_fails s.call (Sending (length (with_answer x (since_first xs)).later)) held (response_in frame) h)

-- ---- the transfer

first_request : (s : Setup) (p : Type 0) (short : Bool) → IsDownload s p (protocol short)
    → map message_bytes (asked s.call []) ≡ request_by s short 0 ∷ []
first_request s p true m = rw m.transfer refl
first_request s p false m = rw m.transfer refl

pub stop_and_wait : (s : Setup) (p : Type 0) (short : Bool) → IsDownload s p (protocol short) → Needs s p short
    → StopAndWait s p (parts s short)
stop_and_wait s p short m n = record {
  first_request = first_request s p short m;
  first_client = refl;
  first_lawful = m.dictionary;
  idle = m.idle;
  long = is_long s p short n;
  outside = refl;
  dictionary = λ contents h. h;
  sets = λ contents h. entry_is contents s.call.key (bytes s);
  begins = λ current contents outside h. begins_by s p short m n current contents outside h;
  goes_on = λ k contents more h. goes_on s p short m k contents more h _ refl _ refl;
  refuses_idle = refuses_idle s short;
  refuses_again = refuses_again s short;
  client_goes_on = λ k events more h. inl (client_goes_on s p short m k events more h);
  client_ends = λ k events e h. inl (client_ends s p short m k events e h);
  client_stale = client_stale s p short m;
  client_aborted = λ k events frame h abort. abort_comes s p short m (answers_of events) (held_after s.call events) frame abort;
  client_ticks = λ k events h. h;
}

-- ---- where it is permitted and undisturbed it goes in turns

pub record MayDownload (s : Setup) : Type 0 where
  pub transfer : transfer_of s.call ≡ transfer_by Segmented (DownloadJob [] true)
  pub lawful : IsDictionary s.description s.contents
  pub idle : open_transfer s.past ≡ None
  pub index : s.call.key.index < 65536
  pub may_begin : initiate_refusal s.description s.call.key (size_sent s.call.job) ≡ None
  pub may_complete : completion_refusal s.description s.contents s.call.key (size_sent s.call.job) (bytes_of s.call.job) ≡ None
  pub room : length (bytes_of s.call.job) ≤ capacity_at s.description.rows s.call.key
  pub initiate_read : request_in (request_bytes (DownloadInitiate s.call.key (size_sent s.call.job))) ≡ Some (DownloadInitiate s.call.key (size_sent s.call.job))
  pub initiate_long : length (request_bytes (DownloadInitiate s.call.key (size_sent s.call.job))) ≡ 8

pub is_download : (s : Setup) → MayDownload s → IsDownload s (Unit {0}) sends_in_segments
is_download s m =
    let read = begin_read s.call.key (size_sent s.call.job) m.index in
    let written_is = m.initiate_read in
    let is : indicated s ≡ size_sent s.call.job = cc in
    record {
      dictionary = m.lawful;
      key = m.index;
      idle = m.idle;
      transfer = m.transfer;
      may_begin = λ x. rw is m.may_begin;
      may_complete = λ x. rw is m.may_complete;
      room = λ x. m.room;
    }

unfoldable pub segmented_download : (s : Setup) → MayDownload s → Turns s
segmented_download s m = turns_of s (parts s false) (stop_and_wait s (Unit {0}) false (is_download s m) tt) tt

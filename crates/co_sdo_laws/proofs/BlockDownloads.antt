-- A download in blocks, whatever the dictionary permits: the client sends the segments, and the channel takes them. Here are its frames,
-- what either end knows at each place, and what is this direction's alone: the begin, the end, which the channel confirms, and a channel
-- that has given up and reads segments as requests.
use Rattle.std.proofs.Common.{◌≡◌, ℕ, zero, suc, ◌+◌, ◌-◌, ◌*◌, ◌<◌, Bool, true, false, cond, List, [], ◌∷◌, take, map, Option, Some, None, refl, sym, ap, ◌∙◌, arith, eqb, subst, ◌⊎◌, inl, inr}
use Rattle.std.specs.List.{range_with_len}
use Rattle.std.proofs.lemmas.Bool.{false≢true, not-false}
use Rattle.std.proofs.lemmas.Bool.Decides.{nat_tests}
use Rattle.std.proofs.lemmas.Simd.{map-map}
use Rattle.co_value.specs.declared.key.Key.{Key}
use Rattle.co_value.specs.Keys.{same_key-refl}
use Rattle.co_frame.specs.BlockSegments.{is_abort_in_sub_block}
use Rattle.co_frame.specs.declared.sdo_request.SdoRequest.TheVariants.{BlockDownloadInitiate, BlockDownloadEnd}
use Rattle.co_frame.specs.declared.sdo_response.SdoResponse.{SdoResponse}
use Rattle.co_frame.specs.declared.sdo_response.SdoResponse.TheVariants.{Abort as Aborted, BlockDownloadInitiated, BlockDownloadDone, BlockDownloadAcknowledge}
use Rattle.co_frame.specs.SdoRequests.{request_bytes}
use Rattle.co_frame.specs.SdoResponses.{response_bytes, response_in}
use Rattle.co_sdo_client.specs.declared.stage.Stage.TheVariants.{BlockDownload as Sending, BlockDownloadEnded}
use Rattle.co_sdo_client.specs.Calls.{Call, Segment, message_bytes, Answers, with_answer}
use Rattle.co_sdo_client.specs.Segments.{size_sent, block_segment, sub_block_length, sub_block_sent, block_download_end}
use Rattle.co_sdo_client.specs.Stages.{acknowledged, block_size_by, newest, stage_since, held_since}
use Rattle.co_sdo_client.specs.Verdicts.{taken_with, response_verdict}
use Rattle.co_sdo_client.specs.Outcomes.{state_by}
use Rattle.co_dict.specs.Rows.{Contents, written}
use Rattle.co_sdo.specs.declared.stage.Stage.TheVariants.{SubBlock, LastTaken}
use Rattle.co_sdo.specs.Refused.{capacity_at, initiate_refusal, completion_refusal}
use Rattle.co_sdo.specs.Log.{Response, Log}
use Rattle.co_sdo.specs.Opened.{OpenTransfer}
use Rattle.co_sdo.specs.Replies.{time_out_reply}
use Rattle.co_sdo_laws.specs.World.{Setup, Requests, Answers as Back}
use Rattle.co_sdo_laws.proofs.Frames.{block_begin_read, block_end_read, block_begin_long, block_initiated_read, block_done_read, acknowledged_read}
use Rattle.co_sdo_laws.proofs.Permits.{bytes, sends_in_blocks, indicated, IsDownload, none≢some}
use Rattle.co_sdo_laws.proofs.Channel.{serves_first, unopened}
use Rattle.co_sdo_laws.proofs.Failures.{is_aborted, has_failed}
use Rattle.co_sdo_laws.proofs.Blocks.{live, kept, cut_fails, cut_read, cons≢nil, head_is, tail_is}
use Rattle.co_sdo_laws.proofs.BlockSegments.{unused, all_held, total, size_after, segments, frame_is, frame_with, frame_long, all_is}
use Rattle.co_sdo_laws.proofs.GoneChannels.{is_awaited, is_awaited_frame, awaited, aborted_other, IsGone, idle, gone_answers, gone_goes_on, gone_ticks, gone_ends}
use Rattle.co_sdo_laws.proofs.Ends.{client, channel, verdict_of, after_request, Serving, channel_takes, channel_refuses}
use Rattle.co_sdo_laws.proofs.Places.{Place, begins_at, asking, confirmed, starting, taking, acknowledging, finishing, ending, ended, all_over, Plan, way, may_await, OnWay, InSubBlock, turns, Reacts, goes, gives_up, one}
use Rattle.co_sdo_laws.proofs.Receivers.{Receiver, SenderStays, receives}
use Rattle.co_sdo_laws.proofs.Senders.{Sender, ReceiverStays, sends_more, sends_end}
use Rattle.co_sdo_laws.proofs.BlockTransfers.{requests≢back, Knows, waits, is_done, Parts, Channel, May, ClientReacts, reacts, finishes, Hears, GoneHears, IsWaiting, Theory}

-- ---- frames

abbrev begin : Setup → List ℕ
begin s = request_bytes (BlockDownloadInitiate s.call.key (size_sent s.call.job))

abbrev confirmation : Setup → List ℕ
confirmation s = response_bytes (BlockDownloadInitiated s.call.key 127)

abbrev acknowledgement : ℕ → List ℕ
acknowledgement count = response_bytes (BlockDownloadAcknowledge count 127)

abbrev client_end : Setup → List ℕ
client_end s = request_bytes (BlockDownloadEnd (unused (bytes s)))

abbrev all_done : List ℕ
all_done = response_bytes BlockDownloadDone

abbrev frame_at : Setup → Place → List ℕ
frame_at s asking = begin s
frame_at s confirmed = confirmation s
frame_at s ending = client_end s
frame_at s ended = all_done
frame_at s _ = []

abbrev plan : Setup → Type 0 → Plan
plan s p = record { p = p; forward = Requests; value = bytes s; acknowledgement = acknowledgement; frame = frame_at s; awaits = is_awaited_frame }

-- ---- what either end knows

-- so many segments were acknowledged
pub record Took (s : Setup) (sum : ℕ) (known : Option Answers) : Type 0 where
  pub taken : Answers
  pub is : known ≡ Some taken
  pub total : acknowledged taken.later ≡ sum
  pub size : block_size_by (response_in (newest taken)) ≡ 127

abbrev Client : Setup → Place → Knows → Type 0
Client s asking (waits known) = known ≡ None
Client s confirmed (waits known) = known ≡ None
Client s (taking a t) (waits known) = Took s a known
Client s (acknowledging a u) (waits known) = Took s a known
Client s (finishing a u) (waits known) = Took s a known
Client s ending (waits known) = Took s (total (bytes s)) known
Client s ended (waits known) = Took s (total (bytes s)) known
Client s all_over is_done = Unit {0}
Client s _ _ = ⊥

-- while it waits
abbrev AtClient : Setup → Place → Option Answers → Type 0
AtClient s k known = Client s k (waits known)

-- inside a sub-block after so many of its segments, and after the last of all
abbrev inside : Key → Option ℕ → ℕ → List ℕ → OpenTransfer
inside key size taken held = record { key = key; stage = SubBlock size taken; bytes = held }

abbrev at_last : Key → Option ℕ → List ℕ → OpenTransfer
at_last key size held = record { key = key; stage = LastTaken size; bytes = held }

-- so many segments were taken, as many of them in the sub-block; all were taken
abbrev taken : Setup → ℕ → ℕ → OpenTransfer
taken s sum t = inside s.call.key (indicated s) t (take (7 * sum) (bytes s))

abbrev complete : Setup → OpenTransfer
complete s = at_last s.call.key (indicated s) (all_held (bytes s) (total (bytes s) - 1))

abbrev opened : Setup → Place → Option OpenTransfer
opened s confirmed = Some (taken s 0 0)
opened s (taking a t) = Some (taken s (a + t) t)
opened s (acknowledging a u) = Some (taken s (a + u) 0)
opened s (finishing a u) = Some (complete s)
opened s ending = Some (complete s)
opened s _ = None

-- the entry is set at the end
abbrev left : Setup → Place → Contents
left s ended = written s.contents s.call.key (bytes s)
left s all_over = written s.contents s.call.key (bytes s)
left s _ = s.contents

abbrev pub parts : (s : Setup) → Type 0 → Parts s
parts s p = record { plan = plan s p; given = []; Client = Client s; opened = opened s; left = left s; Gone = λ x. IsGone x.0 }

-- ---- the channel, which takes the segments

inside_is : (key : Key) (size : Option ℕ) (t u : ℕ) (xs ys : List ℕ) → t ≡ u → xs ≡ ys → Some (inside key size t xs) ≡ Some (inside key size u ys)
inside_is key size t u xs ys e f = rw (e, f) refl

receiver : (s : Setup) (p : Type 0) → IsDownload s p sends_in_blocks → Receiver (plan s p) (channel s) (Channel (parts s p))
receiver s p m = record {
  capacity = capacity_at s.description.rows s.call.key;
  fits = m.room;
  inside = λ a t n x frame h g. let r = g.reads in channel_takes s m.dictionary x (Some (taken s (a + t) t)) frame [] [] _ _ x.1 s.contents h r.long
      refl (inside_is s.call.key (indicated s) _ _ _ _ g.taken g.held) h.lawful
      (rw (r.ends, r.other) refl);
  ends = λ a t n x frame h g room. let r = g.reads in let more = g.more in
      channel_takes s m.dictionary x (Some (taken s (a + t) t)) frame (Response (BlockDownloadAcknowledge (taken_with t frame) 127) ∷ []) _ _ _ x.1 s.contents h r.long
      (ap (λ (u : ℕ). acknowledgement u ∷ []) g.taken) (inside_is s.call.key (indicated s) 0 0 _ _ refl g.held) h.lawful
      (rw (r.ends, r.other, more, room) refl);
  is_full = λ a t n x frame h g room. let r = g.reads in let more = g.more in
      channel_refuses s m.dictionary x (Some (taken s (a + t) t)) frame s.call.key 0x06070012 h r.long
      (rw (r.ends, r.other, more, room) refl);
  last = λ a t n x frame h g. let r = g.reads in let last = g.last in
      channel_takes s m.dictionary x (Some (taken s (a + t) t)) frame (Response (BlockDownloadAcknowledge (taken_with t frame) 127) ∷ []) _ _ _ x.1 s.contents h r.long
      (ap (λ (u : ℕ). acknowledgement u ∷ []) g.taken) (ap (λ (xs : List ℕ). Some (at_last s.call.key (indicated s) xs)) g.held) h.lawful
      (rw (r.ends, r.other, last) refl);
}

receiver_stays : (s : Setup) (p : Type 0) → ReceiverStays (May (parts s p))
receiver_stays s p = record {
  more = λ a u y h. let none : a + u ≡ a + u + 0 = omega arith in
      subst (λ (j : ℕ). Serving s s.contents (Some (taken s j 0)) y ⊎ (Unit {0} × (p → ⊥) × IsGone y.0)) none h;
  all = λ a u y h. h;
}

-- ---- the client, which sends them

burst : (v : List ℕ) (a : ℕ) → a < total v → map message_bytes (sub_block_sent v a 127) ≡ segments v a 1 (suc (size_after v a - 1))
burst v a h =
    let some : size_after v a ≡ suc (size_after v a - 1) = omega arith in
    map-map message_bytes (λ n. Segment (block_segment v a n)) (range_with_len 1 (size_after v a)) ∙ ap (segments v a 1) some

took_more : (s : Setup) (a t : ℕ) (known : Option Answers) → Took s a known → Took s (a + t) (Some (with_answer (acknowledgement t) known))
took_more s a t known c = record {
  taken = record { first = c.taken.first; later = acknowledgement t ∷ c.taken.later };
  is = ap (λ (x : Option Answers). Some (with_answer (acknowledgement t) x)) c.is;
  total = rw (c.total, acknowledged_read t 127) refl;
  size = ap block_size_by (acknowledged_read t 127);
}

sender : (s : Setup) (p : Type 0) → IsDownload s p sends_in_blocks → Sender (plan s p) (client s) (AtClient s)
sender s p m = record {
  too_many = λ a u known c under many.
      let more : eqb a (total (bytes s)) ≡ false = grind (arith, nat_tests) in
      rw (c.is, m.transfer, c.total, c.size, more, acknowledged_read u 127, many) refl;
  more = λ a u known c under few.
      let more : eqb a (total (bytes s)) ≡ false = grind (arith, nat_tests) in
      let left : eqb (a + u) (total (bytes s)) ≡ false = grind (arith, nat_tests) in
      record {
        messages = sub_block_sent (bytes s) (a + u) 127;
        is = rw (c.is, m.transfer, c.total, c.size, more, acknowledged_read u 127, few, left) refl;
        sends = burst (bytes s) (a + u) under;
        next = took_more s a u known c;
      };
  all = λ a u known c under whole few.
      let more : eqb a (total (bytes s)) ≡ false = grind (arith, nat_tests) in
      let done : eqb (a + u) (total (bytes s)) ≡ true = grind (arith, nat_tests) in
      record {
        messages = block_download_end (bytes s);
        is = rw (c.is, m.transfer, c.total, c.size, more, acknowledged_read u 127, few, done) refl;
        sends = refl;
        next = subst (λ (j : ℕ). Took s j (Some (with_answer (acknowledgement u) known))) whole (took_more s a u known c);
      };
  same = λ a u known c. c;
}

sender_stays : (s : Setup) → SenderStays (Client s)
sender_stays s = record { inside = λ a t u y c. c; ends = λ a t u y c. c; last = λ a t u y c. c }

-- ---- the begin and its confirmation

begins : (s : Setup) (p : Type 0) → IsDownload s p sends_in_blocks → (x : Log × Contents) → Serving s s.contents None x
    → (refusal : Option ℕ) → initiate_refusal s.description s.call.key (indicated s) ≡ refusal
    → Reacts (plan s p) (channel s) Requests (Channel (parts s p)) (Client s) asking [] x (begin s)
begins s p m x h None e =
    let read = block_begin_read s.call.key (size_sent s.call.job) m.key in
    goes confirmed (confirmation s ∷ []) (channel_takes s m.dictionary x None (begin s) (Response (BlockDownloadInitiated s.call.key 127) ∷ []) _ (Some (taken s 0 0)) _ x.1 s.contents h
    (block_begin_long s.call.key (size_sent s.call.job)) refl refl h.lawful (rw (read, e) refl))
    (record { onward = turns refl refl refl; here = λ y. refl; there = λ y. refl; narrows = λ xs same. same }) (λ y c. c)
begins s p m x h (Some code) e =
    let read = block_begin_read s.call.key (size_sent s.call.job) m.key in
    gives_up (λ y. none≢some _ code (m.may_begin y) e) refl (channel_refuses s m.dictionary x None (begin s) s.call.key code h
    (block_begin_long s.call.key (size_sent s.call.job)) (rw (read, e) refl))

-- frames that are aborts alone are none that is awaited
cut_other : (r : Option SdoResponse) → is_aborted r ≡ true → is_awaited r ≡ false
cut_other (Some (Aborted key code)) h = refl
cut_other _ h = absurd (false≢true h)

live_none : (xs : List (List ℕ)) → live xs ≡ [] → awaited xs ≡ []
live_none [] e = refl
live_none (x ∷ xs) e = by _ refl (live_none xs)
  where
    by : (cut : Bool) → is_abort_in_sub_block x ≡ cut → (live xs ≡ [] → awaited xs ≡ []) → awaited (x ∷ xs) ≡ []
    by true c later =
        let same : live (x ∷ xs) ≡ live xs = rw c refl in
        rw (cut_other (response_in x) (cut_read x c)) (later (sym same ∙ e))
    by false c later =
        let some : live (x ∷ xs) ≡ x ∷ live xs = rw c refl in
        absurd (cons≢nil x (live xs) (sym some ∙ e))

is_confirmed : (s : Setup) (p : Type 0) → IsDownload s p sends_in_blocks → (known : Option Answers) → known ≡ None
    → ClientReacts (parts s p) confirmed [] known (confirmation s)
is_confirmed s p m known c =
    let read = block_initiated_read s.call.key 127 m.key in
    reacts (goes (taking 0 0) _ (record {
      messages = sub_block_sent (bytes s) 0 127;
      is = rw (c, read, m.transfer, same_key-refl s.call.key) refl;
      sends = burst (bytes s) 0 (omega arith);
      next = record {
        taken = record { first = confirmation s; later = [] };
        is = ap (λ (a : Option Answers). Some (with_answer (confirmation s) a)) c;
        total = refl;
        size = ap block_size_by read;
      };
    }) (record {
      onward = turns refl refl (begins_at (bytes s) 0 (omega arith) (λ y. refl));
      here = λ y. refl;
      there = λ y. refl;
      narrows = λ xs none. live_none xs none;
    }) (λ y h. h))

-- ---- the end and its confirmation

ends : (s : Setup) (p : Type 0) → IsDownload s p sends_in_blocks → (x : Log × Contents) → Serving s s.contents (Some (complete s)) x
    → (refusal : Option ℕ) → completion_refusal s.description x.1 s.call.key (indicated s) (bytes s) ≡ refusal
    → Reacts (plan s p) (channel s) Requests (Channel (parts s p)) (Client s) ending [] x (client_end s)
ends s p m x h None e =
    let v = bytes s in
    let whole = all_is v (total v - 1) (omega arith) in
    let read = block_end_read (unused v) (omega arith) in
    goes ended (all_done ∷ []) (channel_takes s m.dictionary x (Some (complete s)) (client_end s) (Response BlockDownloadDone ∷ []) _ None _ (written x.1 s.call.key v) _ h refl
    refl refl (ap (λ (y : Contents). written y s.call.key v) h.lawful) (rw (read, whole, e) refl))
    (record { onward = turns refl refl refl; here = λ y. omega arith; there = λ y. refl; narrows = λ xs same. same }) (λ y c. c)
ends s p m x h (Some code) e =
    let v = bytes s in
    let whole = all_is v (total v - 1) (omega arith) in
    let read = block_end_read (unused v) (omega arith) in
    gives_up (λ y. none≢some _ code (ap (λ (c : Contents). completion_refusal s.description c s.call.key (indicated s) v) h.lawful ∙ m.may_complete y) e) refl
    (channel_refuses s m.dictionary x (Some (complete s)) (client_end s) s.call.key code h refl
    (rw (read, whole, e) refl))

confirms : (s : Setup) (p : Type 0) → IsDownload s p sends_in_blocks → (known : Option Answers) → Took s (total (bytes s)) known
    → ClientReacts (parts s p) ended [] known all_done
confirms s p m known c =
    let all : eqb (total (bytes s)) (total (bytes s)) ≡ true = grind (arith, nat_tests) in
    finishes all_over [] [] (rw (c.is, m.transfer, c.total, c.size, all, block_done_read) refl) refl
    (record { onward = turns refl refl refl; here = λ y. omega arith; there = λ y. refl; narrows = λ xs same. same }) tt
    (λ x h. elim h [ inl serving ↦ inl serving | inr gone ↦ absurd (requests≢back gone.0) ])

-- ---- what else may come

-- an answer that isn't awaited
sending_fails : (call : Call) (count sent : ℕ) (held : List ℕ) (r : Option SdoResponse) → is_awaited r ≡ false → has_failed (state_by (response_verdict call (Sending count sent) held r)) ≡ true
sending_fails call count sent held (Some (BlockDownloadAcknowledge sequence size)) h = absurd (false≢true (sym h))
sending_fails call count sent held (Some BlockDownloadDone) h = absurd (false≢true (sym h))
sending_fails call count sent held _ h = refl

ended_fails : (call : Call) (held : List ℕ) (r : Option SdoResponse) → is_awaited r ≡ false → has_failed (state_by (response_verdict call BlockDownloadEnded held r)) ≡ true
ended_fails call held (Some (BlockDownloadAcknowledge sequence size)) h = absurd (false≢true (sym h))
ended_fails call held (Some BlockDownloadDone) h = absurd (false≢true (sym h))
ended_fails call held _ h = refl

other_fails : (s : Setup) (p : Type 0) → IsDownload s p sends_in_blocks → (a : ℕ) (known : Option Answers) (frame : List ℕ) → Took s a known
    → is_awaited_frame frame ≡ false → (all : Bool) → eqb a (total (bytes s)) ≡ all → has_failed (state_by (verdict_of s known frame)) ≡ true
other_fails s p m a known frame c other true e = rw (c.is, m.transfer, c.total, c.size, e) (ended_fails s.call [] (response_in frame) other)
other_fails s p m a known frame c other false e =
    rw (c.is, m.transfer, c.total, c.size, e) (sending_fails s.call a (sub_block_length (bytes s) a 127) [] (response_in frame) other)

strange : (s : Setup) (p : Type 0) → IsDownload s p sends_in_blocks → (k : Place) (known : Option Answers) (frame : List ℕ) → AtClient s k known
    → may_await (plan s p) k frame ≡ false → has_failed (state_by (verdict_of s known frame)) ≡ true
strange s p m asking known frame c other = cut_fails s.call (stage_since s.call known) (held_since s.call known) frame (not-false (is_abort_in_sub_block frame) other)
strange s p m confirmed known frame c other = cut_fails s.call (stage_since s.call known) (held_since s.call known) frame (not-false (is_abort_in_sub_block frame) other)
strange s p m (taking a t) known frame c other = other_fails s p m a known frame c other _ refl
strange s p m (acknowledging a u) known frame c other = other_fails s p m a known frame c other _ refl
strange s p m (finishing a u) known frame c other = other_fails s p m a known frame c other _ refl
strange s p m ending known frame c other = other_fails s p m _ known frame c other _ refl
strange s p m ended known frame c other = other_fails s p m _ known frame c other _ refl
strange s p m _ known frame c other = absurd c

passes : (s : Setup) (p : Type 0) (k : Place) (xs : List (List ℕ)) → OnWay (plan s p) k xs → way Requests k ≡ Back → kept (may_await (plan s p) k) xs ≡ xs
passes s p confirmed xs o e = rw o refl
passes s p (acknowledging a u) xs o e = rw (o.are, acknowledged_read u 127) refl
passes s p (finishing a u) xs o e = rw (o.are, acknowledged_read u 127) refl
passes s p ended xs o e = rw (o, block_done_read) refl
passes s p _ xs o e = absurd (requests≢back e)

-- there is no start
no_start : {A : Type 0} (s : Setup) (y : Knows) → Client s starting y → A
no_start s (waits known) c = absurd c
no_start s is_done c = absurd c

-- a channel that has given up
low_byte : (n : ℕ) → n < 128 → cond false 128 0 + n < 128
low_byte n h = omega arith

segment_gone : (s : Setup) (p : Type 0) (a t : ℕ) (x : Log × Contents) (frame : List ℕ) (later : List (List ℕ)) → InSubBlock p (bytes s) a t (frame ∷ later)
    → IsGone x.0 → (later ≡ []) ⊎ IsGone (after_request s x frame).0
segment_gone s p a t x frame later o h = by o.more o.are o.size
  where
    by : (more : ℕ) → frame ∷ later ≡ segments (bytes s) a o.n (suc more) → o.n + more ≡ size_after (bytes s) a
        → (later ≡ []) ⊎ IsGone (after_request s x frame).0
    by zero are size = inl (tail_is frame _ later _ are)
    by (suc more) are size =
        let other : eqb (a + o.n) (total (bytes s)) ≡ false = grind (arith, nat_tests) in
        let few : o.n < 128 = omega arith in
        let is : frame ≡ frame_with (bytes s) a o.n false = head_is frame _ later _ are ∙ frame_is (bytes s) a o.n false other in
        inr (subst (λ (y : List ℕ). IsGone (after_request s x y).0) (sym is)
        (gone_goes_on s.description x.1 x.0 (frame_with (bytes s) a o.n false) h (frame_long (bytes s) a o.n false) (low_byte o.n few)))

gone_hears : (s : Setup) (p : Type 0) (k : Place) (x : Log × Contents) (frame : List ℕ) (later : List (List ℕ)) → OnWay (plan s p) k (frame ∷ later)
    → GoneHears (parts s p) (way Requests k) k x frame later
gone_hears s p asking x frame later o = λ y c may h. absurd may
gone_hears s p starting x frame later o = λ y c may h. no_start s y c
gone_hears s p (taking a t) x frame later o = λ y c may h. (gone_answers s.description x.1 x.0 frame h, segment_gone s p a t x frame later o h)
gone_hears s p ending x frame later o = λ y c may h. (gone_answers s.description x.1 x.0 frame h, inl (tail_is frame _ later [] o))
gone_hears s p all_over x frame later o = λ y c may h. absurd may
gone_hears s p _ x frame later o = tt

closes : (s : Setup) (p : Type 0) (k : Place) (x : Log × Contents) → (p → ⊥) → Serving s (left s k) None x → May (parts s p) k x
closes s p asking x never h = inl h
closes s p ended x never h = inl h
closes s p all_over x never h = inl h
closes s p _ x never h = inr (tt, never, idle (unopened s.description.rows x.0 h.serves))

-- ---- the transfer

hears : (s : Setup) (p : Type 0) → IsDownload s p sends_in_blocks → (k : Place) (x : Log × Contents) (frame : List ℕ) (later : List (List ℕ))
    → OnWay (plan s p) k (frame ∷ later) → Hears (parts s p) (way Requests k) k x frame later
hears s p m asking x frame later o =
    λ y c h. one (λ f l. Reacts (plan s p) (channel s) Requests (Channel (parts s p)) (Client s) asking l x f) (begin s) [] frame later o (begins s p m x h _ refl)
hears s p m confirmed x frame later o = λ known c. one (λ f l. ClientReacts (parts s p) confirmed l known f) (confirmation s) [] frame later o (is_confirmed s p m known c)
hears s p m starting x frame later o = λ y c h. no_start s y c
hears s p m (taking a t) x frame later o =
    λ y c h. receives (plan s p) (channel s) (Channel (parts s p)) (Client s) (receiver s p m) (sender_stays s) a t x frame later o h
hears s p m (acknowledging a u) x frame later o =
    λ known c. reacts (sends_more (plan s p) (client s) (AtClient s) (May (parts s p)) (sender s p m) (receiver_stays s p) a u known frame later o c)
hears s p m (finishing a u) x frame later o =
    λ known c. reacts (sends_end (plan s p) (client s) (AtClient s) (May (parts s p)) (sender s p m) (receiver_stays s p) a u known frame later o c)
hears s p m ending x frame later o =
    λ y c h. one (λ f l. Reacts (plan s p) (channel s) Requests (Channel (parts s p)) (Client s) ending l x f) (client_end s) [] frame later o (ends s p m x h _ refl)
hears s p m ended x frame later o = λ known c. one (λ f l. ClientReacts (parts s p) ended l known f) all_done [] frame later o (confirms s p m known c)
hears s p m all_over x frame later o = absurd (cons≢nil frame later o)

waiting : (s : Setup) (k : Place) (known : Option Answers) → Client s k (waits known) → IsWaiting Requests k
waiting s ended known c = refl
waiting s all_over known c = absurd c
waiting s _ known c = tt

done : (s : Setup) (k : Place) → Client s k is_done → (k ≡ all_over) ⊎ ((k ≡ ended) × (Requests ≡ Back))
done s all_over c = inl refl
done s _ c = absurd c

pub theory : (s : Setup) (p : Type 0) → IsDownload s p sends_in_blocks → Theory (parts s p)
theory s p m = record {
  first_request = rw m.transfer refl;
  first_client = refl;
  first_channel = record { serves = serves_first s.description.rows s.past m.idle; lawful = refl };
  hears = hears s p m;
  gone_hears = gone_hears s p;
  strange = strange s p m;
  passes = passes s p;
  drops = aborted_other;
  closes = closes s p;
  gone_ticks = λ log contents h. gone_ticks log h;
  gone_ends = λ log contents h. gone_ends log (time_out_reply log);
  waiting = waiting s;
  done = done s;
  none_open = refl;
  same_left = refl;
}

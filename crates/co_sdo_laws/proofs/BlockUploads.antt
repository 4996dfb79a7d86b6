-- An upload in blocks, whatever the dictionary permits and the client has room for: the channel sends the segments, and the client takes
-- them. Here are its frames, what either end knows at each place, and what is this direction's alone: the begin and the start, and the end,
-- which the client confirms: it is done then.
use Rattle.std.proofs.Common.{◌≡◌, ℕ, suc, ◌+◌, ◌-◌, ◌*◌, ◌<◌, ◌≤◌, Bool, true, false, List, [], ◌∷◌, length, take, map, Option, Some, None, refl, sym, ap, ◌∙◌, arith, eqb, subst, ◌⊎◌, inl, inr}
use Rattle.std.specs.Prelude.{nat_lt}
use Rattle.std.specs.List.{range_with_len}
use Rattle.std.proofs.lemmas.Bool.{not-false}
use Rattle.std.proofs.lemmas.Bool.Decides.{nat_tests}
use Rattle.std.proofs.lemmas.Simd.{map-map}
use Rattle.co_value.specs.Keys.{same_key-refl}
use Rattle.co_frame.specs.BlockSegments.{is_abort_in_sub_block}
use Rattle.co_frame.specs.declared.sdo_request.SdoRequest.TheVariants.{BlockUploadInitiate, BlockUploadStart, BlockUploadAcknowledge, BlockUploadEnd as UploadEnd}
use Rattle.co_frame.specs.declared.sdo_response.SdoResponse.TheVariants.{BlockUploadInitiated, BlockUploadEnd as EndSent}
use Rattle.co_frame.specs.SdoRequests.{request_bytes}
use Rattle.co_frame.specs.SdoResponses.{response_in, response_bytes}
use Rattle.co_sdo_client.specs.Calls.{Request, Answers, with_answer}
use Rattle.co_sdo_client.specs.Segments.{cap_of, block_segment}
use Rattle.co_sdo_client.specs.SubBlocks.{sub_block, taken_segments, block_bytes, has_last, is_last_taken}
use Rattle.co_sdo_client.specs.Stages.{size_by, stage_since, held_since}
use Rattle.co_sdo_client.specs.Verdicts.{segment_next, taken_with, held_with}
use Rattle.co_dict.specs.Rows.{Contents}
use Rattle.co_sdo.specs.declared.stage.Stage.TheVariants.{BlockUploadInitiated as BegunStage, BlockUpload as SendingStage, BlockUploadEnded}
use Rattle.co_sdo.specs.Refused.{reading_refusal}
use Rattle.co_sdo.specs.Log.{Response, Log, Segment, answer_bytes}
use Rattle.co_sdo.specs.Uploads.{value_at, sub_block_sent}
use Rattle.co_sdo.specs.Opened.{OpenTransfer}
use Rattle.co_sdo.specs.Replies.{aborted, reply_to}
use Rattle.co_sdo_laws.specs.World.{Setup, Requests, Answers as Back}
use Rattle.co_sdo_laws.proofs.Frames.{start_read, acknowledge_read, client_end_read, block_upload_read, block_upload_initiated_read, upload_end_read}
use Rattle.co_sdo_laws.proofs.Permits.{value, reads_in_blocks, IsUpload, none≢some, small_value, not_above, below_itself}
use Rattle.co_sdo_laws.proofs.Channel.{Steps, serves_first, serving_ticks, serving_ends}
use Rattle.co_sdo_laws.proofs.Blocks.{is_live, kept, cut_fails, cons≢nil, head_is, tail_is}
use Rattle.co_sdo_laws.proofs.BlockSegments.{all_held, all_is, total, size_after, unused, segments, live_segments, in_block}
use Rattle.co_sdo_laws.proofs.Ends.{client, channel, after_request, Serving, channel_takes, channel_refuses}
use Rattle.co_sdo_laws.proofs.Places.{Place, begins_at, asking, confirmed, starting, taking, acknowledging, finishing, ending, ended, all_over, Plan, way, may_await, OnWay, turns, Reacts, goes, gives_up, one}
use Rattle.co_sdo_laws.proofs.Receivers.{Receiver, SenderStays, receives}
use Rattle.co_sdo_laws.proofs.Senders.{Sender, ReceiverStays, sends_more, sends_end}
use Rattle.co_sdo_laws.proofs.BlockTransfers.{requests≢back, Knows, waits, is_done, Parts, Channel, May, ClientReacts, reacts, finishes, Hears, GoneHears, IsWaiting, Theory}

-- ---- frames

abbrev begin : Setup → List ℕ
begin s = request_bytes (BlockUploadInitiate s.call.key 127 0)

abbrev confirmation : Setup → List ℕ
confirmation s = response_bytes (BlockUploadInitiated s.call.key (Some (length (value s))))

abbrev start : List ℕ
start = request_bytes BlockUploadStart

abbrev acknowledgement : ℕ → List ℕ
acknowledgement count = request_bytes (BlockUploadAcknowledge count 127)

abbrev server_end : Setup → List ℕ
server_end s = response_bytes (EndSent (unused (value s)))

abbrev client_end : List ℕ
client_end = request_bytes UploadEnd

abbrev frame_at : Setup → Place → List ℕ
frame_at s asking = begin s
frame_at s confirmed = confirmation s
frame_at s starting = start
frame_at s ending = server_end s
frame_at s ended = client_end
frame_at s _ = []

abbrev plan : Setup → Type 0 → Plan
plan s p = record { p = p; forward = Back; value = value s; acknowledgement = acknowledgement; frame = frame_at s; awaits = is_live }

-- ---- what either end knows

-- so many segments were taken, as many of them in the sub-block that is under way
pub record Took (s : Setup) (sum taken : ℕ) (known : Option Answers) : Type 0 where
  pub took : Answers
  pub is : known ≡ Some took
  pub size : size_by (response_in took.first) ≡ Some (length (value s))
  pub inside : has_last took.later ≡ false
  pub in_block : length (taken_segments (sub_block took.later)) ≡ taken
  pub held : block_bytes took.later ≡ take (7 * sum) (value s)

-- all segments were taken
pub record TookAll (s : Setup) (known : Option Answers) : Type 0 where
  pub took : Answers
  pub is : known ≡ Some took
  pub size : size_by (response_in took.first) ≡ Some (length (value s))
  pub last : has_last took.later ≡ true
  pub held : block_bytes took.later ≡ all_held (value s) (total (value s) - 1)

abbrev Client : Setup → Place → Knows → Type 0
Client s asking (waits known) = known ≡ None
Client s confirmed (waits known) = known ≡ None
Client s starting (waits known) = Took s 0 0 known
Client s (taking a t) (waits known) = Took s (a + t) t known
Client s (acknowledging a u) (waits known) = Took s (a + u) 0 known
Client s (finishing a u) (waits known) = TookAll s known
Client s ending (waits known) = TookAll s known
Client s ended is_done = Unit {0}
Client s all_over is_done = Unit {0}
Client s _ _ = ⊥

-- while it waits
abbrev AtClient : Setup → Place → Option Answers → Type 0
AtClient s k known = Client s k (waits known)

abbrev begun : Setup → OpenTransfer
begun s = record { key = s.call.key; stage = BegunStage 127; bytes = value s }

abbrev sending : Setup → ℕ → OpenTransfer
sending s a = record { key = s.call.key; stage = SendingStage a (size_after (value s) a); bytes = value s }

abbrev at_end : Setup → OpenTransfer
at_end s = record { key = s.call.key; stage = BlockUploadEnded; bytes = value s }

abbrev opened : Setup → Place → Option OpenTransfer
opened s asking = None
opened s confirmed = Some (begun s)
opened s starting = Some (begun s)
opened s (taking a t) = Some (sending s a)
opened s (acknowledging a u) = Some (sending s a)
opened s (finishing a u) = Some (sending s a)
opened s ending = Some (at_end s)
opened s ended = Some (at_end s)
opened s all_over = None

-- no entry is changed, and a channel that has given up has nothing open
abbrev pub parts : (s : Setup) → Type 0 → Parts s
parts s p = record { plan = plan s p; given = value s; Client = Client s; opened = opened s; left = λ k. s.contents; Gone = Serving s s.contents None }

-- ---- the channel, which sends the segments

-- the frames of a sub-block
burst : (v : List ℕ) (a : ℕ) → a < total v → map answer_bytes (sub_block_sent v a 127) ≡ segments v a 1 (suc (size_after v a - 1))
burst v a h =
    let some : size_after v a ≡ suc (size_after v a - 1) = omega arith in
    map-map answer_bytes (λ n. Segment (block_segment v a n)) (range_with_len 1 (size_after v a)) ∙ ap (segments v a 1) some

sender : (s : Setup) (p : Type 0) → IsUpload s p reads_in_blocks → Sender (plan s p) (channel s) (Channel (parts s p))
sender s p m = record {
  too_many = λ a u x h under many. let read = acknowledge_read u 127 in
      channel_refuses s m.dictionary x (Some (sending s a)) (acknowledgement u) s.call.key 0x05040003 h refl
      (rw (read, many) refl);
  more = λ a u x h under few. let read = acknowledge_read u 127 in
      let more : eqb (a + u) (total (value s)) ≡ false = grind (arith, nat_tests) in
      channel_takes s m.dictionary x (Some (sending s a)) (acknowledgement u) (sub_block_sent (value s) (a + u) 127) _ (Some (sending s (a + u))) _ x.1 s.contents h refl
      (burst (value s) (a + u) under) refl h.lawful (rw (read, few, more) refl);
  all = λ a u x h under whole few. let read = acknowledge_read u 127 in
      let all : eqb (a + u) (total (value s)) ≡ true = grind (arith, nat_tests) in
      channel_takes s m.dictionary x (Some (sending s a)) (acknowledgement u) (Response (EndSent (unused (value s))) ∷ []) _ (Some (at_end s)) _ x.1 s.contents h refl
      refl refl h.lawful (rw (read, few, all) refl);
  same = λ a u x h. h;
}

sender_stays : (s : Setup) (p : Type 0) → SenderStays (May (parts s p))
sender_stays s p = record { inside = λ a t u y h. h; ends = λ a t u y h. h; last = λ a t u y h. h }

-- ---- the client, which takes them

took_next : {known : Option Answers} (sum t next in_it : ℕ) (s : Setup) (frame : List ℕ) (c : Took s sum t known)
    → is_last_taken (segment_next t frame) ≡ false → length (taken_segments (sub_block (frame ∷ c.took.later))) ≡ in_it
    → held_with (take (7 * sum) (value s)) t frame ≡ take (7 * next) (value s) → Took s next in_it (Some (with_answer frame known))
took_next sum t next in_it s frame c more count held = record {
  took = record { first = c.took.first; later = frame ∷ c.took.later };
  is = ap (λ (x : Option Answers). Some (with_answer frame x)) c.is;
  size = c.size;
  inside = rw (c.inside, c.in_block) more;
  in_block = count;
  held = rw (c.in_block, c.held) held;
}

receiver : (s : Setup) (p : Type 0) → IsUpload s p reads_in_blocks → Receiver (plan s p) (client s) (AtClient s)
receiver s p m = record {
  capacity = cap_of s.call.job;
  fits = m.fits;
  inside = λ a t n known frame c g. record {
    messages = [];
    is = let r = g.reads in rw (c.is, m.transfer, c.inside, r.ends, r.long, r.other) refl;
    sends = refl;
    next = took_next (a + t) t (a + g.u) g.u s frame c g.more (in_block c.took.later frame t false g.reads.ends c.in_block ∙ g.taken) g.held;
  };
  ends = λ a t n known frame c g room. record {
    messages = Request (BlockUploadAcknowledge (taken_with t frame) 127) ∷ [];
    is = let r = g.reads in rw (c.is, m.transfer, c.inside, c.in_block, c.held, r.ends, g.more, room, r.long, r.other) refl;
    sends = ap (λ (u : ℕ). acknowledgement u ∷ []) g.taken;
    next = took_next (a + t) t (a + g.u) 0 s frame c g.more (in_block c.took.later frame t true g.reads.ends c.in_block) g.held;
  };
  is_full = λ a t n known frame c g room.
      let r = g.reads in rw (c.is, m.transfer, c.inside, c.in_block, c.held, r.ends, g.more, room, r.long, r.other) refl;
  last = λ a t n known frame c g. record {
    messages = Request (BlockUploadAcknowledge (taken_with t frame) 127) ∷ [];
    is = let r = g.reads in rw (c.is, m.transfer, c.inside, c.in_block, r.ends, g.last, r.long, r.other) refl;
    sends = ap (λ (u : ℕ). acknowledgement u ∷ []) g.taken;
    next = record {
      took = record { first = c.took.first; later = frame ∷ c.took.later };
      is = ap (λ (x : Option Answers). Some (with_answer frame x)) c.is;
      size = c.size;
      last = rw (c.inside, c.in_block) g.last;
      held = rw (c.in_block, c.held) g.held;
    };
  };
}

receiver_stays : (s : Setup) → ReceiverStays (Client s)
receiver_stays s = record { more = more s; all = λ a u y c. c }
  where
    more : (s : Setup) (a u : ℕ) (y : Knows) → Client s (acknowledging a u) y → Client s (taking (a + u) 0) y
    more s a u (waits known) c = let none : a + u ≡ a + u + 0 = omega arith in subst (λ (i : ℕ). Took s i 0 known) none c
    more s a u is_done c = c

-- ---- the begin, its confirmation and the start

begins : (s : Setup) (p : Type 0) → IsUpload s p reads_in_blocks → (x : Log × Contents) → Serving s s.contents None x
    → (refusal : Option ℕ) → reading_refusal s.description x.1 s.call.key ≡ refusal
    → Reacts (plan s p) (channel s) Requests (Channel (parts s p)) (Client s) asking [] x (begin s)
begins s p m x h None e =
    let read = block_upload_read s.call.key 127 0 m.key in
    let is : value_at x.1 s.call.key ≡ value s = ap (λ (c : Contents). value_at c s.call.key) h.lawful in
    goes confirmed (confirmation s ∷ []) (channel_takes s m.dictionary x None (begin s) (Response (BlockUploadInitiated s.call.key (Some (length (value s)))) ∷ []) _ (Some (begun s)) _ x.1 s.contents h refl
    refl refl h.lawful (rw (read, e, is) refl))
    (record { onward = turns refl refl refl; here = λ y. refl; there = λ y. refl; narrows = λ xs same. same }) (λ y c. c)
begins s p m x h (Some code) e =
    let read = block_upload_read s.call.key 127 0 m.key in
    gives_up (λ y. none≢some _ code (ap (λ (c : Contents). reading_refusal s.description c s.call.key) h.lawful ∙ m.may_read y) e) refl
    (channel_refuses s m.dictionary x None (begin s) s.call.key code h refl (rw (read, e) refl))

confirmation_read : (s : Setup) (p : Type 0) → IsUpload s p reads_in_blocks → response_in (confirmation s) ≡ Some (BlockUploadInitiated s.call.key (Some (length (value s))))
confirmation_read s p m = let small = small_value s m.dictionary in block_upload_initiated_read s.call.key (length (value s)) m.key (omega arith)

-- there is room for the value, or not
is_confirmed : (s : Setup) (p : Type 0) → IsUpload s p reads_in_blocks → (known : Option Answers) → known ≡ None
    → (above : Bool) → nat_lt (cap_of s.call.job) (length (value s)) ≡ above → ClientReacts (parts s p) confirmed [] known (confirmation s)
is_confirmed s p m known c true room = reacts (gives_up (λ y. not_above (cap_of s.call.job) _ (m.fits y) room) refl
    (rw (c, confirmation_read s p m, m.transfer, same_key-refl s.call.key, room) refl))
is_confirmed s p m known c false room = reacts (goes starting (start ∷ []) (record {
  messages = Request BlockUploadStart ∷ [];
  is = rw (c, confirmation_read s p m, m.transfer, same_key-refl s.call.key, room) refl;
  sends = refl;
  next = record {
    took = record { first = confirmation s; later = [] };
    is = ap (λ (a : Option Answers). Some (with_answer (confirmation s) a)) c;
    size = ap size_by (confirmation_read s p m);
    inside = refl;
    in_block = refl;
    held = refl;
  };
}) (record { onward = turns refl refl refl; here = λ y. refl; there = λ y. refl; narrows = λ xs same. same }) (λ y h. h))

starts : (s : Setup) (p : Type 0) → IsUpload s p reads_in_blocks → (x : Log × Contents) → Serving s s.contents (Some (begun s)) x
    → Reacts (plan s p) (channel s) Requests (Channel (parts s p)) (Client s) starting [] x start
starts s p m x h = goes (taking 0 0) _ (channel_takes s m.dictionary x (Some (begun s)) start (sub_block_sent (value s) 0 127) _ (Some (sending s 0)) _ x.1 s.contents h refl
    (burst (value s) 0 (omega arith)) refl h.lawful (rw start_read refl))
    (record {
      onward = turns refl refl (begins_at (value s) 0 (omega arith) (λ y. refl));
      here = λ y. refl;
      there = λ y. refl;
      narrows = λ xs same. same;
    }) (λ y c. c)

-- ---- the end and its confirmation

-- there is room for the value, or not
finished : (s : Setup) (p : Type 0) → IsUpload s p reads_in_blocks → (known : Option Answers) → TookAll s known
    → (above : Bool) → nat_lt (cap_of s.call.job) (length (value s)) ≡ above → ClientReacts (parts s p) ending [] known (server_end s)
finished s p m known c true room =
    let whole = all_is (value s) (total (value s) - 1) (omega arith) in
    reacts (gives_up (λ y. not_above (cap_of s.call.job) _ (m.fits y) room) refl
    (rw (c.is, m.transfer, c.last, c.size, upload_end_read (unused (value s)) (omega arith), c.held, whole, below_itself (length (value s)), room) refl))
finished s p m known c false room =
    let whole = all_is (value s) (total (value s) - 1) (omega arith) in
    finishes ended (Request UploadEnd ∷ []) (client_end ∷ [])
    (rw (c.is, m.transfer, c.last, c.size, upload_end_read (unused (value s)) (omega arith), c.held, whole, below_itself (length (value s)), room) refl) refl
    (record { onward = turns refl refl refl; here = λ y. omega arith; there = λ y. refl; narrows = λ xs same. same }) tt
    (λ x h. elim h [ inl serving ↦ inl serving | inr gone ↦ inr (refl, gone.1, gone.2) ])

ends : (s : Setup) (p : Type 0) → IsUpload s p reads_in_blocks → (x : Log × Contents) → Serving s s.contents (Some (at_end s)) x
    → Reacts (plan s p) (channel s) Requests (Channel (parts s p)) (Client s) ended [] x client_end
ends s p m x h = goes all_over [] (channel_takes s m.dictionary x (Some (at_end s)) client_end [] [] None _ x.1 s.contents h refl
    refl refl h.lawful (rw client_end_read refl))
    (record { onward = turns refl refl refl; here = λ y. omega arith; there = λ y. refl; narrows = λ xs same. same }) over_too
  where
    over_too : (y : Knows) → Client s ended y → Client s all_over y
    over_too (waits known) c = c
    over_too is_done c = c

-- ---- what else may come

end_byte : (n : ℕ) → n ≤ 7 → eqb (32 * 6 + (4 * n + 1)) 128 ≡ false
end_byte n h = grind (arith, nat_tests)

passes : (s : Setup) (p : Type 0) (k : Place) (xs : List (List ℕ)) → OnWay (plan s p) k xs → way Back k ≡ Back → kept (may_await (plan s p) k) xs ≡ xs
passes s p confirmed xs o e = rw o refl
passes s p (taking a t) xs o e =
    let size = o.size in
    subst (λ (ys : List (List ℕ)). kept is_live ys ≡ ys) (sym o.are) (live_segments (value s) a o.n (suc o.more) o.some (omega arith))
passes s p ending xs o e = rw (o, end_byte (unused (value s)) (omega arith)) refl
passes s p all_over xs o e = rw o refl
passes s p _ xs o e = absurd (requests≢back e)

-- a channel that has given up refuses what comes
refused : (s : Setup) (p : Type 0) → IsUpload s p reads_in_blocks → (x : Log × Contents) (f frame : List ℕ) (later : List (List ℕ)) → frame ∷ later ≡ f ∷ [] → length f ≡ 8
    → Serving s s.contents None x → Steps s.description x.1 None f (aborted (record { index = 0; sub = 0 }) 0x05040001) None x.1
    → (kept is_live (map answer_bytes (reply_to s.description x.1 x.0 frame)) ≡ []) × ((later ≡ []) ⊎ Serving s s.contents None (after_request s x frame))
refused s p m x f frame later e long h step =
    let gave = channel_refuses s m.dictionary x None f _ 0x05040001 h long step in
    (subst (λ (g : List ℕ). kept is_live (map answer_bytes (reply_to s.description x.1 x.0 g)) ≡ []) (sym (head_is frame f later [] e)) (rw gave.is refl), inl (tail_is frame f later [] e))

not_acknowledged : (s : Setup) (p : Type 0) → IsUpload s p reads_in_blocks → (x : Log × Contents) (u : ℕ) (frame : List ℕ) (later : List (List ℕ)) → frame ∷ later ≡ acknowledgement u ∷ []
    → Serving s s.contents None x → (kept is_live (map answer_bytes (reply_to s.description x.1 x.0 frame)) ≡ []) × ((later ≡ []) ⊎ Serving s s.contents None (after_request s x frame))
not_acknowledged s p m x u frame later e h = let read = acknowledge_read u 127 in
    refused s p m x (acknowledgement u) frame later e refl h (rw read refl)

gone_hears : (s : Setup) (p : Type 0) → IsUpload s p reads_in_blocks → (k : Place) (x : Log × Contents) (frame : List ℕ) (later : List (List ℕ)) → OnWay (plan s p) k (frame ∷ later)
    → GoneHears (parts s p) (way Back k) k x frame later
gone_hears s p m asking x frame later o = λ y c may h. absurd may
gone_hears s p m starting x frame later o = λ y c may h. refused s p m x start frame later o refl h
    (rw start_read refl)
gone_hears s p m (acknowledging a u) x frame later o = λ y c may h. not_acknowledged s p m x u frame later o.are h
gone_hears s p m (finishing a u) x frame later o = λ y c may h. not_acknowledged s p m x u frame later o.are h
gone_hears s p m ended x frame later o = λ y c may h. refused s p m x client_end frame later o refl h
    (rw client_end_read refl)
gone_hears s p m _ x frame later o = tt

closes : (s : Setup) (p : Type 0) (k : Place) (x : Log × Contents) → (p → ⊥) → Serving s s.contents None x → May (parts s p) k x
closes s p asking x never h = inl h
closes s p ended x never h = inr (refl, never, h)
closes s p all_over x never h = inl h
closes s p _ x never h = inr (tt, never, h)

-- ---- the transfer

hears : (s : Setup) (p : Type 0) → IsUpload s p reads_in_blocks → (k : Place) (x : Log × Contents) (frame : List ℕ) (later : List (List ℕ))
    → OnWay (plan s p) k (frame ∷ later) → Hears (parts s p) (way Back k) k x frame later
hears s p m asking x frame later o =
    λ y c h. one (λ f l. Reacts (plan s p) (channel s) Requests (Channel (parts s p)) (Client s) asking l x f) (begin s) [] frame later o (begins s p m x h _ refl)
hears s p m confirmed x frame later o =
    λ known c. one (λ f l. ClientReacts (parts s p) confirmed l known f) (confirmation s) [] frame later o (is_confirmed s p m known c _ refl)
hears s p m starting x frame later o =
    λ y c h. one (λ f l. Reacts (plan s p) (channel s) Requests (Channel (parts s p)) (Client s) starting l x f) start [] frame later o (starts s p m x h)
hears s p m (taking a t) x frame later o =
    λ known c. reacts (receives (plan s p) (client s) (AtClient s) (May (parts s p)) (receiver s p m) (sender_stays s p) a t known frame later o c)
hears s p m (acknowledging a u) x frame later o =
    λ y c h. sends_more (plan s p) (channel s) (Channel (parts s p)) (Client s) (sender s p m) (receiver_stays s) a u x frame later o h
hears s p m (finishing a u) x frame later o =
    λ y c h. sends_end (plan s p) (channel s) (Channel (parts s p)) (Client s) (sender s p m) (receiver_stays s) a u x frame later o h
hears s p m ending x frame later o = λ known c. one (λ f l. ClientReacts (parts s p) ending l known f) (server_end s) [] frame later o (finished s p m known c _ refl)
hears s p m ended x frame later o =
    λ y c h. one (λ f l. Reacts (plan s p) (channel s) Requests (Channel (parts s p)) (Client s) ended l x f) client_end [] frame later o (ends s p m x h)
hears s p m all_over x frame later o = absurd (cons≢nil frame later o)

waiting : (s : Setup) (k : Place) (known : Option Answers) → Client s k (waits known) → IsWaiting Back k
waiting s ended known c = absurd c
waiting s all_over known c = absurd c
waiting s _ known c = tt

done : (s : Setup) (k : Place) → Client s k is_done → (k ≡ all_over) ⊎ ((k ≡ ended) × (Back ≡ Back))
done s ended c = inr (refl, refl)
done s all_over c = inl refl
done s _ c = absurd c

pub theory : (s : Setup) (p : Type 0) → IsUpload s p reads_in_blocks → Theory (parts s p)
theory s p m = record {
  first_request = rw m.transfer refl;
  first_client = refl;
  first_channel = record { serves = serves_first s.description.rows s.past m.idle; lawful = refl };
  hears = hears s p m;
  gone_hears = gone_hears s p m;
  strange = λ k known frame c other. cut_fails s.call (stage_since s.call known) (held_since s.call known) frame (by k frame other);
  passes = passes s p;
  drops = λ key code. refl;
  closes = closes s p;
  gone_ticks = λ log contents h. serving_ticks s _ None log contents h;
  gone_ends = λ log contents h. serving_ends s _ None log contents h;
  waiting = waiting s;
  done = done s;
  none_open = refl;
  same_left = refl;
}
  where
    by : (k : Place) (frame : List ℕ) → may_await (plan s p) k frame ≡ false → is_abort_in_sub_block frame ≡ true
    by asking frame h = not-false (is_abort_in_sub_block frame) h
    by confirmed frame h = not-false (is_abort_in_sub_block frame) h
    by _ frame h = not-false (is_abort_in_sub_block frame) h

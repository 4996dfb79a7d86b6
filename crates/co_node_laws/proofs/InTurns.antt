-- A transfer in turns over the default channel of a node: in each round one request is answered, and when the last was
-- answered the client is done.
use Rattle.std.proofs.Common.{◌≡◌, ℕ, zero, suc, ◌+◌, ◌<◌, ◌≤◌, Bool, true, false, cond, List, [], ◌∷◌, ◌++◌, length, map, Option, Some, None, refl, ap, sym, subst, ◌∙◌, arith, append-nil, ◌⊎◌, inl, inr, eqb}
use Rattle.std.specs.Prelude.{◌==◌, ◌||◌, ◌&&◌}
use Rattle.std.proofs.lemmas.Bool.{eqb-true}
use Rattle.std.proofs.lemmas.Bool.Decides.{nat_tests}
use Rattle.co_frame.specs.FrameContent.{FrameContent}
use Rattle.co_frame.specs.declared.emergency.Emergency.{Emergency}
use Rattle.co_dict.specs.CobIds.{is_valid, identifier_of}
use Rattle.co_dict.specs.Rows.{Contents, number_at}
use Rattle.co_sdo_client.specs.declared.state.ClientState.TheVariants.{Waiting, Done}
use Rattle.co_sdo_client.specs.Calls.{Call, Message, message_bytes, Event, Answered, frames_on as messages_on}
use Rattle.co_sdo_client.specs.Outcomes.{asked, asked_by, outcome, sent}
use Rattle.co_sdo_client.specs.Standing.{is_answer_on, waits}
use Rattle.co_sdo_client.specs.Verdicts.{GoesOn, Ends}
use Rattle.co_sdo.specs.Log.{Answer, answer_bytes, Exchanged, frames_on, Log}
use Rattle.co_sdo.specs.Replies.{reply_to}
use Rattle.co_sdo_laws.specs.World.{Setup}
use Rattle.co_sdo_laws.proofs.Client.{follows, stays}
use Rattle.co_sdo_laws.proofs.Turns.{Turns}
use Rattle.co_node_parts.specs.declared.nmt_state.NodeState.TheVariants.{Stopped}
use Rattle.co_node_parts.specs.NmtStates.{is_state}
use Rattle.co_node_model.specs.Inputs.{Inputs, Framed}
use Rattle.co_profile.specs.Keys.{emergency_key}
use Rattle.co_node_model.specs.Sdo.{channel_logs}
use Rattle.co_node_model.specs.Device.{contents_of, moments, prescribed, state_of}
use Rattle.co_node_model.specs.Emergencies.{emergency_frames}
use Rattle.co_node_model.specs.Loop.{Loop, BothEnds, after_round, asked_after, events_after, first_ends, goes_on, request_id, response_id, round_of, rounds, some_wait, with_frames}
use Rattle.co_node_laws.specs.Apart.{AreApart, is_emergency_id}
use Rattle.co_node_laws.proofs.Channel.{same_number}
use Rattle.co_node_laws.proofs.Requests.{answers}

-- ---- frames at the client

-- an emergency that isn't on the identifier of the responses is passed over
record IsPassed (request id : ℕ) (call : Call) (events : List Event) (frames : List FrameContent) : Type 0 where
  events_same : events_after id events frames ≡ events
  none : asked_after request id call events frames ≡ []

one_passed : (request id : ℕ) (call : Call) (events : List Event) (frame : FrameContent) → (frame.id == id) ≡ false → IsPassed request id call events (frame ∷ [])
one_passed request id call events frame other = record { events_same = rw other refl; none = rw other refl }

emergency_passed : (request id : ℕ) (call : Call) (events : List Event) (c : Contents) (e : Option Emergency) (valid : Bool)
    → is_valid (number_at c emergency_key) ≡ valid → (is_valid (number_at c emergency_key) ≡ false → e ≡ None) → is_emergency_id c id ≡ false
    → IsPassed request id call events (emergency_frames c e)
emergency_passed request id call events c None valid is none apart = record { events_same = refl; none = refl }
emergency_passed request id call events c (Some e) true is none apart =
    one_passed request id call events (record { id = identifier_of (number_at c emergency_key); bytes = _ })
    (ap (λ b. b && (identifier_of (number_at c emergency_key) == id)) (sym is) ∙ apart)
emergency_passed request id call events c (Some e) false is none apart = absurd (let x = none is in cc)

-- a client that is done stays so, whatever frames come
record IsSettled (request id : ℕ) (call : Call) (events : List Event) (frames : List FrameContent) : Type 0 where
  state : outcome call (events_after id events frames) ≡ Done
  count : sent call (events_after id events frames) ≡ sent call events
  none : asked_after request id call events frames ≡ []

settled_by : (request id : ℕ) (call : Call) (events : List Event) (frame : FrameContent) (frames : List FrameContent) (b : Bool) → is_answer_on id frame ≡ b → outcome call events ≡ Done
    → ((later : List Event) → outcome call later ≡ Done → IsSettled request id call later frames)
    → IsSettled request id call events (frame ∷ frames)
settled_by request id call events frame frames true is done rest =
    let s = stays call events (Answered frame.bytes) done in
    let r = rest (Answered frame.bytes ∷ events) s.state in
    record { state = rw is r.state; count = rw is (r.count ∙ s.count); none = rw (is, done) r.none }
settled_by request id call events frame frames false is done rest =
    let r = rest events done in
    record { state = rw is r.state; count = rw is r.count; none = rw is r.none }

settled : (request id : ℕ) (call : Call) (events : List Event) (frames : List FrameContent) → outcome call events ≡ Done → IsSettled request id call events frames
settled request id call events [] done = record { state = done; count = refl; none = refl }
settled request id call events (frame ∷ frames) done =
    settled_by request id call events frame frames (is_answer_on id frame) refl done (λ later d. settled request id call later frames d)

-- ---- messages and answers as frames

abbrev framed : ℕ → List ℕ → FrameContent
framed id bytes = record { id = id; bytes = bytes }

messages_are : (id : ℕ) (messages : List Message) → messages_on id messages ≡ map (λ b. record { id = id; bytes = b }) (map message_bytes messages)
messages_are id [] = refl
messages_are id (m ∷ messages) = ap (λ (fs : List FrameContent). record { id = id; bytes = message_bytes m } ∷ fs) (messages_are id messages)

answers_are : (id : ℕ) (answers : List Answer) → frames_on id answers ≡ map (λ b. record { id = id; bytes = b }) (map answer_bytes answers)
answers_are id [] = refl
answers_are id (a ∷ answers) = ap (λ (fs : List FrameContent). record { id = id; bytes = answer_bytes a } ∷ fs) (answers_are id answers)

-- ---- the transfer

-- a client and a channel of the node, as a world sees them
abbrev pub world_of : Loop → Inputs → Setup
world_of l before = record {
  call = l.call;
  time = l.node.time;
  description = l.node.description;
  contents = contents_of l.node before;
  past = channel_logs (moments l.node before) 0;
}

-- its requests and answers have eight bytes, and while it goes on nothing else has their identifiers
pub record Suits (l : Loop) (before : Inputs) (t : Turns (world_of l before)) : Type 0 where
  pub long_request : (k : ℕ) → k < t.needed → length (t.request k) ≡ 8
  pub long_answer : (k : ℕ) → k < t.needed → length (t.answer k) ≡ 8
  pub apart : (k : ℕ) (log : Log) (contents : Contents) → k < t.needed → t.Channel k log contents → AreApart l.node.description.node contents

-- the client waits, and its next request waits to be given to the node
pub record AtRound (l : Loop) (before : Inputs) (t : Turns (world_of l before)) (k : ℕ) (e : BothEnds) : Type 0 where
  pub within : k < t.needed
  pub waiting : e.waiting ≡ record { id = request_id l; bytes = t.request k } ∷ []
  pub waits : outcome l.call e.events ≡ Waiting
  pub count : sent l.call e.events ≡ k + 1
  pub client : t.Client k e.events
  pub channel : t.Channel k (channel_logs (moments l.node e.inputs) 0) (contents_of l.node e.inputs)
  pub running : is_state Stopped (state_of l.node e.inputs) ≡ false

-- the client is done
pub record IsEnd (l : Loop) (before : Inputs) (t : Turns (world_of l before)) (e : BothEnds) : Type 0 where
  pub waiting : e.waiting ≡ []
  pub done : outcome l.call e.events ≡ Done
  pub count : sent l.call e.events ≡ t.needed
  pub channel : t.Channel t.needed (channel_logs (moments l.node e.inputs) 0) (contents_of l.node e.inputs)

pub first : (l : Loop) (before : Inputs) (t : Turns (world_of l before)) → is_state Stopped (state_of l.node before) ≡ false → AtRound l before t 0 (first_ends l before)
first l before t running = record {
  within = t.some;
  waiting = messages_are (request_id l) (asked l.call []) ∙ ap (map (λ (b : List ℕ). framed (request_id l) b)) t.first_request;
  waits = refl;
  count = refl;
  client = t.first_client;
  channel = t.first_channel;
  running = running;
}

-- an answer that comes to the client with other frames after it
heard_events : (id : ℕ) (events : List Event) (bytes : List ℕ) (frames : List FrameContent) → length bytes ≡ 8
    → events_after id events (framed id bytes ∷ frames) ≡ events_after id (Answered bytes ∷ events) frames
heard_events id events bytes frames eight = rw (same_number id, eight) refl

heard_asked : (request id : ℕ) (call : Call) (events : List Event) (bytes : List ℕ) (frames : List FrameContent) → length bytes ≡ 8
    → asked_after request id call events (framed id bytes ∷ frames) ≡ messages_on request (asked_by call events (Answered bytes)) ++ asked_after request id call (Answered bytes ∷ events) frames
heard_asked request id call events bytes frames eight = rw (same_number id, eight) refl

-- what a round gives
record Gives (l : Loop) (before : Inputs) (t : Turns (world_of l before)) (k : ℕ) (e : BothEnds) : Type 0 where
  request : FrameContent
  is_request : request ≡ framed (request_id l) (t.request k)
  emergency : Option Emergency
  frames : prescribed l.node e.inputs (Framed request) ≡ framed (response_id l) (t.answer k) ∷ emergency_frames (contents_of l.node (Framed request ∷ e.inputs)) emergency
  valid : is_valid (number_at (contents_of l.node (Framed request ∷ e.inputs)) emergency_key) ≡ false → emergency ≡ None
  channel : t.Channel (k + 1) (channel_logs (moments l.node (Framed request ∷ e.inputs)) 0) (contents_of l.node (Framed request ∷ e.inputs))
  running : is_state Stopped (state_of l.node (Framed request ∷ e.inputs)) ≡ false
  round : after_round l e ≡ with_frames l (prescribed l.node e.inputs (Framed request)) (record { events = e.events; inputs = Framed request ∷ e.inputs; waiting = [] })

gives : (l : Loop) (before : Inputs) (t : Turns (world_of l before)) → Suits l before t → (k : ℕ) (e : BothEnds) → AtRound l before t k e → Gives l before t k e
gives l before t suits k e h =
    let d = l.node.description in
    let c : Contents = contents_of l.node e.inputs in
    let log : Log = channel_logs (moments l.node e.inputs) 0 in
    let step = t.takes k log c h.within h.channel in
    let a = answers l.node e.inputs (t.request k) (suits.long_request k h.within) (suits.apart k log c h.within h.channel).sync h.running in
    let one : frames_on (response_id l) (reply_to d c log (t.request k)) ≡ framed (response_id l) (t.answer k) ∷ [] =
    answers_are (response_id l) (reply_to d c log (t.request k)) ∙ ap (map (λ (b : List ℕ). framed (response_id l) b)) step.replies in
    record {
      request = framed (request_id l) (t.request k);
      is_request = refl;
      emergency = a.emergency;
      frames = a.frames ∙ ap (λ (xs : List FrameContent). xs ++ emergency_frames (contents_of l.node (Framed (framed (request_id l) (t.request k)) ∷ e.inputs)) a.emergency) one;
      valid = a.valid;
      channel = subst (λ (lg : Log). t.Channel (k + 1) lg (contents_of l.node (Framed (framed (request_id l) (t.request k)) ∷ e.inputs))) (sym a.log)
          (subst (λ (cs : Contents). t.Channel (k + 1) (Exchanged (record { request = t.request k; contents = c; answers = reply_to d c log (t.request k) }) ∷ log) cs) (sym a.contents) step.next);
      running = ap (is_state Stopped) a.state ∙ h.running;
      round = ap (λ (ws : List FrameContent). round_of l ws e) h.waiting;
    }

goes : (l : Loop) (before : Inputs) (t : Turns (world_of l before)) → Suits l before t → (k : ℕ) (e : BothEnds) → AtRound l before t k e → k + 1 < t.needed → AtRound l before t (k + 1) (after_round l e)
goes l before t suits k e h more =
    let r = gives l before t suits k e h in
    let g = t.goes_on k e.events more h.client in
    let f = follows l.call e.events (Answered (t.answer k)) (GoesOn (g.message ∷ [])) h.waits g.goes_on in
    let cs : Contents = contents_of l.node (Framed r.request ∷ e.inputs) in
    let eight = suits.long_answer k h.within in
    let p = emergency_passed (request_id l) (response_id l) l.call (Answered (t.answer k) ∷ e.events) cs r.emergency _ refl r.valid (suits.apart (k + 1) _ cs more r.channel).emergency in
    let events_are : events_after (response_id l) e.events (prescribed l.node e.inputs (Framed r.request)) ≡ Answered (t.answer k) ∷ e.events =
    ap (events_after (response_id l) e.events) r.frames ∙ heard_events (response_id l) e.events (t.answer k) (emergency_frames cs r.emergency) eight ∙ p.events_same in
    let asked_are : asked_after (request_id l) (response_id l) l.call e.events (prescribed l.node e.inputs (Framed r.request)) ≡ framed (request_id l) (t.request (k + 1)) ∷ [] =
    ap (asked_after (request_id l) (response_id l) l.call e.events) r.frames ∙ heard_asked (request_id l) (response_id l) l.call e.events (t.answer k) (emergency_frames cs r.emergency) eight
    ∙ ap (λ (xs : List FrameContent). messages_on (request_id l) (asked_by l.call e.events (Answered (t.answer k))) ++ xs) p.none
    ∙ append-nil _
    ∙ ap (messages_on (request_id l)) f.messages
    ∙ ap (λ (b : List ℕ). framed (request_id l) b ∷ []) g.asks in
    let n = h.count in
    let m = f.count in
    subst (AtRound l before t (k + 1)) (sym r.round) (record {
      within = more;
      waiting = asked_are;
      waits = ap (outcome l.call) events_are ∙ f.state;
      count = ap (sent l.call) events_are ∙ (omega arith);
      client = subst (t.Client (k + 1)) (sym events_are) g.next;
      channel = r.channel;
      running = r.running;
    })

ends : (l : Loop) (before : Inputs) (t : Turns (world_of l before)) → Suits l before t → (k : ℕ) (e : BothEnds) → AtRound l before t k e → k + 1 ≡ t.needed → IsEnd l before t (after_round l e)
ends l before t suits k e h last =
    let r = gives l before t suits k e h in
    let f = follows l.call e.events (Answered (t.answer k)) (Ends [] t.value) h.waits (t.ends k e.events last h.client) in
    let cs : Contents = contents_of l.node (Framed r.request ∷ e.inputs) in
    let eight = suits.long_answer k h.within in
    let p = settled (request_id l) (response_id l) l.call (Answered (t.answer k) ∷ e.events) (emergency_frames cs r.emergency) f.state in
    let events_are : events_after (response_id l) e.events (prescribed l.node e.inputs (Framed r.request)) ≡ events_after (response_id l) (Answered (t.answer k) ∷ e.events) (emergency_frames cs r.emergency) =
    ap (events_after (response_id l) e.events) r.frames ∙ heard_events (response_id l) e.events (t.answer k) (emergency_frames cs r.emergency) eight in
    let asked_are : asked_after (request_id l) (response_id l) l.call e.events (prescribed l.node e.inputs (Framed r.request)) ≡ [] =
    ap (asked_after (request_id l) (response_id l) l.call e.events) r.frames ∙ heard_asked (request_id l) (response_id l) l.call e.events (t.answer k) (emergency_frames cs r.emergency) eight
    ∙ ap (λ (xs : List FrameContent). messages_on (request_id l) (asked_by l.call e.events (Answered (t.answer k))) ++ xs) p.none
    ∙ append-nil _
    ∙ ap (messages_on (request_id l)) f.messages in
    let n = h.count in
    let m = f.count in
    subst (IsEnd l before t) (sym r.round) (record {
      waiting = asked_are;
      done = ap (outcome l.call) events_are ∙ p.state;
      count = ap (sent l.call) events_are ∙ p.count ∙ (omega arith);
      channel = subst (λ (j : ℕ). t.Channel j (channel_logs (moments l.node (Framed r.request ∷ e.inputs)) 0) cs) last r.channel;
    })

-- ---- all rounds

either : (k n : ℕ) → k < n → (k + 1 < n) ⊎ (k + 1 ≡ n)
either k n h = by (eqb (k + 1) n) refl
  where
    by : (b : Bool) → eqb (k + 1) n ≡ b → (k + 1 < n) ⊎ (k + 1 ≡ n)
    by true e = inr (eqb-true (k + 1) n e)
    by false e = inl (grind (arith, nat_tests))

over : (l : Loop) (before : Inputs) (t : Turns (world_of l before)) (n : ℕ) (e : BothEnds) → IsEnd l before t e → rounds n l e ≡ e
unfolding rounds
over l before t zero e h = refl
over l before t (suc n) e h =
    let off : goes_on l e ≡ false = ap (λ s. waits s || some_wait e.waiting) h.done ∙ ap some_wait h.waiting in
    ap (λ b. cond b (rounds n l (after_round l e)) e) off

pub runs : (l : Loop) (before : Inputs) (t : Turns (world_of l before)) → Suits l before t → (n k : ℕ) (e : BothEnds) → AtRound l before t k e → t.needed ≤ k + n → IsEnd l before t (rounds n l e)
unfolding rounds
runs l before t suits zero k e h all = let w = h.within in absurd (omega arith)
runs l before t suits (suc n) k e h all =
    let on : goes_on l e ≡ true = ap (λ s. waits s || some_wait e.waiting) h.waits in
    subst (IsEnd l before t) (sym (ap (λ b. cond b (rounds n l (after_round l e)) e) on))
    (elim (either k t.needed h.within) [
      | inl more ↦ runs l before t suits n (k + 1) (after_round l e) (goes l before t suits k e h more) (omega arith)
      | inr last ↦ let end = ends l before t suits k e h last in subst (IsEnd l before t) (sym (over l before t n (after_round l e) end)) end
    ])

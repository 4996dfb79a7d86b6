-- Transfers in turns: after each request its answer. What holds of an undisturbed world after each list of events.
use Rattle.std.proofs.Common.{◌≡◌, ℕ, ◌+◌, ◌*◌, ◌<◌, ◌≤◌, Bool, true, false, List, [], ◌∷◌, length, map, refl, sym, ap, ◌∙◌, arith, eqb, subst, append-nil, ◌⊎◌, inl, inr}
use Rattle.std.proofs.lemmas.Bool.{eqb-true}
use Rattle.std.proofs.lemmas.Bool.Decides.{nat_tests}
use Rattle.co_sdo_client.specs.declared.state.ClientState.{ClientState}
use Rattle.co_sdo_client.specs.declared.state.ClientState.TheVariants.{Waiting, Done}
use Rattle.co_sdo_client.specs.Calls.{Message, message_bytes, Event as ClientEvent, Answered, Ticked as TickedAtClient, answers as answers_of}
use Rattle.co_sdo_client.specs.Verdicts.{Verdict, GoesOn, Ends, verdict}
use Rattle.co_sdo_client.specs.Outcomes.{state_by, messages_by, outcome, asked, result}
use Rattle.co_dict.specs.Rows.{Contents}
use Rattle.co_sdo.specs.Log.{answer_bytes, Exchanged, Ticked, Log}
use Rattle.co_sdo.specs.Replies.{reply_to}
use Rattle.co_sdo.specs.Completed.{set_by, contents_with}
use Rattle.co_sdo.proofs.Initiations.{exchange}
use Rattle.co_sdo_laws.specs.World.{Setup, World, Requests, Answers, WorldEvent, Delivered, Lost, Repeated, ClientTicked, ChannelTicked, first_world, after_event, world_after}
use Rattle.co_sdo_laws.specs.Undisturbed.{IsCalm, AreCalm, GoesInTurns}
use Rattle.co_sdo_laws.proofs.Progress.{no_front, AllThere}
use Rattle.co_sdo_laws.proofs.Client.{follows, stays, tick_verdict}

-- the channel takes a request: its only answer, and how it stands then
pub record Takes (s : Setup) (log : Log) (contents : Contents) (request answer : List ℕ) (Next : Log → Contents → Type 0) : Type 0 where
  pub replies : map answer_bytes (reply_to s.description contents log request) ≡ answer ∷ []
  pub next : Next (Exchanged (exchange request contents (reply_to s.description contents log request)) ∷ log) (contents_with contents (set_by s.description contents log request))

-- the client takes an answer: the only message that it sends, and how it stands then
pub record GoesOnWith (s : Setup) (events : List ClientEvent) (answer request : List ℕ) (Next : List ClientEvent → Type 0) : Type 0 where
  pub message : Message
  pub goes_on : verdict s.call events (Answered answer) ≡ GoesOn (message ∷ [])
  pub asks : message_bytes message ≡ request
  pub next : Next (Answered answer ∷ events)

-- the requests and answers of a transfer in turns, what holds of the client after so many answers and of the channel after so
-- many requests, and that each of them goes on
pub record Turns (s : Setup) : Type 1 where
  pub needed : ℕ
  pub value : List ℕ
  pub request : ℕ → List ℕ
  pub answer : ℕ → List ℕ
  pub Client : ℕ → List ClientEvent → Type 0
  pub Channel : ℕ → Log → Contents → Type 0
  pub some : 0 < needed
  pub first_request : map message_bytes (asked s.call []) ≡ request 0 ∷ []
  pub first_client : Client 0 []
  pub first_channel : Channel 0 s.past s.contents
  pub takes : (k : ℕ) (log : Log) (contents : Contents) → k < needed → Channel k log contents → Takes s log contents (request k) (answer k) (Channel (k + 1))
  pub channel_ticks : (k : ℕ) (log : Log) (contents : Contents) → Channel k log contents → Channel k (Ticked ∷ log) contents
  pub goes_on : (k : ℕ) (events : List ClientEvent) → k + 1 < needed → Client k events → GoesOnWith s events (answer k) (request (k + 1)) (Client (k + 1))
  pub ends : (k : ℕ) (events : List ClientEvent) → k + 1 ≡ needed → Client k events → verdict s.call events (Answered (answer k)) ≡ Ends [] value
  pub client_ticks : (k : ℕ) (events : List ClientEvent) → Client k events → Client k (TickedAtClient ∷ events)

-- both ends after j requests and k answers: what is on its way, the client's state, and what else holds of it
pub record At (s : Setup) (t : Turns s) (j k : ℕ) (sent given : List (List ℕ)) (is : ClientState) (Client : List ClientEvent → Type 0) (w : World) : Type 0 where
  requests : w.requests ≡ sent
  answers : w.answers ≡ given
  state : outcome s.call w.events ≡ is
  pub client : Client w.events
  pub channel : t.Channel j w.log w.contents
  exchanged : w.received ≡ j
  answered : length (answers_of w.events) ≡ k

-- k answers were taken, and request k is on its way, or its answer
abbrev pub Asking : (s : Setup) → Turns s → ℕ → World → Type 0
Asking s t k w = At s t k k (t.request k ∷ []) [] Waiting (t.Client k) w

abbrev pub Answering : (s : Setup) → Turns s → ℕ → World → Type 0
Answering s t k w = At s t (k + 1) k [] (t.answer k ∷ []) Waiting (t.Client k) w

-- all were taken
abbrev pub Over : (s : Setup) → Turns s → ℕ → World → Type 0
Over s t n w = At s t n n [] [] Done (λ events. result s.call events ≡ t.value) w

pub data InTurns (s : Setup) (t : Turns s) (w : World) : Type 0 where
  asking : (k : ℕ) → k < t.needed → Asking s t k w → InTurns s t w
  answering : (k : ℕ) → k < t.needed → Answering s t k w → InTurns s t w
  over : Over s t t.needed w → InTurns s t w

pub either : (k n : ℕ) → k ≤ n → (k < n) ⊎ (k ≡ n)
either k n h = by (eqb k n) refl
  where
    by : (b : Bool) → eqb k n ≡ b → (k < n) ⊎ (k ≡ n)
    by true e = inr (eqb-true k n e)
    by false e = inl (grind (arith, nat_tests))

pub waiting≢done : Waiting ≡ Done → ⊥
waiting≢done e = cc

module _ (s : Setup) (t : Turns s) where
  begins : InTurns s t (first_world s)
  begins = asking 0 t.some (record {
    requests = t.first_request;
    answers = refl;
    state = refl;
    client = t.first_client;
    channel = t.first_channel;
    exchanged = refl;
    answered = refl;
  })

  request_comes : (k : ℕ) (w : World) → k < t.needed → Asking s t k w
      → InTurns s t (after_event s (Delivered Requests) w)
  request_comes k w less h =
      let step = t.takes k w.log w.contents less h.channel in
      rw h.requests (answering k less (record {
        requests = refl;
        answers = rw h.answers step.replies;
        state = h.state;
        client = h.client;
        channel = step.next;
        exchanged = let n = h.exchanged in omega arith;
        answered = h.answered;
      }))

  -- the client takes its answer, by its verdict
  heard : (k : ℕ) (sent : List (List ℕ)) (w : World) (v : Verdict) (Client : List ClientEvent → Type 0)
      → Answering s t k w → verdict s.call w.events (Answered (t.answer k)) ≡ v
      → map message_bytes (messages_by s.call v) ≡ sent → Client (Answered (t.answer k) ∷ w.events)
      → At s t (k + 1) (k + 1) sent [] (state_by v) Client (after_event s (Delivered Answers) w)
  heard k sent w v Client h is messages next =
      let f = follows s.call w.events (Answered (t.answer k)) v h.state is in
      rw h.answers (record {
        requests = rw (h.requests, f.messages) messages;
        answers = refl;
        state = f.state;
        client = next;
        channel = h.channel;
        exchanged = h.exchanged;
        answered = let n = h.answered in omega arith;
      })

  answer_comes : (k : ℕ) (w : World) → Answering s t k w → k + 1 < t.needed
      → InTurns s t (after_event s (Delivered Answers) w)
  answer_comes k w h more =
      let step = t.goes_on k w.events more h.client in
      asking (k + 1) more (heard k (t.request (k + 1) ∷ []) w (GoesOn (step.message ∷ [])) (t.Client (k + 1)) h step.goes_on
      (ap (λ (x : List ℕ). x ∷ []) step.asks) step.next)

  last_answer_comes : (k : ℕ) (w : World) → Answering s t k w → k + 1 ≡ t.needed
      → InTurns s t (after_event s (Delivered Answers) w)
  last_answer_comes k w h last =
      let is = t.ends k w.events last h.client in
      over (subst (λ (n : ℕ). Over s t n (after_event s (Delivered Answers) w)) last (heard k [] w (Ends [] t.value) (λ events. result s.call events ≡ t.value) h is refl
      (follows s.call w.events (Answered (t.answer k)) (Ends [] t.value) h.state is).value))

  -- ---- ticks

  client_tick : (j k : ℕ) (sent given : List (List ℕ)) (is : ClientState) (Client : List ClientEvent → Type 0) (w : World)
      → At s t j k sent given is Client w → outcome s.call (TickedAtClient ∷ w.events) ≡ is
      → asked s.call (TickedAtClient ∷ w.events) ≡ [] → Client (TickedAtClient ∷ w.events)
      → At s t j k sent given is Client (after_event s ClientTicked w)
  client_tick j k sent given is Client w h state none client = record {
    requests = rw (none, append-nil w.requests) h.requests;
    answers = h.answers;
    state = state;
    client = client;
    channel = h.channel;
    exchanged = h.exchanged;
    answered = h.answered;
  }

  waits_tick : (j k : ℕ) (sent given : List (List ℕ)) (w : World)
      → At s t j k sent given Waiting (t.Client k) w → IsCalm s ClientTicked w
      → At s t j k sent given Waiting (t.Client k) (after_event s ClientTicked w)
  waits_tick j k sent given w h calm =
      let f = follows s.call w.events TickedAtClient (GoesOn []) h.state (tick_verdict s.call w.events (calm h.state)) in
      client_tick j k sent given Waiting (t.Client k) w h f.state f.messages (t.client_ticks k w.events h.client)

  channel_tick : (j k : ℕ) (sent given : List (List ℕ)) (is : ClientState) (Client : List ClientEvent → Type 0) (w : World)
      → At s t j k sent given is Client w → IsCalm s ChannelTicked w
      → At s t j k sent given is Client (after_event s ChannelTicked w)
  channel_tick j k sent given is Client w h calm = rw calm (record {
    requests = h.requests;
    answers = h.answers;
    state = h.state;
    client = h.client;
    channel = t.channel_ticks j w.log w.contents h.channel;
    exchanged = h.exchanged;
    answered = h.answered;
  })

  -- ---- every event

  step : (event : WorldEvent) (w : World) → IsCalm s event w → InTurns s t w
      → InTurns s t (after_event s event w)
  step (Delivered Requests) w calm (asking k less h) = request_comes k w less h
  step (Delivered Requests) w calm (answering k less h) = subst (InTurns s t) (no_front s Requests w h.requests) (answering k less h)
  step (Delivered Requests) w calm (over h) = subst (InTurns s t) (no_front s Requests w h.requests) (over h)
  step (Delivered Answers) w calm (asking k less h) = subst (InTurns s t) (no_front s Answers w h.answers) (asking k less h)
  step (Delivered Answers) w calm (answering k less h) = elim (either (k + 1) t.needed (omega arith)) [ inl more ↦ answer_comes k w h more | inr last ↦ last_answer_comes k w h last ]
  step (Delivered Answers) w calm (over h) = subst (InTurns s t) (no_front s Answers w h.answers) (over h)
  step (Lost queue) w calm h = absurd calm
  step (Repeated queue) w calm h = absurd calm
  step ClientTicked w calm (asking k less h) = asking k less (waits_tick _ _ _ _ w h calm)
  step ClientTicked w calm (answering k less h) = answering k less (waits_tick _ _ _ _ w h calm)
  step ClientTicked w calm (over h) =
      let f = stays s.call w.events TickedAtClient h.state in over (client_tick _ _ _ _ _ _ w h f.state f.messages (f.value ∙ h.client))
  step ChannelTicked w calm (asking k less h) = asking k less (channel_tick _ _ _ _ _ _ w h calm)
  step ChannelTicked w calm (answering k less h) = answering k less (channel_tick _ _ _ _ _ _ w h calm)
  step ChannelTicked w calm (over h) = over (channel_tick _ _ _ _ _ _ w h calm)

  pub always : (events : List WorldEvent) → AreCalm s events → InTurns s t (world_after s events)
  always [] calm = begins
  always (event ∷ older) calm = step event (world_after s older) calm.0 (always older calm.1)

  -- ---- what it says of the world

  waits_in_turns : (j k : ℕ) (sent given : List (List ℕ)) (Client : List ClientEvent → Type 0) (w : World)
      → j + k < 2 * t.needed → length sent + length given ≡ 1
      → At s t j k sent given Waiting Client w → GoesInTurns s.call t.needed w
  waits_in_turns j k sent given Client w more one h =
      let n = h.exchanged in let m = h.answered in
      let other : eqb (w.received + length (answers_of w.events)) (2 * t.needed) ≡ false = grind (arith, nat_tests) in
      let waits = h.state in
      record {
        within = omega arith;
        state = rw (other, h.state) refl;
        moves = rw (other, h.requests, h.answers) one;
        sent = λ done. cc;
      }

  pub goes_in_turns : (w : World) → AllThere s w → InTurns s t w → GoesInTurns s.call t.needed w
  goes_in_turns w there (asking k less h) = waits_in_turns k k _ _ _ w (omega arith) refl h
  goes_in_turns w there (answering k less h) = waits_in_turns (k + 1) k _ _ _ w (omega arith) refl h
  goes_in_turns w there (over h) =
      let n = h.exchanged in let m = h.answered in
      let all : eqb (w.received + length (answers_of w.events)) (2 * t.needed) ≡ true = grind (arith, nat_tests) in
      record {
        within = omega arith;
        state = rw (all, h.state) refl;
        moves = rw (all, h.requests, h.answers) refl;
        sent = λ done. there.client ∙ rw h.requests (omega arith);
      }

  pub when_done : (w : World) → InTurns s t w → outcome s.call w.events ≡ Done → Over s t t.needed w
  when_done w (asking k less h) done = absurd (waiting≢done (sym h.state ∙ done))
  when_done w (answering k less h) done = absurd (waiting≢done (sym h.state ∙ done))
  when_done w (over h) done = h

-- As long as a frame is on its way before all have arrived, deliveries bring all of them.
use Rattle.std.proofs.Common.{◌≡◌, ℕ, zero, suc, ◌+◌, ◌<◌, ◌≤◌, Bool, true, false, List, [], ◌∷◌, length, refl, arith, subst, map, ap, length-append}
use Rattle.std.specs.Prelude.{nat_lt, min}
use Rattle.std.proofs.lemmas.Bool.Decides.{nat_tests}
use Rattle.co_sdo_laws.specs.World.{Setup, World, Queue, on_way, Requests, Answers, WorldEvent, Delivered, after_event, world_after, Lost, Repeated, ClientTicked, ChannelTicked, at_client}
use Rattle.co_sdo_laws.specs.Undisturbed.{AreCalm, arrived, on_their_way, rounds_after, IsCalm, answers_sent, HaveSent}
use Rattle.std.proofs.lemmas.List.{length-map}
use Rattle.co_sdo_client.specs.Calls.{message_bytes, Event as ClientEvent, Answered, Ticked as TickedAtClient, answers as answers_of}
use Rattle.co_sdo_client.specs.Outcomes.{asked, all_asked, sent}
use Rattle.co_sdo.specs.Log.{answer_bytes}
use Rattle.co_sdo.specs.Replies.{reply_to}

more : (s : Setup) (queue : Queue) (w : World) (frame : List ℕ) (later : List (List ℕ)) → on_way queue w ≡ frame ∷ later
    → arrived w + 1 ≤ arrived (after_event s (Delivered queue) w)
more s Requests w frame later e = rw e (omega arith)
more s Answers w frame later e = rw e (omega arith)

-- where nothing is on its way in a queue, nothing happens
pub no_front : (s : Setup) (queue : Queue) (w : World) → on_way queue w ≡ [] → w ≡ after_event s (Delivered queue) w
no_front s Requests w e = rw e refl
no_front s Answers w e = rw e refl

keeps : (s : Setup) (queue : Queue) (w : World) (xs : List (List ℕ)) → on_way queue w ≡ xs
    → arrived w ≤ arrived (after_event s (Delivered queue) w)
keeps s queue w [] e = subst (λ (x : World). arrived w ≤ arrived x) (no_front s queue w e) (omega arith)
keeps s queue w (frame ∷ later) e = let one = more s queue w frame later e in omega arith

abbrev a_round : Setup → World → World
a_round s w = after_event s (Delivered Answers) (after_event s (Delivered Requests) w)

round_keeps : (s : Setup) (w : World) → arrived w ≤ arrived (a_round s w)
round_keeps s w =
    let first = keeps s Requests w w.requests refl in
    let second = keeps s Answers (after_event s (Delivered Requests) w) _ refl in
    omega arith

-- where a frame is on its way, a round brings one
round_brings : (s : Setup) (w : World) (xs ys : List (List ℕ)) → w.requests ≡ xs → w.answers ≡ ys → 1 ≤ length xs + length ys → arrived w + 1 ≤ arrived (a_round s w)
round_brings s w (frame ∷ later) ys e f some =
    let first = more s Requests w frame later e in
    let second = keeps s Answers (after_event s (Delivered Requests) w) _ refl in
    omega arith
round_brings s w [] (frame ∷ later) e f some = subst (λ (x : World). arrived w + 1 ≤ arrived (after_event s (Delivered Answers) x)) (no_front s Requests w e) (more s Answers w frame later f)
round_brings s w [] [] e f some = absurd (omega arith)

pub rounds_calm : (s : Setup) (n : ℕ) (events : List WorldEvent) → AreCalm s events → AreCalm s (rounds_after n events)
rounds_calm s zero events calm = calm
rounds_calm s (suc n) events calm = (tt, (tt, rounds_calm s n events calm))

brought : (s : Setup) (frames n : ℕ) (w : World) → min frames n ≤ arrived w → (less : Bool) → nat_lt (arrived w) frames ≡ less → (arrived w < frames → 1 ≤ on_their_way w) → min frames (suc n) ≤ arrived (a_round s w)
brought s frames n w so_far true l moves =
    let under : arrived w < frames = grind (arith, nat_tests) in
    let more = round_brings s w w.requests w.answers refl refl (moves under) in omega arith
brought s frames n w so_far false l moves =
    let over : frames ≤ arrived w = grind (arith, nat_tests) in
    let kept = round_keeps s w in omega arith

all_brought : (s : Setup) (frames n : ℕ) (events : List WorldEvent) → AreCalm s events → ((later : List WorldEvent) → AreCalm s later → arrived (world_after s later) < frames → 1 ≤ on_their_way (world_after s later))
    → min frames n ≤ arrived (world_after s (rounds_after n events))
all_brought s frames zero events calm moves = omega arith
all_brought s frames (suc n) events calm moves =
    brought s frames n (world_after s (rounds_after n events)) (all_brought s frames n events calm moves) _ refl (moves (rounds_after n events) (rounds_calm s n events calm))

-- as many rounds as there are frames bring them all
pub all_arrive : (s : Setup) (frames : ℕ) (events : List WorldEvent) → AreCalm s events → ((later : List WorldEvent) → AreCalm s later → arrived (world_after s later) < frames → 1 ≤ on_their_way (world_after s later))
    → frames ≤ arrived (world_after s (rounds_after frames events))
all_arrive s frames events calm moves = let all = all_brought s frames frames events calm moves in omega arith

-- ---- where no frame is lost or repeated, each that an end has sent has arrived or is on its way

-- what was sent is what came and what is on its way
pub record AllThere (s : Setup) (w : World) : Type 0 where
  pub client : sent s.call w.events ≡ w.received + length w.requests
  pub channel : answers_sent w.log ≡ answers_sent s.past + (length (answers_of w.events) + length w.answers)

requests_come : (s : Setup) (w : World) (xs : List (List ℕ)) → w.requests ≡ xs → AllThere s w
    → AllThere s (after_event s (Delivered Requests) w)
requests_come s w [] e h = subst (AllThere s) (no_front s Requests w e) h
requests_come s w (frame ∷ later) e h =
    let size : length w.requests ≡ suc (length later) = ap length e in
    let m = h.client in
    let more = length-append w.answers (map answer_bytes (reply_to s.description w.contents w.log frame)) in
    let same = length-map (reply_to s.description w.contents w.log frame) answer_bytes in
    let n = h.channel in
    rw e (record { client = omega arith; channel = omega arith })

client_has : (s : Setup) (event : ClientEvent) (w : World) → sent s.call w.events ≡ w.received + length w.requests
    → sent s.call (event ∷ w.events) ≡ w.received + length (at_client s event w).requests
client_has s event w n =
    let more = length-append w.requests (map message_bytes (asked s.call (event ∷ w.events))) in
    let same = length-map (asked s.call (event ∷ w.events)) message_bytes in
    let longer = length-append (all_asked s.call w.events) (asked s.call (event ∷ w.events)) in
    omega arith

answers_come : (s : Setup) (w : World) (xs : List (List ℕ)) → w.answers ≡ xs → AllThere s w
    → AllThere s (after_event s (Delivered Answers) w)
answers_come s w [] e h = subst (AllThere s) (no_front s Answers w e) h
answers_come s w (frame ∷ later) e h =
    let size : length w.answers ≡ suc (length later) = ap length e in
    let n = h.channel in
    rw e (record { client = client_has s (Answered frame) w h.client; channel = omega arith })

one_more : (s : Setup) (event : WorldEvent) (w : World) → IsCalm s event w → AllThere s w
    → AllThere s (after_event s event w)
one_more s (Delivered Requests) w calm h = requests_come s w w.requests refl h
one_more s (Delivered Answers) w calm h = answers_come s w w.answers refl h
one_more s (Lost queue) w calm h = absurd calm
one_more s (Repeated queue) w calm h = absurd calm
one_more s ClientTicked w calm h = record { client = client_has s TickedAtClient w h.client; channel = h.channel }
one_more s ChannelTicked w calm h = rw calm (record { client = h.client; channel = h.channel })

pub all_there : (s : Setup) (events : List WorldEvent) → AreCalm s events → AllThere s (world_after s events)
all_there s [] calm = record { client = refl; channel = omega arith }
all_there s (event ∷ older) calm = one_more s event (world_after s older) calm.0 (all_there s older calm.1)

-- so many frames came and were sent, where so many are on their way
pub have_sent : (s : Setup) (w : World) (requests answers : ℕ) → AllThere s w
    → w.received + length w.requests ≡ requests → length (answers_of w.events) + length w.answers ≡ answers
    → HaveSent s requests answers w
have_sent s w requests answers h n m =
    let a = h.client in let b = h.channel in record { client = omega arith; channel = omega arith }

-- Undisturbed transfers of each kind: what they are permitted, how they go, and what they leave.
use Rattle.std.proofs.Common.{◌≡◌, ℕ, ◌+◌, ◌*◌, ◌<◌, ◌≤◌, Bool, true, false, List, [], ◌∷◌, length, None, refl, sym, ◌∙◌, arith, eqb, subst, inl, inr}
use Rattle.std.specs.Prelude.{nat_le, nat_lt}
use Rattle.std.specs.List.{list_any}
use Rattle.std.proofs.lemmas.Bool.{eqb-true}
use Rattle.std.proofs.lemmas.Bool.Decides.{nat_tests}
use Rattle.co_value.specs.declared.key.Key.{Key}
use Rattle.co_value.specs.Numbers.{AreBytes}
use Rattle.co_sdo_client.specs.declared.mode.Mode.{Mode}
use Rattle.co_sdo_client.specs.declared.state.ClientState.TheVariants.{Waiting, Done}
use Rattle.co_sdo_client.specs.Calls.{Job}
use Rattle.co_sdo_client.specs.Segments.{bytes_of, cap_of, requests_needed}
use Rattle.co_sdo_client.specs.Outcomes.{outcome, result}
use Rattle.co_dict.specs.Rows.{Contents, written}
use Rattle.co_dict.specs.Stores.{Description, IsDictionary}
use Rattle.co_sdo.specs.Log.{Log}
use Rattle.co_sdo.specs.OpenTransfers.{open_transfer}
use Rattle.co_sdo.specs.Uploads.{value_at}
use Rattle.co_sdo_laws.specs.World.{Setup, World, Requests, Answers as Back, WorldEvent, Repeated, is_repeat, world_after}
use Rattle.co_sdo_laws.specs.Undisturbed.{IsCalm, AreCalm, IsUndisturbed, arrived, on_their_way, rounds_after, IsOver, GoesInTurns, is_short, is_expedited_download, is_segmented_download, is_plain_upload, is_block_download, is_block_upload, GoesInBlocks, HaveSent, block_frames, block_upload_frames, upload_requests, block_download_requests, block_download_answers, block_upload_requests, block_upload_answers}
use Rattle.co_sdo_laws.proofs.Permits.{value, Protocol, reads_in_segments, is_download, may_send, IsDownload, IsUpload, Goes, in_segments, at_once, at_once_few, short_bytes}
use Rattle.co_sdo_laws.proofs.Permits as protocols
use Rattle.co_sdo_laws.proofs.Channel.{unopened, stays_lawful}
use Rattle.co_sdo_laws.proofs.Progress.{rounds_calm, all_arrive, AllThere, all_there, have_sent}
use Rattle.co_sdo_laws.proofs.Turns.{InTurns as Turned, asking, answering, over as all_taken, always, goes_in_turns, when_done, either}
use Rattle.co_sdo_laws.proofs.StopAndWait.{Parts, StopAndWait}
use Rattle.co_sdo_laws.proofs.InTurns.{turns_of}
use Rattle.co_sdo_laws.proofs.SegmentedDownloads as downloads
use Rattle.co_sdo_laws.proofs.Uploads as uploading
use Rattle.co_sdo_laws.proofs.Places.{all_over, came}
use Rattle.co_sdo_laws.proofs.BlockTransfers.{Parts as BlockParts, Theory, Stands, Alive, Is, is_done as client_done, always as all_events, when_done as over_when_done, is_left, closed, all_sent, goes_in_blocks, unchanged}
use Rattle.co_sdo_laws.proofs.BlockDownloads as sent
use Rattle.co_sdo_laws.proofs.BlockUploads as fetched

-- ---- of every kind

-- what a client that is done and its channel have given, left and sent
pub record Ends (s : Setup) (requests answers : ℕ) (value : List ℕ) (left : Contents) (w : World) : Type 0 where
  pub gives : result s.call w.events ≡ value
  pub leaves : w.contents ≡ left
  pub sends : HaveSent s requests answers w

-- the client of a transfer is done when `needed` of its `frames` have come; so it goes as long as nothing disturbs it
pub record Kind (s : Setup) (needed frames requests answers : ℕ) (value : List ℕ) (left : Contents) : Type 0 where
  pub few : needed ≤ frames
  pub goes : (events : List WorldEvent) → AreCalm s events → GoesInBlocks s.call needed frames (world_after s events)
  pub ends : (events : List WorldEvent) → AreCalm s events → outcome s.call (world_after s events).events ≡ Done
      → Ends s requests answers value left (world_after s events)
  pub closes : (events : List WorldEvent) → AreCalm s events → outcome s.call (world_after s events).events ≡ Done
      → on_their_way (world_after s events) ≡ 0 → open_transfer (world_after s events).log ≡ None

-- as many rounds as there are frames bring them all
pub rests : {needed requests answers : ℕ} {value : List ℕ} {left : Contents} (s : Setup) (frames : ℕ)
    → Kind s needed frames requests answers value left → (events : List WorldEvent) → AreCalm s events
    → on_their_way (world_after s (rounds_after frames events)) ≡ 0
rests s frames k events calm =
    let end = k.goes (rounds_after frames events) (rounds_calm s frames events calm) in
    let all = all_arrive s frames events calm (λ later still less. (k.goes later still).moves less) in
    last (world_after s (rounds_after frames events)) end all
  where
    last : {needed : ℕ} (w : World) → GoesInBlocks s.call needed frames w → frames ≤ arrived w → on_their_way w ≡ 0
    last w g all = let within = g.within in g.rests (omega arith)

blocks_done : (s : Setup) (needed frames : ℕ) (w : World) → needed ≤ frames → GoesInBlocks s.call needed frames w
    → on_their_way w ≡ 0 → outcome s.call w.events ≡ Done
blocks_done s needed frames w few g none = by (nat_lt (arrived w) frames) refl
  where
    by : (less : Bool) → nat_lt (arrived w) frames ≡ less → outcome s.call w.events ≡ Done
    by true e =
        let under : arrived w < frames = grind (arith, nat_tests) in
        let some : 1 ≤ on_their_way w = g.moves under in
        absurd (omega arith)
    by false e =
        let enough : nat_le needed (arrived w) ≡ true = grind (arith, nat_tests) in
        g.state ∙ rw enough refl

-- the client is done when no frame is on its way
pub done : {needed frames requests answers : ℕ} {value : List ℕ} {left : Contents} (s : Setup)
    → Kind s needed frames requests answers value left → (events : List WorldEvent) → AreCalm s events
    → on_their_way (world_after s events) ≡ 0 → outcome s.call (world_after s events).events ≡ Done
done s k events calm none = blocks_done s _ _ (world_after s events) k.few (k.goes events calm) none

-- so it is after these rounds
pub is_done : {needed requests answers : ℕ} {value : List ℕ} {left : Contents} (s : Setup) (frames : ℕ)
    → Kind s needed frames requests answers value left → (events : List WorldEvent) → AreCalm s events
    → outcome s.call (world_after s (rounds_after frames events)).events ≡ Done
is_done s frames k events calm = done s k (rounds_after frames events) (rounds_calm s frames events calm) (rests s frames k events calm)

pub is_over : {needed frames requests answers : ℕ} {value : List ℕ} {left : Contents} (s : Setup)
    → Kind s needed frames requests answers value left → IsDictionary s.description left
    → (events : List WorldEvent) → AreCalm s events → on_their_way (world_after s events) ≡ 0
    → IsOver s (world_after s events)
is_over s k lawful events calm none =
    let is = done s k events calm none in
    record {
      done = is;
      idle = k.closes events calm is none;
      dictionary = subst (IsDictionary s.description) (sym (k.ends events calm is).leaves) lawful;
    }

-- ---- transfers in turns

turns_in_blocks : (needed : ℕ) (s : Setup) (w : World) → GoesInTurns s.call needed w
    → GoesInBlocks s.call (2 * needed) (2 * needed) w
turns_in_blocks needed s w g = by (eqb (arrived w) (2 * needed)) refl
  where
    by : (all : Bool) → eqb (arrived w) (2 * needed) ≡ all → GoesInBlocks s.call (2 * needed) (2 * needed) w
    by true e =
        let enough : nat_le (2 * needed) (arrived w) ≡ true = grind (arith, nat_tests) in
        let same : arrived w ≡ 2 * needed = eqb-true _ _ e in
        record {
          within = g.within;
          state = g.state ∙ rw (e, enough) refl;
          moves = λ less. absurd (omega arith);
          rests = λ all. g.moves ∙ rw e refl;
        }
    by false e =
        let within = g.within in
        let fewer : nat_le (2 * needed) (arrived w) ≡ false = grind (arith, nat_tests) in
        let one : on_their_way w ≡ 1 = g.moves ∙ rw e refl in
        record {
          within = within;
          state = g.state ∙ rw (e, fewer) refl;
          moves = λ less. omega arith;
          rests = λ all. absurd (grind (arith, nat_tests));
        }

turns_sent : (s : Setup) (needed : ℕ) (w : World) → AllThere s w → GoesInTurns s.call needed w
    → outcome s.call w.events ≡ Done → HaveSent s needed needed w
turns_sent s needed w t g done = by (eqb (arrived w) (2 * needed)) refl
  where
    by : (all : Bool) → eqb (arrived w) (2 * needed) ≡ all → HaveSent s needed needed w
    by true e =
        let none : on_their_way w ≡ 0 = g.moves ∙ rw e refl in
        let came : arrived w ≡ 2 * needed = eqb-true _ _ e in
        let sent = g.sent done in
        let client = t.client in
        have_sent s w needed needed t (omega arith) (omega arith)
    by false e = let waits : Done ≡ Waiting = sym done ∙ g.state ∙ rw e refl in cc

-- so they go, and so they end
pub record InTurns (s : Setup) (needed : ℕ) (value : List ℕ) (left : Contents) : Type 0 where
  pub turns : (events : List WorldEvent) → AreCalm s events → GoesInTurns s.call needed (world_after s events)
  pub kind : Kind s (2 * needed) (2 * needed) needed needed value left
  -- no entry is changed, where none is at the end
  pub same : left ≡ s.contents → (events : List WorldEvent) → AreCalm s events → (world_after s events).contents ≡ s.contents

in_turns : (s : Setup) (t : Parts s) → StopAndWait s (Unit {0}) t → InTurns s (1 + t.last) t.value (t.left s.contents)
in_turns s t m = record {
  turns = goes;
  kind = record {
    few = omega arith;
    goes = λ events calm. turns_in_blocks (1 + t.last) s (world_after s events) (goes events calm);
    ends = λ events calm done.
        let end = when_done s (turns_of s t m tt) (world_after s events) (at events calm) done in
        record {
          gives = end.client;
          leaves = end.channel.sets refl;
          sends = turns_sent s (1 + t.last) (world_after s events) (all_there s events calm) (goes events calm) done;
        };
    closes = λ events calm done none.
        unopened s.description.rows (world_after s events).log
        ((when_done s (turns_of s t m tt) (world_after s events) (at events calm) done).channel.closed refl);
  };
  same = λ unchanged events calm. unchanged_at unchanged (at events calm);
}
  where
    at : (events : List WorldEvent) → AreCalm s events → Turned s (turns_of s t m tt) (world_after s events)
    at events calm = always s (turns_of s t m tt) events calm

    goes : (events : List WorldEvent) → AreCalm s events → GoesInTurns s.call (1 + t.last) (world_after s events)
    goes events calm = goes_in_turns s (turns_of s t m tt) (world_after s events) (all_there s events calm) (at events calm)

    unchanged_at : {w : World} → t.left s.contents ≡ s.contents → Turned s (turns_of s t m tt) w → w.contents ≡ s.contents
    unchanged_at e (asking k less h) = h.channel.same less
    unchanged_at e (answering k less h) = elim (either (k + 1) (1 + t.last) (omega arith)) [
      | inl more ↦ h.channel.same more
      | inr all ↦ h.channel.sets all ∙ e
    ]
    unchanged_at e (all_taken h) = h.channel.sets refl ∙ e

abbrev pub setup : Key → Mode → ℕ → Job → ℕ → Description → Contents → Log → Setup
setup key mode client_time job time d contents past = record { call = record { key = key; mode = mode; time = client_time; job = job }; time = time; description = d; contents = contents; past = past }

-- ---- downloads

-- it is permitted
sends : (s : Setup) (events : List WorldEvent) (protocol : Protocol) → IsUndisturbed s events
    → Goes s.call.mode s.call.job protocol true → IsDownload s (Unit {0}) protocol
sends s events protocol u g =
    let may = may_send s.description s.contents s.call.key s.call.job g.sends u.job u.permitted in
    record {
      dictionary = u.dictionary;
      key = u.key;
      idle = u.idle;
      transfer = g.by;
      may_begin = λ x. may.begin;
      may_complete = λ x. may.complete;
      room = λ x. may.room;
    }

-- what it leaves is a dictionary
pub lawful : (s : Setup) (events : List WorldEvent) → IsUndisturbed s events → is_download s.call.job ≡ true
    → AreBytes (bytes_of s.call.job) → IsDictionary s.description (written s.contents s.call.key (bytes_of s.call.job))
lawful s events u t small =
    let may = may_send s.description s.contents s.call.key s.call.job t u.job u.permitted in
    stays_lawful s.description s.contents s.call.key None (bytes_of s.call.job) u.dictionary small may.at_once

pub segmented : (s : Setup) (events : List WorldEvent) → IsUndisturbed s events
    → is_segmented_download s.call.mode s.call.job ≡ true
    → InTurns s (requests_needed (length (bytes_of s.call.job))) [] (written s.contents s.call.key (bytes_of s.call.job))
segmented s events u t =
    in_turns s (downloads.parts s false) (downloads.stop_and_wait s (Unit {0}) false (sends s events _ u (in_segments s.call.mode s.call.job t)) tt)

pub expedited : (s : Setup) (events : List WorldEvent) → IsUndisturbed s events
    → is_expedited_download s.call.mode s.call.job ≡ true
    → InTurns s 1 [] (written s.contents s.call.key (bytes_of s.call.job))
expedited s events u t =
    let is = at_once s.call.mode s.call.job t in
    let may = may_send s.description s.contents s.call.key s.call.job is.sends u.job u.permitted in
    in_turns s (downloads.parts s true) (downloads.stop_and_wait s (Unit {0}) true (sends s events _ u is)
    (record { few = short_bytes _ (at_once_few s.call.mode s.call.job t); may_complete = λ x. may.at_once }))

-- ---- uploads

reads : (s : Setup) (events : List WorldEvent) (protocol : Protocol) → IsUndisturbed s events
    → Goes s.call.mode s.call.job protocol false → length (value s) ≤ cap_of s.call.job → IsUpload s (Unit {0}) protocol
reads s events protocol u g room =
    let free = protocols.may_read s.description s.contents s.call.key s.call.job g.sends u.permitted in
    record { dictionary = u.dictionary; key = u.key; idle = u.idle; transfer = g.by; may_read = λ x. free; fits = λ x. room }

uploads : (s : Setup) → IsUpload s (Unit {0}) reads_in_segments → (short : Bool) → is_short (length (value s)) ≡ short
    → InTurns s (upload_requests (length (value s))) (value s) s.contents
uploads s m true e = rw e (in_turns s (uploading.parts s true) (uploading.stop_and_wait s (Unit {0}) m true e))
uploads s m false e = rw e (in_turns s (uploading.parts s false) (uploading.stop_and_wait s (Unit {0}) m false e))

pub uploaded : (s : Setup) (events : List WorldEvent) → IsUndisturbed s events → is_plain_upload s.call.mode s.call.job ≡ true
    → length (value_at s.contents s.call.key) ≤ cap_of s.call.job
    → InTurns s (upload_requests (length (value_at s.contents s.call.key))) (value_at s.contents s.call.key) s.contents
uploaded s events u t room = uploads s (reads s events _ u (protocols.upload s.call.mode s.call.job t) room) _ refl

-- ---- transfers in blocks

not_repeated : (s : Setup) (event : WorldEvent) (w : World) → IsCalm s event w → is_repeat event ≡ false
not_repeated s (Repeated queue) w calm = absurd calm
not_repeated s _ w calm = refl

once : (s : Setup) (events : List WorldEvent) → AreCalm s events → list_any is_repeat events ≡ false
once s [] calm = refl
once s (event ∷ older) calm =
    let a = not_repeated s event (world_after s older) calm.0 in
    let b = once s older calm.1 in
    rw (a, b) refl

in_blocks : {s : Setup} (t : BlockParts s) → Theory t → t.plan.p → (frames requests answers : ℕ) → block_frames (length t.plan.value) ≤ frames
    → came t.plan Requests all_over + came t.plan Back all_over ≡ frames → came t.plan Requests all_over ≡ requests → came t.plan Back all_over ≡ answers
    → Kind s (block_frames (length t.plan.value)) frames requests answers t.given (t.left all_over)
in_blocks {s = s} t m x frames requests answers few all r q = record {
  few = few;
  goes = λ later calm. goes_in_blocks t m x frames (world_after s later) few all (stands later calm);
  ends = λ later calm is. record {
    gives = (over later calm is).0.gives;
    leaves = is_left t m (world_after s later) (inl x) is (stands later calm);
    sends = all_sent t m x requests answers (world_after s later) (all_there s later calm) r q (over later calm is).1;
  };
  closes = λ later calm is none. closed t m x (world_after s later) (over later calm is).1 none;
}
  where
    stands : (later : List WorldEvent) → AreCalm s later → Stands t (world_after s later)
    stands later calm = all_events t m later (once s later calm) (λ y. calm)

    over : (later : List WorldEvent) → AreCalm s later → outcome s.call (world_after s later).events ≡ Done → Is t client_done (world_after s later).events × Alive t client_done (world_after s later)
    over later calm is = over_when_done t (world_after s later) is (stands later calm)

pub sent_in_blocks : (s : Setup) (events : List WorldEvent) → IsUndisturbed s events → is_block_download s.call.mode s.call.job ≡ true
    → Kind s (block_frames (length (bytes_of s.call.job))) (block_frames (length (bytes_of s.call.job)))
    (block_download_requests (length (bytes_of s.call.job))) (block_download_answers (length (bytes_of s.call.job)))
    [] (written s.contents s.call.key (bytes_of s.call.job))
sent_in_blocks s events u t = in_blocks (sent.parts s (Unit {0})) (sent.theory s (Unit {0}) (sends s events _ u (protocols.in_blocks s.call.mode s.call.job t))) tt _ _ _
    (omega arith) (omega arith) (omega arith) (omega arith)

fetches : (s : Setup) (events : List WorldEvent) → IsUndisturbed s events → is_block_upload s.call.mode s.call.job ≡ true
    → length (value_at s.contents s.call.key) ≤ cap_of s.call.job → Theory (fetched.parts s (Unit {0}))
fetches s events u t room = fetched.theory s (Unit {0}) (reads s events _ u (protocols.block_upload s.call.mode s.call.job t) room)

pub fetched_in_blocks : (s : Setup) (events : List WorldEvent) → IsUndisturbed s events → is_block_upload s.call.mode s.call.job ≡ true → length (value_at s.contents s.call.key) ≤ cap_of s.call.job
    → Kind s (block_frames (length (value_at s.contents s.call.key))) (block_upload_frames (length (value_at s.contents s.call.key)))
    (block_upload_requests (length (value_at s.contents s.call.key))) (block_upload_answers (length (value_at s.contents s.call.key)))
    (value_at s.contents s.call.key) s.contents
fetched_in_blocks s events u t room = in_blocks (fetched.parts s (Unit {0})) (fetches s events u t room) tt _ _ _ (omega arith) (omega arith) (omega arith) (omega arith)

pub block_upload_sets_nothing : (s : Setup) (events : List WorldEvent) → IsUndisturbed s events → is_block_upload s.call.mode s.call.job ≡ true → length (value_at s.contents s.call.key) ≤ cap_of s.call.job
    → (world_after s events).contents ≡ s.contents
block_upload_sets_nothing s events u t room = unchanged (fetched.parts s (Unit {0})) tt (world_after s events) s.contents (λ k. refl)
    (all_events (fetched.parts s (Unit {0})) (fetches s events u t room) events (once s events u.calm) (λ y. u.calm))

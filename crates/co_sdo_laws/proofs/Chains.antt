-- Undisturbed transfers one after the other: each is over, so that the next one finds what it asks for.
use Rattle.std.proofs.Common.{◌≡◌, ℕ, ◌*◌, Bool, true, false, not, List, [], ◌∷◌, length, map, refl, sym, ap, ◌∙◌, subst}
use Rattle.std.specs.Prelude.{if◌then◌else◌}
use Rattle.co_value.specs.declared.key.Key.{Key}
use Rattle.co_value.specs.Numbers.{AreBytes}
use Rattle.co_sdo_client.specs.declared.mode.Mode.{Mode}
use Rattle.co_sdo_client.specs.declared.mode.Mode.TheVariants.{Plain, Segmented, Block}
use Rattle.co_sdo_client.specs.declared.state.ClientState.TheVariants.{Done}
use Rattle.co_sdo_client.specs.Calls.{Job, Download, Upload, Call}
use Rattle.co_sdo_client.specs.Segments.{requests_needed}
use Rattle.co_sdo_client.specs.Outcomes.{result}
use Rattle.co_dict.specs.Rows.{Contents}
use Rattle.co_dict.specs.Stores.{Description, IsDictionary}
use Rattle.co_sdo.specs.Log.{Log}
use Rattle.co_sdo_laws.specs.World.{Setup, World, WorldEvent, world_after}
use Rattle.co_sdo_laws.specs.Undisturbed.{AreCalm, IsUndisturbed, on_their_way, rounds_after, IsOver, is_short}
use Rattle.co_sdo_laws.specs.Chains.{Server, Transfer, calls, initiate_at, end_of, server_after, server_after_all, outcomes, results, contents_after, contents_after_all, bytes_given, all_bytes_given, Fits, MayCall, MayCallAll, IsWhole, AreWhole, IsReady, IsChain, frames_needed, in_rounds, all_in_rounds}
use Rattle.co_sdo_laws.proofs.Transfers.{setup, Kind, lawful, expedited, segmented, sent_in_blocks, uploaded, fetched_in_blocks, is_over, rests}
use Rattle.co_sdo_laws.proofs.Progress.{rounds_calm}

-- ---- one transfer

-- it is over, and gives and leaves what its job says
record Ends (s : Setup) (w : World) : Type 0 where
  over : IsOver s w
  gives : result s.call w.events ≡ bytes_given s.contents s.call.key s.call.job
  leaves : w.contents ≡ contents_after s.contents s.call.key s.call.job

-- what holds of a client's transfer, whatever calm events go on
record Passes (s : Setup) (frames : ℕ) : Type 0 where
  ends : (events : List WorldEvent) → AreCalm s events → on_their_way (world_after s events) ≡ 0
      → Ends s (world_after s events)
  rests : on_their_way (world_after s (rounds_after frames [])) ≡ 0

passes : {needed frames requests answers : ℕ} (s : Setup)
    → Kind s needed frames requests answers (bytes_given s.contents s.call.key s.call.job)
    (contents_after s.contents s.call.key s.call.job)
    → IsDictionary s.description (contents_after s.contents s.call.key s.call.job) → Passes s frames
passes s k lawful = record {
  ends = λ events calm none.
      let over = is_over s k lawful events calm none in
      let end = k.ends events calm over.done in
      record { over = over; gives = end.gives; leaves = end.leaves };
  rests = rests s _ k [] tt;
}

plain_passes : (key : Key) (client_time : ℕ) (bytes : List ℕ) (tells : Bool) (time : ℕ) (d : Description)
    (contents : Contents) (past : Log)
    → (short : Bool) → is_short (length bytes) ≡ short
    → IsUndisturbed (setup key Plain client_time (Download bytes tells) time d contents past) [] → AreBytes bytes
    → Passes (setup key Plain client_time (Download bytes tells) time d contents past)
    (if short then 2 else 2 * requests_needed (length bytes))
plain_passes key client_time bytes tells time d contents past true e u small = passes _ (expedited _ [] u e).kind (lawful _ [] u refl small)
plain_passes key client_time bytes tells time d contents past false e u small = passes _ (segmented _ [] u (ap not e)).kind (lawful _ [] u refl small)

passes_by : (key : Key) (mode : Mode) (client_time : ℕ) (job : Job) (time : ℕ) (d : Description) (contents : Contents)
    (past : Log)
    → IsUndisturbed (setup key mode client_time job time d contents past) [] → Fits contents key job
    → Passes (setup key mode client_time job time d contents past) (frames_needed mode contents key job)
passes_by key Plain client_time (Download bytes tells) time d contents past u fits =
    plain_passes key client_time bytes tells time d contents past _ refl u fits
passes_by key Segmented client_time (Download bytes tells) time d contents past u fits = passes _ (segmented _ [] u refl).kind (lawful _ [] u refl fits)
passes_by key Block client_time (Download bytes tells) time d contents past u fits = passes _ (sent_in_blocks _ [] u refl) (lawful _ [] u refl fits)
passes_by key Plain client_time (Upload cap) time d contents past u fits = passes _ (uploaded _ [] u refl fits).kind u.dictionary
passes_by key Segmented client_time (Upload cap) time d contents past u fits = passes _ (uploaded _ [] u refl fits).kind u.dictionary
passes_by key Block client_time (Upload cap) time d contents past u fits = passes _ (fetched_in_blocks _ [] u refl fits) u.dictionary

call_passes : (server : Server) (call : Call) → IsReady server → MayCall server.description server.contents call
    → Passes (initiate_at server call) (frames_needed call.mode server.contents call.key call.job)
call_passes server call ready may =
    passes_by call.key call.mode call.time call.job server.time server.description server.contents server.past
    (record {
      dictionary = ready.dictionary;
      key = may.key;
      job = may.job;
      permitted = may.permitted;
      idle = ready.idle;
      calm = tt;
    }) may.fits

ends : (server : Server) (t : Transfer) → IsReady server → MayCall server.description server.contents t.call
    → IsWhole server t → Ends (initiate_at server t.call) (end_of server t)
ends server t ready may whole = (call_passes server t.call ready may).ends t.events whole.calm whole.rests

-- ---- each of them

-- after a transfer the next client finds what it asks for
record GoesOn (server : Server) (t : Transfer) (later : List Call) : Type 0 where
  ends : Ends (initiate_at server t.call) (end_of server t)
  ready : IsReady (server_after server t)
  may : MayCallAll server.description (end_of server t).contents later

goes_on : (server : Server) (t : Transfer) (later : List Call) → IsReady server
    → MayCallAll server.description server.contents (t.call ∷ later) → IsWhole server t → GoesOn server t later
goes_on server t later ready may whole =
    let e = ends server t ready may.0 whole in
    record {
      ends = e;
      ready = record { idle = e.over.idle; dictionary = e.over.dictionary };
      may = subst (λ (c : Contents). MayCallAll server.description c later) (sym e.leaves) may.1;
    }

-- what all of them come to
pub record AllEnd (server : Server) (transfers : List Transfer) : Type 0 where
  pub done : outcomes server transfers ≡ map (λ t. Done) transfers
  pub contents : (server_after_all server transfers).contents ≡ contents_after_all server.contents (calls transfers)
  pub values : results server transfers ≡ all_bytes_given server.contents (calls transfers)
  pub ready : IsReady (server_after_all server transfers)

pub all_end : (server : Server) (transfers : List Transfer) → IsReady server
    → MayCallAll server.description server.contents (calls transfers) → AreWhole server transfers → AllEnd server transfers
all_end server [] ready may whole = record { done = refl; contents = refl; values = refl; ready = ready }
all_end server (t ∷ later) ready may whole =
    let g = goes_on server t (calls later) ready may whole.0 in
    let is_done = g.ends.over.done in
    let rest = all_end (server_after server t) later g.ready g.may whole.1 in
    let others_done = rest.done in
    let values = rest.values ∙ ap (λ (c : Contents). all_bytes_given c (calls later)) g.ends.leaves in
    record {
      done = rw (is_done, others_done) refl;
      contents = rest.contents ∙ ap (λ (c : Contents). contents_after_all c (calls later)) g.ends.leaves;
      values = ap (λ (xs : List ℕ). xs ∷ results (server_after server t) later) g.ends.gives
          ∙ ap (λ (xs : List (List ℕ)). bytes_given server.contents t.call.key t.call.job ∷ xs) values;
      ready = rest.ready;
    }

-- ---- in rounds

whole_in_rounds : (server : Server) (call : Call) → IsReady server → MayCall server.description server.contents call
    → IsWhole server (in_rounds server.contents call)
whole_in_rounds server call ready may = record {
  calm = rounds_calm (initiate_at server call) (frames_needed call.mode server.contents call.key call.job) [] tt;
  rests = (call_passes server call ready may).rests;
}

all_whole : (server : Server) (jobs : List Call) → IsReady server
    → MayCallAll server.description server.contents jobs → AreWhole server (all_in_rounds server.contents jobs)
all_whole server [] ready may = tt
all_whole server (call ∷ later) ready may =
    let t = in_rounds server.contents call in
    let whole = whole_in_rounds server call ready may.0 in
    let g = goes_on server t later ready may whole in
    let others = all_whole (server_after server t) later g.ready g.may in
    (whole, subst (λ (c : Contents). AreWhole (server_after server t) (all_in_rounds c later)) g.ends.leaves others)

same_calls : (contents : Contents) (jobs : List Call) → calls (all_in_rounds contents jobs) ≡ jobs
same_calls contents [] = refl
same_calls contents (call ∷ later) =
    ap (λ (xs : List Call). call ∷ xs) (same_calls (contents_after contents call.key call.job) later)

-- permitted calls make a chain, in rounds
pub chain_in_rounds : (server : Server) (jobs : List Call) → IsReady server
    → MayCallAll server.description server.contents jobs → IsChain server (all_in_rounds server.contents jobs)
chain_in_rounds server jobs ready may = record {
  ready = ready;
  permitted = subst (MayCallAll server.description server.contents) (sym (same_calls server.contents jobs)) may;
  whole = all_whole server jobs ready may;
}

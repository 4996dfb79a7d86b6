-- A segmented download that a node serves.
use Rattle.std.proofs.Common.{◌≡◌, ℕ, zero, suc, ◌+◌, ◌≤◌, true, List, [], length, refl, sym, subst, arith}
use Rattle.std.proofs.lemmas.Bool.{not-true}
use Rattle.co_value.specs.declared.key.Key.{Key}
use Rattle.co_dict.specs.Rows.{written}
use Rattle.co_sdo_client.specs.declared.mode.Mode.{Mode}
use Rattle.co_sdo_client.specs.declared.mode.Mode.TheVariants.{Plain, Segmented, Block}
use Rattle.co_sdo_client.specs.declared.state.ClientState.TheVariants.{Done}
use Rattle.co_sdo_client.specs.Calls.{Download}
use Rattle.co_sdo_client.specs.Segments.{is_odd, is_last_after, part_after, requests_needed, transfer_by}
use Rattle.co_sdo_laws.specs.Undisturbed.{is_segmented_download, is_short}
use Rattle.co_sdo_laws.proofs.Frames.{initiate_read, segment_long}
use Rattle.co_sdo_laws.proofs.Permits.{may_begin}
use Rattle.co_sdo_laws.proofs.Segments.{part_small}
use Rattle.co_sdo_laws.proofs.SegmentedDownloads.{MayDownload, answer, request, segmented_download}
use Rattle.co_node_model.specs.Inputs.{Inputs}
use Rattle.co_node_model.specs.Moments.{Constants}
use Rattle.co_node_model.specs.Device.{contents_of}
use Rattle.co_node_model.specs.Loop.{download_of, first_ends, last_ends, sent_of, state_at}
use Rattle.co_node_laws.specs.Apart.{AreApart}
use Rattle.co_node_laws.specs.Served.{IsServed}
use Rattle.co_node_laws.proofs.InTurns.{Suits, first, runs, world_of}

in_segments : (mode : Mode) (bytes : List ℕ) → is_segmented_download mode (Download bytes true) ≡ true → transfer_by mode (Download bytes true) ≡ transfer_by Segmented (Download [] true)
in_segments Plain bytes h = rw (not-true (is_short (length bytes)) h) refl
in_segments Segmented bytes h = refl
in_segments Block bytes h = cc

may_download : (k : Constants) (before : Inputs) (key : Key) (bytes : List ℕ) (mode : Mode) → IsServed k before key bytes → is_segmented_download mode (Download bytes true) ≡ true
    → MayDownload (world_of (download_of k key bytes mode) before)
may_download k before key bytes mode h segmented =
    let may = may_begin k.description (contents_of k before) key bytes h.permitted in
    let few = h.few in
    record {
      transfer = in_segments mode bytes segmented;
      lawful = h.dictionary;
      idle = h.idle;
      index = h.index;
      may_begin = may.initiate_indicated;
      may_complete = may.complete_indicated;
      room = may.room;
      initiate_read = initiate_read key (length bytes) h.index (omega arith);
      initiate_long = refl;
    }

long_request : (k : Constants) (before : Inputs) (key : Key) (bytes : List ℕ) (mode : Mode) (i : ℕ) → length (request (world_of (download_of k key bytes mode) before) i) ≡ 8
long_request k before key bytes mode zero = refl
long_request k before key bytes mode (suc i) = segment_long (is_odd i) (part_after i bytes) (is_last_after i bytes) (part_small i bytes)

long_answer : (k : Constants) (before : Inputs) (key : Key) (bytes : List ℕ) (mode : Mode) (i : ℕ) → length (answer (world_of (download_of k key bytes mode) before) i) ≡ 8
long_answer k before key bytes mode zero = refl
long_answer k before key bytes mode (suc i) = refl

-- what it comes to
pub record EndsDone (k : Constants) (before : Inputs) (key : Key) (bytes : List ℕ) (mode : Mode) : Type 0 where
  pub done : state_at (download_of k key bytes mode) (last_ends (download_of k key bytes mode) before) ≡ Done
  pub requests : sent_of (download_of k key bytes mode) before ≡ requests_needed (length bytes)
  pub entry : contents_of k (last_ends (download_of k key bytes mode) before).inputs ≡ written (contents_of k before) key bytes

enough : (n : ℕ) → n ≤ 65535 → requests_needed n ≤ 0 + 20000
enough n few = omega arith

pub ends_done : (k : Constants) (before : Inputs) (key : Key) (bytes : List ℕ) (mode : Mode) → AreApart k.description.node (contents_of k before) → IsServed k before key bytes → is_segmented_download mode (Download bytes true) ≡ true
    → EndsDone k before key bytes mode
unfolding segmented_download
ends_done k before key bytes mode apart h segmented =
    let l = download_of k key bytes mode in
    let may = may_download k before key bytes mode h segmented in
    let t = segmented_download (world_of l before) may in
    let suits : Suits l before t = record {
      long_request = λ i within. long_request k before key bytes mode i;
      long_answer = λ i within. long_answer k before key bytes mode i;
      apart = λ i log contents within channel. subst (AreApart k.description.node) (sym (channel.same within)) apart;
    } in
    let end = runs l before t suits 20000 0 (first_ends l before) (first l before t h.running) (enough (length bytes) h.few) in
    record { done = end.done; requests = end.count; entry = end.channel.sets refl }

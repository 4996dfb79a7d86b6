-- The client's initiate request, and a frame that hasn't eight bytes.
use Rattle.std.proofs.Common.{◌≡◌, ℕ, suc, ◌<◌, Bool, true, false, List, [], ◌∷◌, length, Option, Some, None, refl, sym, ap, ◌∙◌, ◌⊎◌, inl, inr, subst, arith}
use Rattle.std.specs.Prelude.{if◌then◌else◌, ◌==◌, ◌&&◌, nat_le}
use Rattle.co_value.specs.declared.key.Key.{Key}
use Rattle.co_frame.specs.SdoRequests.{request_in, request_bytes}
use Rattle.co_frame.specs.declared.sdo_request.ExpeditedData.TheVariants.{Indicated}
use Rattle.co_frame.specs.declared.sdo_request.SdoRequest.{SdoRequest}
use Rattle.co_frame.specs.declared.sdo_request.SdoRequest.TheVariants.{DownloadExpedited, DownloadInitiate, Upload as UploadInitiate, BlockUploadInitiate, BlockDownloadInitiate}
use Rattle.co_sdo_client.specs.declared.mode.Mode.{Mode}
use Rattle.co_sdo_client.specs.declared.mode.Mode.TheVariants.{Plain, Segmented as InSegments, Block as InBlocks}
use Rattle.co_sdo_client.specs.declared.stage.Stage.{Stage}
use Rattle.co_sdo_client.specs.declared.stage.Stage.TheVariants.{Begun}
use Rattle.co_sdo_client.specs.Calls.{Job, Download as Write, Upload as Read, Call, Request as Asked}
use Rattle.co_sdo_client.specs.Segments.{size_sent, transfer_by, initiate_request, initiate_messages}
use Rattle.co_sdo_laws.specs.Undisturbed.{IsJob}
use Rattle.co_sdo_laws.proofs.Frames.{expedited_read, begin_read, size_read, small_size, block_begin_read, upload_read, block_upload_read}
use Rattle.co_sdo_laws.proofs.Permits.{sends_at_once, sends_in_segments, short_bytes}
use Rattle.conode_explain_transfers.specs.declared.kinds.Side.TheVariants.{Client, Server}
use Rattle.conode_explain_transfers.specs.declared.kinds.What.TheVariants.{Part}
use Rattle.conode_explain_transfers.specs.declared.transfer.Transfer.{Transfer}
use Rattle.conode_explain_transfers.specs.Followed.{with_frame}
use Rattle.conode_explain_transfers.specs.Initiates.{has_crc}
use Rattle.conode_explain_transfers.specs.Stages.{confirmed_with}
use Rattle.conode_explain_transfers.specs.Readings.{awaits_segment}
use Rattle.conode_explain_transfers.specs.Transfers.{after, unexpected}
use Rattle.conode_explain_laws.specs.Clients.{IsCall}
use Rattle.conode_explain_laws.proofs.Readings.{Begin, Nothing, request_reading, reading_of, went_on_as}
use Rattle.conode_explain_laws.proofs.ClientViews.{Seen, holds, says, hears, read_as, lost_answer}
use Rattle.conode_explain_laws.proofs.ClientStanding.{IsDownload, IsBlockDownload, Sync, at_once, begun, sent, block_begun, block_sent, block_ended, asked, taking, block_asked, in_sub_block, all_taken, HasLost, SyncIn}

-- ---- the initiate request

-- explain before the first frame
abbrev pub nothing : Seen
nothing = holds false None [] [] 0

-- and after it: the transfer is open
pub record Begins (Loose : Type 0) (call : Call) (w : Seen) : Type 0 where
  pub sync : SyncIn Loose call w.following.transfer w.got Begun [] 0
  pub none : w.done ≡ []

sized : (job : Job) → IsJob job → size_read (size_sent job) ≡ size_sent job
sized (Write bytes true) h = small_size (length bytes) (omega (arith, h))
sized (Write bytes false) h = refl
sized (Read cap) h = refl

no_crc : (key : Key) (tells : Bool) (bytes : List ℕ) → has_crc (request_bytes (BlockDownloadInitiate key (size_sent (Write bytes tells)))) ≡ false
no_crc key true bytes = refl
no_crc key false bytes = refl

module _ (Loose : Type 0) (stamp : ℕ → ℕ) where
  -- a request that is read as itself, and begins this
  with_request : (call : Call) (request : SdoRequest) (read : SdoRequest) (t : Transfer) → request_in (request_bytes request) ≡ Some read
      → request_reading (Some read) (stamp 0) (request_bytes request) ≡ Begin t → Sync Loose call (went_on_as false t) [] Begun [] 0
      → Begins Loose call (says call stamp (Asked request ∷ []) nothing)
  with_request call request read t e b h =
      subst (λ r. Begins Loose call (read_as call (stamp 0) Client (request_bytes request) nothing r)) (sym (ap (λ r. request_reading r (stamp 0) (request_bytes request)) e ∙ b))
      (record { sync = h; none = refl })

  begun_by : (key : Key) (time : ℕ) (mode : Mode) (job : Job) → key.index < 65536 → IsJob job
      → (let call : Call = record { key = key; mode = mode; time = time; job = job } in Begins Loose call (says call stamp (initiate_messages call) nothing))
  begun_by key time Plain (Write bytes tells) k h = by (nat_le 1 (length bytes) && nat_le (length bytes) 4) refl
    where
      call : Call
      call = record { key = key; mode = Plain; time = time; job = Write bytes tells }

      by : (short : Bool) → (nat_le 1 (length bytes) && nat_le (length bytes) 4) ≡ short
          → Begins Loose call (says call stamp (initiate_request call (if short then transfer_by sends_at_once.0 sends_at_once.1 else transfer_by sends_in_segments.0 sends_in_segments.1) ∷ []) nothing)
      by true e =
          let few = short_bytes (length bytes) e in
          let request = DownloadExpedited key (Indicated (record { items = bytes })) in
          with_request call request request _ (expedited_read key bytes k few.0 few.1) refl
          (at_once (record {
            is = record { direction = refl; job = refl; key = refl; track = inr refl };
            transfer = rw e refl;
            stage = refl;
            protocol = refl;
            size = refl;
            pending = refl;
          }) refl refl)
      by false e =
          let request = DownloadInitiate key (size_sent (Write bytes tells)) in
          let size = size_read (size_sent (Write bytes tells)) in
          with_request call request (DownloadInitiate key size) _ (begin_read key (size_sent (Write bytes tells)) k) refl
          (begun (record {
            is = record { direction = refl; job = refl; key = refl; track = inr refl };
            transfer = rw e refl;
            stage = refl;
            protocol = refl;
            size = sized (Write bytes tells) h;
          }) refl refl)
  begun_by key time InSegments (Write bytes tells) k h =
      let call : Call = record { key = key; mode = InSegments; time = time; job = Write bytes tells } in
      let size = size_read (size_sent (Write bytes tells)) in
      with_request call (DownloadInitiate key (size_sent (Write bytes tells))) (DownloadInitiate key size) _ (begin_read key (size_sent (Write bytes tells)) k) refl
      (begun (record {
        is = record { direction = refl; job = refl; key = refl; track = inr refl };
        transfer = refl;
        stage = refl;
        protocol = refl;
        size = sized (Write bytes tells) h;
      }) refl refl)
  begun_by key time InBlocks (Write bytes tells) k h =
      let call : Call = record { key = key; mode = InBlocks; time = time; job = Write bytes tells } in
      let size = size_read (size_sent (Write bytes tells)) in
      with_request call (BlockDownloadInitiate key (size_sent (Write bytes tells))) (BlockDownloadInitiate key size) _ (block_begin_read key (size_sent (Write bytes tells)) k) refl
      (block_begun (record {
        is = record {
          is = record { direction = refl; job = refl; key = refl; track = inr refl };
          protocol = refl;
          size = sized (Write bytes tells) h;
          crc = no_crc key tells bytes;
        };
        transfer = refl;
        stage = refl;
        number = refl;
        pending = refl;
      }) refl refl)
  begun_by key time Plain (Read cap) k h =
      let call : Call = record { key = key; mode = Plain; time = time; job = Read cap } in
      with_request call (UploadInitiate key) (UploadInitiate key) _ (upload_read key k) refl
      (asked (record { is = record { direction = refl; job = refl; key = refl; regular = refl }; transfer = refl; stage = refl; size = refl }) refl refl)
  begun_by key time InSegments (Read cap) k h =
      let call : Call = record { key = key; mode = InSegments; time = time; job = Read cap } in
      with_request call (UploadInitiate key) (UploadInitiate key) _ (upload_read key k) refl
      (asked (record { is = record { direction = refl; job = refl; key = refl; regular = refl }; transfer = refl; stage = refl; size = refl }) refl refl)
  begun_by key time InBlocks (Read cap) k h =
      let call : Call = record { key = key; mode = InBlocks; time = time; job = Read cap } in
      with_request call (BlockUploadInitiate key 127 0) (BlockUploadInitiate key 127 0) _ (block_upload_read key 127 0 k) refl
      (block_asked (record {
        is = record {
          is = record { direction = refl; job = refl; key = refl; regular = refl };
          transfer = refl;
          protocol = refl;
          crc = refl;
          block_size = refl;
        };
        stage = refl;
        size = refl;
        number = refl;
        pending = refl;
      }) refl refl)

  pub begins : (call : Call) → IsCall call → Begins Loose call (says call stamp (initiate_messages call) nothing)
  begins call h = begun_by call.key call.time call.mode call.job h.index h.job

-- ---- a frame that hasn't eight bytes

short_reading : (held : Option Transfer) (micros : ℕ) (frame : List ℕ) → (length frame == 8) ≡ false → reading_of held Server micros frame ≡ Nothing
short_reading None micros frame h = rw h refl
short_reading (Some t) micros frame h = rw h (by (awaits_segment t Server))
  where
    by : (b : Bool) → (if b then Nothing else Nothing) ≡ Nothing
    by true = refl
    by false = refl

module _ (Loose : Type 0) (call : Call) (stamp : ℕ → ℕ) (frame : List ℕ) (short : (length frame == 8) ≡ false) (l : Loose) where
  -- explain's transfer is irregular then
  abbrev spoilt : Transfer → ℕ → Transfer
  spoilt t micros = with_frame Part (after t (unexpected t)) micros Server

  still : (t : Transfer) (micros : ℕ) → IsDownload Loose call t → IsDownload Loose call (spoilt t micros)
  still t micros h = record { direction = h.direction; job = h.job; key = h.key; track = inl (l, refl) }

  still_blocks : (t : Transfer) (micros : ℕ) → IsBlockDownload Loose call t → IsBlockDownload Loose call (spoilt t micros)
  still_blocks t micros h = record { is = still t micros h.is; protocol = h.protocol; size = h.size; crc = h.crc }

  abbrev pub Goes : Option Transfer → List ℕ → Stage → List ℕ → ℕ → Type 0
  Goes current got stage held newest = HasLost Loose call current ⊎ SyncIn Loose call current got stage held newest

  -- the client goes on with its transfer
  spoils : (t : Transfer) (micros : ℕ) (got : List ℕ) (stage : Stage) (held : List ℕ) (newest : ℕ) → Sync Loose call t got stage held newest → Goes (Some (spoilt t micros)) got stage held newest
  spoils t micros got stage held newest (at_once h g e) =
      inr (at_once (record { is = still t micros h.is; transfer = h.transfer; stage = h.stage; protocol = h.protocol; size = h.size; pending = h.pending }) g e)
  spoils t micros got stage held newest (begun h g e) =
      inr (begun (record { is = still t micros h.is; transfer = h.transfer; stage = h.stage; protocol = h.protocol; size = h.size }) g e)
  spoils t micros got stage held newest (sent k h g e) =
      inr (sent k (record { is = still t micros h.is; stage = h.stage; size = h.size; pending = h.pending }) g e)
  spoils t micros got stage held newest (block_begun h g e) =
      inr (block_begun (record { is = still_blocks t micros h.is; transfer = h.transfer; stage = h.stage; number = h.number; pending = h.pending }) g e)
  spoils t micros got stage held newest (block_sent position so_far h e) =
      inr (block_sent position so_far (record {
        is = still_blocks t micros h.is;
        stage = h.stage;
        number = h.number;
        pending = h.pending;
        before = h.before;
        joined = h.joined;
        first = h.first;
        most = h.most;
      }) e)
  spoils t micros got stage held newest (block_ended crc h g e) = inr (block_ended crc (record { is = still_blocks t micros h.is; stage = h.stage }) g e)
  spoils t micros got stage held newest (asked h g e) = inl (record { loose = l; job = h.is.job; lost = (refl, h.is.direction) })
  spoils t micros got stage held newest (taking size toggle h g e) = inl (record { loose = l; job = h.is.job; lost = (refl, h.is.direction) })
  spoils t micros got stage held newest (block_asked h g e) = inl (record { loose = l; job = h.is.is.job; lost = (refl, h.is.is.direction) })
  spoils t micros got stage held newest (in_sub_block size taken h g e) = inl (record { loose = l; job = h.is.is.job; lost = (refl, h.is.is.direction) })
  spoils t micros got stage held newest (all_taken size h g e) = inl (record { loose = l; job = h.is.is.job; lost = (refl, h.is.is.direction) })

  -- explain after it
  pub record Spoils (stage : Stage) (held : List ℕ) (newest : ℕ) (w : Seen) : Type 0 where
    pub goes : Goes w.following.transfer w.got stage held newest
    pub same : w.done ≡ []

  spoilt_view : (heard : Bool) (t : Transfer) (got : List ℕ) (count : ℕ) → confirmed_with t.stage ≡ None
      → read_as call (stamp count) Server frame (holds heard (Some t) got [] count) Nothing ≡ holds heard (Some (spoilt t (stamp count))) got [] (suc count)
  spoilt_view heard t got count u = rw u refl

  pub short_sync : (heard : Bool) (t : Transfer) (got : List ℕ) (count : ℕ) (stage : Stage) (held : List ℕ) (newest : ℕ) → confirmed_with t.stage ≡ None → Sync Loose call t got stage held newest
      → Spoils stage held newest (hears call stamp Server frame (holds heard (Some t) got [] count))
  short_sync heard t got count stage held newest u h =
      subst (λ r. Spoils stage held newest (read_as call (stamp count) Server frame (holds heard (Some t) got [] count) r)) (sym (short_reading (Some t) (stamp count) frame short))
      (subst (Spoils stage held newest) (sym (spoilt_view heard t got count u)) (record { goes = spoils t (stamp count) got stage held newest h; same = refl }))

  pub short_lost : (v : Seen) (stage : Stage) (held : List ℕ) (newest : ℕ) → v.done ≡ [] → HasLost Loose call v.following.transfer → Spoils stage held newest (hears call stamp Server frame v)
  short_lost v stage held newest e h =
      let k = lost_answer call stamp frame v h.lost in
      record { goes = inl (record { loose = l; job = h.job; lost = k.lost }); same = k.same ∙ e }

-- What is open, and what is set, after one more request of a log.
use Rattle.std.proofs.Common.{◌≡◌, ℕ, ◌++◌, Bool, true, false, cond, not, List, [], ◌∷◌, length, Option, Some, None, refl, sym, ap, ◌∙◌, arith}
use Rattle.std.specs.Prelude.{◌&&◌, ◌||◌, nat_lt}
use Rattle.std.specs.List.{list_any}
use Rattle.std.proofs.lemmas.Bool.{false≢true}
use Rattle.std.proofs.lemmas.Bool.Decides.{nat_tests}
use Rattle.arrayvec.specs.ArrayVec.{ArrayVec}
use Rattle.co_value.specs.declared.key.Key.{Key}
use Rattle.co_frame.specs.SdoRequests.{request_in}
use Rattle.co_frame.specs.declared.sdo_request.SdoRequest.{SdoRequest}
use Rattle.co_frame.specs.declared.sdo_request.SdoRequest.TheVariants.{DownloadExpedited, DownloadInitiate, DownloadSegment, Upload, UploadSegment, Abort, BlockUploadInitiate, BlockUploadEnd, BlockUploadAcknowledge, BlockUploadStart, BlockDownloadInitiate, BlockDownloadEnd}
use Rattle.co_dict.specs.Rows.{Contents}
use Rattle.co_dict.specs.Stores.{Description, IsDictionary}
use Rattle.co_dict.specs.Refusals.{refused_if, first_refusal}
use Rattle.co_sdo.specs.declared.stage.Stage.TheVariants.{Download, BlockUpload, BlockUploadEnded}
use Rattle.co_sdo.specs.Refused.{capacity_at, completion_refusal}
use Rattle.co_sdo.specs.Log.{Exchange, Exchanged, Log, is_abort, requests}
use Rattle.co_sdo.specs.SubBlocks.{sub_block, taken_segments, block_bytes, has_last}
use Rattle.co_sdo.specs.Downloads.{Download as Whole, is_odd, same_bool, is_as_indicated, segments_joined, without, is_whole_after, download_after, whole_download}
use Rattle.co_sdo.specs.OpenTransfers.{Transfer, is_initiate, is_abort_request, is_inside, begins, open_transfer}
use Rattle.co_sdo.specs.Opened.{OpenTransfer, opened, opened_by, opened_after, is_end_sent, acknowledged, block_upload_stage}
use Rattle.co_sdo.specs.Replies.{aborted, unexpected, initiate_answers, sub_block_answers, is_in_sub_block, later_answers, request_answers, answers_to, reply_to}
use Rattle.co_sdo.specs.Completed.{is_expedited, unless, permitted, completed_by, set_by}
use Rattle.co_sdo.specs.Steps.{after_later, after_request, opened_next, room_next, set_by_segment, set_by_end, set_by_request, set_next}
use Rattle.co_sdo.specs.Standing.{Standing, Stands, is_under_way, is_transfer_after, IsSegmentedDownload, IsBlockDownload}
use Rattle.co_sdo.proofs.Logs.{inside_is, upload_outside, extended, after_initiates, after_open, after_nothing}
use Rattle.co_sdo.proofs.RefusalLemmas.{allowed}
use Rattle.co_sdo.proofs.Initiations.{StepsTo, to_nothing, exchange, initiate_step}
use Rattle.co_sdo.proofs.Continuations.{segmented, uploading, aborted_step, download_goes_on, upload_goes_on}
use Rattle.co_sdo.proofs.BlockContinuations.{block_uploading, last_taken, block_upload_goes_on, block_download_goes_on}
use Rattle.co_sdo.proofs.SubBlockLemmas.{receiving, frame_step}
use Rattle.co_sdo.proofs.RoomLemmas.{room_is}

-- ---- what is open

-- a request that nothing is open for
none_cut : (d : Description) (contents : Contents) (request : SdoRequest) → is_initiate (Some request) ≡ false
    → (is_abort_request (Some request) || list_any is_abort (later_answers d contents None request) ≡ true) × (after_later d contents None request ≡ None)
none_cut d contents (Abort key code) b = (refl, refl)
none_cut d contents (DownloadSegment toggle segment last) b = (refl, refl)
none_cut d contents (UploadSegment toggle) b = (refl, refl)
none_cut d contents BlockUploadEnd b = (refl, refl)
none_cut d contents (BlockUploadAcknowledge sequence block_size) b = (refl, refl)
none_cut d contents BlockUploadStart b = (refl, refl)
none_cut d contents (BlockDownloadEnd unused) b = (refl, refl)
none_cut d contents (DownloadExpedited k x) b = absurd (false≢true (sym b))
none_cut d contents (DownloadInitiate k x) b = absurd (false≢true (sym b))
none_cut d contents (Upload k) b = absurd (false≢true (sym b))
none_cut d contents (BlockUploadInitiate k n m) b = absurd (false≢true (sym b))
none_cut d contents (BlockDownloadInitiate k x) b = absurd (false≢true (sym b))

begun_step : (d : Description) (contents : Contents) (log : Log) (frame : List ℕ) (current : Option OpenTransfer) (request : SdoRequest) → begins (open_transfer log) frame ≡ true
    → request_in frame ≡ Some request → is_initiate (Some request) ≡ true → IsDictionary d contents
    → StepsTo d.rows (after_request d contents current (Some request)) (open_transfer (Exchanged (exchange frame contents (request_answers d contents current (Some request))) ∷ log))
begun_step d contents log frame current request s f b lawful =
    rw b (rw (after_initiates log (exchange frame contents (initiate_answers d contents request)) s) (initiate_step d contents frame request f b lawful))

nothing_step : (d : Description) (contents : Contents) (log : Log) (frame : List ℕ) (r : Option SdoRequest) → open_transfer log ≡ None → request_in frame ≡ r → IsDictionary d contents
    → StepsTo d.rows (after_request d contents None r) (open_transfer (Exchanged (exchange frame contents (request_answers d contents None r)) ∷ log))
nothing_step d contents log frame None e f lawful =
    to_nothing d.rows None _ (after_nothing log (exchange frame contents (aborted (record { index = 0; sub = 0 }) 0x05040001)) e (ap is_initiate f) (rw f refl)) refl
nothing_step d contents log frame (Some request) e f lawful = by_initiate (is_initiate (Some request)) refl
  where
    by_initiate : (b : Bool) → is_initiate (Some request) ≡ b
        → StepsTo d.rows (after_request d contents None (Some request)) (open_transfer (Exchanged (exchange frame contents (request_answers d contents None (Some request))) ∷ log))
    by_initiate true b = begun_step d contents log frame None request (ap (λ t. begins t frame) e ∙ ap is_initiate f ∙ b) f b lawful
    by_initiate false b =
        let cut = none_cut d contents request b in
        rw b (to_nothing d.rows _ _ (after_nothing log (exchange frame contents (later_answers d contents None request)) e (ap is_initiate f ∙ b)
        (ap (λ r. is_abort_request r || list_any is_abort (later_answers d contents None request)) f ∙ cut.0)) cut.1)

-- a request outside a sub-block, where going on is known
outside_step : (d : Description) (contents : Contents) (log : Log) (frame : List ℕ) (t : Transfer) (current : Option OpenTransfer) → open_transfer log ≡ Some t → is_inside t ≡ false → IsDictionary d contents
    → ((request : SdoRequest) → request_in frame ≡ Some request → is_initiate (Some request) ≡ false → StepsTo d.rows (after_later d contents current request) (extended (exchange frame contents (later_answers d contents current request)) t))
    → (r : Option SdoRequest) → request_in frame ≡ r
    → StepsTo d.rows (after_request d contents current r) (open_transfer (Exchanged (exchange frame contents (request_answers d contents current r)) ∷ log))
outside_step d contents log frame t current e i lawful go None f =
    let x = exchange frame contents (unexpected current) in
    rw (after_open log x t e (ap (λ b. not b && is_initiate (request_in frame)) i ∙ ap is_initiate f)) (aborted_step d.rows None x t refl refl)
outside_step d contents log frame t current e i lawful go (Some request) f = by_initiate (is_initiate (Some request)) refl
  where
    by_initiate : (b : Bool) → is_initiate (Some request) ≡ b
        → StepsTo d.rows (after_request d contents current (Some request)) (open_transfer (Exchanged (exchange frame contents (request_answers d contents current (Some request))) ∷ log))
    by_initiate true b = begun_step d contents log frame current request
        (ap (λ s. begins s frame) e ∙ ap (λ b. not b && is_initiate (request_in frame)) i ∙ ap is_initiate f ∙ b) f b lawful
    by_initiate false b = rw b (rw (after_open log (exchange frame contents (later_answers d contents current request)) t e
        (ap (λ b. not b && is_initiate (request_in frame)) i ∙ ap is_initiate f ∙ b)) (go request f b))

-- what is inside is what is open
inside_of : (t : Transfer) (q : Option SdoRequest) (b : Bool) → request_in t.begin.request ≡ q → is_in_sub_block (opened_by q t) ≡ b → is_inside t ≡ b
inside_of t q b e h = sym (inside_is (Some t)) ∙ ap (λ r. is_in_sub_block (opened_by r t)) e ∙ h

open_outside : (d : Description) (contents : Contents) (log : Log) (frame : List ℕ) (t : Transfer) (q : Option SdoRequest) → open_transfer log ≡ Some t → request_in t.begin.request ≡ q → IsDictionary d contents
    → is_in_sub_block (opened_by q t) ≡ false
    → ((request : SdoRequest) → request_in frame ≡ Some request → is_initiate (Some request) ≡ false → StepsTo d.rows (after_later d contents (opened_by q t) request) (extended (exchange frame contents (later_answers d contents (opened_by q t) request)) t))
    → StepsTo d.rows (opened_next d contents (opened_by q t) frame) (open_transfer (Exchanged (exchange frame contents (answers_to d contents (opened_by q t) frame)) ∷ log))
open_outside d contents log frame t q e o lawful h go = rw h (outside_step d contents log frame t (opened_by q t) e (inside_of t q false o h) lawful go (request_in frame) refl)

download_stage : (d : Description) (contents : Contents) (log : Log) (frame : List ℕ) (t : Transfer) (key : Key) (size : Option ℕ) → open_transfer log ≡ Some t → request_in t.begin.request ≡ Some (BlockDownloadInitiate key size) → IsDictionary d contents
    → IsBlockDownload (capacity_at d.rows key) (requests t.later) → length frame ≡ 8 → (last : Bool) → has_last (requests t.later) ≡ last
    → StepsTo d.rows (opened_next d contents (opened_by (Some (BlockDownloadInitiate key size)) t) frame) (open_transfer (Exchanged (exchange frame contents (answers_to d contents (opened_by (Some (BlockDownloadInitiate key size)) t) frame)) ∷ log))
download_stage d contents log frame t key size e o lawful u n true h =
    open_outside d contents log frame t (Some (BlockDownloadInitiate key size)) e o lawful (rw h refl)
    (λ request f b. rw h (block_download_goes_on d contents key size t frame request o h f b))
download_stage d contents log frame t key size e o lawful u n false h =
    let i : is_inside t ≡ true = inside_of t (Some (BlockDownloadInitiate key size)) true o (rw h refl) in
    rw h (rw (after_open log (exchange frame contents (sub_block_answers d.rows (receiving key size t) (length (taken_segments (sub_block (requests t.later)))) frame)) t e (ap (λ b. not b && is_initiate (request_in frame)) i))
    (frame_step d.rows contents key size t frame o h u n))

open_by : (d : Description) (contents : Contents) (log : Log) (frame : List ℕ) (t : Transfer) (q : Option SdoRequest) → open_transfer log ≡ Some t → request_in t.begin.request ≡ q → is_transfer_after d.rows q t → IsDictionary d contents → length frame ≡ 8
    → StepsTo d.rows (opened_next d contents (opened_by q t) frame) (open_transfer (Exchanged (exchange frame contents (answers_to d contents (opened_by q t) frame)) ∷ log))
open_by d contents log frame t (Some (DownloadInitiate key size)) e o u lawful n = open_outside d contents log frame t (Some (DownloadInitiate key size)) e o lawful refl (λ request f b. download_goes_on d contents key size t frame request o u f b)
open_by d contents log frame t (Some (Upload key)) e o u lawful n = open_outside d contents log frame t (Some (Upload key)) e o lawful refl (λ request f b. upload_goes_on d contents key t frame request o u f b)
open_by d contents log frame t (Some (BlockUploadInitiate key size threshold)) e o u lawful n =
    open_outside d contents log frame t (Some (BlockUploadInitiate key size threshold)) e o lawful (upload_outside size t.later) (λ request f b. block_upload_goes_on d contents key size threshold t frame request o u f b)
open_by d contents log frame t (Some (BlockDownloadInitiate key size)) e o u lawful n = download_stage d contents log frame t key size e o lawful u n _ refl
open_by d contents log frame t _ e o u lawful n = absurd u

steps_at : (d : Description) (contents : Contents) (log : Log) (frame : List ℕ) (t : Option Transfer) → open_transfer log ≡ t → is_under_way d.rows t → IsDictionary d contents → length frame ≡ 8
    → StepsTo d.rows (opened_next d contents (opened t) frame) (open_transfer (Exchanged (exchange frame contents (answers_to d contents (opened t) frame)) ∷ log))
steps_at d contents log frame None e u lawful n = nothing_step d contents log frame (request_in frame) e refl lawful
steps_at d contents log frame (Some t) e u lawful n = open_by d contents log frame t (request_in t.begin.request) e refl u lawful n

-- what is open after one more request
pub steps_to : (d : Description) (contents : Contents) (log : Log) (frame : List ℕ) → is_under_way d.rows (open_transfer log) → IsDictionary d contents → length frame ≡ 8
    → StepsTo d.rows (opened_next d contents (opened_after log) frame) (open_transfer (Exchanged (exchange frame contents (reply_to d contents log frame)) ∷ log))
steps_to d contents log frame u lawful n = steps_at d contents log frame (open_transfer log) refl u lawful n

-- a channel that steps as what is open says stands after the longer log
pub stands_next : (d : Description) (contents : Contents) (channel new : Standing) (log : Log) (frame : List ℕ) → Stands d channel log → IsDictionary d contents → length frame ≡ 8
    → new ≡ record channel { left = channel.time; room = room_next d.rows channel.room channel.current frame; current = opened_next d contents channel.current frame }
    → Stands d new (Exchanged (record { request = frame; contents = contents; answers = reply_to d contents log frame }) ∷ log)
stands_next d contents channel new log frame s lawful n e =
    let step = steps_to d contents log frame s.under_way lawful n in
    rw e (record {
      current = ap (λ c. opened_next d contents c frame) s.current ∙ sym step.opens;
      left = sym (omega arith);
      room = room_is d contents channel.room channel.current frame s.room;
      under_way = step.under_way;
    })

-- ---- what is set

-- what a segment sets, by its tests
settles : {A : Type 0} (c1 c2 : ℕ) (same over last ok : Bool) (r : Option ℕ) (x : A) → (ok ≡ false → r ≡ None → ⊥) → (over ≡ true → r ≡ None → ⊥)
    → cond (((same && same_bool last true) && true) && ok) (unless r (Some x)) None ≡ unless (first_refusal (refused_if (not same) c1 ∷ refused_if over c2 ∷ cond last r None ∷ [])) (cond last (Some x) None)
settles c1 c2 true true true true None x bad full = absurd (full refl refl)
settles c1 c2 true true true true (Some c) x bad full = refl
settles c1 c2 true true true false None x bad full = refl
settles c1 c2 true true true false (Some c) x bad full = refl
settles c1 c2 true true false ok None x bad full = refl
settles c1 c2 true true false ok (Some c) x bad full = refl
settles c1 c2 true false true true None x bad full = refl
settles c1 c2 true false true true (Some c) x bad full = refl
settles c1 c2 true false true false None x bad full = absurd (bad refl refl)
settles c1 c2 true false true false (Some c) x bad full = refl
settles c1 c2 true false false ok None x bad full = refl
settles c1 c2 true false false ok (Some c) x bad full = refl
settles c1 c2 false over last ok None x bad full = refl
settles c1 c2 false over last ok (Some c) x bad full = refl

permitted_if : (d : Description) (contents : Contents) (b : Bool) (download : Whole)
    → permitted d contents (cond b (Some download) None) ≡ cond b (unless (completion_refusal d contents download.key download.indicated download.bytes) (Some download)) None
permitted_if d contents true download = refl
permitted_if d contents false download = refl

over_room : (d : Description) (contents : Contents) (key : Key) (size : Option ℕ) (bytes : List ℕ) → nat_lt (capacity_at d.rows key) (length bytes) ≡ true → completion_refusal d contents key size bytes ≡ None → ⊥
over_room d contents key size bytes o h = let room = (allowed d contents key size bytes h).room in grind (arith, nat_tests)

not_indicated : (d : Description) (contents : Contents) (key : Key) (size : Option ℕ) (bytes : List ℕ) → is_as_indicated size (length bytes) ≡ false → completion_refusal d contents key size bytes ≡ None → ⊥
not_indicated d contents key size bytes o h = false≢true (sym o ∙ (allowed d contents key size bytes h).as_indicated)

-- what the requests of an open transfer make with one more
abbrev made : Description → Contents → Option SdoRequest → Transfer → List ℕ → Option Whole
made d contents q t frame = permitted d contents (cond (is_whole_after q (frame ∷ requests t.later)) (download_after d.rows q (frame ∷ requests t.later)) None)

segment_sets : (d : Description) (contents : Contents) (key : Key) (size : Option ℕ) (t : Transfer) (frame : List ℕ) (toggle : Bool) (segment : ArrayVec ℕ) (last : Bool)
    → IsSegmentedDownload (capacity_at d.rows key) (requests t.later) → request_in frame ≡ Some (DownloadSegment toggle segment last)
    → made d contents (Some (DownloadInitiate key size)) t frame ≡ set_by_segment d contents (segmented key size t) (Download size (is_odd (length (requests t.later)))) toggle segment.items last
segment_sets d contents key size t frame toggle segment last u f =
    let bytes = segments_joined (requests t.later) ++ segment.items in
    rw (f, u.segments) (permitted_if d contents (((same_bool toggle (is_odd (length (requests t.later))) && same_bool last true) && true) && is_as_indicated size (length bytes)) (record { key = key; indicated = size; bytes = bytes })
    ∙ settles 0x05030000 0x06070012 (same_bool toggle (is_odd (length (requests t.later)))) (nat_lt (capacity_at d.rows key) (length bytes)) last (is_as_indicated size (length bytes)) (completion_refusal d contents key size bytes) _
    (not_indicated d contents key size bytes) (over_room d contents key size bytes))

-- one more request of a segmented download
download_sets : (d : Description) (contents : Contents) (key : Key) (size : Option ℕ) (t : Transfer) (frame : List ℕ) (r : Option SdoRequest)
    → IsSegmentedDownload (capacity_at d.rows key) (requests t.later) → request_in frame ≡ r → is_expedited r ≡ false
    → made d contents (Some (DownloadInitiate key size)) t frame ≡ set_by_request d contents (Some (segmented key size t)) r
download_sets d contents key size t frame (Some (DownloadSegment toggle segment last)) u f x = segment_sets d contents key size t frame toggle segment last u f
download_sets d contents key size t frame (Some (DownloadExpedited k e)) u f x = absurd (false≢true (sym x))
download_sets d contents key size t frame _ u f x = rw f refl

end_settles : {A : Type 0} (ok : Bool) (r : Option ℕ) (x : A) → (ok ≡ false → r ≡ None → ⊥) → cond ((true && true) && ok) (unless r (Some x)) None ≡ unless r (Some x)
end_settles true r x bad = refl
end_settles false (Some c) x bad = refl
end_settles false None x bad = absurd (bad refl refl)

-- one more request of a block download whose segment with c was taken
block_sets : (d : Description) (contents : Contents) (key : Key) (size : Option ℕ) (t : Transfer) (frame : List ℕ) (r : Option SdoRequest)
    → has_last (requests t.later) ≡ true → request_in frame ≡ r → is_expedited r ≡ false
    → made d contents (Some (BlockDownloadInitiate key size)) t frame ≡ set_by_request d contents (Some (last_taken key size t)) r
block_sets d contents key size t frame (Some (BlockDownloadEnd unused)) h f x =
    let bytes = without unused (block_bytes (requests t.later)) in
    rw (f, h) (permitted_if d contents ((true && true) && is_as_indicated size (length bytes)) (record { key = key; indicated = size; bytes = bytes })
    ∙ end_settles (is_as_indicated size (length bytes)) (completion_refusal d contents key size bytes) _ (not_indicated d contents key size bytes))
block_sets d contents key size t frame (Some (DownloadExpedited k e)) h f x = absurd (false≢true (sym x))
block_sets d contents key size t frame _ h f x = rw f refl

-- an upload sets nothing
upload_stage_sets : (d : Description) (contents : Contents) (o : OpenTransfer) (size : ℕ) (later : List Exchange) (toggle : Bool) (part : List ℕ) (last : Bool) (unused : ℕ)
    → (set_by_segment d contents o (block_upload_stage size later) toggle part last ≡ None) × (set_by_end d contents o (block_upload_stage size later) unused ≡ None)
upload_stage_sets d contents o size [] toggle part last unused = (refl, refl)
upload_stage_sets d contents o size (x ∷ older) toggle part last unused = by_end (list_any is_end_sent x.answers)
  where
    by_end : (ended : Bool)
        → (set_by_segment d contents o (cond ended BlockUploadEnded (BlockUpload (acknowledged (requests (x ∷ older))) (length x.answers))) toggle part last ≡ None)
        × (set_by_end d contents o (cond ended BlockUploadEnded (BlockUpload (acknowledged (requests (x ∷ older))) (length x.answers))) unused ≡ None)
    by_end true = (refl, refl)
    by_end false = (refl, refl)

block_upload_sets : (d : Description) (contents : Contents) (key : Key) (size : ℕ) (t : Transfer) (r : Option SdoRequest) → is_expedited r ≡ false
    → None ≡ set_by_request d contents (Some (block_uploading key size t)) r
block_upload_sets d contents key size t (Some (DownloadSegment toggle segment last)) x = sym ((upload_stage_sets d contents (block_uploading key size t) size t.later toggle segment.items last 0).0)
block_upload_sets d contents key size t (Some (BlockDownloadEnd unused)) x = sym ((upload_stage_sets d contents (block_uploading key size t) size t.later true [] true unused).1)
block_upload_sets d contents key size t (Some (DownloadExpedited k e)) x = absurd (false≢true (sym x))
block_upload_sets d contents key size t _ x = refl

upload_sets : (d : Description) (contents : Contents) (key : Key) (t : Transfer) (r : Option SdoRequest) → is_expedited r ≡ false → None ≡ set_by_request d contents (Some (uploading key t)) r
upload_sets d contents key t (Some (DownloadExpedited k e)) x = absurd (false≢true (sym x))
upload_sets d contents key t _ x = refl

-- an expedited download sets its own bytes
expedited_sets : (d : Description) (contents : Contents) (frame : List ℕ) (current : Option OpenTransfer) (other : Option Whole) (r : Option SdoRequest) → request_in frame ≡ r
    → (is_expedited r ≡ false → permitted d contents other ≡ set_by_request d contents current r)
    → permitted d contents (cond (is_expedited (request_in frame)) (whole_download d.rows frame []) other) ≡ set_by_request d contents current r
expedited_sets d contents frame current other (Some (DownloadExpedited key expedited)) f go = rw f refl
expedited_sets d contents frame current other _ f go = rw f (go refl)

nothing_sets : (d : Description) (contents : Contents) (r : Option SdoRequest) → is_expedited r ≡ false → None ≡ set_by_request d contents None r
nothing_sets d contents (Some (DownloadExpedited k e)) x = absurd (false≢true (sym x))
nothing_sets d contents _ x = refl

made_is : (d : Description) (contents : Contents) (t : Transfer) (frame : List ℕ) (q : Option SdoRequest) → request_in t.begin.request ≡ q
    → permitted d contents (whole_download d.rows t.begin.request (frame ∷ requests t.later)) ≡ made d contents q t frame
made_is d contents t frame q e = ap (λ r. permitted d contents (cond (is_whole_after r (frame ∷ requests t.later)) (download_after d.rows r (frame ∷ requests t.later)) None)) e

-- what a request outside a sub-block sets
outside_sets : (d : Description) (contents : Contents) (frame : List ℕ) (t : Transfer) (q : Option SdoRequest) → request_in t.begin.request ≡ q → is_in_sub_block (opened_by q t) ≡ false
    → ((r : Option SdoRequest) → request_in frame ≡ r → is_expedited r ≡ false → made d contents q t frame ≡ set_by_request d contents (opened_by q t) r)
    → permitted d contents (completed_by d.rows (Some t) frame) ≡ set_next d contents (opened_by q t) frame
outside_sets d contents frame t q e h go =
    rw (inside_of t q false e h, h) (expedited_sets d contents frame (opened_by q t) (whole_download d.rows t.begin.request (frame ∷ requests t.later)) (request_in frame) refl
    (λ x. made_is d contents t frame q e ∙ go (request_in frame) refl x))

download_stage_sets : (d : Description) (contents : Contents) (frame : List ℕ) (t : Transfer) (key : Key) (size : Option ℕ) → request_in t.begin.request ≡ Some (BlockDownloadInitiate key size)
    → (last : Bool) → has_last (requests t.later) ≡ last
    → permitted d contents (completed_by d.rows (Some t) frame) ≡ set_next d contents (opened_by (Some (BlockDownloadInitiate key size)) t) frame
download_stage_sets d contents frame t key size e true h =
    let is_last : opened_by (Some (BlockDownloadInitiate key size)) t ≡ Some (last_taken key size t) = rw h refl in
    outside_sets d contents frame t (Some (BlockDownloadInitiate key size)) e (rw h refl) (λ r f x. block_sets d contents key size t frame r h f x ∙ ap (λ o. set_by_request d contents o r) (sym is_last))
download_stage_sets d contents frame t key size e false h =
    let i : is_inside t ≡ true = inside_of t (Some (BlockDownloadInitiate key size)) true e (rw h refl) in
    rw (i, h) refl

sets_by : (d : Description) (contents : Contents) (frame : List ℕ) (t : Transfer) (q : Option SdoRequest) → request_in t.begin.request ≡ q → is_transfer_after d.rows q t
    → permitted d contents (completed_by d.rows (Some t) frame) ≡ set_next d contents (opened_by q t) frame
sets_by d contents frame t (Some (DownloadInitiate key size)) e u = outside_sets d contents frame t (Some (DownloadInitiate key size)) e refl (λ r f x. download_sets d contents key size t frame r u f x)
sets_by d contents frame t (Some (Upload key)) e u = outside_sets d contents frame t (Some (Upload key)) e refl (λ r f x. upload_sets d contents key t r x)
sets_by d contents frame t (Some (BlockUploadInitiate key size threshold)) e u =
    outside_sets d contents frame t (Some (BlockUploadInitiate key size threshold)) e (upload_outside size t.later) (λ r f x. block_upload_sets d contents key size t r x)
sets_by d contents frame t (Some (BlockDownloadInitiate key size)) e u = download_stage_sets d contents frame t key size e _ refl
sets_by d contents frame t _ e u = absurd u

sets_at : (d : Description) (contents : Contents) (frame : List ℕ) (t : Option Transfer) → is_under_way d.rows t → permitted d contents (completed_by d.rows t frame) ≡ set_next d contents (opened t) frame
sets_at d contents frame None u = expedited_sets d contents frame None None (request_in frame) refl (λ x. nothing_sets d contents (request_in frame) x)
sets_at d contents frame (Some t) u = sets_by d contents frame t (request_in t.begin.request) refl u

-- what a frame sets after a log is what it sets while its transfer is open
pub set_is : (d : Description) (contents : Contents) (log : Log) (frame : List ℕ) → is_under_way d.rows (open_transfer log) → set_by d contents log frame ≡ set_next d contents (opened_after log) frame
set_is d contents log frame u = sets_at d contents frame (open_transfer log) u

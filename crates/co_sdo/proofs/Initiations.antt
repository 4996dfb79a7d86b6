-- What is open after a begin.
use Rattle.std.proofs.Common.{◌≡◌, ℕ, Bool, true, false, cond, List, [], ◌∷◌, length, Option, Some, None, refl, sym, ap, subst, ◌∙◌, arith}
use Rattle.std.specs.Prelude.{◌&&◌, ◌||◌, nat_le}
use Rattle.std.specs.List.{list_any}
use Rattle.std.proofs.lemmas.Bool.{false≢true}
use Rattle.co_value.specs.declared.key.Key.{Key}
use Rattle.co_frame.specs.SdoRequests.{request_in}
use Rattle.co_frame.specs.declared.sdo_request.SdoRequest.{SdoRequest}
use Rattle.co_frame.specs.declared.sdo_request.ExpeditedData.{ExpeditedData}
use Rattle.co_frame.specs.declared.sdo_request.SdoRequest.TheVariants.{DownloadExpedited, DownloadInitiate, Upload, BlockUploadInitiate, BlockDownloadInitiate}
use Rattle.co_frame.specs.declared.sdo_response.SdoResponse.TheVariants.{DownloadDone, UploadExpedited, UploadInitiated, BlockDownloadInitiated, BlockUploadInitiated}
use Rattle.co_frame.specs.declared.sdo_request.ExpeditedData.TheVariants.{Indicated}
use Rattle.co_dict.specs.Rows.{Rows, Contents}
use Rattle.co_dict.specs.Stores.{Description, IsDictionary}
use Rattle.co_dict.specs.Refusals.{first_of}
use Rattle.co_sdo.specs.declared.stage.Stage.TheVariants.{Download, SubBlock, BlockUploadInitiated as Begun}
use Rattle.co_sdo.specs.Refused.{reading_refusal, initiate_refusal}
use Rattle.co_sdo.specs.Log.{Answer, Response, Exchange, is_abort}
use Rattle.co_sdo.specs.Downloads.{is_whole_after}
use Rattle.co_sdo.specs.Uploads.{value_at, upload_initiated}
use Rattle.co_sdo.specs.OpenTransfers.{Transfer, is_initiate, is_uploaded, is_upload_end}
use Rattle.co_sdo.specs.Opened.{OpenTransfer, opened, opened_by}
use Rattle.co_sdo.specs.Replies.{unless_refused, block_size_refusal, initiate_answers}
use Rattle.co_sdo.specs.Completed.{unless}
use Rattle.co_sdo.specs.Steps.{opened_at, after_upload_initiate, after_initiate}
use Rattle.co_sdo.specs.Standing.{is_under_way, is_transfer_after}
use Rattle.co_sdo.proofs.Logs.{begun}
use Rattle.co_sdo.proofs.StoreLemmas.{value_fits}

-- what is open after an exchange is this, and under way
pub record StepsTo (rows : Rows) (next : Option OpenTransfer) (after : Option Transfer) : Type 0 where
  pub opens : opened after ≡ next
  pub under_way : is_under_way rows after

pub to_nothing : (rows : Rows) (next : Option OpenTransfer) (after : Option Transfer) → after ≡ None → next ≡ None → StepsTo rows next after
to_nothing rows next after a n = rw (a, n) (record { opens = refl; under_way = tt })

or_true : (a : Bool) → a || true ≡ true
or_true true = refl
or_true false = refl

-- a transfer whose begin is this request
pub opens_to : (rows : Rows) (next : Option OpenTransfer) (t : Transfer) (q : Option SdoRequest) → request_in t.begin.request ≡ q → opened_by q t ≡ next → is_transfer_after rows q t → StepsTo rows next (Some t)
opens_to rows next t q e h u = record {
  opens = ap (λ r. opened_by r t) e ∙ h;
  under_way = let P : Option SdoRequest → Type 0 = λ r. is_transfer_after rows r t in subst P (sym e) u;
}

begun_open : (x : Exchange) (q : Option SdoRequest) → request_in x.request ≡ q → list_any is_abort x.answers || (is_whole_after q [] || is_uploaded q x) ≡ false
    → begun x ≡ Some (record { begin = x; later = [] })
begun_open x q e h = ap (λ r. cond {A = Option Transfer} (list_any is_abort x.answers || (is_whole_after r [] || is_uploaded r x)) None (Some (record { begin = x; later = [] }))) e
    ∙ ap (λ b. cond {A = Option Transfer} b None (Some (record { begin = x; later = [] }))) h

-- an exchange
abbrev pub exchange : List ℕ → Contents → List Answer → Exchange
exchange frame contents answers = record { request = frame; contents = contents; answers = answers }

stays_open : (rows : Rows) (next : Option OpenTransfer) (x : Exchange) (q : Option SdoRequest) → request_in x.request ≡ q → list_any is_abort x.answers || (is_whole_after q [] || is_uploaded q x) ≡ false
    → opened_by q (record { begin = x; later = [] }) ≡ next → is_transfer_after rows q (record { begin = x; later = [] }) → StepsTo rows next (begun x)
stays_open rows next x q e h o u = rw (begun_open x q e h) (opens_to rows next (record { begin = x; later = [] }) q e o u)

ends_at_once : (rows : Rows) (x : Exchange) (q : Option SdoRequest) → request_in x.request ≡ q → list_any is_abort x.answers || (is_whole_after q [] || is_uploaded q x) ≡ true → StepsTo rows None (begun x)
ends_at_once rows x q e h = to_nothing rows None (begun x)
    (ap (λ r. cond {A = Option Transfer} (list_any is_abort x.answers || (is_whole_after r [] || is_uploaded r x)) None (Some (record { begin = x; later = [] }))) e
    ∙ ap (λ b. cond {A = Option Transfer} b None (Some (record { begin = x; later = [] }))) h) refl

expedited_step : (d : Description) (contents : Contents) (frame : List ℕ) (key : Key) (expedited : ExpeditedData) (answers : List Answer) → request_in frame ≡ Some (DownloadExpedited key expedited)
    → StepsTo d.rows None (begun (record { request = frame; contents = contents; answers = answers }))
expedited_step d contents frame key expedited answers e = ends_at_once d.rows (exchange frame contents answers) _ e (or_true (list_any is_abort answers))

download_step : (d : Description) (contents : Contents) (frame : List ℕ) (key : Key) (size : Option ℕ) (code : Option ℕ) → request_in frame ≡ Some (DownloadInitiate key size)
    → StepsTo d.rows (unless code (opened_at key (Download size false) [])) (begun (record { request = frame; contents = contents; answers = unless_refused code key (Response (DownloadDone key) ∷ []) }))
download_step d contents frame key size (Some code) e = record { opens = refl; under_way = tt }
download_step d contents frame key size None e = stays_open d.rows _ (exchange frame contents (Response (DownloadDone key) ∷ [])) _ e refl refl (record { segments = refl; bytes = omega arith })

block_download_step : (d : Description) (contents : Contents) (frame : List ℕ) (key : Key) (size : Option ℕ) (code : Option ℕ) → request_in frame ≡ Some (BlockDownloadInitiate key size)
    → StepsTo d.rows (unless code (opened_at key (SubBlock size 0) [])) (begun (record { request = frame; contents = contents; answers = unless_refused code key (Response (BlockDownloadInitiated key 127) ∷ []) }))
block_download_step d contents frame key size (Some code) e = record { opens = refl; under_way = tt }
block_download_step d contents frame key size None e = stays_open d.rows _ (exchange frame contents (Response (BlockDownloadInitiated key 127) ∷ [])) _ e refl refl (record { inside = λ h. (omega arith, omega arith); bytes = omega arith })

block_upload_step : (d : Description) (contents : Contents) (frame : List ℕ) (key : Key) (size threshold : ℕ) (code : Option ℕ) → request_in frame ≡ Some (BlockUploadInitiate key size threshold) → IsDictionary d contents
    → StepsTo d.rows (unless code (opened_at key (Begun size) (value_at contents key)))
    (begun (record { request = frame; contents = contents; answers = unless_refused code key (Response (BlockUploadInitiated key (Some (length (value_at contents key)))) ∷ []) }))
block_upload_step d contents frame key size threshold (Some code) e s = record { opens = refl; under_way = tt }
block_upload_step d contents frame key size threshold None e s = stays_open d.rows _ (exchange frame contents (Response (BlockUploadInitiated key (Some (length (value_at contents key)))) ∷ [])) _ e (ap is_upload_end e) refl (value_fits d contents key s)

upload_sent : (d : Description) (contents : Contents) (frame : List ℕ) (key : Key) (short : Bool) → request_in frame ≡ Some (Upload key) → IsDictionary d contents
    → nat_le 1 (length (value_at contents key)) && nat_le (length (value_at contents key)) 4 ≡ short
    → StepsTo d.rows (after_upload_initiate key (value_at contents key)) (begun (record { request = frame; contents = contents; answers = upload_initiated key (value_at contents key) }))
upload_sent d contents frame key true e s b = rw b (ends_at_once d.rows (exchange frame contents (Response (UploadExpedited key (Indicated (record { items = value_at contents key }))) ∷ [])) _ e refl)
upload_sent d contents frame key false e s b = rw b (stays_open d.rows _ (exchange frame contents (Response (UploadInitiated key (Some (length (value_at contents key)))) ∷ [])) _ e refl refl (value_fits d contents key s))

upload_step : (d : Description) (contents : Contents) (frame : List ℕ) (key : Key) (code : Option ℕ) → request_in frame ≡ Some (Upload key) → IsDictionary d contents
    → StepsTo d.rows (unless code (after_upload_initiate key (value_at contents key)))
    (begun (record { request = frame; contents = contents; answers = unless_refused code key (upload_initiated key (value_at contents key)) }))
upload_step d contents frame key (Some code) e s = record { opens = refl; under_way = tt }
upload_step d contents frame key None e s = upload_sent d contents frame key _ e s refl

-- a begin opens a transfer, unless it is refused or whole at once
pub initiate_step : (d : Description) (contents : Contents) (frame : List ℕ) (request : SdoRequest) → request_in frame ≡ Some request → is_initiate (Some request) ≡ true → IsDictionary d contents
    → StepsTo d.rows (after_initiate d contents request) (begun (record { request = frame; contents = contents; answers = initiate_answers d contents request }))
initiate_step d contents frame (DownloadExpedited key expedited) e b s = expedited_step d contents frame key expedited (initiate_answers d contents (DownloadExpedited key expedited)) e
initiate_step d contents frame (DownloadInitiate key size) e b s = download_step d contents frame key size (initiate_refusal d key size) e
initiate_step d contents frame (Upload key) e b s = upload_step d contents frame key (reading_refusal d contents key) e s
initiate_step d contents frame (BlockUploadInitiate key size threshold) e b s = block_upload_step d contents frame key size threshold (first_of (reading_refusal d contents key) (block_size_refusal size)) e s
initiate_step d contents frame (BlockDownloadInitiate key size) e b s = block_download_step d contents frame key size (initiate_refusal d key size) e
initiate_step d contents frame _ e b s = absurd (false≢true b)

-- What is open after one more event.
use Rattle.std.proofs.Common.{◌≡◌, ℕ, Bool, true, false, cond, not, List, [], ◌∷◌, length, Option, Some, None, refl, ap, ◌∙◌}
use Rattle.std.specs.Prelude.{◌&&◌, ◌||◌, if◌then◌else◌}
use Rattle.std.specs.List.{list_any}
use Rattle.std.specs.Option.{option_map_or}
use Rattle.std.proofs.lemmas.Bool.{false≢true}
use Rattle.co_frame.specs.SdoRequests.{request_in}
use Rattle.co_frame.specs.declared.sdo_request.SdoRequest.{SdoRequest}
use Rattle.co_frame.specs.declared.sdo_request.SdoRequest.TheVariants.{BlockUploadInitiate, BlockDownloadInitiate}
use Rattle.co_sdo.specs.Log.{Exchange, Exchanged, Log, is_abort, exchanges, requests}
use Rattle.co_sdo.specs.SubBlocks.{has_last}
use Rattle.co_sdo.specs.Downloads.{is_whole_after, are_all_sub_blocks}
use Rattle.co_sdo.specs.OpenTransfers.{Transfer, Since, is_inside, is_inside_after, is_cut, has_cut, is_finished, is_uploaded, newest, transfer_of, open_since, begins, and_event, since_with, since_initiate, open_transfer}
use Rattle.co_sdo.specs.declared.stage.Stage.TheVariants.{BlockUpload, BlockUploadEnded}
use Rattle.co_sdo.specs.Opened.{opened, opened_by, acknowledged, is_end_sent, block_upload_stage, block_download_stage}
use Rattle.co_sdo.specs.Replies.{is_in_sub_block, is_sub_block}

-- ---- inside a sub-block

stage_inside : (size : Option ℕ) (later : List (List ℕ)) (last : Bool) → has_last later ≡ last → is_sub_block (block_download_stage size later) ≡ not last
stage_inside size later true e = rw e refl
stage_inside size later false e = rw e refl

pub upload_outside : (size : ℕ) (later : List Exchange) → is_sub_block (block_upload_stage size later) ≡ false
upload_outside size [] = refl
upload_outside size (x ∷ older) = ended (list_any is_end_sent x.answers)
  where
    ended : (b : Bool) → is_sub_block (cond b BlockUploadEnded (BlockUpload (acknowledged (requests (x ∷ older))) (length x.answers))) ≡ false
    ended true = refl
    ended false = refl

inside_by : (r : Option SdoRequest) (t : Transfer) → is_in_sub_block (opened_by r t) ≡ is_inside_after r (requests t.later)
inside_by (Some (BlockDownloadInitiate key size)) t = stage_inside size (requests t.later) _ refl
inside_by (Some (BlockUploadInitiate key size threshold)) t = upload_outside size t.later
inside_by _ t = refl

-- what is open says whether the next frame falls inside a sub-block
pub inside_is : (t : Option Transfer) → is_in_sub_block (opened t) ≡ option_map_or is_inside t false
inside_is None = refl
inside_is (Some t) = inside_by (request_in t.begin.request) t

whole_outside : (later : List (List ℕ)) (b : Bool) → (are_all_sub_blocks later && b) || false ≡ true → not (has_last later) ≡ false
whole_outside [] b h = absurd (false≢true h)
whole_outside (f ∷ older) b h = ended _ (has_last older) b _ h
  where
    ended : (e l b k : Bool) → ((e && l) && b) || false ≡ true → not (l || k) ≡ false
    ended e true b k h = refl
    ended true false b k h = absurd (false≢true h)
    ended false false b k h = absurd (false≢true h)

finished_by : (r : Option SdoRequest) (later : List (List ℕ)) (last : Exchange) → is_whole_after r later || is_uploaded r last ≡ true → is_inside_after r later ≡ false
finished_by (Some (BlockDownloadInitiate key size)) later last h = whole_outside later _ h
finished_by _ later last h = refl

finished_outside : (t : Transfer) → is_finished t ≡ true → is_inside t ≡ false
finished_outside t h = finished_by (request_in t.begin.request) (requests t.later) (newest t.begin t.later) h

-- ---- one more exchange

-- what is open after a begin
abbrev pub begun : Exchange → Option Transfer
begun x = if list_any is_abort x.answers || is_finished (record { begin = x; later = [] }) then None else Some (record { begin = x; later = [] })

-- what is open after one more exchange of an open transfer
abbrev pub extended : Exchange → Transfer → Option Transfer
extended x t =
    if is_cut (is_inside t) (Exchanged x) || is_finished (record { begin = t.begin; later = x ∷ t.later }) then None
    else Some (record { begin = t.begin; later = x ∷ t.later })

begins_in : (x : Exchange) (s : Option Since) → begins (open_since s) x.request ≡ true → open_since (since_with (Exchanged x) s) ≡ begun x
begins_in x s h = ap (λ b. open_since (cond b (Some (record { begin = x; later = [] })) (and_event (Exchanged x) s))) h

pub after_initiates : (log : Log) (x : Exchange) → begins (open_transfer log) x.request ≡ true → open_transfer (Exchanged x ∷ log) ≡ begun x
after_initiates log x h = begins_in x (since_initiate log) h

continues : (x : Exchange) (s : Option Since) → begins (open_since s) x.request ≡ false → open_since (since_with (Exchanged x) s) ≡ open_since (and_event (Exchanged x) s)
continues x s h = ap (λ b. open_since (cond b (Some (record { begin = x; later = [] })) (and_event (Exchanged x) s))) h

extended_since : (x : Exchange) (s : Since) (cut finished : Bool) (t : Transfer) → has_cut s.begin s.later ≡ cut → cond (cut || finished) None (Some (transfer_of s)) ≡ Some t
    → open_since (and_event (Exchanged x) (Some s)) ≡ extended x t
extended_since x s true finished t c e = cc
extended_since x s false true t c e = cc
extended_since x s false false t c e =
    let same : transfer_of s ≡ t = cc in
    rw (← same, c) (or_nothing (is_cut (is_inside (transfer_of s)) (Exchanged x)) _)
  where
    or_nothing : (a b : Bool) → cond {A = Option Transfer} ((a || false) || b) None (Some (record { begin = s.begin; later = x ∷ exchanges s.later })) ≡ cond {A = Option Transfer} (a || b) None (Some (record { begin = s.begin; later = x ∷ exchanges s.later }))
    or_nothing true b = refl
    or_nothing false b = refl

extended_in : (x : Exchange) (s : Option Since) (t : Transfer) → open_since s ≡ Some t → open_since (and_event (Exchanged x) s) ≡ extended x t
extended_in x None t e = cc
extended_in x (Some s) t e = extended_since x s _ _ t refl e

pub after_open : (log : Log) (x : Exchange) (t : Transfer) → open_transfer log ≡ Some t → begins (Some t) x.request ≡ false → open_transfer (Exchanged x ∷ log) ≡ extended x t
after_open log x t e b = continues x (since_initiate log) (ap (λ o. begins o x.request) e ∙ b) ∙ extended_in x (since_initiate log) t e

cut_since : (x : Exchange) (s : Since) (cut finished : Bool) → has_cut s.begin s.later ≡ cut → is_finished (transfer_of s) ≡ finished → cond (cut || finished) None (Some (transfer_of s)) ≡ None
    → is_cut false (Exchanged x) ≡ true → open_since (and_event (Exchanged x) (Some s)) ≡ None
cut_since x s true finished c f e h = rw c (any_true (is_cut (is_inside (transfer_of s)) (Exchanged x)) _ _)
  where
    any_true : {A : Type 0} (a b : Bool) (y : Option A) → cond ((a || true) || b) None y ≡ None
    any_true true b y = refl
    any_true false b y = refl
cut_since x s false true c f e h = rw (finished_outside (transfer_of s) f, h) refl
cut_since x s false false c f e h = cc

cut_in : (x : Exchange) (s : Option Since) → open_since s ≡ None → is_cut false (Exchanged x) ≡ true → open_since (and_event (Exchanged x) s) ≡ None
cut_in x None e h = refl
cut_in x (Some s) e h = cut_since x s _ _ refl refl e h

pub after_nothing : (log : Log) (x : Exchange) → open_transfer log ≡ None → begins None x.request ≡ false → is_cut false (Exchanged x) ≡ true → open_transfer (Exchanged x ∷ log) ≡ None
after_nothing log x e b h = continues x (since_initiate log) (ap (λ o. begins o x.request) e ∙ b) ∙ cut_in x (since_initiate log) e h

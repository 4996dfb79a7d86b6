-- Of which entry the transfer is that is open on the channel of a device, frame by frame.
use Rattle.std.proofs.Common.{◌≡◌, ℕ, Bool, true, false, not, List, [], ◌∷◌, Option, Some, None, refl, sym, ap, ◌∙◌}
use Rattle.std.specs.Prelude.{◌&&◌, ◌||◌, if◌then◌else◌, is_some, IfSome}
use Rattle.std.specs.List.{list_any}
use Rattle.std.specs.Option.{option_map_or}
use Rattle.std.proofs.lemmas.Bool.{false≢true}
use Rattle.co_value.specs.declared.key.Key.{Key}
use Rattle.co_frame.specs.SdoRequests.{request_in}
use Rattle.co_frame.specs.declared.sdo_request.SdoRequest.{SdoRequest}
use Rattle.co_frame.specs.declared.sdo_request.SdoRequest.TheVariants.{DownloadExpedited, DownloadInitiate, DownloadSegment, Upload as UploadInitiate, UploadSegment as NextSegment, Abort as Abandon, BlockUploadInitiate, BlockUploadEnd as UploadEnd, BlockUploadAcknowledge, BlockUploadStart, BlockDownloadInitiate, BlockDownloadEnd}
use Rattle.co_dict.specs.Rows.{Contents}
use Rattle.co_dict.specs.Stores.{Description}
use Rattle.co_sdo.specs.Log.{Exchange, Exchanged, Log, is_abort}
use Rattle.co_sdo.specs.Opened.{OpenTransfer, opened, opened_after, opened_by}
use Rattle.co_sdo.specs.OpenTransfers.{Since, Transfer, and_event, begins, has_cut, is_abort_received, is_abort_request, is_cut, is_finished, is_initiate as initiates, is_inside, is_inside_after, open_since, since_initiate, transfer_of}
use Rattle.co_sdo.specs.Replies.{answers_to, reply_to, request_answers}
use Rattle.conode_explain_laws.specs.Downloads.{is_block_begin}

-- ---- what is open is of this entry

abbrev pub IsOf : Key → Log → Type 0
IsOf key log = (o : OpenTransfer) → opened_after log ≡ Some o → o.key ≡ key

no_some : (o : OpenTransfer) → None ≡ Some o → ⊥
no_some o e = false≢true (ap is_some e)

pub none_of : (key : Key) (log : Log) → opened_after log ≡ None → IsOf key log
none_of key log none = λ o is. absurd (no_some o (sym none ∙ is))

-- the entry of an initiate request
abbrev pub asked_key : Option SdoRequest → Key
asked_key (Some (DownloadExpedited key value)) = key
asked_key (Some (DownloadInitiate key size)) = key
asked_key (Some (UploadInitiate key)) = key
asked_key (Some (BlockUploadInitiate key size threshold)) = key
asked_key (Some (BlockDownloadInitiate key size)) = key
asked_key _ = record { index = 0; sub = 0 }

key_of : (x : OpenTransfer) (o : OpenTransfer) → Some x ≡ Some o → o.key ≡ x.key
key_of x o e = sym (ap (λ (y : Option OpenTransfer). option_map_or (λ z. z.key) y x.key) e)

opened_key : (r : Option SdoRequest) (t : Transfer) (o : OpenTransfer) → opened_by r t ≡ Some o → o.key ≡ asked_key r
opened_key (Some (DownloadInitiate key size)) t o e = key_of _ o e
opened_key (Some (UploadInitiate key)) t o e = key_of _ o e
opened_key (Some (BlockUploadInitiate key size threshold)) t o e = key_of _ o e
opened_key (Some (BlockDownloadInitiate key size)) t o e = key_of _ o e
opened_key _ t o e = absurd (no_some o e)

-- by the same initiate request it was of the same entry before
opened_same : (r : Option SdoRequest) (t u : Transfer) (key : Key) (o : OpenTransfer) → opened_by r u ≡ Some o → ((x : OpenTransfer) → opened_by r t ≡ Some x → x.key ≡ key) → o.key ≡ key
opened_same (Some (DownloadInitiate k size)) t u key o e h = key_of _ o e ∙ h _ refl
opened_same (Some (UploadInitiate k)) t u key o e h = key_of _ o e ∙ h _ refl
opened_same (Some (BlockUploadInitiate k size threshold)) t u key o e h = key_of _ o e ∙ h _ refl
opened_same (Some (BlockDownloadInitiate k size)) t u key o e h = key_of _ o e ∙ h _ refl
opened_same _ t u key o e h = absurd (no_some o e)

-- ---- an initiate request

pub not_inside : (r : Option SdoRequest) (later : List (List ℕ)) → is_block_begin r ≡ false → is_inside_after r later ≡ false
not_inside (Some (BlockDownloadInitiate key size)) later n = absurd (false≢true (sym n))
not_inside _ later n = refl

outside_of : (x : Option Since) → IfSome x (λ s. is_block_begin (request_in s.begin.request) ≡ false) → option_map_or is_inside (open_since x) false ≡ false
outside_of None h = refl
outside_of (Some s) h = by (has_cut s.begin s.later || is_finished (transfer_of s))
  where
    by : (b : Bool) → option_map_or is_inside (if b then None else Some (transfer_of s)) false ≡ false
    by true = refl
    by false = not_inside (request_in s.begin.request) _ h

module _ (x : Exchange) (log : Log) (clean : IfSome (since_initiate log) (λ s. is_block_begin (request_in s.begin.request) ≡ false)) where
  begins_is : begins (open_since (since_initiate log)) x.request ≡ initiates (request_in x.request)
  begins_is = ap (λ b. not b && initiates (request_in x.request)) (outside_of (since_initiate log) clean)

  first_of : (b : Bool) → begins (open_since (since_initiate log)) x.request ≡ b → (since_initiate (Exchanged x ∷ log) ≡ (if b then Some (record { begin = x; later = [] }) else and_event (Exchanged x) (since_initiate log)))
  first_of b is = ap (λ c. if c then Some (record { begin = x; later = [] }) else and_event (Exchanged x) (since_initiate log)) is

  pub of_initiate : initiates (request_in x.request) ≡ true → IsOf (asked_key (request_in x.request)) (Exchanged x ∷ log)
  of_initiate i = λ o is. by (has_cut x [] || is_finished (transfer_of (record { begin = x; later = [] }))) o (sym (ap (λ s. opened (open_since s)) (first_of true (begins_is ∙ i))) ∙ is)
    where
      by : (b : Bool) (o : OpenTransfer) → opened (if b then None else Some (transfer_of (record { begin = x; later = [] }))) ≡ Some o → o.key ≡ asked_key (request_in x.request)
      by true o e = absurd (no_some o e)
      by false o e = opened_key (request_in x.request) _ o e

-- ---- a request that goes on: where nothing is open it is refused

pub refused_any : (d : Description) (contents : Contents) (r : Option SdoRequest) → initiates r ≡ false
    → (is_abort_request r || list_any is_abort (request_answers d contents None r)) ≡ true
refused_any d contents None n = refl
refused_any d contents (Some (Abandon key code)) n = refl
refused_any d contents (Some (DownloadSegment toggle segment last)) n = refl
refused_any d contents (Some (NextSegment toggle)) n = refl
refused_any d contents (Some UploadEnd) n = refl
refused_any d contents (Some (BlockUploadAcknowledge sequence size)) n = refl
refused_any d contents (Some BlockUploadStart) n = refl
refused_any d contents (Some (BlockDownloadEnd unused)) n = refl
refused_any d contents (Some _) n = absurd (false≢true (sym n))

abbrev pub exchange_with : Description → Contents → Log → List ℕ → Exchange
exchange_with d contents log request = record { request = request; contents = contents; answers = reply_to d contents log request }

or_off : (a b c : Bool) → ((a || b) || c) ≡ false → (a ≡ false) × (b ≡ false)
or_off true b c h = absurd (false≢true (sym h))
or_off false true c h = absurd (false≢true (sym h))
or_off false false c h = (refl, refl)

-- the transfer since an initiate request, with one more exchange
still_of : (d : Description) (contents : Contents) (log : Log) (request : List ℕ) (key : Key) (s : Since) → since_initiate log ≡ Some s → is_block_begin (request_in s.begin.request) ≡ false → initiates (request_in request) ≡ false → IsOf key log
    → (o : OpenTransfer) → opened (open_since (Some (record { begin = s.begin; later = Exchanged (exchange_with d contents log request) ∷ s.later }))) ≡ Some o → o.key ≡ key
still_of d contents log request key s is clean n h o e = by (has_cut s.begin (Exchanged x ∷ s.later) || is_finished (transfer_of more)) refl e
  where
    x : Exchange
    x = exchange_with d contents log request

    more : Since
    more = record { begin = s.begin; later = Exchanged (exchange_with d contents log request) ∷ s.later }

    -- nothing was open: the request is refused
    gone : is_finished (transfer_of s) ≡ true → (has_cut s.begin s.later ≡ false) → is_cut (is_inside (transfer_of s)) (Exchanged (exchange_with d contents log request)) ≡ true
    gone done cut =
        let closed : (has_cut s.begin s.later || is_finished (transfer_of s)) ≡ true = ap (λ b. b || is_finished (transfer_of s)) cut ∙ done in
        let none : opened_after log ≡ None = ap (λ o. opened (open_since o)) is ∙ ap (λ b. opened (if b then None else Some (transfer_of s))) closed in
        let replies : reply_to d contents log request ≡ request_answers d contents None (request_in request) = ap (λ c. answers_to d contents c request) none in
        ap (λ b. is_abort_received b request || list_any is_abort (reply_to d contents log request)) (not_inside (request_in s.begin.request) _ clean)
        ∙ ap (λ answers. is_abort_request (request_in request) || list_any is_abort answers) replies ∙ refused_any d contents (request_in request) n

    was_open : (done : Bool) → is_finished (transfer_of s) ≡ done → has_cut s.begin s.later ≡ false → is_cut (is_inside (transfer_of s)) (Exchanged (exchange_with d contents log request)) ≡ false → opened (Some (transfer_of more)) ≡ Some o → o.key ≡ key
    was_open true fin cut uncut eq = absurd (false≢true (sym uncut ∙ gone fin cut))
    was_open false fin cut uncut eq =
        opened_same (request_in s.begin.request) (transfer_of s) (transfer_of more) key o eq
        (λ y old. h y (ap (λ o. opened (open_since o)) is ∙ ap (λ b. opened (if b then None else Some (transfer_of s))) (ap (λ b. b || is_finished (transfer_of s)) cut ∙ fin) ∙ old))

    by : (b : Bool) → (has_cut s.begin (Exchanged (exchange_with d contents log request) ∷ s.later) || is_finished (transfer_of more)) ≡ b → opened (if b then None else Some (transfer_of more)) ≡ Some o → o.key ≡ key
    by true off eq = absurd (no_some o eq)
    by false off eq =
        let parts = or_off (is_cut (is_inside (transfer_of s)) (Exchanged (exchange_with d contents log request))) (has_cut s.begin s.later) (is_finished (transfer_of more)) off in
        was_open (is_finished (transfer_of s)) refl parts.1 parts.0 eq

pub of_later : (d : Description) (contents : Contents) (log : Log) (request : List ℕ) (key : Key) → IfSome (since_initiate log) (λ s. is_block_begin (request_in s.begin.request) ≡ false) → initiates (request_in request) ≡ false → IsOf key log
    → IsOf key (Exchanged (exchange_with d contents log request) ∷ log)
of_later d contents log request key clean n h = λ o e. by (since_initiate log) refl clean o (sym (ap (λ s. opened (open_since s)) (first_of (exchange_with d contents log request) log clean false (begins_is (exchange_with d contents log request) log clean ∙ n))) ∙ e)
  where
    by : (x : Option Since) → since_initiate log ≡ x → IfSome x (λ s. is_block_begin (request_in s.begin.request) ≡ false) → (o : OpenTransfer)
        → opened (open_since (and_event (Exchanged (exchange_with d contents log request)) x)) ≡ Some o → o.key ≡ key
    by None is c o e = absurd (no_some o e)
    by (Some s) is c o e = still_of d contents log request key s is c n h o e

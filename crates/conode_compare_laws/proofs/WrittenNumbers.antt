-- The bytes of one entry of a device from 1004h to 1FFFh: an input at which it isn't written leaves them, and a reset restores the first
-- ones. An expedited download that is done leaves the number that it asks for in an entry of UNSIGNED16.
use Rattle.std.proofs.Common.{◌≡◌, ℕ, ◌+◌, ◌≤◌, Bool, true, false, List, [], ◌∷◌, length, take, Option, Some, None, refl, sym, ap, ◌∙◌, ◌⊎◌, inl, inr}
use Rattle.std.specs.Prelude.{◌==◌, if◌then◌else◌, unwrap_or}
use Rattle.std.specs.Option.{option_map_or}
use Rattle.std.proofs.Math.Seq.{take-length}
use Rattle.std.proofs.lemmas.Bool.{eqb-true, false≢true}
use Rattle.co_value.specs.declared.data_type.DataType.TheVariants.{Unsigned16}
use Rattle.co_value.specs.declared.key.Key.{Key}
use Rattle.co_value.specs.Keys.{same_key-is, same_key-refl}
use Rattle.co_value.specs.Numbers.{unsigned_of}
use Rattle.co_value.specs.Types.{width_of}
use Rattle.co_frame.specs.FrameContent.{FrameContent}
use Rattle.co_frame.specs.Nmt.{nmt_command_in}
use Rattle.co_frame.specs.SdoRequests.{request_in}
use Rattle.co_frame.specs.declared.nmt.NmtService.{NmtService}
use Rattle.co_frame.specs.declared.nmt.NmtService.TheVariants.{Start, Stop, EnterPreOperational, ResetNode, ResetCommunication}
use Rattle.co_frame.specs.declared.sdo_request.ExpeditedData.{ExpeditedData}
use Rattle.co_frame.specs.declared.sdo_request.ExpeditedData.TheVariants.{Indicated, NotIndicated}
use Rattle.co_frame.specs.declared.sdo_request.SdoRequest.{SdoRequest}
use Rattle.co_frame.specs.declared.sdo_request.SdoRequest.TheVariants.{DownloadExpedited}
use Rattle.co_profile.specs.FixedTypes.{fixed_type_of}
use Rattle.co_profile.specs.Indices.{communication_profile, is_within}
use Rattle.co_dict.specs.declared.row.Row.{Row}
use Rattle.co_dict.specs.Rows.{Contents, Rows, capacity_at, fits, number_at, takes}
use Rattle.co_dict.specs.Stores.{Description}
use Rattle.co_sdo.specs.Completed.{key_set, set_by, unless}
use Rattle.co_sdo.specs.Downloads.{expedited_part, expedited_within}
use Rattle.co_sdo.specs.Log.{Log}
use Rattle.co_sdo.specs.OpenTransfers.{is_inside, open_transfer}
use Rattle.co_sdo.specs.Refused.{completion_refusal}
use Rattle.co_node_laws.proofs.Below.{Below}
use Rattle.co_node_laws.proofs.Changed.{by_address}
use Rattle.co_node_laws.proofs.Received.{MayBecome, changed}
use Rattle.co_node_laws.proofs.SameSettings.{written_other}
use Rattle.co_node_laws.proofs.SetExactly.{set as sets}
use Rattle.co_node_parts.specs.declared.nmt_state.NodeState.TheVariants as node
use Rattle.co_node_parts.specs.NmtStates.{is_state}
use Rattle.co_node_model.specs.declared.address.Address.TheVariants.{Nmt}
use Rattle.co_node_model.specs.Addresses.{address_at}
use Rattle.co_node_model.specs.Device.{contents_of, moment, moments, state_of}
use Rattle.co_node_model.specs.Inputs.{Applied, Framed, Inputs, InputView, Ticked}
use Rattle.co_node_model.specs.Keys.{is_set}
use Rattle.co_node_model.specs.Marks.{marked_key}
use Rattle.co_node_model.specs.Moments.{Constants}
use Rattle.co_node_model.specs.Nmt.{after_service, is_reset, is_reset_by, service_for}
use Rattle.co_node_model.specs.Sdo.{channel_logs}
use Rattle.co_node_model.specs.Sync.{is_sync_id}
use Rattle.conode_explain_transfers.specs.Initiates.{data_of}
use Rattle.conode_compare_laws.specs.ShownWords.{KeepsWord, is_expedited_download, number_asked}
use Rattle.conode_compare_laws.proofs.ChannelMarks.{address, expedited, expedited_completes, expedited_sets, mark_is, short_mark, stopped_mark}
use Rattle.conode_compare_laws.proofs.Fitting.{HaveTypes, fits_width, sdo_takes}
use Rattle.conode_compare_laws.proofs.Inputs.{command_in, command_is}

-- ---- one that isn't written

module _ (below : Below) (key : Key) (low : 0x1004 ≤ key.index) (high : key.index ≤ 0x1FFF) where
  by_set : (d : Description) (set : Option Key) (c e : Contents) → MayBecome d set c e → is_set set key ≡ false → c key ≡ e key
  by_set d None c e may off = may.same key low high
  by_set d (Some set) c e may off = sym (written_other c set key may.0 off) ∙ may.1.same.same key low high

  pub unwritten_same : (k : Constants) (before : Inputs) (input : InputView) → is_set (marked_key (moment k (moments k before) input).mark) key ≡ false → is_reset (moment k (moments k before) input).mark ≡ false
      → contents_of k (input ∷ before) key ≡ contents_of k before key
  unwritten_same k before input off reset =
      sym (by_set k.description (marked_key (moment k (moments k before) input).mark) (contents_of k before) (contents_of k (input ∷ before)) (changed below k (moments k before) input reset) off)

-- ---- a reset

module _ (key : Key) (within : is_within communication_profile key.index ≡ true) where
  by_service : (initial : Contents) (service : Option NmtService) (c : Contents) → is_reset_by service ≡ true → after_service initial service c key ≡ initial key
  by_service initial None c on = absurd (false≢true on)
  by_service initial (Some Start) c on = absurd (false≢true on)
  by_service initial (Some Stop) c on = absurd (false≢true on)
  by_service initial (Some EnterPreOperational) c on = absurd (false≢true on)
  by_service initial (Some ResetNode) c on = refl
  by_service initial (Some ResetCommunication) c on = ap (λ b. if b then initial key else c key) within

  at_frame : (k : Constants) (before : Inputs) (frame : FrameContent) (b : Bool) → (frame.id == 0) ≡ b → is_reset_by (if b then service_for k.description.node (nmt_command_in frame) else None) ≡ true
      → contents_of k (Framed frame ∷ before) key ≡ k.description.initial key
  at_frame k before frame true is on =
      let nmt : address_at k (moments k before) frame.id ≡ Nmt = rw is refl in
      ap (λ (c : Contents). c key) (by_address k before frame Nmt nmt) ∙ by_service k.description.initial (service_for k.description.node (nmt_command_in frame)) (contents_of k before) on
  at_frame k before frame false is on = absurd (false≢true on)

  at_input : (k : Constants) (before : Inputs) (input : InputView) → is_reset_by (command_in k.description.node input) ≡ true → contents_of k (input ∷ before) key ≡ k.description.initial key
  at_input k before Ticked on = absurd (false≢true on)
  at_input k before (Applied event) on = absurd (false≢true on)
  at_input k before (Framed frame) on = at_frame k before frame (frame.id == 0) refl on

  pub reset_same : (k : Constants) (before : Inputs) (input : InputView) → is_reset (moment k (moments k before) input).mark ≡ true → contents_of k (input ∷ before) key ≡ k.description.initial key
  reset_same k before input on = at_input k before input (sym (ap is_reset_by (command_is k (moments k before) input)) ∙ on)

-- ---- the data of an expedited download

-- an entry of UNSIGNED16 takes two bytes alone
takes_two : (rows : Rows) (key : Key) (n : ℕ) → HaveTypes rows → fixed_type_of key ≡ Some Unsigned16 → takes rows key n ≡ true → (n ≡ 2) × (capacity_at rows key ≡ 2)
takes_two rows key n types fixed room = by (rows key) refl room
  where
    by : (o : Option Row) → rows key ≡ o → option_map_or (λ row. fits row n) o false ≡ true → (n ≡ 2) × (option_map_or (λ row. row.capacity) o 0 ≡ 2)
    by None is h = absurd (false≢true h)
    by (Some row) is h =
        let width : width_of row.data_type ≡ Some 2 = ap width_of (types.fixed key row Unsigned16 is fixed) in
        (fits_width row n 2 width h, types.width key row 2 is width)

first_two : (capacity : ℕ) (value : ExpeditedData) → capacity ≡ 2 → length (expedited_within capacity value) ≡ 2 → take 2 (data_of value) ≡ expedited_within capacity value
first_two capacity (Indicated counted) is two = ap (λ n. take n counted.items) (sym two) ∙ take-length counted.items
first_two capacity (NotIndicated four) is two = ap (λ n. take n four) (sym is)

-- what it leaves in the entry has the number that it asks for
part_asked : (d : Description) (c : Contents) (key : Key) (value : ExpeditedData) → HaveTypes d.rows → fixed_type_of key ≡ Some Unsigned16 → completion_refusal d c key None (expedited_part d.rows key value) ≡ None
    → unsigned_of (take 2 (data_of value)) ≡ unsigned_of (expedited_part d.rows key value)
part_asked d c key value types fixed permits =
    let two = takes_two d.rows key (length (expedited_part d.rows key value)) types fixed (sdo_takes d c key None (expedited_part d.rows key value) types permits) in
    ap unsigned_of (first_two (capacity_at d.rows key) value two.1 two.0)

-- ---- one that a frame asks for

module _ (k : Constants) (types : HaveTypes k.description.rows) (key : Key) (fixed : fixed_type_of key ≡ Some Unsigned16) (before : Inputs) (sync : is_sync_id (contents_of k before) (0x600 + k.description.node) ≡ false) where
  abbrev d : Description
  d = k.description

  abbrev c : Contents
  c = contents_of k before

  abbrev log : Log
  log = channel_logs (moments k before) 0

  -- the number that the entry has after a frame is the one that it asks for, or the entry isn't written
  abbrev pub LeavesAsked : FrameContent → Type 0
  LeavesAsked frame =
      (number_asked (request_in frame.bytes) ≡ number_at (contents_of k (Framed frame ∷ before)) key) ⊎ (is_set (marked_key (moment k (moments k before) (Framed frame)).mark) key ≡ false)

  unmarked : (frame : FrameContent) → marked_key (moment k (moments k before) (Framed frame)).mark ≡ None → LeavesAsked frame
  unmarked frame none = inr (ap (λ o. is_set o key) none)

  module _ (frame : FrameContent) (value : ExpeditedData) (id : frame.id ≡ 0x600 + k.description.node) (r : request_in frame.bytes ≡ Some (DownloadExpedited key value)) where
    abbrev part : List ℕ
    part = expedited_part d.rows key value

    inside_none : option_map_or is_inside (open_transfer log) false ≡ true → set_by d c log frame.bytes ≡ None
    inside_none inside = rw inside refl

    -- the channel takes it, and no segment is awaited
    by_refusal : (refusal : Option ℕ) → completion_refusal d c key None part ≡ refusal → is_state node.Stopped (state_of k before) ≡ false → length frame.bytes ≡ 8 → option_map_or is_inside (open_transfer log) false ≡ false → LeavesAsked frame
    by_refusal (Some code) is running eight out = unmarked frame (mark_is k (moments k before) frame id sync eight running ∙ ap key_set (expedited_sets d log frame.bytes key value out r c ∙ ap (λ x. unless x (Some (expedited d log frame.bytes key value out r))) is))
    by_refusal None is running eight out =
        inl
        (ap number_asked r ∙ part_asked d c key value types fixed is
        ∙ sym (ap (λ (e : Contents). number_at e key) (sets k before frame 0 (expedited d log frame.bytes key value out r) (address k (moments k before) frame id sync) running eight (expedited_completes d log frame.bytes key value out r) is)
        ∙ ap (λ b. unsigned_of (unwrap_or (if b then Some part else c key) [])) (same_key-refl key)))

    by_state : (stopped eight inside : Bool) → is_state node.Stopped (state_of k before) ≡ stopped → (length frame.bytes == 8) ≡ eight → option_map_or is_inside (open_transfer log) false ≡ inside → LeavesAsked frame
    by_state true eight inside on e i = unmarked frame (stopped_mark k (moments k before) frame id sync on)
    by_state false false inside on e i = unmarked frame (short_mark k (moments k before) frame id sync e on)
    by_state false true true on e i = unmarked frame (mark_is k (moments k before) frame id sync (eqb-true (length frame.bytes) 8 e) on ∙ ap key_set (inside_none i))
    by_state false true false on e i = by_refusal (completion_refusal d c key None part) refl on (eqb-true (length frame.bytes) 8 e) i

  leaves_by : (frame : FrameContent) (r : Option SdoRequest) → frame.id ≡ 0x600 + k.description.node → request_in frame.bytes ≡ r → is_expedited_download key r ≡ true → LeavesAsked frame
  leaves_by frame (Some (DownloadExpedited named value)) id is own =
      by_state frame value id (is ∙ ap (λ (x : Key). Some (DownloadExpedited x value)) (same_key-is named key own)) (is_state node.Stopped (state_of k before)) (length frame.bytes == 8) (option_map_or is_inside (open_transfer log) false) refl refl refl
  leaves_by frame _ id is own = absurd (false≢true own)

  pub leaves_asked : (input : InputView) → KeepsWord key (number_at (contents_of k (input ∷ before)) key) k before input
  leaves_asked (Framed frame) = λ id own. leaves_by frame (request_in frame.bytes) id refl own
  leaves_asked Ticked = tt
  leaves_asked (Applied event) = tt

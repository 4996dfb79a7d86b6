-- A frame with another identifier than 0 is no reset.
use Rattle.std.proofs.Common.{◌≡◌, ◌==◌, ℕ, Bool, true, false, List, Option, Some, None, ◌∷◌, ◌-◌, refl, sym, ap, ◌∙◌}
use Rattle.std.specs.Prelude.{if◌then◌else◌}
use Rattle.std.specs.Option.{option_map_or}
use Rattle.co_value.specs.declared.key.Key.{Key}
use Rattle.co_frame.specs.FrameContent.{FrameContent}
use Rattle.co_frame.specs.Heartbeats.{heartbeat_in}
use Rattle.co_dict.specs.declared.area.Area.{Area}
use Rattle.co_dict.specs.Rows.{Contents}
use Rattle.co_dict_placed.specs.Changes.{with_keys}
use Rattle.co_dict_table.specs.Entries.{EntryContent}
use Rattle.co_node_parts.specs.declared.nmt_state.NodeState.TheVariants.{Operational, Stopped}
use Rattle.co_node_parts.specs.NmtStates.{is_state}
use Rattle.co_node_model.specs.declared.address.Address.{Address}
use Rattle.co_node_model.specs.declared.address.Address.TheVariants.{ErrorControl, Nmt, Nobody, Sync}
use Rattle.co_node_model.specs.declared.mark.Mark.TheVariants as was
use Rattle.co_node_model.specs.Addresses.{address_unless_channel, address_unless_rpdo, is_error_control}
use Rattle.co_node_model.specs.Device.{moments, with_frame}
use Rattle.co_node_model.specs.Heartbeats.{is_heartbeat}
use Rattle.co_node_model.specs.Inputs.{Framed, Inputs}
use Rattle.co_node_model.specs.Marks.{written_mark}
use Rattle.co_node_model.specs.Moments.{Constants, History, Moment, contents_at, nothing_of}
use Rattle.co_node_model.specs.Nmt.{state_at}
use Rattle.co_node_model.specs.Rpdos.{rpdo_with}
use Rattle.co_node_model.specs.Sdo.{channel_logs, with_request}
use Rattle.co_node_model.specs.Sync.{is_sync_id}
use Rattle.co_node_device.specs.Lasts.{last_seen, seen_of}
use Rattle.co_node_device.specs.SetEntries.{last_set}
use Rattle.bafokun.specs.declared.ending.Ending.{Ending}
use Rattle.bafokun.specs.Ending.{by_input, no_error}
use Rattle.bafokun.specs.Changes.{and_set, reset_seen, with_area, with_reset}
use Rattle.bafokun.proofs.StateKept.{unequal}

module _ (k : Constants) (h : History) (frame : FrameContent) where
  abbrev begun : Moment
  begun = nothing_of (Framed frame) (contents_at k h)

  -- no reset is seen of a frame to this address
  abbrev Unseen : Address → Type 0
  Unseen address = reset_seen (seen_of (with_frame k h address frame begun).mark) ≡ None

  written : (key : Option Key) → reset_seen (seen_of (written_mark key)) ≡ None
  written (Some key) = refl
  written None = refl

  synced : (stopped : Bool) → reset_seen (seen_of (if stopped then begun else record begun { mark = was.Sync frame }).mark) ≡ None
  synced true = refl
  synced false = refl

  requested : (stopped : Bool) → reset_seen (seen_of (if stopped then begun else with_request k (channel_logs h) frame begun).mark) ≡ None
  requested true = refl
  requested false = written _

  received : (n : ℕ) (operational : Bool)
      → reset_seen (seen_of (if operational then record begun { mark = was.Rpdo (record { number = n; frame = frame }) } else begun).mark) ≡ None
  received n true = refl
  received n false = refl

  heard : (b : Bool) (c : ℕ) → reset_seen (seen_of (if b then record begun { mark = was.Heard c } else begun).mark) ≡ None
  heard true c = refl
  heard false c = refl

  last : (is : Bool) (c : ℕ) → Unseen (if is then ErrorControl c else Nobody)
  last true c = heard (is_heartbeat (heartbeat_in frame.bytes)) c
  last false c = refl

  unless_rpdo : (o : Option ℕ) (id : ℕ) → Unseen (address_unless_rpdo o id)
  unless_rpdo (Some n) id = received n (is_state Operational (state_at h))
  unless_rpdo None id = last (is_error_control id) (id - 0x700)

  unless_channel : (o : Option ℕ) (contents : Contents) (id : ℕ) → Unseen (address_unless_channel o contents id)
  unless_channel (Some j) contents id = requested (is_state Stopped (state_at h))
  unless_channel None contents id = unless_rpdo (rpdo_with contents id) id

  unless_nmt : (is sync : Bool) (o : Option ℕ) (contents : Contents) (id : ℕ) → is ≡ false
      → Unseen (if is then Nmt else (if sync then Sync else address_unless_channel o contents id))
  unless_nmt true sync o contents id off = absurd cc
  unless_nmt false true o contents id off = synced (is_state Stopped (state_at h))
  unless_nmt false false o contents id off = unless_channel o contents id

unseen : (k : Constants) (past : Inputs) (frame : FrameContent) → (frame.id ≡ 0 → ⊥) → reset_seen (last_seen k (Framed frame ∷ past)) ≡ None
unseen k past frame other =
    let h = moments k past in
    unless_nmt k h frame (frame.id == 0) (is_sync_id (contents_at k h) frame.id) _ (contents_at k h) frame.id
    (unequal frame.id (frame.id == 0) refl other)

-- so the error register keeps what it has
pub ending_by_frame : (k : Constants) (past : Inputs) (frame : FrameContent) (e : Ending) → (frame.id ≡ 0 → ⊥) → e ≡ by_input k past (Framed frame) e
ending_by_frame k past frame e other = sym (ap (λ (area : Option Area). option_map_or (λ a. no_error) area e) (unseen k past frame other))

-- so what it sets is what it sets by SDO and RPDOs: `noted` of `there`, and kept where `old` was
pub set_by_frame : (k : Constants) (past : Inputs) (frame : FrameContent) (entries : List EntryContent) (old there noted kept : List ℕ)
    → (frame.id ≡ 0 → ⊥) → there ≡ old → noted ≡ with_keys k.description (last_set k (Framed frame ∷ past)) there → kept ≡ noted
    → kept ≡ and_set k past (Framed frame) entries old
set_by_frame k past frame entries old there noted kept other same noting keeping =
    let keys = last_set k (Framed frame ∷ past) in
    let set = with_keys k.description keys old in
    keeping ∙ noting ∙ ap (with_keys k.description keys) same
    ∙ sym (ap (λ (area : Option Area). option_map_or (λ a. with_area a entries 0 set) area set) (unseen k past frame other))

-- what any frame sets, of a place: `noted` of `there`, and `after` with those of a reset
pub set_by_command : (k : Constants) (past : Inputs) (frame : FrameContent) (entries : List EntryContent) (old there noted kept after : List ℕ)
    → there ≡ old → noted ≡ with_keys k.description (last_set k (Framed frame ∷ past)) there → kept ≡ noted
    → after ≡ with_reset (last_seen k (Framed frame ∷ past)) entries kept → after ≡ and_set k past (Framed frame) entries old
set_by_command k past frame entries old there noted kept after same noting keeping reset =
    let keys = last_set k (Framed frame ∷ past) in
    reset ∙ ap (λ (set : List ℕ). with_reset (last_seen k (Framed frame ∷ past)) entries set) (keeping ∙ noting ∙ ap (with_keys k.description keys) same)

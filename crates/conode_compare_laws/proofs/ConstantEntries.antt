-- No input writes an entry that is constant: neither a client nor the application does.
use Rattle.std.proofs.Common.{◌≡◌, ℕ, Bool, true, false, not, List, [], ◌∷◌, length, Option, Some, None, sym, ap, ◌∙◌, refl, subst}
use Rattle.std.specs.Prelude.{if◌then◌else◌, ◌||◌, is_none, option_and_then}
use Rattle.std.specs.Option.{option_map_or}
use Rattle.std.proofs.lemmas.Bool.{false≢true, or_parts}
use Rattle.co_value.specs.declared.key.Key.{Key}
use Rattle.co_value.specs.Keys.{same_key, same_key-is}
use Rattle.co_frame.specs.FrameContent.{FrameContent}
use Rattle.co_frame.specs.Heartbeats.{heartbeat_in}
use Rattle.co_frame.specs.Nmt.{nmt_command_in}
use Rattle.co_profile.specs.declared.access.Access.{Access}
use Rattle.co_profile.specs.declared.access.Access.TheVariants.{Constant}
use Rattle.co_dict.specs.declared.row.Row.{Row}
use Rattle.co_dict.specs.Objects.{has_object}
use Rattle.co_dict.specs.Refusals.{first_of, first_refusal, refused_if}
use Rattle.co_dict.specs.Rows.{Contents, Rows}
use Rattle.co_dict.specs.Stores.{Description}
use Rattle.co_dict.specs.WriteRefusals.{app_refusal, is_constant, is_read_only, is_sdo_parameter, size_refusal, total_refusal, value_refusal}
use Rattle.co_sdo.specs.Completed.{key_set}
use Rattle.co_sdo.specs.Downloads.{Download}
use Rattle.co_sdo.specs.Events.{set_of}
use Rattle.co_sdo.specs.Log.{Log}
use Rattle.co_sdo.specs.Refused.{completion_refusal}
use Rattle.co_sdo.proofs.RefusalLemmas.{first_none, not_refused}
use Rattle.co_node_parts.specs.declared.nmt_state.NodeState.TheVariants.{Operational, Stopped}
use Rattle.co_node_parts.specs.NmtStates.{is_state}
use Rattle.co_node_model.specs.declared.address.Address.{Address}
use Rattle.co_node_model.specs.declared.address.Address.TheVariants.{Channel, ErrorControl, Nmt, Nobody, Rpdo, Sync}
use Rattle.co_node_model.specs.Addresses.{address_at}
use Rattle.co_node_model.specs.AppEvents.{event_refusal, with_app_event}
use Rattle.co_node_model.specs.Device.{moment, with_frame}
use Rattle.co_node_model.specs.Heartbeats.{is_heartbeat}
use Rattle.co_node_model.specs.Inputs.{AppView, Applied, ChangedAt, Cleared, EventOn, Framed, InputView, Raised, Ticked, Written}
use Rattle.co_node_model.specs.Keys.{is_set}
use Rattle.co_node_model.specs.Marks.{marked_key}
use Rattle.co_node_model.specs.Moments.{Constants, History, Moment, channels, contents_at, nothing_of}
use Rattle.co_node_model.specs.Nmt.{service_for, state_at}
use Rattle.co_node_model.specs.Sdo.{channel_logs}
use Rattle.conode_compare_laws.proofs.ChannelMarks.{command_key, written_key}
use Rattle.conode_compare_laws.proofs.KeptEntries.{SetsPermitted}

-- an entry is constant, or isn't there
abbrev pub is_held : Rows → Key → Bool
is_held rows key = option_map_or (λ (row : Row). is_constant row.access) (rows key) true

-- it is read only, or isn't there
abbrev pub is_closed : Rows → Key → Bool
is_closed rows key = option_map_or (λ (row : Row). is_read_only row.access) (rows key) true

-- ---- what isn't refused isn't constant

written_by : (f : Access → Bool) (row : Option Row) (found fixed : Bool) (rest : Row → List (Option ℕ)) (c1 c2 c3 : ℕ)
    → first_of (first_refusal (refused_if (not found) c1 ∷ refused_if (is_none row) c2 ∷ [])) (option_and_then (λ r. first_refusal (refused_if (f r.access || fixed) c3 ∷ rest r)) row) ≡ None
    → option_map_or (λ (r : Row). f r.access) row true ≡ false
written_by f None true fixed rest c1 c2 c3 h = absurd (cc)
written_by f None false fixed rest c1 c2 c3 h = absurd (cc)
written_by f (Some r) false fixed rest c1 c2 c3 h = absurd (cc)
written_by f (Some r) true fixed rest c1 c2 c3 h = (or_parts (f r.access) fixed (not_refused (f r.access || fixed) c3 (first_none (refused_if (f r.access || fixed) c3) (first_refusal (rest r)) h))).0

not_constant : (access : Access) → is_read_only access ≡ false → is_constant access ≡ false
not_constant Constant h = absurd (false≢true (sym h))
not_constant _ h = refl

not_held : (row : Option Row) → option_map_or (λ (r : Row). is_read_only r.access) row true ≡ false → option_map_or (λ (r : Row). is_constant r.access) row true ≡ false
not_held None h = absurd (false≢true (sym h))
not_held (Some r) h = not_constant r.access h

pub open_to_sdo : (d : Description) (c : Contents) (key : Key) (indicated : Option ℕ) (bytes : List ℕ) → completion_refusal d c key indicated bytes ≡ None → is_closed d.rows key ≡ false
unfolding completion_refusal
open_to_sdo d c key indicated bytes h =
    written_by is_read_only (d.rows key) (has_object d.rows key.index) (is_sdo_parameter key.index)
    (λ row. option_and_then (size_refusal row) indicated ∷ option_and_then (λ size. total_refusal size (length bytes)) indicated ∷ value_refusal d c key row bytes ∷ []) 0x06020000 0x06090011 0x06010002 h

pub by_sdo : (d : Description) (c : Contents) (key : Key) (indicated : Option ℕ) (bytes : List ℕ) → completion_refusal d c key indicated bytes ≡ None → is_held d.rows key ≡ false
by_sdo d c key indicated bytes h = not_held (d.rows key) (open_to_sdo d c key indicated bytes h)

pub by_application : (d : Description) (c : Contents) (key : Key) (bytes : List ℕ) → app_refusal d c key bytes ≡ None → is_held d.rows key ≡ false
by_application d c key bytes h =
    written_by is_constant (d.rows key) (has_object d.rows key.index) (is_sdo_parameter key.index) (λ row. value_refusal d c key row bytes ∷ []) 0x06020000 0x06090011 0x06010002 h

-- ---- the mark of an input

either_unset : (key : Key) (b : Bool) (x y : Moment) → is_set (marked_key x.mark) key ≡ false → is_set (marked_key y.mark) key ≡ false → is_set (marked_key (if b then x else y).mark) key ≡ false
either_unset key true x y p q = p
either_unset key false x y p q = q

module _ (permitted : SetsPermitted) (k : Constants) (key : Key) (held : is_held k.description.rows key ≡ true) where
  -- another entry is written
  other : (written : Key) → is_held k.description.rows written ≡ false → same_key written key ≡ false
  other written free = by (same_key written key) refl
    where
      by : (b : Bool) → same_key written key ≡ b → b ≡ false
      by false e = refl
      by true e = absurd (false≢true (sym (subst (λ (x : Key). is_held k.description.rows x ≡ false) (same_key-is written key e) free) ∙ held))

  unset : (c : Contents) (logs : ℕ → Log) (frame : FrameContent) (o : Option Download) → set_of (channels k) k.description c logs frame ≡ o → is_set (key_set o) key ≡ false
  unset c logs frame None is = refl
  unset c logs frame (Some w) is = other w.key (by_sdo k.description c w.key w.indicated w.bytes (permitted (channels k) k.description c logs frame w is))

  by_address : (history : History) (frame : FrameContent) (address : Address) (input : InputView) (c : Contents) → is_set (marked_key (with_frame k history address frame (nothing_of input c)).mark) key ≡ false
  by_address history frame Nmt input c = ap (λ o. is_set o key) (command_key (service_for k.description.node (nmt_command_in frame)))
  by_address history frame Sync input c = either_unset key (is_state Stopped (state_at history)) _ _ refl refl
  by_address history frame (Channel j) input c =
      either_unset key (is_state Stopped (state_at history)) _ _ refl
      (ap (λ o. is_set o key) (written_key (key_set (set_of (channels k) k.description c (channel_logs history) frame))) ∙ unset c (channel_logs history) frame (set_of (channels k) k.description c (channel_logs history) frame) refl)
  by_address history frame (Rpdo n) input c = either_unset key (is_state Operational (state_at history)) _ _ refl refl
  by_address history frame (ErrorControl n) input c = either_unset key (is_heartbeat (heartbeat_in frame.bytes)) _ _ refl refl
  by_address history frame Nobody input c = refl

  by_event : (event : AppView) (refusal : Option ℕ) (c : Contents) → event_refusal k.description c event ≡ refusal → is_set (marked_key (with_app_event k.description event refusal (nothing_of (Applied event) c)).mark) key ≡ false
  by_event event (Some code) c is = refl
  by_event (Written written bytes) None c is = other written (by_application k.description c written bytes is)
  by_event (EventOn n) None c is = refl
  by_event (ChangedAt changed) None c is = refl
  by_event (Raised code bits manufacturer) None c is = refl
  by_event (Cleared bits) None c is = refl

  pub held_unwritten : (history : History) (input : InputView) → is_set (marked_key (moment k history input).mark) key ≡ false
  held_unwritten history (Framed frame) = by_address history frame (address_at k history frame.id) (Framed frame) (contents_at k history)
  held_unwritten history Ticked = refl
  held_unwritten history (Applied event) = by_event event (event_refusal k.description (contents_at k history) event) (contents_at k history) refl

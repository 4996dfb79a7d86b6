-- An input is marked as a tick exactly where it is one.
use Rattle.std.proofs.Common.{◌≡◌, ℕ, Bool, true, false, Option, Some, None, refl}
use Rattle.std.specs.Prelude.{if◌then◌else◌}
use Rattle.co_frame.specs.FrameContent.{FrameContent}
use Rattle.co_frame.specs.Heartbeats.{heartbeat_in}
use Rattle.co_dict.specs.Rows.{Contents}
use Rattle.co_dict.specs.Stores.{Description}
use Rattle.co_node_parts.specs.declared.nmt_state.NodeState.TheVariants.{Operational, Stopped}
use Rattle.co_node_parts.specs.NmtStates.{is_state}
use Rattle.co_node_model.specs.declared.address.Address.{Address}
use Rattle.co_node_model.specs.declared.address.Address.TheVariants.{Nmt, Sync, Channel, Rpdo, ErrorControl, Nobody}
use Rattle.co_node_model.specs.AppEvents.{event_refusal, with_app_event}
use Rattle.co_node_model.specs.Inputs.{InputView, Inputs, AppView, Framed, Ticked, Applied, Written, EventOn, ChangedAt, Raised, Cleared}
use Rattle.co_node_model.specs.Moments.{Constants, Moment, History, contents_at, nothing_of}
use Rattle.co_node_model.specs.Nmt.{state_at}
use Rattle.co_node_model.specs.Device.{with_frame, moments}
use Rattle.co_node_model.specs.Addresses.{address_at}
use Rattle.co_node_model.specs.Heartbeats.{is_heartbeat}
use Rattle.co_node_model.specs.Marks.{marked_tick}
use Rattle.co_node_laws.specs.Distances.{moment_at}
use Rattle.co_node_laws.specs.Kinds.{is_tick}
use Rattle.co_node_laws.proofs.MarkLemmas.{command_tick, written_tick}

either : (b : Bool) (x y : Moment) → marked_tick x.mark ≡ false → marked_tick y.mark ≡ false → (marked_tick (if b then x else y).mark) ≡ false
either true x y p q = p
either false x y p q = q

by_frame : (k : Constants) (history : History) (address : Address) (frame : FrameContent) (input : InputView) (c : Contents) → (marked_tick (with_frame k history address frame (nothing_of input c)).mark) ≡ false
by_frame k history Nmt frame input c = command_tick _
by_frame k history Sync frame input c = either (is_state Stopped (state_at history)) _ _ refl refl
by_frame k history (Channel j) frame input c = either (is_state Stopped (state_at history)) _ _ refl (written_tick _)
by_frame k history (Rpdo n) frame input c = either (is_state Operational (state_at history)) _ _ refl refl
by_frame k history (ErrorControl node) frame input c = either (is_heartbeat (heartbeat_in frame.bytes)) _ _ refl refl
by_frame k history Nobody frame input c = refl

by_event : (d : Description) (event : AppView) (refusal : Option ℕ) (input : InputView) (c : Contents) → (marked_tick (with_app_event d event refusal (nothing_of input c)).mark) ≡ false
by_event d event (Some code) input c = refl
by_event d (Written key bytes) None input c = refl
by_event d (EventOn n) None input c = refl
by_event d (ChangedAt key) None input c = refl
by_event d (Raised code bits manufacturer) None input c = refl
by_event d (Cleared bits) None input c = refl

pub ticked_is : (k : Constants) (inputs : Inputs) (input : InputView) → (marked_tick (moment_at k inputs input).mark) ≡ is_tick input
ticked_is k inputs (Framed frame) = by_frame k (moments k inputs) (address_at k (moments k inputs) frame.id) frame (Framed frame) (contents_at k (moments k inputs))
ticked_is k inputs Ticked = refl
ticked_is k inputs (Applied event) = by_event k.description event (event_refusal k.description (contents_at k (moments k inputs)) event) (Applied event) (contents_at k (moments k inputs))

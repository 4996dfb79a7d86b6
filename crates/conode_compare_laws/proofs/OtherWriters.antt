-- Where the application doesn't write an entry, a client does whose frames compare takes for such, where those of other SDO channels are
-- told.
use Rattle.std.proofs.Common.{◌≡◌, ◌≢◌, ℕ, ◌+◌, Bool, true, false, List, [], ◌∷◌, Option, Some, None, refl, sym, ap, ◌∙◌, ◌⊎◌, inl, inr, subst}
use Rattle.std.specs.Prelude.{◌==◌, if◌then◌else◌, IfSome}
use Rattle.std.specs.List.{AllByRecursion}
use Rattle.std.proofs.lemmas.Bool.{eqb-true, false≢true}
use Rattle.co_value.specs.declared.key.Key.{Key}
use Rattle.co_frame.specs.FrameContent.{FrameContent}
use Rattle.co_frame.specs.Heartbeats.{heartbeat_in}
use Rattle.co_frame.specs.Nmt.{nmt_command_in}
use Rattle.co_dict.specs.Rows.{Contents}
use Rattle.co_sdo.specs.Channels.{ChannelSettings}
use Rattle.co_sdo.specs.Completed.{key_set}
use Rattle.co_sdo.specs.Events.{exchange_at, receiver, set_at, set_of}
use Rattle.co_node_parts.specs.declared.nmt_state.NodeState.TheVariants.{Operational, Stopped}
use Rattle.co_node_parts.specs.NmtStates.{is_state}
use Rattle.co_node_model.specs.declared.address.Address.{Address}
use Rattle.co_node_model.specs.declared.address.Address.TheVariants.{Channel, ErrorControl, Nmt, Nobody, Rpdo, Sync}
use Rattle.co_node_model.specs.Addresses.{address_at}
use Rattle.co_node_model.specs.AppEvents.{event_refusal, with_app_event}
use Rattle.co_node_model.specs.Device.{moment, moments, with_frame}
use Rattle.co_node_model.specs.Heartbeats.{is_heartbeat}
use Rattle.co_node_model.specs.Inputs.{AppView, Applied, ChangedAt, Cleared, EventOn, Framed, Inputs, InputView, Raised, Ticked, Written}
use Rattle.co_node_model.specs.Keys.{is_set}
use Rattle.co_node_model.specs.Marks.{marked_key}
use Rattle.co_node_model.specs.Moments.{Constants, History, Moment, channels, contents_at, nothing_of}
use Rattle.co_node_model.specs.Nmt.{service_for, state_at}
use Rattle.co_node_model.specs.Sdo.{channel_logs}
use Rattle.conode_compare_nmt.specs.declared.clients.OtherClients.{OtherClients}
use Rattle.conode_compare_laws.specs.OtherWriters.{AllToTold, AllWriteNot, IsTold, IsToTold, WritesNot, writes}
use Rattle.conode_compare_laws.specs.Periods.{AllWriteSeen, WritesSeen}
use Rattle.conode_compare_laws.specs.Recordings.{Stamped}
use Rattle.conode_compare_laws.proofs.AnswerCalm.{other_number}
use Rattle.conode_compare_laws.proofs.AnswerDevice.{IsNumbered, found_with}
use Rattle.conode_compare_laws.proofs.AnswerTransferInputs.{not_equal}
use Rattle.conode_compare_laws.proofs.ChannelMarks.{command_key, written_key}

either_none : (b : Bool) (x y : Moment) → marked_key x.mark ≡ None → marked_key y.mark ≡ None → marked_key (if b then x else y).mark ≡ None
either_none true x y p q = p
either_none false x y p q = q

module _ (k : Constants) (clients : OtherClients) (key : Key) (all : AllByRecursion (IsNumbered k.description.node) (channels k)) (history : History) where
  -- ---- a frame that no channel takes

  module _ (frame : FrameContent) (none : receiver (channels k) frame.id ≡ None) where
    none_set : (c : Contents) → set_of (channels k) k.description c (channel_logs history) frame ≡ None
    none_set c = ap (λ o. set_at (exchange_at o k.description c (channel_logs history) frame) k.description c (channel_logs history) frame) none

    no_mark : (address : Address) (input : InputView) (c : Contents) → marked_key (with_frame k history address frame (nothing_of input c)).mark ≡ None
    no_mark Nmt input c = command_key (service_for k.description.node (nmt_command_in frame))
    no_mark Sync input c = either_none (is_state Stopped (state_at history)) _ _ refl refl
    no_mark (Channel j) input c =
        either_none (is_state Stopped (state_at history)) _ _ refl
        (written_key (key_set (set_of (channels k) k.description c (channel_logs history) frame)) ∙ ap key_set (none_set c))
    no_mark (Rpdo n) input c = either_none (is_state Operational (state_at history)) _ _ refl refl
    no_mark (ErrorControl n) input c = either_none (is_heartbeat (heartbeat_in frame.bytes)) _ _ refl refl
    no_mark Nobody input c = refl

  abbrev IsWritten : InputView → Type 0
  IsWritten input = is_set (marked_key (moment k history input).mark) key ≡ true

  -- ---- one that another channel takes

  told : (frame : FrameContent) → frame.id ≢ 0x600 + k.description.node → IsToTold k clients (Framed frame) → IsWritten (Framed frame) → IsTold k.description.node clients frame.id
  told frame id others on =
      by (receiver (channels k) frame.id) refl (found_with (IsNumbered k.description.node) (λ c. c.request == frame.id) (channels k) all)
      (found_with (λ (c : ChannelSettings). c.number ≢ 0 → IsTold k.description.node clients c.request ⊎ (frame.id ≢ c.request)) (λ c. c.request == frame.id) (channels k) others)
    where
      by : (o : Option ChannelSettings) → receiver (channels k) frame.id ≡ o → IfSome o (λ c. IsNumbered k.description.node c × ((c.request == frame.id) ≡ true))
          → IfSome o (λ c. (c.number ≢ 0 → IsTold k.description.node clients c.request ⊎ (frame.id ≢ c.request)) × ((c.request == frame.id) ≡ true)) → IsTold k.description.node clients frame.id
      by None none a b = absurd (false≢true (sym (ap (λ o. is_set o key) (no_mark frame none (address_at k history frame.id) (Framed frame) (contents_at k history))) ∙ on))
      by (Some c) is a b = elim (b.0 (other_number k.description.node c frame.id a.0 a.1 id)) [
        | inl one ↦ subst (IsTold k.description.node clients) (eqb-true c.request frame.id a.1) one
        | inr elsewhere ↦ absurd (elsewhere (sym (eqb-true c.request frame.id a.1)))
      ]

  -- ---- each input

  by_event : (event : AppView) (refusal : Option ℕ) (c : Contents) → writes key event ≡ false → is_set (marked_key (with_app_event k.description event refusal (nothing_of (Applied event) c)).mark) key ≡ false
  by_event event (Some code) c off = refl
  by_event (Written written bytes) None c off = off
  by_event (EventOn n) None c off = refl
  by_event (ChangedAt changed) None c off = refl
  by_event (Raised code bits manufacturer) None c off = refl
  by_event (Cleared bits) None c off = refl

  seen : (input : InputView) → WritesNot key input → IsToTold k clients input → WritesSeen clients key k (moment k history input) input
  seen Ticked off others on = absurd (false≢true on)
  seen (Applied event) off others on = absurd (false≢true (sym (by_event event (event_refusal k.description (contents_at k history) event) (contents_at k history) off) ∙ on))
  seen (Framed frame) off others on = by (frame.id == 0x600 + k.description.node) refl
    where
      by : (b : Bool) → (frame.id == 0x600 + k.description.node) ≡ b → (frame.id ≡ 0x600 + k.description.node) ⊎ IsTold k.description.node clients frame.id
      by true is = inl (eqb-true frame.id (0x600 + k.description.node) is)
      by false is = inr (told frame (not_equal frame.id (0x600 + k.description.node) is) others on)

pub all_seen : (k : Constants) (clients : OtherClients) (key : Key) → AllByRecursion (IsNumbered k.description.node) (channels k) → (inputs : List Stamped) (before : Inputs) → AllWriteNot key inputs → AllToTold k clients inputs
    → AllWriteSeen clients key k before inputs
all_seen k clients key all [] before off others = tt
all_seen k clients key all (s ∷ later) before off others = (seen k clients key all (moments k before) s.input off.0 others.0, all_seen k clients key all later (s.input ∷ before) off.1 others.1)

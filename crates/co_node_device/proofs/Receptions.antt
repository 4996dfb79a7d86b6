-- What SDO requests, and application events, come to after a history.
use Rattle.std.proofs.Common.{◌≡◌, ℕ, Bool, true, false, cond, List, ◌++◌, refl, sym, ap, ◌∙◌, subst, append-nil, Some, None, Option}
use Rattle.std.specs.Prelude.{is_some}
use Rattle.co_value.specs.declared.key.Key.{Key}
use Rattle.co_frame.specs.FrameContent.{FrameContent}
use Rattle.co_dict.specs.Rows.{Contents}
use Rattle.co_dict.specs.Stores.{Description}
use Rattle.co_sdo.specs.Downloads.{Download}
use Rattle.co_sdo.specs.Completed.{contents_with, key_set}
use Rattle.co_sdo.specs.declared.channels.NumberedChannel.{NumberedChannel}
use Rattle.co_sdo.specs.Banks.{BankStands}
use Rattle.co_sdo.specs.Events.{ChannelEvent, exchange_of, frames_at, logs_after, number_in, set_of}
use Rattle.co_node_parts.specs.declared.nmt_state.NodeState.{NodeState}
use Rattle.co_node_parts.specs.declared.nmt_state.NodeState.TheVariants.{Operational, Stopped}
use Rattle.co_node_parts.specs.NmtStates.{is_state}
use Rattle.co_node_parts.specs.EmergencyQueues.{Pending, EmergencyLog, EmergenciesStand, with_queued}
use Rattle.co_node_model.specs.AppEvents.{event_refusal, with_app_event}
use Rattle.co_node_model.specs.Inputs.{AppView, Framed, Applied, Written, EventOn, ChangedAt, Raised, Cleared}
use Rattle.co_node_model.specs.Moments.{Constants, Moment, History, channels, contents_at, nothing_of}
use Rattle.co_node_model.specs.declared.address.Address.{Address}
use Rattle.co_node_model.specs.declared.mark.Mark.{Mark}
use Rattle.co_node_model.specs.Sdo.{channel_logs, with_channel_ticks, with_request, with_channel_frame}
use Rattle.co_node_model.specs.Sync.{with_sync}
use Rattle.co_node_model.specs.Rpdos.{with_rpdo}
use Rattle.co_node_model.specs.Nmt.{state_at}
use Rattle.co_node_model.specs.declared.mark.Mark.TheVariants as was
use Rattle.co_node_model.specs.Device.{received_at}
use Rattle.co_node_model.specs.Marks.{marked_tick, written_mark}
use Rattle.co_node_device.specs.Befores.{IsBefore, logs_received}
use Rattle.co_node_device.specs.Receiving.{IsFrameReceived, frame_moment}

-- the number of a channel is given where there is one
pub is_some_number : (e : Option ChannelEvent) → is_some (number_in e) ≡ is_some e
is_some_number None = refl
is_some_number (Some e) = refl

-- received at one address, and so at its equal
pub at_address : {d : Description} {k : Constants} {history : History} {marked : Mark}
    {entries : Contents} {before after : List FrameContent} {bank : List NumberedChannel}
    (frame : FrameContent) (a b : Address) → a ≡ b
    → IsFrameReceived d k history (frame_moment k history a frame) marked entries before after bank
    → IsFrameReceived d k history (frame_moment k history b frame) marked entries before after bank
at_address {d} {k} {history} {marked} {entries} {before} {after} {bank} frame a b same received = subst
    (λ (c : Address). IsFrameReceived d k history (frame_moment k history c frame) marked entries before after bank)
    same received

-- what is made of a description and entries, by equals
by_both : {A : Type 0} (f : Description → Contents → A) {d e : Description} {c n : Contents} → d ≡ e → c ≡ n
    → f d c ≡ f e n
by_both f {d} {e} {c} {n} same there = ap (λ x. f x c) same ∙ ap (λ x. f e x) there

-- a write is no tick
written_ticks_not : (set : Option Key) → marked_tick (written_mark set) ≡ false
written_ticks_not None = refl
written_ticks_not (Some key) = refl

-- ---- an SDO request, a SYNC, and the frame of an RPDO

module _ (k : Constants) (history : History) (d : Description) (entries : Contents) (bank : List NumberedChannel)
    (now : NodeState) (is : IsBefore k history d entries bank now) (frame : FrameContent) where
  abbrev nothing : Moment
  nothing = nothing_of (Framed frame) (contents_at k history)

  abbrev exchange : Description → Contents → Option ChannelEvent
  exchange e n = exchange_of (channels k) e n (channel_logs history) frame

  abbrev set_with : Description → Contents → Option Download
  set_with e n = set_of (channels k) e n (channel_logs history) frame

  pub request_received : (mark : Mark) (set : Option Key) (after : Contents) (old new : List FrameContent)
      (next : List NumberedChannel) → is_state Stopped now ≡ false → mark ≡ written_mark set
      → new ≡ old ++ frames_at (exchange d entries)
      → set ≡ key_set (set_with d entries)
      → after ≡ contents_with entries (set_with d entries)
      → BankStands d (channels k) next (logs_after (exchange d entries) (channel_logs history))
      → IsFrameReceived d k history (with_channel_frame k history frame nothing) mark
      after old new next
  request_received mark set after old new next runs empty frames key contents stands = subst
      (λ (b : Bool). IsFrameReceived d k history
      (cond b nothing (with_request k (channel_logs history) frame nothing)) mark
      after old new next)
      (sym (ap (λ s. is_state Stopped s) (sym is.state) ∙ runs))
      (record {
        mark = empty
            ∙ ap (λ (s : Option Key). written_mark s)
            (key ∙ by_both (λ e n. key_set (set_with e n)) is.description is.contents);
        contents = contents ∙ by_both (λ e n. contents_with n (set_with e n)) is.description is.contents;
        frames = frames ∙ ap (λ (x : List FrameContent). old ++ x)
            (by_both (λ e n. frames_at (exchange e n)) is.description is.contents ∙ sym (append-nil _));
        channels = subst
            (λ (b : Bool). BankStands d (channels k) next (with_channel_ticks b
            (logs_after (exchange k.description (contents_at k history)) (channel_logs history))))
            (sym (written_ticks_not (key_set (set_with k.description (contents_at k history)))))
            (subst
            (λ (e : Option ChannelEvent). BankStands d (channels k) next (logs_after e (channel_logs history)))
            (by_both exchange is.description is.contents) stands);
        app = refl;
        raised = refl;
      })

  -- of a mark that is no tick nothing else came
  silent_received : (mark : Mark) (items : List FrameContent) → marked_tick mark ≡ false
      → IsFrameReceived d k history (record nothing { mark = mark }) mark entries items items bank
  silent_received mark items silent = record {
    mark = refl;
    contents = is.contents;
    frames = sym (append-nil items);
    channels = subst
        (λ (b : Bool). BankStands d (channels k) bank (with_channel_ticks b (channel_logs history)))
        (sym silent) is.channels;
    app = refl;
    raised = refl;
  }

  pub sync_received : (items : List FrameContent) (mark : Mark)
      → mark ≡ (with_sync now frame nothing).mark
      → IsFrameReceived d k history (with_sync (state_at history) frame nothing) mark entries items items bank
  sync_received items mark same = subst
      (λ (m : Mark). IsFrameReceived d k history (with_sync (state_at history) frame nothing) m entries items items bank)
      (sym (same ∙ ap (λ s. (with_sync s frame nothing).mark) is.state))
      (by_state (is_state Stopped (state_at history)))
    where
      at_sync : Bool → Moment
      at_sync b = cond b nothing (record nothing { mark = was.Sync frame })

      by_state : (b : Bool) → IsFrameReceived d k history (at_sync b) (at_sync b).mark entries items items bank
      by_state true = silent_received was.Quiet items refl
      by_state false = silent_received (was.Sync frame) items refl

  pub rpdo_received : (n : ℕ) (items : List FrameContent) (mark : Mark)
      → mark ≡ (with_rpdo n now frame nothing).mark
      → IsFrameReceived d k history (with_rpdo n (state_at history) frame nothing) mark entries items items bank
  rpdo_received n items mark same = subst
      (λ (m : Mark). IsFrameReceived d k history (with_rpdo n (state_at history) frame nothing) m entries items items bank)
      (sym (same ∙ ap (λ s. (with_rpdo n s frame nothing).mark) is.state))
      (by_state (is_state Operational (state_at history)))
    where
      at_rpdo : Bool → Moment
      at_rpdo b = cond b (record nothing { mark = was.Rpdo (record { number = n; frame = frame }) }) nothing

      by_state : (b : Bool) → IsFrameReceived d k history (at_rpdo b) (at_rpdo b).mark entries items items bank
      by_state true = silent_received (was.Rpdo (record { number = n; frame = frame })) items refl
      by_state false = silent_received was.Quiet items refl

-- ---- application events: what they aren't

module _ (k : Constants) (history : History) where
  abbrev event_with : AppView → Option ℕ → Moment
  event_with event refusal =
      with_app_event k.description event refusal (nothing_of (Applied event) (contents_at k history))

  -- nothing is sent
  pub event_frames : (event : AppView) (items : List FrameContent)
      → items ≡ items ++ (frames_at (received_at k history (Applied event)).exchange
      ++ frames_at (received_at k history (Applied event)).timed_out)
  event_frames event items = by_refusal (event_refusal k.description (contents_at k history) event)
    where
      by_refusal : (refusal : Option ℕ) → items ≡ items
          ++ (frames_at (event_with event refusal).exchange ++ frames_at (event_with event refusal).timed_out)
      by_refusal (Some code) = sym (append-nil items)
      by_refusal None = sym (append-nil items)

  -- the SDO channels stay
  pub event_channels : (d : Description) (bank : List NumberedChannel) (event : AppView)
      → BankStands d (channels k) bank (channel_logs history)
      → BankStands d (channels k) bank (logs_received (received_at k history (Applied event)) history)
  event_channels d bank event stands = by_refusal event (event_refusal k.description (contents_at k history) event)
    where
      by_refusal : (e : AppView) (refusal : Option ℕ)
          → BankStands d (channels k) bank (logs_received (event_with e refusal) history)
      by_refusal e (Some code) = stands
      by_refusal (Written key bytes) None = stands
      by_refusal (EventOn n) None = stands
      by_refusal (ChangedAt key) None = stands
      by_refusal (Raised code bits manufacturer) None = stands
      by_refusal (Cleared bits) None = stands

  -- a write queues no emergency
  pub write_queues : (pending : Pending) (log : EmergencyLog) (key : Key) (bytes : List ℕ)
      → EmergenciesStand pending log → EmergenciesStand pending (with_queued (received_at k history (Applied (Written key bytes))).raised_by_app log)
  write_queues pending log key bytes stands =
      by_refusal (event_refusal k.description (contents_at k history) (Written key bytes))
    where
      by_refusal : (refusal : Option ℕ)
          → EmergenciesStand pending (with_queued (event_with (Written key bytes) refusal).raised_by_app log)
      by_refusal (Some code) = stands
      by_refusal None = stands

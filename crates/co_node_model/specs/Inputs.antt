-- The inputs of a device: frames, ticks of 1 ms, and application events.
use denote.Ref.{Bor}
use Rattle.std.specs.Prelude.{ℕ, List}
use Rattle.co_value.specs.declared.key.Key.{Key}
use Rattle.co_frame.specs.FrameContent.{FrameContent}
use Rattle.co_frame.specs.declared.app_event.AppEvent.{AppEvent}
use Rattle.co_frame.specs.declared.app_event.AppEvent.TheVariants.{Write, Event, Changed, Raise, Clear}
use Rattle.co_frame.specs.AppEvents.{map_bytes}
use Rattle.co_node_model.specs.declared.input.Input.{Input}
use Rattle.co_node_model.specs.declared.input.Input.TheVariants.{Frame, Tick, App}

-- an application event
pub data AppView : Type 0 where
  -- it writes bytes into an entry
  Written : Key → List ℕ → AppView
  -- an event of the TPDO with a number
  EventOn : ℕ → AppView
  -- the value of an entry changed
  ChangedAt : Key → AppView
  -- an error with its code, the bits of the error register, and the manufacturer-specific bytes
  Raised : ℕ → ℕ → List ℕ → AppView
  -- bits of the error register are cleared
  Cleared : ℕ → AppView

-- an input
pub data InputView : Type 0 where
  -- a frame was received
  Framed : FrameContent → InputView
  -- 1 ms elapsed
  Ticked : InputView
  -- an application event
  Applied : AppView → InputView

-- all inputs since the device was built, the newest first
abbrev pub Inputs : Type 0
Inputs = List InputView

-- an application event with its bytes
abbrev pub event_view : AppEvent (List ℕ) → AppView
event_view (Write key bytes) = Written key bytes
event_view (Event k) = EventOn k
event_view (Changed key) = ChangedAt key
event_view (Raise code bits manufacturer) = Raised code bits manufacturer
event_view (Clear bits) = Cleared bits

-- what contracts see of an application event of a device
abbrev pub app_view : AppEvent (Bor (List ℕ)) → AppView
app_view event = event_view (map_bytes (λ bytes. bytes.now) event)

-- what contracts see of an input
abbrev pub input_view : Input → InputView
input_view (Frame frame) = Framed frame
input_view Tick = Ticked
input_view (App event) = Applied (app_view event)

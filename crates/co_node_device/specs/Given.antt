-- An input whose frame is a separate argument.
use Rattle.std.specs.Prelude.{◌≡◌, ℕ, Option, Some, IfSome}
use Rattle.co_frame.specs.FrameContent.{FrameContent}
use Rattle.co_value.specs.declared.key.Key.{Key}
use Rattle.co_dict.specs.Stores.{Description}
use Rattle.co_dict.specs.Places.{key_at}
use Rattle.co_node_model.specs.Inputs.{InputView, Framed, Ticked, Applied, Written, app_view}
use Rattle.co_node_device.specs.declared.given.Given.{Given}
use Rattle.co_node_device.specs.declared.given.Given.TheVariants.{Frame, Tick, App, WriteAt}

-- the input with this frame
abbrev pub given_view : Given → FrameContent → InputView
given_view Frame frame = Framed frame
given_view Tick frame = Ticked
given_view (App event) frame = Applied (app_view event)
given_view (WriteAt place key bytes) frame = Applied (Written key bytes.now)

-- a place, where it is known, is that of the key
abbrev pub IsPlaceOf : Description → Key → Option ℕ → Type 0
IsPlaceOf d key place = IfSome place (λ place. key_at d place ≡ Some key)

-- the same of the entry that an input names by its place
abbrev pub IsPlaced : Description → Given → Type 0
IsPlaced d Frame = Unit {0}
IsPlaced d Tick = Unit {0}
IsPlaced d (App event) = Unit {0}
IsPlaced d (WriteAt place key bytes) = key_at d place ≡ Some key

-- The answer to the last application event, after one more input.
use Rattle.std.proofs.Common.{◌≡◌, ℕ, Bool, true, false, Option, Some, None, ◌∷◌, refl}
use Rattle.std.specs.Prelude.{if◌then◌else◌}
use Rattle.co_frame.specs.FrameContent.{FrameContent}
use Rattle.co_node_model.specs.AppEvents.{app_answer, event_refusal, answer_with, with_app_event}
use Rattle.co_node_model.specs.Inputs.{Inputs, AppView, Framed, Applied}
use Rattle.co_node_model.specs.declared.address.Address.{Address}
use Rattle.co_node_model.specs.declared.address.Address.TheVariants.{Nmt, Sync, Channel, Rpdo, ErrorControl, Nobody}
use Rattle.co_node_model.specs.declared.app_answer.AppAnswer.{AppAnswer}
use Rattle.co_node_model.specs.declared.app_answer.AppAnswer.TheVariants as answer
use Rattle.co_node_model.specs.Moments.{Constants, Moment, History}
use Rattle.co_node_model.specs.Device.{with_frame, app_after, contents_of, moments}
use Rattle.co_node_model.specs.Addresses.{address_at}

-- of two moments with one answer either has it
of_either : (b : Bool) (x y : Moment) (a : AppAnswer) → x.app ≡ a → y.app ≡ a → (if b then x else y).app ≡ a
of_either true x y a p q = p
of_either false x y a p q = q

frame_keeps : (k : Constants) (history : History) (address : Address) (frame : FrameContent) (m : Moment)
    → (with_frame k history address frame m).app ≡ m.app
frame_keeps k history Nmt frame m = refl
frame_keeps k history Sync frame m = of_either _ _ _ m.app refl refl
frame_keeps k history (Channel j) frame m = of_either _ _ _ m.app refl refl
frame_keeps k history (Rpdo n) frame m = of_either _ _ _ m.app refl refl
frame_keeps k history (ErrorControl node) frame m = of_either _ _ _ m.app refl refl
frame_keeps k history Nobody frame m = refl

pub none_to_frame : (k : Constants) (inputs : Inputs) (frame : FrameContent) → app_after k (Framed frame ∷ inputs) ≡ answer.None
none_to_frame k inputs frame = frame_keeps k (moments k inputs) (address_at k (moments k inputs) frame.id) frame _

event_gives : (k : Constants) (event : AppView) (refusal : Option ℕ) (m : Moment)
    → (with_app_event k.description event refusal m).app ≡ answer_with refusal
event_gives k event None m = refl
event_gives k event (Some code) m = refl

pub to_event : (k : Constants) (inputs : Inputs) (event : AppView)
    → app_after k (Applied event ∷ inputs) ≡ app_answer k.description (contents_of k inputs) event
to_event k inputs event = event_gives k event (event_refusal k.description (contents_of k inputs) event) _

-- What is given back of a device after a change of the CAN controller.
use Rattle.std.proofs.Common.{◌≡◌, ◌≤◌, ℕ, List, ◌∷◌, length, Option, Some, None, sym, ap, ◌∙◌, subst}
use Rattle.co_frame.specs.FrameContent.{FrameContent}
use Rattle.co_node_model.specs.Inputs.{InputView, Inputs}
use Rattle.co_node_model.specs.Moments.{Constants}
use Rattle.co_node_model.specs.Device.{frame_bound}
use Rattle.bafokun.specs.declared.frames.CanFrame.{CanFrame}
use Rattle.bafokun.specs.declared.held.Held.{Held}
use Rattle.bafokun.specs.declared.handle.Handle.{Handle}
use Rattle.bafokun.specs.Bus.{GaveBus, GivesBus}
use Rattle.bafokun.specs.Devices.{HasStood, frames_of}
use Rattle.bafokun.specs.Frames.{ArePut}

pub given_bus : (k : Constants) (before : Inputs) (o : Option InputView) (held : Held) (place : Handle) (array filled : List CanFrame) (count : ℕ)
    → GaveBus k before o held → place.seal.value ≡ Some held → ArePut held.sent.items array filled → count ≡ length held.sent.items
    → GivesBus k before o place array filled count
given_bus k before None held place array filled count gave back put number = record {
  stands = subst (λ (h : Option Held). HasStood k h before) (sym back) gave.stands;
  sent = ap frames_of back ∙ gave.sent;
  put = subst (λ (frames : List FrameContent). ArePut frames array filled) gave.sent put;
  number = number ∙ ap length gave.sent;
}
given_bus k before (Some input) held place array filled count gave back put number = record {
  stands = subst (λ (h : Option Held). HasStood k h (input ∷ before)) (sym back) gave.stands;
  sent = ap frames_of back ∙ gave.sent;
  put = subst (λ (frames : List FrameContent). ArePut frames array filled) gave.sent put;
  number = number ∙ ap length gave.sent;
  few = subst (λ (n : ℕ). n ≤ frame_bound k before input) (sym number) gave.few;
}

-- Arrays into which no frame was put, or one.
use Rattle.std.proofs.Common.{◌≡◌, ◌≤◌, ◌<◌, ℕ, zero, suc, List, [], ◌∷◌, length, get_or, set, refl, arith}
use Rattle.co_frame.specs.FrameContent.{FrameContent}
use Rattle.bafokun.specs.declared.frames.CanFrame.{CanFrame}
use Rattle.bafokun.specs.Frames.{ArePut, c_frame}

pub none_put : (array : List CanFrame) → ArePut [] array array
none_put array = record {
  room = refl;
  put = λ i f c below within. absurd (omega (arith, below));
  kept = λ i c past. refl;
}

pub one_without_room : (frame : FrameContent) (array : List CanFrame) → length array ≤ 0 → ArePut (frame ∷ []) array array
one_without_room frame [] none = record {
  room = refl;
  put = λ i f c below within. absurd (omega (arith, within));
  kept = λ i c past. refl;
}
one_without_room frame (place ∷ places) none = absurd (omega (arith, none))

pub one_put : (frame : FrameContent) (array : List CanFrame) → 0 < length array → ArePut (frame ∷ []) array (set array 0 (c_frame frame))
one_put frame [] some = absurd (omega (arith, some))
one_put frame (place ∷ places) some = record { room = refl; put = first; kept = rest }
  where
    first : (i : ℕ) (f : FrameContent) (c : CanFrame) → i < 1 → i < length (place ∷ places)
        → get_or (c_frame frame ∷ places) i c ≡ c_frame (get_or (frame ∷ []) i f)
    first zero f c below within = refl
    first (suc i) f c below within = absurd (omega (arith, below))

    rest : (i : ℕ) (c : CanFrame) → 1 ≤ i → get_or (c_frame frame ∷ places) i c ≡ get_or (place ∷ places) i c
    rest zero c past = absurd (omega (arith, past))
    rest (suc i) c past = refl

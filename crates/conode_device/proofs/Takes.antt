-- One more frame that comes to the client.
use Rattle.std.proofs.Common.{◌≡◌, ℕ, ◌+◌, ◌<◌, List, [], ◌∷◌, ◌++◌, length, take, get_or, refl, sym, ap, subst, ◌∙◌, append_assoc, append-nil}
use Rattle.std.proofs.lemmas.List.{take_more}
use Rattle.co_frame.specs.FrameContent.{FrameContent}
use Rattle.co_sdo_client.specs.Calls.{Call, Event, frames_on}
use Rattle.co_sdo_client.specs.Standing.{Standing, ClientStands, events_with, asked_with}
use Rattle.co_node_model.specs.Loop.{asked_after, events_after}

events-snoc : (id : ℕ) (events : List Event) (frames : List FrameContent) (frame : FrameContent)
    → events_after id events (frames ++ frame ∷ []) ≡ events_with id (events_after id events frames) frame
events-snoc id events [] frame = refl
events-snoc id events (f ∷ frames) frame = events-snoc id (events_with id events f) frames frame

asked-snoc : (request id : ℕ) (call : Call) (events : List Event) (frames : List FrameContent) (frame : FrameContent)
    → asked_after request id call events (frames ++ frame ∷ [])
    ≡ asked_after request id call events frames ++ frames_on request (asked_with id call (events_after id events frames) frame)
asked-snoc request id call events [] frame = append-nil (frames_on request (asked_with id call events frame))
asked-snoc request id call events (f ∷ frames) frame =
    ap (λ (asked : List FrameContent). frames_on request (asked_with id call events f) ++ asked) (asked-snoc request id call (events_with id events f) frames frame)
    ∙ sym (append_assoc (frames_on request (asked_with id call events f)) _ _)

next_frames : (frames : List FrameContent) (i : ℕ) (frame : FrameContent) → i < length frames → frame ≡ get_or frames i frame
    → take (i + 1) frames ≡ take i frames ++ frame ∷ []
next_frames frames i frame within is = take_more frames i frame within ∙ ap (λ (f : FrameContent). take i frames ++ f ∷ []) (sym is)

-- the client after one frame more
pub stands_more : (call : Call) (events : List Event) (id at : ℕ) (frames : List FrameContent) (i : ℕ) (frame : FrameContent) (new : Standing)
    → i < length frames → frame ≡ get_or frames i frame → at ≡ id
    → ClientStands call (events_with at (events_after id events (take i frames)) frame) new
    → ClientStands call (events_after id events (take (i + 1) frames)) new
stands_more call events id at frames i frame new within is same stands =
    subst (λ (es : List Event). ClientStands call es new)
    (ap (λ (a : ℕ). events_with a (events_after id events (take i frames)) frame) same
    ∙ sym (ap (events_after id events) (next_frames frames i frame within is) ∙ events-snoc id events (take i frames) frame)) stands

-- what then waits
pub asked_more : (request id at_request at : ℕ) (call : Call) (events : List Event) (frames : List FrameContent) (i : ℕ) (frame : FrameContent) (old mid new none asked : List FrameContent)
    → i < length frames → frame ≡ get_or frames i frame → at_request ≡ request → at ≡ id → none ≡ []
    → mid ≡ old ++ asked_after request id call events (take i frames)
    → asked ≡ none ++ frames_on at_request (asked_with at call (events_after id events (take i frames)) frame)
    → new ≡ mid ++ asked
    → new ≡ old ++ asked_after request id call events (take (i + 1) frames)
asked_more request id at_request at call events frames i frame old mid new none asked within is same_request same empty so_far gives added =
    added ∙ ap (λ (xs : List FrameContent). xs ++ asked) so_far ∙ append_assoc old _ asked
    ∙ ap (λ (xs : List FrameContent). old ++ (asked_after request id call events (take i frames) ++ xs))
    (gives ∙ ap (λ (xs : List FrameContent). xs ++ frames_on at_request (asked_with at call (events_after id events (take i frames)) frame)) empty
    ∙ ap (λ (r : ℕ). frames_on r (asked_with at call (events_after id events (take i frames)) frame)) same_request
    ∙ ap (λ (a : ℕ). frames_on request (asked_with a call (events_after id events (take i frames)) frame)) same)
    ∙ ap (λ (xs : List FrameContent). old ++ xs) (sym (ap (asked_after request id call events) (next_frames frames i frame within is) ∙ asked-snoc request id call events (take i frames) frame))

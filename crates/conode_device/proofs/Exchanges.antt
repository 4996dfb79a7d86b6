-- A round of a client and a node, from what its calls give.
use Rattle.std.proofs.Common.{◌≡◌, ℕ, ◌<◌, List, [], ◌∷◌, ◌++◌, length, take, drop, sym, subst, ap, ◌∙◌, arith, get_or}
use Rattle.co_frame.specs.FrameContent.{FrameContent}
use Rattle.co_sdo_client.specs.Calls.{Event, Ticked as ClientTicked, frames_on}
use Rattle.co_sdo_client.specs.Outcomes.{asked_by}
use Rattle.co_sdo_client.specs.Standing.{Standing, ClientStands}
use Rattle.co_node_model.specs.Inputs.{Framed, Ticked}
use Rattle.co_node_model.specs.Device.{prescribed}
use Rattle.co_node.specs.declared.node.Node.{Node}
use Rattle.co_node.specs.Nodes.{Stands}
use Rattle.co_node_model.specs.Loop.{Loop, BothEnds, after_round, asked_after, events_after, frames_of, request_id, response_id, round_of}
use Rattle.conode_device.specs.Printed.{frame_lines}
use Rattle.conode_device.specs.Standing.{EndsStand}

-- the oldest request, and those after it
pub oldest : (items waiting rest : List FrameContent) (request : FrameContent) → items ≡ waiting → 0 < length items → request ≡ get_or items 0 request → rest ≡ take 0 items ++ drop 1 items
    → waiting ≡ request ∷ rest
oldest [] waiting rest request same some is later = absurd (omega arith)
oldest (x ∷ items) waiting rest request same some is later = sym same ∙ ap (λ (f : FrameContent). f ∷ items) (sym is) ∙ ap (λ (fs : List FrameContent). request ∷ fs) (sym later)

pub exchange_lines : (l : Loop) (e : BothEnds) (request : FrameContent) (rest sent : List FrameContent) → e.waiting ≡ request ∷ rest → sent ≡ prescribed l.node e.inputs (Framed request)
    → frame_lines (request ∷ []) ++ frame_lines sent ≡ frame_lines (frames_of l e.waiting e.inputs)
exchange_lines l e request rest sent waiting gives =
    ap (λ (fs : List FrameContent). frame_lines (request ∷ []) ++ frame_lines fs) gives ∙ sym (ap (λ (ws : List FrameContent). frame_lines (frames_of l ws e.inputs)) waiting)

pub tick_lines : (l : Loop) (e : BothEnds) (sent : List FrameContent) → e.waiting ≡ [] → sent ≡ prescribed l.node e.inputs Ticked
    → frame_lines sent ≡ frame_lines (frames_of l e.waiting e.inputs)
tick_lines l e sent waiting gives = ap frame_lines gives ∙ sym (ap (λ (ws : List FrameContent). frame_lines (frames_of l ws e.inputs)) waiting)

pub exchange_ends : (l : Loop) (e : BothEnds) (request : FrameContent) (rest sent items waiting : List FrameContent) (old node : Node) (client new : Standing)
    → EndsStand l e old client items → e.waiting ≡ request ∷ rest → sent ≡ prescribed l.node e.inputs (Framed request) → Stands l.node node (Framed request ∷ e.inputs)
    → ClientStands l.call (events_after client.answer e.events sent) new → waiting ≡ rest ++ asked_after client.request client.answer l.call e.events sent
    → new.request ≡ client.request → new.answer ≡ client.answer
    → EndsStand l (after_round l e) node new waiting
exchange_ends l e request rest sent items waiting old node client new st waits gives stands client_stands more request_same answer_same =
    subst (λ (ws : List FrameContent). EndsStand l (round_of l ws e) node new waiting) (sym waits) (record {
      node_stands = stands;
      client_stands = subst (λ (es : List Event). ClientStands l.call es new)
          (ap (λ (a : ℕ). events_after a e.events sent) st.response ∙ ap (events_after (response_id l) e.events) gives) client_stands;
      request = request_same ∙ st.request;
      response = answer_same ∙ st.response;
      same_waiting = more
          ∙ ap (λ (r : ℕ). rest ++ asked_after r client.answer l.call e.events sent) st.request
          ∙ ap (λ (a : ℕ). rest ++ asked_after (request_id l) a l.call e.events sent) st.response
          ∙ ap (λ (fs : List FrameContent). rest ++ asked_after (request_id l) (response_id l) l.call e.events fs) gives;
    })

pub tick_ends : (l : Loop) (e : BothEnds) (sent items ticked waiting : List FrameContent) (old node : Node) (client mid new : Standing)
    → EndsStand l e old client items → e.waiting ≡ [] → sent ≡ prescribed l.node e.inputs Ticked → Stands l.node node (Ticked ∷ e.inputs)
    → ticked ≡ items ++ frames_on client.request (asked_by l.call e.events ClientTicked)
    → mid.request ≡ client.request → mid.answer ≡ client.answer
    → ClientStands l.call (events_after mid.answer (ClientTicked ∷ e.events) sent) new → waiting ≡ ticked ++ asked_after mid.request mid.answer l.call (ClientTicked ∷ e.events) sent
    → new.request ≡ mid.request → new.answer ≡ mid.answer
    → EndsStand l (after_round l e) node new waiting
tick_ends l e sent items ticked waiting old node client mid new st waits gives stands at_tick mid_request mid_answer client_stands more request_same answer_same =
    let req : mid.request ≡ request_id l = mid_request ∙ st.request in
    let res : mid.answer ≡ response_id l = mid_answer ∙ st.response in
    let then_waiting : ticked ≡ e.waiting ++ frames_on (request_id l) (asked_by l.call e.events ClientTicked) =
    at_tick ∙ ap (λ (xs : List FrameContent). xs ++ frames_on client.request (asked_by l.call e.events ClientTicked)) st.same_waiting
    ∙ ap (λ (r : ℕ). e.waiting ++ frames_on r (asked_by l.call e.events ClientTicked)) st.request in
    subst (λ (ws : List FrameContent). EndsStand l (round_of l ws e) node new waiting) (sym waits) (record {
      node_stands = stands;
      client_stands = subst (λ (es : List Event). ClientStands l.call es new)
          (ap (λ (a : ℕ). events_after a (ClientTicked ∷ e.events) sent) res ∙ ap (events_after (response_id l) (ClientTicked ∷ e.events)) gives) client_stands;
      request = request_same ∙ req;
      response = answer_same ∙ res;
      same_waiting = more
          ∙ ap (λ (xs : List FrameContent). xs ++ asked_after mid.request mid.answer l.call (ClientTicked ∷ e.events) sent) then_waiting
          ∙ ap (λ (r : ℕ). e.waiting ++ frames_on (request_id l) (asked_by l.call e.events ClientTicked) ++ asked_after r mid.answer l.call (ClientTicked ∷ e.events) sent) req
          ∙ ap (λ (a : ℕ). e.waiting ++ frames_on (request_id l) (asked_by l.call e.events ClientTicked) ++ asked_after (request_id l) a l.call (ClientTicked ∷ e.events) sent) res
          ∙ ap (λ (fs : List FrameContent). e.waiting ++ frames_on (request_id l) (asked_by l.call e.events ClientTicked) ++ asked_after (request_id l) (response_id l) l.call (ClientTicked ∷ e.events) fs) gives;
    })

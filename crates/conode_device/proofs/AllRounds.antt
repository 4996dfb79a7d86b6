-- What is written of all rounds, from what is written of some and of one more.
use Rattle.std.proofs.Common.{◌≡◌, ℕ, ◌+◌, ◌≤◌, true, List, [], ◌++◌, Option, sym, subst, ap, ◌∙◌, arith, append_assoc, append-nil}
use Rattle.std.specs.List.{flat_map}
use Rattle.std.specs.Io.KnownBytes.{Appends}
use Rattle.std.proofs.KnownBytes.{Appends-nil, Appends-trans}
use Rattle.co_frame.specs.FrameContent.{FrameContent}
use Rattle.conode_io.specs.Written.{WritesFront, WritesLines}
use Rattle.conode_io.proofs.WriteLemmas.{front_after_lines, front_of_more, lines_after}
use Rattle.co_sdo_client.specs.Calls.{frames_on}
use Rattle.co_sdo_client.specs.Segments.{initiate_messages}
use Rattle.co_sdo_client.specs.Standing.{ClientStands, Standing}
use Rattle.co_node_model.specs.Inputs.{Inputs}
use Rattle.co_node.specs.declared.node.Node.{Node}
use Rattle.co_node.specs.Nodes.{Stands}
use Rattle.co_node_model.specs.Loop.{Loop, BothEnds, after_round, first_ends, frames_of, frames_in, goes_on, request_id, response_id, rounds}
use Rattle.conode_device.specs.Printed.{WritesFirst, frame_lines}
use Rattle.conode_device.specs.Standing.{EndsStand, StandsAfterSome}
use Rattle.conode_device.proofs.LoopLines.{first_after, first_of_more, lines_joined}
use Rattle.conode_device.proofs.RoundLemmas.{AreOver, Begins, begins, frames_next, rounds_next}

-- the frames of a round after so many
abbrev pub round_lines : ℕ → Loop → BothEnds → List (List ℕ)
round_lines n l e = frame_lines (frames_of l (rounds n l e).waiting (rounds n l e).inputs)

pub no_rounds : (l : Loop) (e : BothEnds) (node : Node) (client : Standing) (waiting : List FrameContent) → EndsStand l e node client waiting → EndsStand l (rounds 0 l e) node client waiting
unfolding rounds
no_rounds l e node client waiting st = st

pub no_lines_yet : (held : Option (List ℕ)) (l : Loop) (e : BothEnds) → WritesLines held held (frame_lines (frames_in 0 l e))
unfolding frames_in
no_lines_yet held l e = Appends-nil held

lines_next : (n : ℕ) (l : Loop) (e : BothEnds) → goes_on l (rounds n l e) ≡ true → frame_lines (frames_in (n + 1) l e) ≡ frame_lines (frames_in n l e) ++ round_lines n l e
lines_next n l e goes = ap frame_lines (frames_next n l e goes) ∙ lines_joined (frames_in n l e) _

pub one_more : (old mid new : Option (List ℕ)) (n : ℕ) (l : Loop) (e : BothEnds) → goes_on l (rounds n l e) ≡ true
    → WritesLines old mid (frame_lines (frames_in n l e)) → WritesLines mid new (round_lines n l e) → WritesLines old new (frame_lines (frames_in (n + 1) l e))
one_more old mid new n l e goes before now =
    subst (WritesLines old new) (sym (lines_next n l e goes)) (lines_after old mid new (frame_lines (frames_in n l e)) (round_lines n l e) before now)

rest_lines : (n : ℕ) (l : Loop) (e : BothEnds) (b : Begins (n + 1) 20000 l e) → goes_on l (rounds n l e) ≡ true
    → frame_lines (frames_in 20000 l e) ≡ frame_lines (frames_in n l e) ++ round_lines n l e ++ frame_lines b.rest
rest_lines n l e b goes =
    ap frame_lines b.joined ∙ lines_joined (frames_in (n + 1) l e) b.rest ∙ ap (λ (ls : List (List ℕ)). ls ++ frame_lines b.rest) (lines_next n l e goes)

pub write_fails : (old mid new : Option (List ℕ)) (n : ℕ) (l : Loop) (e : BothEnds) → n + 1 ≤ 20000 → goes_on l (rounds n l e) ≡ true
    → WritesLines old mid (frame_lines (frames_in n l e)) → WritesFront mid new (round_lines n l e) → WritesFront old new (frame_lines (frames_in 20000 l e))
write_fails old mid new n l e few goes before now =
    let b = begins (n + 1) 20000 l e few in
    subst (WritesFront old new) (sym (rest_lines n l e b goes))
    (front_of_more old new (frame_lines (frames_in n l e) ++ round_lines n l e) (frame_lines b.rest)
    (front_after_lines old mid new (frame_lines (frames_in n l e)) (round_lines n l e) before now))

pub memory_fails : (old mid new : Option (List ℕ)) (n : ℕ) (l : Loop) (e : BothEnds) → n + 1 ≤ 20000 → goes_on l (rounds n l e) ≡ true
    → WritesLines old mid (frame_lines (frames_in n l e)) → WritesFirst mid new (round_lines n l e) → WritesFirst old new (frame_lines (frames_in 20000 l e))
memory_fails old mid new n l e few goes before now =
    let b = begins (n + 1) 20000 l e few in
    subst (WritesFirst old new) (sym (rest_lines n l e b goes))
    (first_of_more old new (frame_lines (frames_in n l e) ++ round_lines n l e) (frame_lines b.rest)
    (first_after old mid new (frame_lines (frames_in n l e)) (round_lines n l e) before now))

-- ---- the ends

pub ends_next : (n : ℕ) (l : Loop) (e : BothEnds) (node : Node) (client : Standing) (waiting : List FrameContent) → goes_on l (rounds n l e) ≡ true
    → EndsStand l (after_round l (rounds n l e)) node client waiting → EndsStand l (rounds (n + 1) l e) node client waiting
ends_next n l e node client waiting goes st = subst (λ (ends : BothEnds). EndsStand l ends node client waiting) (sym (rounds_next n l e goes)) st

pub ends_all : (n : ℕ) (l : Loop) (e : BothEnds) (node : Node) (client : Standing) (waiting : List FrameContent) → AreOver n 20000 l e
    → EndsStand l (rounds n l e) node client waiting → EndsStand l (rounds 20000 l e) node client waiting
ends_all n l e node client waiting over st = subst (λ (ends : BothEnds). EndsStand l ends node client waiting) (sym over.ends) st

pub lines_all : (old new : Option (List ℕ)) (n : ℕ) (l : Loop) (e : BothEnds) → AreOver n 20000 l e → WritesLines old new (frame_lines (frames_in n l e)) → WritesLines old new (frame_lines (frames_in 20000 l e))
lines_all old new n l e over before = subst (WritesLines old new) (sym (ap frame_lines over.frames)) before

pub all_made : (n : ℕ) (l : Loop) (e : BothEnds) → n ≤ 20000 → 20000 ≤ n → AreOver n 20000 l e
all_made n l e few all =
    let same : n ≡ 20000 = omega arith in
    record { ends = ap (λ (m : ℕ). rounds m l e) (sym same); frames = ap (λ (m : ℕ). frames_in m l e) (sym same) }

-- ---- the node, and what is written of its rounds

-- after whole rounds
pub some_made : (n : ℕ) (l : Loop) (e : BothEnds) (node : Node) (old new : Option (List ℕ)) → n ≤ 20000 → Stands l.node node (rounds n l e).inputs
    → WritesLines old new (frame_lines (frames_in n l e)) → StandsAfterSome l e node old new
some_made n l e node old new few stands written = record {
  number = n;
  within = few;
  stands = stands;
  whole = n;
  last = omega arith;
  rest = [];
  written = subst (Appends old new) (sym (append-nil (flat_map (λ (line : List ℕ). line) (frame_lines (frames_in n l e))))) written;
}

-- in a round, of which some bytes are written
pub one_failed : (n : ℕ) (l : Loop) (e : BothEnds) (node : Node) (old mid new : Option (List ℕ)) → n + 1 ≤ 20000 → Stands l.node node (rounds (n + 1) l e).inputs
    → WritesLines old mid (frame_lines (frames_in n l e)) → (more : List ℕ) × Appends mid new more → StandsAfterSome l e node old new
one_failed n l e node old mid new few stands written (more, grown) = record {
  number = n + 1;
  within = few;
  stands = stands;
  whole = n;
  last = omega arith;
  rest = more;
  written = Appends-trans old mid new (flat_map (λ (line : List ℕ). line) (frame_lines (frames_in n l e))) more written grown;
}

-- more is written after the rounds
pub some_later : (l : Loop) (e : BothEnds) (node : Node) (old mid new : Option (List ℕ)) (more : List ℕ) → StandsAfterSome l e node old mid → Appends mid new more → StandsAfterSome l e node old new
some_later l e node old mid new more s grown = record {
  number = s.number;
  within = s.within;
  stands = s.stands;
  whole = s.whole;
  last = s.last;
  rest = s.rest ++ more;
  written = subst (Appends old new) (append_assoc (flat_map (λ (line : List ℕ). line) (frame_lines (frames_in s.whole l e))) s.rest more)
      (Appends-trans old mid new (flat_map (λ (line : List ℕ). line) (frame_lines (frames_in s.whole l e)) ++ s.rest) more s.written grown);
}

-- before the first round
pub none_made : (l : Loop) (before : Inputs) (node : Node) (held : Option (List ℕ)) → Stands l.node node before → StandsAfterSome l (first_ends l before) node held held
unfolding rounds
none_made l before node held stands = some_made 0 l (first_ends l before) node held held (omega arith) stands (no_lines_yet held l (first_ends l before))

-- the client has begun
pub has_begun : (l : Loop) (before : Inputs) (node : Node) (client : Standing) (request : ℕ) (asked sent waiting : List FrameContent) → Stands l.node node before → ClientStands l.call [] client
    → client.request ≡ request_id l → client.answer ≡ response_id l → request ≡ request_id l
    → asked ≡ [] → sent ≡ asked ++ frames_on request (initiate_messages l.call) → waiting ≡ sent
    → EndsStand l (first_ends l before) node client waiting
has_begun l before node client request asked sent waiting stands begun client_request client_response same none gives added = record {
  node_stands = stands;
  client_stands = begun;
  request = client_request;
  response = client_response;
  same_waiting = added ∙ gives ∙ ap (λ (xs : List FrameContent). xs ++ frames_on request (initiate_messages l.call)) none ∙ ap (λ (r : ℕ). frames_on r (initiate_messages l.call)) same;
}

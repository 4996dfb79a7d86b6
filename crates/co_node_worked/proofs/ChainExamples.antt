-- The device of the worked chain, computed from the definitions: its plan, and what it sends.
use Rattle.std.proofs.Common.{◌≡◌, ◌≤◌, ◌<◌, ◌+◌, ◌*◌, ℕ, zero, suc, List, [], ◌∷◌, ◌++◌, length, take, codes}
use Rattle.std.proofs.Common.{refl, ap, ◌∙◌, subst, arith}
use Rattle.std.specs.Prelude.{flat_map}
use Rattle.co_node.specs.FrameContent.{FrameContent}
use Rattle.co_sheet.specs.Content.{IsSheet, SheetContent, content_of}
use Rattle.co_sheet.specs.Accepted.{sections_in}
use Rattle.co_node.specs.BuiltDictionaries.{Plan, plan_of}
use Rattle.co_dict_build.specs.Capacities.{Limits}
use Rattle.co_node.specs.Inputs.{Framed, Inputs, InputView, Ticked}
use Rattle.co_node.specs.Moments.{Constants}
use Rattle.co_node.specs.Device.{all_frames, prescribed}
use Rattle.co_node_model.proofs.ExampleNode.{searches}
use Rattle.co_node.specs.declared.node.Node.{Node}
use Rattle.co_node.specs.Nodes.{Stands, built_constants}
use Rattle.co_node.specs.Records.{HasRoom, Recorded}
use Rattle.co_node.specs.Runs.{all_ends, most_frames}
use Rattle.co_node_worked.specs.Worked.{asked, constants, heartbeats, plan, request, responses, start}

-- lines as a text, each ended by LF
abbrev joined : List (List ℕ) → List ℕ
joined lines = flat_map (λ line. line ++ 10 ∷ []) lines

-- the text of the sheet
abbrev pub sheet_text : List ℕ
sheet_text = joined (
    codes "[MandatoryObjects]" ∷ codes "SupportedObjects=3" ∷ codes "1=0x1000" ∷ codes "2=0x1001" ∷ codes "3=0x1018"
    ∷ codes "[1000]" ∷ codes "DataType=7" ∷ codes "AccessType=ro" ∷ codes "DefaultValue=0x191"
    ∷ codes "[1001]" ∷ codes "DataType=5" ∷ codes "AccessType=ro"
    ∷ codes "[1018]" ∷ codes "ObjectType=9"
    ∷ codes "[1018sub0]" ∷ codes "DataType=5" ∷ codes "AccessType=ro" ∷ codes "DefaultValue=1"
    ∷ codes "[1018sub1]" ∷ codes "DataType=7" ∷ codes "AccessType=ro"
    ∷ codes "[OptionalObjects]" ∷ codes "SupportedObjects=1" ∷ codes "1=0x1017"
    ∷ codes "[1017]" ∷ codes "DataType=6" ∷ codes "AccessType=rw" ∷ codes "DefaultValue=2" ∷ [])

abbrev pub limits : Limits
limits = record { strings = 16; domains = 889; own = [] }

-- the text says this plan
planned_is : (text : List ℕ) (sheet : SheetContent) → text ≡ sheet_text → IsSheet text sheet
    → plan_of 5 limits sheet ≡ plan
planned_is text sheet same is =
    ap (plan_of 5 limits) (is.content ∙ ap (λ (t : List ℕ). content_of (sections_in t)) same)

-- so its device begins
pub begins_by : (text : List ℕ) (sheet : SheetContent) (node : Node) → text ≡ sheet_text → IsSheet text sheet
    → Stands (built_constants (plan_of 5 limits sheet) 1000) node [] → Stands constants node []
unfolding constants
begins_by text sheet node same is begins =
    subst (λ (p : Plan). Stands (built_constants p 1000) node []) (planned_is text sheet same is) begins

responds : prescribed constants (Framed start ∷ []) (Framed request) ≡ responses
unfolding searches constants
responds = refl

beats : all_frames constants asked (Ticked ∷ Ticked ∷ []) ≡ heartbeats
unfolding searches constants
beats = refl

most : most_frames constants ≡ 129
unfolding searches constants
most = refl

-- what `step` gives at the request
pub response_by : (f g : FrameContent) (sent : List FrameContent) → f ≡ start → g ≡ request
    → sent ≡ prescribed constants (Framed f ∷ []) (Framed g) → sent ≡ responses
response_by f g sent a b e =
    e ∙ ap (λ (f : FrameContent). prescribed constants (Framed f ∷ []) (Framed g)) a
    ∙ ap (λ (g : FrameContent). prescribed constants (Framed start ∷ []) (Framed g)) b
    ∙ responds

-- which inputs the device then stands after
pub stands_by : (f g : FrameContent) (node : Node) → f ≡ start → g ≡ request
    → Stands constants node (Framed g ∷ Framed f ∷ []) → Stands constants node asked
stands_by f g node a b stands =
    subst (λ (g : FrameContent). Stands constants node (Framed g ∷ Framed start ∷ [])) b
    (subst (λ (f : FrameContent). Stands constants node (Framed g ∷ Framed f ∷ [])) a stands)

-- an empty record with room for what two inputs give at most, and two ticks
abbrev pub empty : Recorded
empty = record { frames = []; ends = []; frame_room = 258; input_room = 2 }

abbrev pub two_ticks : List InputView
two_ticks = Ticked ∷ Ticked ∷ []

-- `run` takes both ticks: after fewer the record would have room
takes_both : (k : Constants) (n : ℕ) (inputs : Inputs) (more : List InputView) (r : Recorded)
    → most_frames k ≡ 129 → n ≤ 2 → (n < 2 → HasRoom (most_frames k) r → ⊥)
    → length r.frames ≤ n * most_frames k → r.ends ≡ all_ends k inputs 0 (take n more) → r.frame_room ≡ 258 → r.input_room ≡ 2 → n ≡ 2
takes_both k zero inputs more r greatest within early few ends frames room =
    let count : length r.ends ≡ 0 = ap length ends in
    absurd (early (omega arith) (record { input = omega arith; sent = omega arith }))
takes_both k (suc zero) inputs [] r greatest within early few ends frames room =
    let count : length r.ends ≡ 0 = ap length ends in
    absurd (early (omega arith) (record { input = omega arith; sent = omega arith }))
takes_both k (suc zero) inputs (x ∷ more) r greatest within early few ends frames room =
    let count : length r.ends ≡ 1 = ap length ends in
    absurd (early (omega arith) (record { input = omega arith; sent = omega arith }))
takes_both k (suc (suc n)) inputs more r greatest within early few ends frames room = omega arith

-- what `run` gives at two ticks, over an empty record
pub later_by : (n : ℕ) (old new : Recorded) → old ≡ empty → n ≤ 2 → (n < 2 → HasRoom (most_frames constants) new → ⊥)
    → length new.frames ≤ length old.frames + n * most_frames constants
    → new.ends ≡ old.ends ++ all_ends constants asked (length old.frames) (take n two_ticks)
    → new.frame_room ≡ old.frame_room → new.input_room ≡ old.input_room
    → new.frames ≡ old.frames ++ all_frames constants asked (take n two_ticks) → new.frames ≡ heartbeats
later_by n old new fresh within early few ends frame_room input_room frames =
    let none : length old.frames ≡ 0 = ap (λ (r : Recorded). length r.frames) fresh in
    let two : n ≡ 2 = takes_both constants n asked two_ticks new most within early (omega (arith, few, none))
    (ends ∙ ap (λ (r : Recorded). r.ends ++ all_ends constants asked (length r.frames) (take n two_ticks)) fresh)
    (frame_room ∙ ap (λ (r : Recorded). r.frame_room) fresh) (input_room ∙ ap (λ (r : Recorded). r.input_room) fresh) in
    frames ∙ ap (λ (r : Recorded). r.frames ++ all_frames constants asked (take n two_ticks)) fresh
    ∙ ap (λ (n : ℕ). all_frames constants asked (take n two_ticks)) two
    ∙ beats

-- One more input at the end of a run.
use native.Mathlib.Nat.{add-mul}
use Rattle.std.proofs.Common.{◌≡◌, ◌≤◌, ◌<◌, ◌+◌, ◌*◌, ℕ, zero, suc, Bool, true, false, ltb, List, [], ◌∷◌, ◌++◌, length, map, get_or, take, refl, sym, ap, ◌∙◌, subst, append_assoc, append-nil, length-append, arith}
use Rattle.std.proofs.lemmas.List.{take_more, get_or-map, length-map}
use Rattle.co_frame.specs.FrameContent.{FrameContent}
use Rattle.co_node_model.specs.declared.input.Input.{Input}
use Rattle.co_node_model.specs.Inputs.{Inputs, InputView, input_view}
use Rattle.co_node_model.specs.Moments.{Constants}
use Rattle.co_node_model.specs.Device.{after_all, all_frames, prescribed}
use Rattle.co_node.specs.declared.node.Node.{Node}
use Rattle.co_node.specs.Held.{HoldsWithin}
use Rattle.co_node.specs.Nodes.{Stands}
use Rattle.co_node.specs.Records.{Recorded, HasRoom, with_input}
use Rattle.co_node.specs.Runs.{all_ends, most_frames, recorded_after}
use Rattle.co_node.proofs.Held.{holds_within}

after_all-snoc : (before : Inputs) (xs : List InputView) (x : InputView) → after_all before (xs ++ x ∷ []) ≡ x ∷ after_all before xs
after_all-snoc before [] x = refl
after_all-snoc before (y ∷ xs) x = after_all-snoc (y ∷ before) xs x

all_frames-snoc : (k : Constants) (before : Inputs) (xs : List InputView) (x : InputView)
    → all_frames k before (xs ++ x ∷ []) ≡ all_frames k before xs ++ prescribed k (after_all before xs) x
all_frames-snoc k before [] x = append-nil (prescribed k before x)
all_frames-snoc k before (y ∷ xs) x =
    ap (λ frames. prescribed k before y ++ frames) (all_frames-snoc k (y ∷ before) xs x) ∙ sym (append_assoc (prescribed k before y) _ _)

all_ends-snoc : (k : Constants) (before : Inputs) (n : ℕ) (xs : List InputView) (x : InputView)
    → all_ends k before n (xs ++ x ∷ []) ≡ all_ends k before n xs ++ (n + length (all_frames k before xs) + length (prescribed k (after_all before xs) x)) ∷ []
all_ends-snoc k before n [] x =
    let e : n + length (prescribed k before x) ≡ n + 0 + length (prescribed k before x) = omega arith in
    ap (λ m. m ∷ []) e
all_ends-snoc k before n (y ∷ xs) x =
    let first : List FrameContent = prescribed k before y in
    let rest : List FrameContent = all_frames k (y ∷ before) xs in
    let last : List FrameContent = prescribed k (after_all (y ∷ before) xs) x in
    let e : n + length first + length rest + length last ≡ n + length (first ++ rest) + length last = omega (arith, length-append first rest) in
    ap (λ ends. (n + length first) ∷ ends)
    (all_ends-snoc k (y ∷ before) (n + length first) xs x ∙ ap (λ m. all_ends k (y ∷ before) (n + length first) xs ++ m ∷ []) e)

-- the view of the input that comes next
pub next_view : (inputs yielded : List Input) (taken : ℕ) (input : Input) → taken ≡ length yielded
    → (length yielded < length inputs) × (input ≡ get_or inputs (length yielded) input)
    → take (taken + 1) (map input_view inputs) ≡ take taken (map input_view inputs) ++ input_view input ∷ []
next_view inputs yielded taken input count here =
    let lt : taken < length inputs = omega (arith, here.0) in
    let few : taken < length (map input_view inputs) = omega (arith, length-map inputs input_view) in
    let same : input ≡ get_or inputs taken input = here.1 ∙ ap (λ i. get_or inputs i input) (sym count) in
    take_more (map input_view inputs) taken (input_view input) few
    ∙ ap (λ v. take taken (map input_view inputs) ++ v ∷ []) (get_or-map input_view inputs taken input (input_view input) lt ∙ ap input_view (sym same))

-- a record with room for more frames has room for fewer
pub room_for : (r : Recorded) (most frames : ℕ) → HasRoom most r → frames ≤ most → HasRoom frames r
room_for r most frames room few = record { input = room.input; sent = omega arith }

-- a record that is as after some inputs has room where it has room after them
pub room_after : (k : Constants) (before : Inputs) (more : List InputView) (old r : Recorded) (most : ℕ) → most ≡ most_frames k
    → r.frames ≡ old.frames ++ all_frames k before more → r.ends ≡ old.ends ++ all_ends k before (length old.frames) more
    → r.frame_room ≡ old.frame_room → r.input_room ≡ old.input_room
    → HasRoom most r → HasRoom (most_frames k) (recorded_after k before more old)
room_after k before more old r most greatest framed ended frame_room input_room room =
    let ends : length r.ends ≡ length (old.ends ++ all_ends k before (length old.frames) more) = ap length ended in
    let frames : length r.frames ≡ length (old.frames ++ all_frames k before more) = ap length framed in
    record { input = omega (arith, room.input); sent = omega (arith, room.sent) }

-- what holds of all numbers below one and of this one
pub below_next : (P : ℕ → Type 0) (m : ℕ) → ((n : ℕ) → n < m → P n) → P m → (n : ℕ) → n < m + 1 → P n
below_next P m each last n below = by_test (ltb n m) refl
  where
    by_test : (b : Bool) → ltb n m ≡ b → P n
    by_test true e = each n (grind arith)
    by_test false e = let same : n ≡ m = grind arith in subst P (sym same) last

pub frames_more : (k : Constants) (before : Inputs) (xs ys : List InputView) (x : InputView) (old : List FrameContent) (r new : Recorded) (sent frames : List FrameContent)
    → ys ≡ xs ++ x ∷ [] → r.frames ≡ old ++ all_frames k before xs → frames ≡ prescribed k (after_all before xs) x → sent ≡ frames → new ≡ with_input sent r
    → new.frames ≡ old ++ all_frames k before ys
frames_more k before xs ys x old r new sent frames next so_far given read added =
    ap (λ (r : Recorded). r.frames) added ∙ ap (λ s. r.frames ++ s) (read ∙ given) ∙ ap (λ s. s ++ prescribed k (after_all before xs) x) so_far
    ∙ append_assoc old _ _ ∙ ap (λ s. old ++ s) (sym (all_frames-snoc k before xs x)) ∙ ap (λ vs. old ++ all_frames k before vs) (sym next)

pub ends_more : (k : Constants) (before : Inputs) (xs ys : List InputView) (x : InputView) (old : List FrameContent) (ends : List ℕ) (r new : Recorded)
    (sent frames : List FrameContent)
    → ys ≡ xs ++ x ∷ [] → r.frames ≡ old ++ all_frames k before xs → r.ends ≡ ends ++ all_ends k before (length old) xs
    → frames ≡ prescribed k (after_all before xs) x → sent ≡ frames → new ≡ with_input sent r → new.ends ≡ ends ++ all_ends k before (length old) ys
ends_more k before xs ys x old ends r new sent frames next so_far ended given read added =
    let count : length r.frames ≡ length old + length (all_frames k before xs) = ap length so_far ∙ length-append old (all_frames k before xs) in
    let more : length sent ≡ length (prescribed k (after_all before xs) x) = ap length (read ∙ given) in
    let end : length r.frames + length sent ≡ length old + length (all_frames k before xs) + length (prescribed k (after_all before xs) x) = omega arith in
    ap (λ (r : Recorded). r.ends) added ∙ ap (λ n. r.ends ++ n ∷ []) end ∙ ap (λ es. es ++ (length old + length (all_frames k before xs) + length (prescribed k (after_all before xs) x)) ∷ []) ended
    ∙ append_assoc ends _ _ ∙ ap (λ es. ends ++ es) (sym (all_ends-snoc k before (length old) xs x)) ∙ ap (λ vs. ends ++ all_ends k before (length old) vs) (sym next)

pub stands_more : (k : Constants) (before : Inputs) (xs ys : List InputView) (x : InputView) (node : Node) → ys ≡ xs ++ x ∷ []
    → Stands k node (x ∷ after_all before xs) → Stands k node (after_all before ys)
stands_more k before xs ys x node next stands =
    subst (λ (inputs : Inputs). Stands k node inputs) (sym (after_all-snoc before xs x) ∙ ap (after_all before) (sym next)) stands

-- one more input gives no more frames than an input gives at most
pub few_more : (r new : Recorded) (sent : List FrameContent) (old taken most bound : ℕ) → new ≡ with_input sent r
    → length r.frames ≤ old + taken * most → length sent ≤ bound → bound ≡ most → length new.frames ≤ old + (taken + 1) * most
few_more r new sent old taken most bound added so_far few same =
    let count : length new.frames ≡ length r.frames + length sent = ap (λ (r : Recorded). length r.frames) added ∙ length-append r.frames sent in
    omega (arith, add-mul taken 1 most)

-- what holds of all numbers up to one and of the next
pub up_to_next : (P : ℕ → Type 0) (m : ℕ) → ((n : ℕ) → n ≤ m → P n) → P (m + 1) → (n : ℕ) → n ≤ m + 1 → P n
up_to_next P m each last n below = by_test (ltb m n) refl
  where
    by_test : (b : Bool) → ltb m n ≡ b → P n
    by_test true e = let same : n ≡ m + 1 = grind arith in subst P (sym same) last
    by_test false e = each n (grind arith)

pub holds_first : (k : Constants) (before : Inputs) (node : Node) (vs : List InputView) → Stands k node before → (n : ℕ) → n ≤ 0 → HoldsWithin k (after_all before (take n vs))
holds_first k before node [] stands zero below = holds_within k before node stands
holds_first k before node (v ∷ vs) stands zero below = holds_within k before node stands
holds_first k before node vs stands (suc n) below = absurd (omega arith)

pub holds_more : (k : Constants) (before : Inputs) (xs ys : List InputView) (x : InputView) → ys ≡ xs ++ x ∷ []
    → HoldsWithin k (x ∷ after_all before xs) → HoldsWithin k (after_all before ys)
holds_more k before xs ys x next holds =
    subst (λ (inputs : Inputs). HoldsWithin k inputs) (sym (after_all-snoc before xs x) ∙ ap (after_all before) (sym next)) holds

-- One more round, and rounds after the last one.
use Rattle.std.proofs.Common.{◌≡◌, ℕ, zero, suc, ◌+◌, ◌≤◌, Bool, true, false, List, [], ◌++◌, refl, ap, sym, ◌∙◌, arith, append_assoc, append-nil}
use Rattle.std.proofs.Math.Numerals.{add-one}
use Rattle.co_frame.specs.FrameContent.{FrameContent}
use Rattle.co_node_model.specs.Loop.{Loop, BothEnds, after_round, frames_of, frames_in, goes_on, rounds}

next_by : (n : ℕ) (l : Loop) (e : BothEnds) (b : Bool) → goes_on l e ≡ b → goes_on l (rounds (suc n) l e) ≡ true
    → (goes_on l (rounds n l (after_round l e)) ≡ true → rounds (suc n) l (after_round l e) ≡ after_round l (rounds n l (after_round l e)))
    → rounds (suc (suc n)) l e ≡ after_round l (rounds (suc n) l e)
unfolding rounds
next_by n l e true is goes rest = rw is (rest (rw is at goes))
next_by n l e false is goes rest = absurd (let g = rw is at goes in let x : false ≡ true = sym is ∙ g in cc)

rounds_suc : (n : ℕ) (l : Loop) (e : BothEnds) → goes_on l (rounds n l e) ≡ true → rounds (suc n) l e ≡ after_round l (rounds n l e)
unfolding rounds
rounds_suc zero l e goes = rw goes refl
rounds_suc (suc n) l e goes = next_by n l e (goes_on l e) refl goes (rounds_suc n l (after_round l e))

pub rounds_next : (n : ℕ) (l : Loop) (e : BothEnds) → goes_on l (rounds n l e) ≡ true → rounds (n + 1) l e ≡ after_round l (rounds n l e)
rounds_next n l e goes = ap (λ (m : ℕ). rounds m l e) (add-one n) ∙ rounds_suc n l e goes

frames_by : (n : ℕ) (l : Loop) (e : BothEnds) (b : Bool) → goes_on l e ≡ b → goes_on l (rounds (suc n) l e) ≡ true
    → (goes_on l (rounds n l (after_round l e)) ≡ true → frames_in (suc n) l (after_round l e) ≡ frames_in n l (after_round l e) ++ frames_of l (rounds n l (after_round l e)).waiting (rounds n l (after_round l e)).inputs)
    → frames_in (suc (suc n)) l e ≡ frames_in (suc n) l e ++ frames_of l (rounds (suc n) l e).waiting (rounds (suc n) l e).inputs
unfolding rounds frames_in
frames_by n l e true is goes rest = rw is (ap (λ (fs : List FrameContent). frames_of l e.waiting e.inputs ++ fs) (rest (rw is at goes)) ∙ sym (append_assoc (frames_of l e.waiting e.inputs) _ _))
frames_by n l e false is goes rest = absurd (let g = rw is at goes in let x : false ≡ true = sym is ∙ g in cc)

frames_suc : (n : ℕ) (l : Loop) (e : BothEnds) → goes_on l (rounds n l e) ≡ true → frames_in (suc n) l e ≡ frames_in n l e ++ frames_of l (rounds n l e).waiting (rounds n l e).inputs
unfolding rounds frames_in
frames_suc zero l e goes = rw goes (append-nil _)
frames_suc (suc n) l e goes = frames_by n l e (goes_on l e) refl goes (frames_suc n l (after_round l e))

pub frames_next : (n : ℕ) (l : Loop) (e : BothEnds) → goes_on l (rounds n l e) ≡ true → frames_in (n + 1) l e ≡ frames_in n l e ++ frames_of l (rounds n l e).waiting (rounds n l e).inputs
frames_next n l e goes = ap (λ (m : ℕ). frames_in m l e) (add-one n) ∙ frames_suc n l e goes

-- ---- after the last

pub record AreOver (n m : ℕ) (l : Loop) (e : BothEnds) : Type 0 where
  pub ends : rounds m l e ≡ rounds n l e
  pub frames : frames_in m l e ≡ frames_in n l e

over_by : (n m : ℕ) (l : Loop) (e : BothEnds) (b : Bool) → goes_on l e ≡ b → goes_on l (rounds (suc n) l e) ≡ false
    → (goes_on l (rounds n l (after_round l e)) ≡ false → AreOver n m l (after_round l e)) → AreOver (suc n) (suc m) l e
unfolding rounds frames_in
over_by n m l e true is stops rest =
    let r = rest (rw is at stops) in
    record { ends = rw is r.ends; frames = rw is (ap (λ (fs : List FrameContent). frames_of l e.waiting e.inputs ++ fs) r.frames) }
over_by n m l e false is stops rest = record { ends = rw is refl; frames = rw is refl }

none_more : (m : ℕ) (l : Loop) (e : BothEnds) → goes_on l e ≡ false → AreOver 0 m l e
unfolding rounds frames_in
none_more zero l e stops = record { ends = refl; frames = refl }
none_more (suc m) l e stops = record { ends = rw stops refl; frames = rw stops refl }

pub are_over : (n m : ℕ) (l : Loop) (e : BothEnds) → n ≤ m → goes_on l (rounds n l e) ≡ false → AreOver n m l e
unfolding rounds
are_over zero m l e few stops = none_more m l e stops
are_over (suc n) zero l e few stops = absurd (omega arith)
are_over (suc n) (suc m) l e few stops = over_by n m l e (goes_on l e) refl stops (are_over n m l (after_round l e) (omega arith))

-- ---- the frames of some rounds are a front of those of more

pub record Begins (n m : ℕ) (l : Loop) (e : BothEnds) : Type 0 where
  pub rest : List FrameContent
  pub joined : frames_in m l e ≡ frames_in n l e ++ rest

begins_by : (n m : ℕ) (l : Loop) (e : BothEnds) (b : Bool) → goes_on l e ≡ b → Begins n m l (after_round l e) → Begins (suc n) (suc m) l e
unfolding frames_in
begins_by n m l e true is r =
    record { rest = r.rest; joined = rw is (ap (λ (fs : List FrameContent). frames_of l e.waiting e.inputs ++ fs) r.joined ∙ sym (append_assoc (frames_of l e.waiting e.inputs) _ _)) }
begins_by n m l e false is r = record { rest = []; joined = rw is refl }

pub begins : (n m : ℕ) (l : Loop) (e : BothEnds) → n ≤ m → Begins n m l e
unfolding frames_in
begins zero m l e few = record { rest = frames_in m l e; joined = refl }
begins (suc n) zero l e few = absurd (omega arith)
begins (suc n) (suc m) l e few = begins_by n m l e (goes_on l e) refl (begins n m l (after_round l e) (omega arith))

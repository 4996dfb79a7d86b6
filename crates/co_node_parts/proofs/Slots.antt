-- The slots of RPDOs after one event.
use Rattle.std.proofs.Common.{◌≡◌, ◌≢◌, ℕ, ◌+◌, ◌<◌, ◌≤◌, Bool, true, false, eqb, ltb, zero, suc, List, [], ◌∷◌, ◌++◌, length, get_or, set, refl, sym, ap, ◌∙◌, arith, append-nil, get_or-set_same, get_or-set_other}
use Rattle.std.specs.Prelude.{Option, Some, None}
use Rattle.std.specs.List.{filter_map, cons_option, range_with_len}
use Rattle.std.proofs.lemmas.List.{map-id, get_or_default}
use Rattle.std.proofs.lemmas.List.Elements.{filter_map-append}
use Rattle.std.proofs.lemmas.List.FromFn.{map-range_with_len_more}
use Rattle.std.proofs.lemmas.Bool.Decides.{nat_tests}
use Rattle.co_frame.specs.FrameContent.{FrameContent}
use Rattle.co_node_parts.specs.declared.rpdo_slots.KeptFrame.{KeptFrame}
use Rattle.co_node_parts.specs.RpdoSlots.{AreEmptyFrom, SlotLog, kept_of, numbered, all_kept, SlotContent, SlotsStand}

-- a range has its last number at the end
range_snoc : (n : ℕ) → range_with_len 0 (n + 1) ≡ range_with_len 0 n ++ n ∷ []
range_snoc n = sym (map-id (range_with_len 0 (n + 1))) ∙ map-range_with_len_more (λ (x : ℕ). x) 0 n n (omega arith) ∙ ap (λ (xs : List ℕ). xs ++ n ∷ []) (map-id (range_with_len 0 n))

-- one more slot
collected_more : (h : ℕ → Option KeptFrame) (n : ℕ) → filter_map h (range_with_len 0 (n + 1)) ≡ filter_map h (range_with_len 0 n) ++ cons_option (h n) []
collected_more h n = ap (filter_map h) (range_snoc n) ∙ filter_map-append h (range_with_len 0 n) (n ∷ [])

-- the same is collected of what is the same in each slot
same_collected : (f g : ℕ → Option KeptFrame) (a n : ℕ) → ((k : ℕ) → a ≤ k → k < a + n → f k ≡ g k) → filter_map f (range_with_len a n) ≡ filter_map g (range_with_len a n)
same_collected f g a zero e = refl
same_collected f g a (suc n) e =
    ap (λ o. cons_option o (filter_map f (range_with_len (a + 1) n))) (e a (omega arith) (omega arith))
    ∙ ap (cons_option (g a)) (same_collected f g (a + 1) n (λ k le lt. e k (omega arith) (omega arith)))

-- what the slots have is what their logs give
pub collected_all : (count : ℕ) (v : SlotContent) (log : SlotLog) → SlotsStand count v log → filter_map (λ k. numbered k (get_or v.slots k None)) (range_with_len 0 (length v.slots)) ≡ all_kept count log
collected_all count v log h =
    ap (λ (n : ℕ). filter_map (λ k. numbered k (get_or v.slots k None)) (range_with_len 0 n)) h.size
    ∙ same_collected (λ k. numbered k (get_or v.slots k None)) (λ k. numbered k (kept_of k log)) 0 count (λ k le lt. ap (numbered k) (h.all k None (omega arith)))

-- a frame is taken, with the number of its slot
pub taken_more : (slots : List (Option FrameContent)) (k n : ℕ) (d : Option FrameContent) (frame : FrameContent) (before after : List KeptFrame) → k < length slots → get_or slots k d ≡ Some frame → n ≡ k
    → before ≡ filter_map (λ j. numbered j (get_or slots j None)) (range_with_len 0 k) → after ≡ before ++ record { number = n; frame = frame } ∷ []
    → after ≡ filter_map (λ j. numbered j (get_or slots j None)) (range_with_len 0 (k + 1))
taken_more slots k n d frame before after lt e same b a =
    let h : ℕ → Option KeptFrame = λ j. numbered j (get_or slots j None) in
    let here : h k ≡ Some (record { number = k; frame = frame }) = ap (numbered k) (get_or_default slots k None d lt ∙ e) in
    a ∙ ap (λ (m : ℕ). before ++ record { number = m; frame = frame } ∷ []) same ∙ ap (λ xs. xs ++ record { number = k; frame = frame } ∷ []) b ∙ ap (λ o. filter_map h (range_with_len 0 k) ++ cons_option o []) (sym here) ∙ sym (collected_more h k)

-- there is no frame to take
pub taken_same : (slots : List (Option FrameContent)) (k : ℕ) (d : Option FrameContent) (before after : List KeptFrame) → k < length slots → get_or slots k d ≡ None
    → before ≡ filter_map (λ j. numbered j (get_or slots j None)) (range_with_len 0 k) → after ≡ before
    → after ≡ filter_map (λ j. numbered j (get_or slots j None)) (range_with_len 0 (k + 1))
taken_same slots k d before after lt e b a =
    let h : ℕ → Option KeptFrame = λ j. numbered j (get_or slots j None) in
    let here : h k ≡ None = ap (numbered k) (get_or_default slots k None d lt ∙ e) in
    a ∙ b ∙ sym (append-nil (filter_map h (range_with_len 0 k))) ∙ ap (λ o. filter_map h (range_with_len 0 k) ++ cons_option o []) (sym here) ∙ sym (collected_more h k)

-- nothing is collected where nothing is
collected_none : (h : ℕ → Option KeptFrame) (a n : ℕ) → ((k : ℕ) → a ≤ k → k < a + n → h k ≡ None) → filter_map h (range_with_len a n) ≡ []
collected_none h a zero e = refl
collected_none h a (suc n) e =
    ap (λ o. cons_option o (filter_map h (range_with_len (a + 1) n))) (e a (omega arith) (omega arith))
    ∙ collected_none h (a + 1) n (λ k le lt. e k (omega arith) (omega arith))

collected_front : (h : ℕ → Option KeptFrame) (a n total : ℕ) → n ≤ total → ((k : ℕ) → a + n ≤ k → k < a + total → h k ≡ None)
    → filter_map h (range_with_len a n) ≡ filter_map h (range_with_len a total)
collected_front h a zero total le e = sym (collected_none h a total (λ k low high. e k (omega arith) high))
collected_front h a (suc n) zero le e = absurd (omega (arith, le))
collected_front h a (suc n) (suc total) le e =
    ap (cons_option (h a)) (collected_front h (a + 1) n total (omega (arith, le)) (λ k low high. e k (omega arith) (omega arith)))

-- the slots in use are enough
pub collected_used : (used k : ℕ) (slots : List (Option FrameContent)) (taken : List KeptFrame) → k ≡ used → used ≤ length slots → AreEmptyFrom used slots
    → taken ≡ filter_map (λ j. numbered j (get_or slots j None)) (range_with_len 0 k)
    → taken ≡ filter_map (λ j. numbered j (get_or slots j None)) (range_with_len 0 (length slots))
collected_used used k slots taken at le empty e =
    let h : ℕ → Option KeptFrame = λ j. numbered j (get_or slots j None) in
    e ∙ ap (λ (n : ℕ). filter_map h (range_with_len 0 n)) at
    ∙ collected_front h 0 used (length slots) le (λ j low high. ap (numbered j) (empty j None (omega arith) (omega arith)))

-- one slot more is empty
pub emptied_more : (slots : List (Option FrameContent)) (k : ℕ) → k < length slots
    → ((j : ℕ) (d : Option FrameContent) → j < k → get_or slots j d ≡ None)
    → (j : ℕ) (d : Option FrameContent) → j < k + 1 → get_or (set slots k None) j d ≡ None
emptied_more slots k within done j d below = by_test (eqb j k) refl
  where
    by_test : (b : Bool) → eqb j k ≡ b → get_or (set slots k None) j d ≡ None
    by_test true h = let same : j ≡ k = grind (arith, nat_tests) in rw same (rw get_or-set_same refl)
    by_test false h = let other : j ≢ k = grind (arith, nat_tests) in rw get_or-set_other (done j d (omega arith))

pub rest_kept : (fn slots : List (Option FrameContent)) (k : ℕ) → ((j : ℕ) (d : Option FrameContent) → k ≤ j → get_or slots j d ≡ get_or fn j d)
    → (j : ℕ) (d : Option FrameContent) → k + 1 ≤ j → get_or (set slots k None) j d ≡ get_or fn j d
rest_kept fn slots k rest j d le = let other : j ≢ k = omega arith in rw get_or-set_other (rest j d (omega arith))

-- those in use are empty, and the others were
pub emptied_all : (fn slots : List (Option FrameContent)) (used k : ℕ) → k ≡ used → AreEmptyFrom used fn
    → ((j : ℕ) (d : Option FrameContent) → j < k → get_or slots j d ≡ None)
    → ((j : ℕ) (d : Option FrameContent) → k ≤ j → get_or slots j d ≡ get_or fn j d)
    → (j : ℕ) (d : Option FrameContent) → j < length fn → get_or slots j d ≡ None
emptied_all fn slots used k at empty done rest j d lt = by_test (ltb j k) refl
  where
    by_test : (b : Bool) → ltb j k ≡ b → get_or slots j d ≡ None
    by_test true h = done j d (grind (arith, nat_tests))
    by_test false h = let le : k ≤ j = grind (arith, nat_tests) in rest j d le ∙ empty j d (omega arith) lt

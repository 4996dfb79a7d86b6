-- What is listed of what looks wrong, one part after another.
use Rattle.std.proofs.Common.{ℕ, suc, ◌+◌, ◌-◌, ◌<◌, ◌≤◌, ◌≡◌, ◌&&◌, Bool, true, false, cond, min, List, Option, [], ◌∷◌, ◌++◌, length, take, drop, get_or, refl, sym, ap, ◌∙◌, append_assoc, append-nil, subst, arith, inl, inr, nat_le, nat_lt}
use Rattle.std.specs.List.{flat_map}
use Rattle.std.proofs.lemmas.Bool.{cases_Bool}
use Rattle.std.proofs.lemmas.Bool.Decides.{nat_tests}
use Rattle.std.proofs.lemmas.List.{take_all, drop_all, length-append}
use Rattle.conode_stats_counts.specs.Gaps.{counted, most}
use Rattle.conode_stats_text.specs.declared.excerpt.Excerpt.{Excerpt}
use Rattle.conode_stats_text.specs.declared.finding.Kind.{Kind}
use Rattle.conode_stats_text.specs.Findings.{IsListed, Wrong, further_words, is_listed, listed, passed, passed_one, wrong_line}
use Rattle.conode_stats_text.specs.Found.{kind_lines}
use Rattle.conode_stats_text.specs.NodeIds.{up_to}
use Rattle.conode_stats_text.specs.StatsLines.{if_any}
use Rattle.conode_stats_text.specs.Papers.{IsAppended}
use Rattle.conode_stats_text.proofs.Appended.{both, flat_map_more, none, up_to_more}

-- ---- one part after another

pub listed_append : (e : Excerpt) (a b : List Wrong) → listed e (a ++ b) ≡ listed e a ++ listed (passed e a) b
unfolding listed passed
listed_append e [] b = refl
listed_append e (w ∷ a) b =
    let line : List ℕ = cond (is_listed e) (wrong_line w) [] in
    ap (λ (l : List ℕ). line ++ l) (listed_append (passed_one e) a b)
    ∙ sym (append_assoc line (listed (passed_one e) a) (listed (passed (passed_one e) a) b))

pub passed_append : (e : Excerpt) (a b : List Wrong) → passed e (a ++ b) ≡ passed (passed e a) b
unfolding passed
passed_append e [] b = refl
passed_append e (w ∷ a) b = passed_append (passed_one e) a b

listed_none : (e : Excerpt) → listed e [] ≡ []
unfolding listed
listed_none e = refl

passed_none : (e : Excerpt) → passed e [] ≡ e
unfolding passed
passed_none e = refl

listed_one : (e : Excerpt) (w : Wrong) → listed e (w ∷ []) ≡ cond (is_listed e) (wrong_line w) []
unfolding listed
listed_one e w = append-nil (cond (is_listed e) (wrong_line w) [])

passed_first : (e : Excerpt) (w : Wrong) → passed e (w ∷ []) ≡ passed_one e
unfolding passed
passed_first e w = refl

pub nothing : (before : Option (List ℕ)) (e : Excerpt) → IsListed before e [] before e
nothing before e = record {
  appended = subst (λ (l : List ℕ). IsAppended before l before) (sym (listed_none e)) (none before);
  all = sym (passed_none e);
}

pub one : (before after : Option (List ℕ)) (e next : Excerpt) (w : Wrong) → IsAppended before (cond (is_listed e) (wrong_line w) []) after → next ≡ passed_one e
    → IsListed before e (w ∷ []) after next
one before after e next w p q = record {
  appended = subst (λ (l : List ℕ). IsAppended before l after) (sym (listed_one e w)) p;
  all = q ∙ sym (passed_first e w);
}

-- one that is listed, and one that isn't
pub taken : (before after : Option (List ℕ)) (e next : Excerpt) (w : Wrong) → is_listed e ≡ true → IsAppended before (wrong_line w) after → next ≡ passed_one e
    → IsListed before e (w ∷ []) after next
taken before after e next w h p q =
    one before after e next w (subst (λ (b : Bool). IsAppended before (cond b (wrong_line w) []) after) (sym h) p) q

pub left : (before : Option (List ℕ)) (e next : Excerpt) (w : Wrong) → is_listed e ≡ false → next ≡ passed_one e → IsListed before e (w ∷ []) before next
left before e next w h q =
    one before before e next w (subst (λ (b : Bool). IsAppended before (cond b (wrong_line w) []) before) (sym h) (none before)) q

pub together : (before between after : Option (List ℕ)) (e f g : Excerpt) (a b : List Wrong) → IsListed before e a between f → IsListed between f b after g
    → IsListed before e (a ++ b) after g
together before between after e f g a b p q =
    let next : listed e a ++ listed f b ≡ listed e (a ++ b) =
    ap (λ (x : Excerpt). listed e a ++ listed x b) p.all ∙ sym (listed_append e a b) in
    record {
      appended = subst (λ (l : List ℕ). IsAppended before l after) next (both before between after (listed e a) (listed f b) p.appended q.appended);
      all = q.all ∙ ap (λ (x : Excerpt). passed x b) p.all ∙ sym (passed_append e a b);
    }

-- a loop's step
pub further : {X : Type 0} (f : X → List Wrong) (xs : List X) (i : ℕ) (d x : X) (before between after : Option (List ℕ)) (e g h : Excerpt) → i < length xs → x ≡ get_or xs i d
    → IsListed before e (flat_map f (take i xs)) between g → IsListed between g (f x) after h → IsListed before e (flat_map f (take (i + 1) xs)) after h
further f xs i d x before between after e g h within is p q =
    subst (λ (l : List Wrong). IsListed before e l after h) (sym (flat_map_more f xs i d x within is))
    (together before between after e g h (flat_map f (take i xs)) (f x) p q)

-- the same where it goes over numbers from 1 on
pub next : (f : ℕ → List Wrong) (n : ℕ) (before between after : Option (List ℕ)) (e g h : Excerpt) → 1 ≤ n
    → IsListed before e (flat_map f (up_to (n - 1))) between g → IsListed between g (f n) after h → IsListed before e (flat_map f (up_to (n + 1 - 1))) after h
next f n before between after e g h from p q =
    subst (λ (l : List Wrong). IsListed before e l after h) (sym (up_to_more f n from))
    (together before between after e g h (flat_map f (up_to (n - 1))) (f n) p q)

pub last : (f : ℕ → List Wrong) (n : ℕ) (before after : Option (List ℕ)) (e h : Excerpt) → 128 ≤ n → n ≤ 128
    → IsListed before e (flat_map f (up_to (n - 1))) after h → IsListed before e (flat_map f (up_to 127)) after h
last f n before after e h a b p =
    let end : n - 1 ≡ 127 = omega arith in
    subst (λ (m : ℕ). IsListed before e (flat_map f (up_to m)) after h) end p

-- the end of a loop over a list
pub ends : {X : Type 0} (f : X → List Wrong) (xs : List X) (i : ℕ) (before after : Option (List ℕ)) (e h : Excerpt) → length xs ≤ i
    → IsListed before e (flat_map f (take i xs)) after h → IsListed before e (flat_map f xs) after h
ends f xs i before after e h past p = subst (λ l. IsListed before e (flat_map f l) after h) (take_all i xs past) p

-- ---- the whole

-- how many are passed
pub passed_seen : (e : Excerpt) (ws : List Wrong) → e.seen ≤ most → (passed e ws).seen ≡ counted (e.seen + length ws)
unfolding passed
passed_seen e [] h = omega arith
passed_seen e (w ∷ ws) h =
    let rest : (passed (passed_one e) ws).seen ≡ counted (counted (e.seen + 1) + length ws) = passed_seen (passed_one e) ws (omega arith) in
    rest ∙ omega arith

pub passed_until : (e : Excerpt) (ws : List Wrong) → (passed e ws).until ≡ e.until
unfolding passed
passed_until e [] = refl
passed_until e (w ∷ ws) = passed_until (passed_one e) ws

abbrev at : ℕ → ℕ → ℕ → Excerpt
at seen from until = record { seen = seen; from = from; until = until }

test_true : (s f u : ℕ) → f ≤ s → s < u → (nat_le f s && nat_lt s u) ≡ true
test_true s f u a b = grind (arith, nat_tests)

test_before : (s f u : ℕ) → s < f → (nat_le f s && nat_lt s u) ≡ false
test_before s f u a = grind (arith, nat_tests)

test_after : (s f u : ℕ) → u ≤ s → (nat_le f s && nat_lt s u) ≡ false
test_after s f u a = grind (arith, nat_tests)

listed_step : (s f u n : ℕ) (b : Bool) (w : Wrong) (ws : List Wrong) → (nat_le f s && nat_lt s u) ≡ b → counted (s + 1) ≡ n
    → listed (at s f u) (w ∷ ws) ≡ cond b (wrong_line w) [] ++ listed (at n f u) ws
unfolding listed
listed_step s f u n b w ws p q =
    ap (λ (t : Bool). cond t (wrong_line w) [] ++ listed (at (counted (s + 1)) f u) ws) p
    ∙ ap (λ (m : ℕ). cond b (wrong_line w) [] ++ listed (at m f u) ws) q

lines_step : (k n : ℕ) (w : Wrong) (ws : List Wrong) → k ≡ suc n → flat_map wrong_line (take k (w ∷ ws)) ≡ wrong_line w ++ flat_map wrong_line (take n ws)
lines_step k n w ws p = ap (λ (m : ℕ). flat_map wrong_line (take m (w ∷ ws))) p

lines_none : (k : ℕ) (ws : List Wrong) → k ≡ 0 → flat_map wrong_line (take k ws) ≡ []
lines_none k ws p = ap (λ (m : ℕ). flat_map wrong_line (take m ws)) p

lines_nil : (k : ℕ) → flat_map wrong_line (take k []) ≡ []
lines_nil k = ap (flat_map wrong_line) (take_all k [] (omega arith))

-- from a place that is listed on
inside : (s f u : ℕ) (ws : List Wrong) → f ≤ s → f ≤ most → u ≤ most → listed (at s f u) ws ≡ flat_map wrong_line (take (u - s) ws)
inside s f u [] a b c = listed_none (at s f u) ∙ sym (lines_nil (u - s))
inside s f u (w ∷ ws) a b c =
    elim (cases_Bool (nat_lt s u)) [
      | inl lt ↦
          let below : s < u = grind (arith, nat_tests) in
          listed_step s f u (suc s) true w ws (test_true s f u a below) (omega arith)
          ∙ ap (λ (l : List ℕ). wrong_line w ++ l) (inside (suc s) f u ws (omega arith) b c) ∙ sym (lines_step (u - s) (u - suc s) w ws (omega arith))
      | inr ge ↦
          let above : u ≤ s = grind (arith, nat_tests) in
          listed_step s f u (counted (s + 1)) false w ws (test_after s f u above) refl
          ∙ inside (counted (s + 1)) f u ws (omega arith) b c ∙ lines_none (u - counted (s + 1)) ws (omega arith)
          ∙ sym (lines_none (u - s) (w ∷ ws) (omega arith))
    ]

-- from a place before them on
before_them : (s f u : ℕ) (ws : List Wrong) → s ≤ f → f ≤ most → u ≤ most → listed (at s f u) ws ≡ flat_map wrong_line (take (u - f) (drop (f - s) ws))
before_them s f u [] a b c =
    listed_none (at s f u) ∙ sym (lines_nil (u - f)) ∙ ap (λ (l : List Wrong). flat_map wrong_line (take (u - f) l)) (sym (drop_all (f - s) [] (omega arith)))
before_them s f u (w ∷ ws) a b c =
    elim (cases_Bool (nat_lt s f)) [
      | inl lt ↦
          let below : s < f = grind (arith, nat_tests) in
          let places : suc (f - suc s) ≡ f - s = omega arith in
          listed_step s f u (suc s) false w ws (test_before s f u below) (omega arith) ∙ before_them (suc s) f u ws (omega arith) b c
          ∙ ap (λ (m : ℕ). flat_map wrong_line (take (u - f) (drop m (w ∷ ws)))) places
      | inr ge ↦
          let same : s ≡ f = grind (arith, nat_tests) in
          let none : 0 ≡ f - s = omega arith in
          inside s f u (w ∷ ws) (omega arith) b c ∙ ap (λ (m : ℕ). flat_map wrong_line (take (u - m) (w ∷ ws))) same
          ∙ ap (λ (m : ℕ). flat_map wrong_line (take (u - f) (drop m (w ∷ ws)))) none
    ]

-- those between the places of an excerpt
pub listed_between : (f u : ℕ) (ws : List Wrong) → f ≤ most → u ≤ most → listed (record { seen = 0; from = f; until = u }) ws ≡ flat_map wrong_line (take (u - f) (drop f ws))
listed_between f u ws b c =
    let places : f - 0 ≡ f = omega arith in
    before_them 0 f u ws (omega arith) b c ∙ ap (λ (m : ℕ). flat_map wrong_line (take (u - f) (drop m ws))) places

pub count_passed : (f u : ℕ) (ws : List Wrong) (next : Excerpt) → next ≡ passed (record { seen = 0; from = f; until = u }) ws → next.seen ≡ counted (length ws)
count_passed f u ws next p =
    let all : 0 + length ws ≡ length ws = omega arith in
    ap (λ (x : Excerpt). x.seen) p ∙ passed_seen (at 0 f u) ws (omega arith) ∙ ap counted all

-- the lines of a kind
pub kind_written : (before between after : Option (List ℕ)) (f u : ℕ) (kind : Kind) (ws : List Wrong) (next : Excerpt) → f ≤ most → u ≤ most
    → IsListed before (record { seen = 0; from = f; until = u }) ws between next → IsAppended between (if_any (further_words kind) (next.seen - next.until)) after
    → IsAppended before (kind_lines f u kind ws) after
unfolding kind_lines
kind_written before between after f u kind ws next b c p q =
    let lines : List ℕ = flat_map wrong_line (take (u - f) (drop f ws)) in
    let until : next.until ≡ u = ap (λ (x : Excerpt). x.until) p.all ∙ passed_until (at 0 f u) ws in
    let left : next.seen - next.until ≡ counted (length ws) - u =
    ap (λ (n : ℕ). n - next.until) (count_passed f u ws next p.all) ∙ ap (λ (n : ℕ). counted (length ws) - n) until in
    both before between after lines (if_any (further_words kind) (counted (length ws) - u))
    (subst (λ (l : List ℕ). IsAppended before l between) (listed_between f u ws b c) p.appended)
    (subst (λ (n : ℕ). IsAppended between (if_any (further_words kind) n) after) left q)

-- a count of one kind more
pub count_more : {X : Type 0} (f : X → List Wrong) (xs : List X) (i : ℕ) (d x : X) (count more next : ℕ) → i < length xs → x ≡ get_or xs i d
    → count ≡ counted (length (flat_map f (take i xs))) → more ≡ counted (length (f x)) → next ≡ min (count + more) most → next ≡ counted (length (flat_map f (take (i + 1) xs)))
count_more f xs i d x count more next within is p q r =
    let all : length (flat_map f (take (i + 1) xs)) ≡ length (flat_map f (take i xs)) + length (f x) =
    ap length (flat_map_more f xs i d x within is) ∙ length-append (flat_map f (take i xs)) (f x) in
    omega arith

pub count_all : {X : Type 0} (f : X → List Wrong) (xs : List X) (i count : ℕ) → length xs ≤ i → count ≡ counted (length (flat_map f (take i xs))) → count ≡ counted (length (flat_map f xs))
count_all f xs i count past p = p ∙ ap (λ l. counted (length (flat_map f l))) (take_all i xs past)

-- Runs of bytes at the front of a text.
use Rattle.std.proofs.Common.{◌≡◌, ℕ, suc, ◌+◌, Bool, true, ◌&&◌, List, [], ◌∷◌, ◌++◌, length, take, drop, Option, Some, None, IfSome, leb, refl, sym, ap, ◌∙◌, arith, take-append-drop}
use Rattle.std.proofs.lemmas.List.Folds.{length-prefix_len}
use Rattle.std.proofs.lemmas.Bool.{and_parts}
use Rattle.std.proofs.lemmas.Bool.Decides.{nat_tests}
use Rattle.std.specs.List.{prefix_len, list_all}
use Rattle.co_text.proofs.Tests.{by_test, guarded}
use Rattle.conode_trace.specs.FrameLines.{past_run}
use Rattle.conode_trace.specs.Grammar.{IsRun}

-- what holds of each value that there may be
pub if_some : {A : Type 0} {P : A → Type 0} (o : Option A) → ((x : A) → o ≡ Some x → P x) → IfSome o P
if_some None each = tt
if_some (Some x) each = each x refl

-- the bytes at the front pass
pub list_all-prefix : (p : ℕ → Bool) (text : List ℕ) → list_all p (take (prefix_len p text) text) ≡ true
list_all-prefix p [] = refl
list_all-prefix p (x ∷ xs) =
    let next : 1 + prefix_len p xs ≡ suc (prefix_len p xs) = omega arith in
    by_test (p x) (λ e. rw (e, next, e) (list_all-prefix p xs)) (λ e. rw e refl)

-- no byte more at the front passes than those of a run
pub prefix_len-run : (p : ℕ → Bool) (run rest : List ℕ) → list_all p run ≡ true → prefix_len p rest ≡ 0 → prefix_len p (run ++ rest) ≡ length run
prefix_len-run p [] rest h e = e
prefix_len-run p (x ∷ xs) rest h e =
    let parts = and_parts (p x) (list_all p xs) h in
    let more = prefix_len-run p xs rest parts.1 e in
    rw parts.0 (omega (arith, more))

pub drop-run : (run rest : List ℕ) → drop (length run) (run ++ rest) ≡ rest
drop-run [] rest = refl
drop-run (x ∷ xs) rest = drop-run xs rest

pub take-run : (run rest : List ℕ) → take (length run) (run ++ rest) ≡ run
take-run [] rest = refl
take-run (x ∷ xs) rest = ap (λ (ys : List ℕ). x ∷ ys) (take-run xs rest)

-- a run is passed
pub past_run-is : (p : ℕ → Bool) (least most : ℕ) (run rest : List ℕ) → IsRun p least most run → prefix_len p rest ≡ 0 → past_run p least most (run ++ rest) ≡ Some rest
past_run-is p least most run rest h e =
    let enough : leb least (length run) ≡ true = grind (arith, nat_tests, h.enough) in
    let few : leb (length run) most ≡ true = grind (arith, nat_tests, h.few) in
    rw (prefix_len-run p run rest h.all e, enough, few, drop-run run rest) refl

-- the bytes at the front, where they are from least to most, are a run
pub front_run : (p : ℕ → Bool) (least most : ℕ) (text : List ℕ) → (leb least (prefix_len p text) && leb (prefix_len p text) most) ≡ true → IsRun p least most (take (prefix_len p text) text)
front_run p least most text e =
    let parts = and_parts (leb least (prefix_len p text)) (leb (prefix_len p text) most) e in
    let n = length-prefix_len p text in
    record {
      all = list_all-prefix p text;
      enough = rw n (grind (arith, nat_tests, parts.0));
      few = rw n (grind (arith, nat_tests, parts.1));
    }

-- what is passed is a run
pub run_passed : (p : ℕ → Bool) (least most : ℕ) (text rest : List ℕ) → past_run p least most text ≡ Some rest → (run : List ℕ) × IsRun p least most run × (text ≡ run ++ rest)
run_passed p least most text rest e =
    let g = guarded (leb least (prefix_len p text) && leb (prefix_len p text) most) (drop (prefix_len p text) text) rest e in
    (take (prefix_len p text) text, front_run p least most text g.0, sym (take-append-drop (prefix_len p text) text) ∙ ap (λ (ys : List ℕ). take (prefix_len p text) text ++ ys) g.1)

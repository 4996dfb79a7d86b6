-- What follows the number sign: what reading finds there is spelled, and what is spelled it finds.
use Rattle.std.proofs.Common.{◌≡◌, ℕ, ◌+◌, ◌-◌, ◌<◌, ◌≤◌, Bool, true, false, cond, ◌&&◌, ◌||◌, ◌⊎◌, inl, inr, List, [], ◌∷◌, ◌++◌, length, take, drop, get_or, Option, Some, None, eqb, leb, ltb, refl, ap, subst, lit<, ◌∙◌, arith, length-append}
use Rattle.std.proofs.lemmas.Bool.{eqb-true}
use Rattle.std.proofs.lemmas.Bool.Decides.{nat_tests}
use Rattle.std.proofs.lemmas.Option.{option_and_then_some}
use Rattle.std.proofs.lemmas.List.{length-take-le, length-drop}
use Rattle.std.specs.List.{list_all}
use Rattle.std.specs.Option.{option_map_or}
use Rattle.conode_trace.specs.declared.frame_fields.Body.{Body}
use Rattle.conode_trace.specs.declared.frame_fields.Body.TheVariants.{Bytes, Other}
use Rattle.co_text.specs.Texts.{◌>>=◌, is_blank, is_digit, hex_digit, hex_pair}
use Rattle.co_text.specs.HexPairs.{pairs_at}
use Rattle.conode_trace.specs.FrameLines.{few_pairs_at, is_mark, is_ending, past_digit, body_in}
use Rattle.conode_trace.specs.Grammar.{IsRun, SpellsPairs, IsEnding, SpellsBody}
use Rattle.std.proofs.lemmas.Bool.{and_parts}
use Rattle.co_text.proofs.Tests.{by_test, guarded}
use Rattle.conode_trace.proofs.GrammarRuns.{take-run}

or_right : (a b : Bool) → b ≡ true → (a || b) ≡ true
or_right true b e = refl
or_right false b e = e

-- ---- pairs of digits

pub pairs_are : (bytes digits rest : List ℕ) → SpellsPairs bytes digits → pairs_at rest ≡ ([], rest) → pairs_at (digits ++ rest) ≡ (bytes, rest)
pairs_are [] [] rest h e = e
pairs_are [] (digit ∷ digits) rest h e = absurd h
pairs_are (byte ∷ bytes) [] rest h e = absurd h
pairs_are (byte ∷ bytes) (high ∷ []) rest h e = absurd h
pairs_are (byte ∷ bytes) (high ∷ low ∷ digits) rest h e = rw (h.0, pairs_are bytes digits rest h.1 e) refl

-- pairs that were found, and the rest
abbrev ArePairs : List ℕ → List ℕ × List ℕ → Type 0
ArePairs text found = (digits : List ℕ) × SpellsPairs found.0 digits × (text ≡ digits ++ found.1)

one_more : (high low : ℕ) (text : List ℕ) (o : Option ℕ) → hex_pair high low ≡ o → ArePairs text (pairs_at text) → ArePairs (high ∷ low ∷ text) (option_map_or (λ byte. (byte ∷ (pairs_at text).0, (pairs_at text).1)) o ([], high ∷ low ∷ text))
one_more high low text None e rest = ([], tt, refl)
one_more high low text (Some byte) e rest = (high ∷ low ∷ rest.0, (e, rest.1), ap (λ (ys : List ℕ). high ∷ low ∷ ys) rest.2)

pub pairs_spelled : (text : List ℕ) → ArePairs text (pairs_at text)
pairs_spelled [] = ([], tt, refl)
pairs_spelled (high ∷ []) = ([], tt, refl)
pairs_spelled (high ∷ low ∷ text) = one_more high low text (hex_pair high low) refl (pairs_spelled text)

-- ---- the ending

length-one_more : (text : List ℕ) (byte : ℕ) → length (text ++ byte ∷ []) - 1 ≡ length text
length-one_more text byte = simp length-append (omega arith)

get_or-one_more : (text : List ℕ) (byte : ℕ) → get_or (text ++ byte ∷ []) (length text) 0 ≡ byte
get_or-one_more [] byte = refl
get_or-one_more (x ∷ xs) byte = get_or-one_more xs byte

mark_tested : (mark : ℕ) → (mark ≡ 82) ⊎ (mark ≡ 84) → is_mark mark ≡ true
mark_tested mark (inl e) = rw e refl
mark_tested mark (inr e) = rw e refl

pub ending_is : (text : List ℕ) → IsEnding text → is_ending text ≡ true
ending_is text (inl e) = rw e refl
ending_is text (inr (blanks, mark, run, marked, joined)) =
    let some : ltb 0 (length blanks) ≡ true = grind (arith, nat_tests, run.enough) in
    rw joined (or_right (eqb (length (blanks ++ mark ∷ [])) 0) _
    (rw (length-one_more blanks mark, get_or-one_more blanks mark, take-run blanks (mark ∷ []), some, mark_tested mark marked, run.all) refl))

-- a text that isn't empty has a last byte
last_split : (x : ℕ) (xs : List ℕ) → x ∷ xs ≡ take (length xs) (x ∷ xs) ++ get_or (x ∷ xs) (length xs) 0 ∷ []
last_split x [] = refl
last_split x (y ∷ ys) = ap (λ (zs : List ℕ). x ∷ zs) (last_split y ys)

is_marked : (mark : ℕ) → is_mark mark ≡ true → (mark ≡ 82) ⊎ (mark ≡ 84)
is_marked mark e = by_test (eqb mark 82) (λ first. inl (eqb-true mark 82 first)) (λ other. inr (eqb-true mark 84 (rw other at e)))

pub ending_spelled : (text : List ℕ) → length text ≤ 512 → is_ending text ≡ true → IsEnding text
ending_spelled [] few e = inl refl
ending_spelled (x ∷ xs) few e =
    let last : length (x ∷ xs) - 1 ≡ length xs = omega arith in
    let some : eqb (length (x ∷ xs)) 0 ≡ false = grind (arith, nat_tests) in
    let tests : (ltb 0 (length xs) && (is_mark (get_or (x ∷ xs) (length xs) 0) && list_all is_blank (take (length xs) (x ∷ xs)))) ≡ true = rw (last, some) at e in
    let first = and_parts (ltb 0 (length xs)) (is_mark (get_or (x ∷ xs) (length xs) 0) && list_all is_blank (take (length xs) (x ∷ xs))) tests in
    let second = and_parts (is_mark (get_or (x ∷ xs) (length xs) 0)) (list_all is_blank (take (length xs) (x ∷ xs))) first.1 in
    let long : 0 < length xs = grind (arith, nat_tests, first.0) in
    let n = length-take-le (length xs) (x ∷ xs) (omega arith) in
    let run : IsRun is_blank 1 512 (take (length xs) (x ∷ xs)) = record { all = second.1; enough = omega arith; few = omega arith } in
    inr (take (length xs) (x ∷ xs), get_or (x ∷ xs) (length xs) 0, run, is_marked (get_or (x ∷ xs) (length xs) 0) second.0, last_split x xs)

-- a blank is no hexadecimal digit
pub blank_digit : (byte : ℕ) → is_blank byte ≡ true → hex_digit byte ≡ None
blank_digit byte e = by_test (eqb byte 32) (λ space. rw (eqb-true byte 32 space) refl) (λ other. rw (eqb-true byte 9 (rw other at e)) refl)

-- an ending begins with no digit, no number sign and no `R`
no_pair : (text : List ℕ) → IsEnding text → pairs_at text ≡ ([], text)
no_pair text (inl e) = rw e refl
no_pair text (inr ([], mark, run, marked, joined)) = absurd (omega (arith, run.enough))
no_pair text (inr (blank ∷ [], mark, run, marked, joined)) = rw (joined, blank_digit blank (and_parts (is_blank blank) true run.all).0) refl
no_pair text (inr (blank ∷ other ∷ blanks, mark, run, marked, joined)) = rw (joined, blank_digit blank (and_parts (is_blank blank) (list_all is_blank (other ∷ blanks)) run.all).0) refl

-- the first byte after the number sign of a data frame is no number sign and no `R`
abbrev IsDataFirst : ℕ → Type 0
IsDataFirst byte = (eqb byte 35 ≡ false) × (eqb byte 82 ≡ false)

blank_first : (byte : ℕ) → is_blank byte ≡ true → IsDataFirst byte
blank_first byte e = by_test (eqb byte 32) (λ space. rw (eqb-true byte 32 space) (refl, refl)) (λ other. rw (eqb-true byte 9 (rw other at e)) (refl, refl))

ending_first : (text : List ℕ) → IsEnding text → IsDataFirst (get_or text 0 0)
ending_first text (inl e) = rw e (refl, refl)
ending_first text (inr ([], mark, run, marked, joined)) = absurd (omega (arith, run.enough))
ending_first text (inr (blank ∷ blanks, mark, run, marked, joined)) = rw joined (blank_first blank (and_parts (is_blank blank) (list_all is_blank blanks) run.all).0)

pair_first : (high low byte : ℕ) → hex_pair high low ≡ Some byte → IsDataFirst high
pair_first high low byte e = (
  by_test (eqb high 35) (λ sign. let none : None ≡ Some byte = rw (eqb-true high 35 sign) at e in cc) (λ other. other),
  by_test (eqb high 82) (λ sign. let none : None ≡ Some byte = rw (eqb-true high 82 sign) at e in cc) (λ other. other),
)

data_first : (bytes digits ending : List ℕ) → SpellsPairs bytes digits → IsEnding ending → IsDataFirst (get_or (digits ++ ending) 0 0)
data_first [] [] ending h e = ending_first ending e
data_first [] (digit ∷ digits) ending h e = absurd h
data_first (byte ∷ bytes) [] ending h e = absurd h
data_first (byte ∷ bytes) (high ∷ []) ending h e = absurd h
data_first (byte ∷ bytes) (high ∷ low ∷ digits) ending h e = pair_first high low byte h.0

-- ---- what follows the number sign

data_is : (bytes digits ending : List ℕ) → SpellsPairs bytes digits → length bytes ≤ 8 → IsEnding ending → body_in (digits ++ ending) ≡ Some (Bytes bytes)
unfolding body_in
data_is bytes digits ending h few e =
    let first = data_first bytes digits ending h e in
    let small : leb (length bytes) 8 ≡ true = grind (arith, nat_tests) in
    rw (first.0, first.1, pairs_are bytes digits ending h (no_pair ending e), small, ending_is ending e) refl

no_digit : (text : List ℕ) → IsEnding text → is_digit (get_or text 0 0) ≡ false
no_digit text (inl e) = rw e refl
no_digit text (inr ([], mark, run, marked, joined)) = absurd (omega (arith, run.enough))
no_digit text (inr (blank ∷ blanks, mark, run, marked, joined)) =
    let test = (and_parts (is_blank blank) (list_all is_blank blanks) run.all).0 in
    rw joined (by_test (eqb blank 32) (λ space. rw (eqb-true blank 32 space) refl) (λ other. rw (eqb-true blank 9 (rw other at test)) refl))

digit_passed : (digit ending : List ℕ) → IsRun is_digit 0 1 digit → IsEnding ending → past_digit (digit ++ ending) ≡ ending
digit_passed [] ending h e = rw (no_digit ending e) refl
digit_passed (d ∷ []) ending h e = rw (and_parts (is_digit d) true h.all).0 refl
digit_passed (d ∷ c ∷ more) ending h e = absurd (omega (arith, h.few))

remote_is : (digit ending : List ℕ) → IsRun is_digit 0 1 digit → IsEnding ending → body_in (82 ∷ (digit ++ ending)) ≡ Some Other
unfolding body_in
remote_is digit ending h e = rw (digit_passed digit ending h e, ending_is ending e) refl

can_fd_is : (rest : List ℕ) → body_in (35 ∷ rest) ≡ Some Other
unfolding body_in
can_fd_is rest = refl

pub body_is : (body : Body) (text : List ℕ) → SpellsBody body text → body_in text ≡ Some body
body_is (Bytes bytes) text h = ap body_in h.joined ∙ data_is bytes h.digits h.ending h.pairs h.few h.ends
body_is Other text (inl h) = ap body_in h.joined ∙ remote_is h.digit h.ending h.digit_run h.ends
body_is Other text (inr (rest, joined)) = ap body_in joined ∙ can_fd_is rest

-- a byte in front that is not 0
front_byte : (wanted : ℕ) (text : List ℕ) → 0 < wanted → eqb (get_or text 0 0) wanted ≡ true → text ≡ wanted ∷ drop 1 text
front_byte wanted [] some e = let none = eqb-true 0 wanted e in absurd (omega arith)
front_byte wanted (byte ∷ text) some e = ap (λ (b : ℕ). b ∷ text) (eqb-true byte wanted e)

digit_split : (text : List ℕ) → (digit : List ℕ) × IsRun is_digit 0 1 digit × (text ≡ digit ++ past_digit text)
digit_split [] = ([], record { all = refl; enough = omega arith; few = omega arith }, refl)
digit_split (x ∷ xs) = by_test (is_digit x)
    (λ e. (x ∷ [], record { all = rw e refl; enough = omega arith; few = omega arith }, rw e refl))
    (λ e. ([], record { all = refl; enough = omega arith; few = omega arith }, rw e refl))

length-past_digit : (text : List ℕ) → length (past_digit text) ≤ length text
length-past_digit [] = omega arith
length-past_digit (x ∷ xs) = by_test (is_digit x) (λ e. rw e (omega arith)) (λ e. rw e (omega arith))

can_fd_spelled : (text : List ℕ) (body : Body) → eqb (get_or text 0 0) 35 ≡ true → Other ≡ body → SpellsBody body text
can_fd_spelled text body sign e =
    let result : SpellsBody Other text = inr (drop 1 text, front_byte 35 text (lit< tt) sign) in
    subst (λ (b : Body). SpellsBody b text) e result

remote_spelled : (text : List ℕ) (body : Body) → length text ≤ 512 → eqb (get_or text 0 0) 82 ≡ true → cond (is_ending (past_digit (drop 1 text))) (Some Other) None ≡ Some body → SpellsBody body text
remote_spelled text body few mark e =
    let g = guarded (is_ending (past_digit (drop 1 text))) Other body e in
    let split = digit_split (drop 1 text) in
    let shorter = length-past_digit (drop 1 text) in
    let ends = ending_spelled (past_digit (drop 1 text)) (omega (arith, length-drop 1 text, shorter)) g.0 in
    let joined : text ≡ 82 ∷ (split.0 ++ past_digit (drop 1 text)) = front_byte 82 text (lit< tt) mark ∙ ap (λ (ys : List ℕ). 82 ∷ ys) split.2 in
    let result : SpellsBody Other text = inl (record { digit = split.0; ending = past_digit (drop 1 text); digit_run = split.1; ends = ends; joined = joined }) in
    subst (λ (b : Body). SpellsBody b text) g.1 result

data_spelled : (text : List ℕ) (body : Body) → length text ≤ 512 → (few_pairs_at text >>= λ pairs. cond (is_ending pairs.1) (Some (Bytes pairs.0)) None) ≡ Some body → SpellsBody body text
data_spelled text body few e =
    option_and_then_some (λ (pairs : List ℕ × List ℕ). cond (is_ending pairs.1) (Some (Bytes pairs.0)) None) (few_pairs_at text) body e (λ pairs found ended.
    let g = guarded (leb (length (pairs_at text).0) 8) (pairs_at text) pairs found in
    let k = guarded (is_ending pairs.1) (Bytes pairs.0) body ended in
    let small : length (pairs_at text).0 ≤ 8 = grind (arith, nat_tests, g.0) in
    let small' : length pairs.0 ≤ 8 = subst (λ (p : List ℕ × List ℕ). length p.0 ≤ 8) g.1 small in
    let d = subst (λ (p : List ℕ × List ℕ). ArePairs text p) g.1 (pairs_spelled text) in
    let size : length text ≡ length d.0 + length pairs.1 = ap length d.2 ∙ length-append d.0 pairs.1 in
    let ends = ending_spelled pairs.1 (omega arith) k.0 in
    let result : SpellsBody (Bytes pairs.0) text = record { digits = d.0; ending = pairs.1; pairs = d.1; few = small'; ends = ends; joined = d.2 } in
    subst (λ (b : Body). SpellsBody b text) k.1 result)

pub body_spelled : (text : List ℕ) (body : Body) → length text ≤ 512 → body_in text ≡ Some body → SpellsBody body text
unfolding body_in
body_spelled text body few e = by_test (eqb (get_or text 0 0) 35)
    (λ sign. let found : Some Other ≡ Some body = rw sign at e in can_fd_spelled text body sign cc)
    (λ other. by_test (eqb (get_or text 0 0) 82)
    (λ mark. remote_spelled text body few mark (rw (other, mark) at e))
    (λ neither. data_spelled text body few (rw (other, neither) at e)))

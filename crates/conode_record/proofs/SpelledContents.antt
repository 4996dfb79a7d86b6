-- What follows the number sign: what reading finds there is spelled, and what is spelled it finds.
use Rattle.std.proofs.Common.{◌≡◌, ℕ, ◌+◌, ◌-◌, ◌<◌, ◌≤◌, true, false, ◌&&◌, List, [], ◌∷◌, ◌++◌, length, take, drop, get_or, Option, Some, None, Result, Ok, Err, eqb, leb, ltb, refl, sym, ap, subst, lit<, ◌∙◌, arith, length-append}
use Rattle.std.proofs.lemmas.Bool.{eqb-true, and_parts}
use Rattle.std.proofs.lemmas.Bool.Decides.{nat_tests}
use Rattle.std.proofs.lemmas.List.{length-take-le}
use Rattle.std.specs.List.{list_all}
use Rattle.conode_record.specs.declared.bad_line.BadLine.{BadLine}
use Rattle.conode_record.specs.declared.bad_line.BadLine.TheVariants as bad
use Rattle.conode_record.specs.declared.content.Content.{Content}
use Rattle.conode_record.specs.declared.content.Content.TheVariants.{Data, Remote, Fd}
use Rattle.conode_record.specs.declared.content.Direction.{Direction}
use Rattle.conode_record.specs.declared.content.Direction.TheVariants.{Received, Sent}
use Rattle.co_text.specs.Texts.{is_blank, is_digit, hex_digit, hex_pair}
use Rattle.co_text.specs.HexPairs.{pairs_at}
use Rattle.co_text.proofs.Tests.{by_test, guarded}
use Rattle.conode_trace.specs.FrameLines.{is_mark}
use Rattle.conode_trace.specs.Grammar.{SpellsPairs}
use Rattle.conode_trace.proofs.GrammarRuns.{take-run}
use Rattle.conode_trace.proofs.GrammarBodies.{pairs_are, pairs_spelled, blank_digit}
use Rattle.conode_record.specs.Contents.{need, and_then, direction_of, is_marked, ending_in, few_pairs, bytes_in, data_in, fd_in, length_at, remote_in, content_in}
use Rattle.conode_record.specs.Grammar.{AreBlanks, mark_of, SpellsEnding, SpellsBytes, SpellsLength, SpellsRemote, SpellsFd, SpellsContent}

-- ---- parts that are there

-- what came of a part came of one that is there
pub needed : {A B P : Type 0} (wrong : BadLine) (f : A → Result B BadLine) (o : Option A) (y : B) → need wrong o f ≡ Ok y → ((x : A) → o ≡ Some x → f x ≡ Ok y → P) → P
needed wrong f None y e go = absurd cc
needed wrong f (Some x) y e go = go x refl e

pub and_then_ok : {A B P : Type 0} (f : A → Result B BadLine) (r : Result A BadLine) (y : B) → and_then r f ≡ Ok y → ((x : A) → r ≡ Ok x → f x ≡ Ok y → P) → P
and_then_ok f (Err wrong) y e go = absurd cc
and_then_ok f (Ok x) y e go = go x refl e

-- ---- the ending

length-one_more : (text : List ℕ) (byte : ℕ) → length (text ++ byte ∷ []) - 1 ≡ length text
length-one_more text byte = simp length-append (omega arith)

get_or-one_more : (text : List ℕ) (byte : ℕ) → get_or (text ++ byte ∷ []) (length text) 0 ≡ byte
get_or-one_more [] byte = refl
get_or-one_more (x ∷ xs) byte = get_or-one_more xs byte

mark_tested : (direction : Direction) → is_mark (mark_of direction) ≡ true
mark_tested Received = refl
mark_tested Sent = refl

direction_back : (direction : Direction) → direction_of (mark_of direction) ≡ direction
direction_back Received = refl
direction_back Sent = refl

marked_is : (direction : Direction) (blanks : List ℕ) → AreBlanks blanks → is_marked (blanks ++ mark_of direction ∷ []) ≡ true
marked_is direction blanks h =
    let some : ltb 0 (length blanks) ≡ true = grind (arith, nat_tests, h.some) in
    rw (length-one_more blanks (mark_of direction), get_or-one_more blanks (mark_of direction), take-run blanks (mark_of direction ∷ []), some, mark_tested direction, h.all) refl

-- the first of blanks
first_blank : (blanks rest : List ℕ) → AreBlanks blanks → is_blank (get_or (blanks ++ rest) 0 0) ≡ true
first_blank [] rest h = absurd (omega (arith, h.some))
first_blank (x ∷ xs) rest h = (and_parts (is_blank x) (list_all is_blank xs) h.all).0

pub ending_is : (direction : Option Direction) (text : List ℕ) → SpellsEnding direction text → ending_in text ≡ Ok direction
ending_is None text e = rw e refl
ending_is (Some direction) text (blanks, h, e) =
    let some : eqb (length (blanks ++ mark_of direction ∷ [])) 0 ≡ false = grind (arith, nat_tests, length-append blanks (mark_of direction ∷ [])) in
    rw (e, some, first_blank blanks (mark_of direction ∷ []) h, marked_is direction blanks h, length-one_more blanks (mark_of direction), get_or-one_more blanks (mark_of direction), direction_back direction) refl

-- a text that isn't empty has a last byte
last_split : (x : ℕ) (xs : List ℕ) → x ∷ xs ≡ take (length xs) (x ∷ xs) ++ get_or (x ∷ xs) (length xs) 0 ∷ []
last_split x [] = refl
last_split x (y ∷ ys) = ap (λ (zs : List ℕ). x ∷ zs) (last_split y ys)

mark_back : (mark : ℕ) → is_mark mark ≡ true → mark ≡ mark_of (direction_of mark)
mark_back mark e = by_test (eqb mark 82)
    (λ first. rw (first) (eqb-true mark 82 first))
    (λ other. rw (other) (eqb-true mark 84 (rw other at e)))

last_spelled : (x : ℕ) (xs : List ℕ) → is_marked (x ∷ xs) ≡ true → SpellsEnding (Some (direction_of (get_or (x ∷ xs) (length xs) 0))) (x ∷ xs)
last_spelled x xs e =
    let last : length (x ∷ xs) - 1 ≡ length xs = omega arith in
    let tests : (ltb 0 (length xs) && (is_mark (get_or (x ∷ xs) (length xs) 0) && list_all is_blank (take (length xs) (x ∷ xs)))) ≡ true = rw last at e in
    let first = and_parts (ltb 0 (length xs)) (is_mark (get_or (x ∷ xs) (length xs) 0) && list_all is_blank (take (length xs) (x ∷ xs))) tests in
    let second = and_parts (is_mark (get_or (x ∷ xs) (length xs) 0)) (list_all is_blank (take (length xs) (x ∷ xs))) first.1 in
    let long : 0 < length xs = grind (arith, nat_tests, first.0) in
    let n = length-take-le (length xs) (x ∷ xs) (omega arith) in
    let run : AreBlanks (take (length xs) (x ∷ xs)) = record { all = second.1; some = omega arith } in
    (take (length xs) (x ∷ xs), run, last_split x xs ∙ ap (λ (mark : ℕ). take (length xs) (x ∷ xs) ++ mark ∷ []) (mark_back (get_or (x ∷ xs) (length xs) 0) second.0))

pub ending_spelled : (text : List ℕ) (direction : Option Direction) → ending_in text ≡ Ok direction → SpellsEnding direction text
ending_spelled [] direction e =
    let none : None ≡ direction = cc in
    subst (λ (d : Option Direction). SpellsEnding d []) none refl
ending_spelled (x ∷ xs) direction e =
    let last : length (x ∷ xs) - 1 ≡ length xs = omega arith in
    let some : eqb (length (x ∷ xs)) 0 ≡ false = grind (arith, nat_tests) in
    by_test (is_blank x)
    (λ blank. by_test (is_marked (x ∷ xs))
    (λ marked.
    let same : ◌≡◌ {A = Result (Option Direction) BadLine} (Ok (Some (direction_of (get_or (x ∷ xs) (length xs) 0)))) (Ok direction) = rw (some, blank, marked, last) at e in
    let is : Some (direction_of (get_or (x ∷ xs) (length xs) 0)) ≡ direction = cc in
    subst (λ (d : Option Direction). SpellsEnding d (x ∷ xs)) is (last_spelled x xs marked))
    (λ other. let no : ◌≡◌ {A = Result (Option Direction) BadLine} (Err bad.Ending) (Ok direction) = rw (some, blank, other) at e in absurd cc))
    (λ other. let no : ◌≡◌ {A = Result (Option Direction) BadLine} (Err bad.Data) (Ok direction) = rw (some, other) at e in absurd cc)

-- an ending begins with no digit, no number sign and no `R`
no_pair : (direction : Option Direction) (text : List ℕ) → SpellsEnding direction text → pairs_at text ≡ ([], text)
no_pair None text e = rw e refl
no_pair (Some direction) text ([], h, e) = absurd (omega (arith, h.some))
no_pair (Some direction) text (blank ∷ [], h, e) = rw (e, blank_digit blank (and_parts (is_blank blank) true h.all).0) refl
no_pair (Some direction) text (blank ∷ other ∷ blanks, h, e) = rw (e, blank_digit blank (and_parts (is_blank blank) (list_all is_blank (other ∷ blanks)) h.all).0) refl

-- ---- bytes and an ending

pub bytes_are : (most : ℕ) (bytes : List ℕ) (direction : Option Direction) (text : List ℕ) → SpellsBytes most bytes direction text → bytes_in most text ≡ Ok (bytes, direction)
bytes_are most bytes direction text h =
    let few : leb (length bytes) most ≡ true = grind (arith, nat_tests, h.few) in
    rw (h.joined, pairs_are bytes h.digits h.ending h.pairs (no_pair direction h.ending h.ends), few, ending_is direction h.ending h.ends) refl

pub bytes_spelled : (most : ℕ) (text : List ℕ) (x : List ℕ × Option Direction) → bytes_in most text ≡ Ok x → SpellsBytes most x.0 x.1 text
bytes_spelled most text x e =
    needed bad.TooManyBytes _ (few_pairs most text) x e (λ pairs found f.
    and_then_ok _ (ending_in pairs.1) x f (λ direction ended g.
    let k = guarded (leb (length (pairs_at text).0) most) (pairs_at text) pairs found in
    let few : length (pairs_at text).0 ≤ most = grind (arith, nat_tests, k.0) in
    let d = pairs_spelled text in
    let same : (pairs.0, direction) ≡ x = cc in
    let result : SpellsBytes most pairs.0 direction text =
    subst (λ (p : List ℕ × List ℕ). SpellsEnding direction p.1 → SpellsBytes most p.0 direction text) k.1
    (λ (ends : SpellsEnding direction (pairs_at text).1). record { digits = d.0; ending = (pairs_at text).1; pairs = d.1; few = few; ends = ends; joined = d.2 })
    (ending_spelled pairs.1 direction ended) in
    subst (λ (y : List ℕ × Option Direction). SpellsBytes most y.0 y.1 text) same result))

-- the first byte after the number sign of a data frame is no number sign and no `R`
abbrev IsDataFirst : ℕ → Type 0
IsDataFirst byte = (eqb byte 35 ≡ false) × (eqb byte 82 ≡ false)

blank_first : (byte : ℕ) → is_blank byte ≡ true → IsDataFirst byte
blank_first byte e = by_test (eqb byte 32) (λ space. rw (eqb-true byte 32 space) (refl, refl)) (λ other. rw (eqb-true byte 9 (rw other at e)) (refl, refl))

ending_first : (direction : Option Direction) (text : List ℕ) → SpellsEnding direction text → IsDataFirst (get_or text 0 0)
ending_first None text e = rw e (refl, refl)
ending_first (Some direction) text (blanks, h, e) = rw e (blank_first (get_or (blanks ++ mark_of direction ∷ []) 0 0) (first_blank blanks (mark_of direction ∷ []) h))

pair_first : (high low byte : ℕ) → hex_pair high low ≡ Some byte → IsDataFirst high
pair_first high low byte e = (
  by_test (eqb high 35) (λ sign. let none : None ≡ Some byte = rw (eqb-true high 35 sign) at e in cc) (λ other. other),
  by_test (eqb high 82) (λ sign. let none : None ≡ Some byte = rw (eqb-true high 82 sign) at e in cc) (λ other. other),
)

data_first : (direction : Option Direction) (bytes digits ending : List ℕ) → SpellsPairs bytes digits → SpellsEnding direction ending → IsDataFirst (get_or (digits ++ ending) 0 0)
data_first direction [] [] ending h e = ending_first direction ending e
data_first direction [] (digit ∷ digits) ending h e = absurd h
data_first direction (byte ∷ bytes) [] ending h e = absurd h
data_first direction (byte ∷ bytes) (high ∷ []) ending h e = absurd h
data_first direction (byte ∷ bytes) (high ∷ low ∷ digits) ending h e = pair_first high low byte h.0

-- ---- what is spelled is read

data_is : (bytes : List ℕ) (direction : Option Direction) (text : List ℕ) → SpellsBytes 8 bytes direction text → content_in text ≡ Ok (Data bytes, direction)
unfolding content_in
data_is bytes direction text h =
    let first = data_first direction bytes h.digits h.ending h.pairs h.ends in
    let same = ap (λ (t : List ℕ). get_or t 0 0) h.joined in
    let sign : eqb (get_or text 0 0) 35 ≡ false = rw same first.0 in
    let letter : eqb (get_or text 0 0) 82 ≡ false = rw same first.1 in
    rw (sign, letter, bytes_are 8 bytes direction text h) refl

no_digit : (direction : Option Direction) (text : List ℕ) → SpellsEnding direction text → is_digit (get_or text 0 0) ≡ false
no_digit None text e = rw e refl
no_digit (Some direction) text (blanks, h, e) = rw e (blank_no_digit (get_or (blanks ++ mark_of direction ∷ []) 0 0) (first_blank blanks (mark_of direction ∷ []) h)) where
  blank_no_digit : (byte : ℕ) → is_blank byte ≡ true → is_digit byte ≡ false
  blank_no_digit byte e = by_test (eqb byte 32) (λ space. rw (eqb-true byte 32 space) refl) (λ other. rw (eqb-true byte 9 (rw other at e)) refl)

digit_tests : (length digit : ℕ) → digit ≡ length + 48 → length ≤ 8 → (is_digit digit ≡ true) × (leb digit 56 ≡ true) × (digit - 48 ≡ length)
digit_tests length digit e few =
    let low : leb 48 digit ≡ true = grind (arith, nat_tests) in
    let high : leb digit 57 ≡ true = grind (arith, nat_tests) in
    let eight : leb digit 56 ≡ true = grind (arith, nat_tests) in
    (rw (low, high) refl, eight, omega arith)

length_is : (direction : Option Direction) (length : ℕ) (digits ending : List ℕ) → SpellsLength length digits → SpellsEnding direction ending → length_at (digits ++ ending) ≡ Some (length, ending)
length_is direction length [] ending h e = rw (no_digit direction ending e, h) refl
length_is direction length (digit ∷ []) ending h e = let t = digit_tests length digit h.0 h.1 in rw (t.0, t.1, t.2) refl
length_is direction length (digit ∷ other ∷ more) ending h e = absurd h

remote_is : (length : ℕ) (direction : Option Direction) (text : List ℕ) → SpellsRemote length direction text → content_in text ≡ Ok (Remote length, direction)
unfolding content_in
remote_is length direction text h = rw (h.joined, length_is direction length h.digits h.ending h.spelled h.ends, ending_is direction h.ending h.ends) refl

fd_is : (flags : ℕ) (bytes : List ℕ) (direction : Option Direction) (text : List ℕ) → SpellsFd flags bytes direction text → content_in text ≡ Ok (Fd flags bytes, direction)
unfolding content_in
fd_is flags bytes direction text h = rw (h.joined, h.digit_value, bytes_are 64 bytes direction h.rest h.spelled) refl

pub content_is : (content : Content) (direction : Option Direction) (text : List ℕ) → SpellsContent content direction text → content_in text ≡ Ok (content, direction)
content_is (Data bytes) direction text h = data_is bytes direction text h
content_is (Remote length) direction text h = remote_is length direction text h
content_is (Fd flags bytes) direction text h = fd_is flags bytes direction text h

-- ---- what is read is spelled

-- a content with its direction
abbrev Spelled : Content × Option Direction → List ℕ → Type 0
Spelled x text = SpellsContent x.0 x.1 text

data_spelled : (text : List ℕ) (x : Content × Option Direction) → data_in text ≡ Ok x → Spelled x text
data_spelled text x e =
    and_then_ok (λ (found : List ℕ × Option Direction). Ok (Data found.0, found.1)) (bytes_in 8 text) x e (λ found is f.
    let same : ◌≡◌ {A = Content × Option Direction} (Data found.0, found.1) x = cc in
    subst (λ (y : Content × Option Direction). Spelled y text) same (bytes_spelled 8 text found is))

-- a text that begins with this byte
first_byte : (byte : ℕ) (text : List ℕ) → 0 < byte → eqb (get_or text 0 0) byte ≡ true → text ≡ byte ∷ drop 1 text
first_byte byte [] some e = let zero : 0 ≡ byte = eqb-true 0 byte e in absurd (omega arith)
first_byte byte (x ∷ xs) some e = ap (λ (b : ℕ). b ∷ xs) (eqb-true x byte e)

fd_spelled : (rest : List ℕ) (x : Content × Option Direction) → fd_in rest ≡ Ok x → Spelled x (35 ∷ rest)
fd_spelled [] x e = absurd cc
fd_spelled (digit ∷ text) x e =
    needed bad.Flags (λ (flags : ℕ). and_then (bytes_in 64 text) (λ found. Ok (Fd flags found.0, found.1))) (hex_digit digit) x e (λ flags value f.
    and_then_ok (λ (found : List ℕ × Option Direction). Ok (Fd flags found.0, found.1)) (bytes_in 64 text) x f (λ found is g.
    let same : ◌≡◌ {A = Content × Option Direction} (Fd flags found.0, found.1) x = cc in
    let result : Spelled (Fd flags found.0, found.1) (35 ∷ digit ∷ text) = record { digit = digit; rest = text; digit_value = value; spelled = bytes_spelled 64 text found is; joined = refl } in
    subst (λ (y : Content × Option Direction). Spelled y (35 ∷ digit ∷ text)) same result))

-- a length that was found, and the rest
abbrev IsLength : List ℕ → ℕ × List ℕ → Type 0
IsLength text x = (digits : List ℕ) × SpellsLength x.0 digits × (text ≡ digits ++ x.1)

length_spelled : (text : List ℕ) (x : ℕ × List ℕ) → length_at text ≡ Some x → IsLength text x
length_spelled [] x e =
    let same : (0, []) ≡ x = cc in
    let result : IsLength [] (0, []) = ([], refl, refl) in
    subst (λ (y : ℕ × List ℕ). IsLength [] y) same result
length_spelled (digit ∷ rest) x e = by_test (is_digit digit)
    (λ is.
    let g = guarded (leb digit 56) (digit - 48, rest) x (rw is at e) in
    let parts = and_parts (leb 48 digit) (leb digit 57) is in
    let low : 48 ≤ digit = grind (arith, nat_tests, parts.0) in
    let high : digit ≤ 56 = grind (arith, nat_tests, g.0) in
    let result : IsLength (digit ∷ rest) (digit - 48, rest) = (digit ∷ [], (omega arith, omega arith), refl) in
    subst (λ (y : ℕ × List ℕ). IsLength (digit ∷ rest) y) g.1 result)
    (λ other.
    let found : Some (0, digit ∷ rest) ≡ Some x = rw other at e in
    let same : (0, digit ∷ rest) ≡ x = cc in
    let result : IsLength (digit ∷ rest) (0, digit ∷ rest) = ([], refl, refl) in
    subst (λ (y : ℕ × List ℕ). IsLength (digit ∷ rest) y) same result)

remote_spelled : (rest : List ℕ) (x : Content × Option Direction) → remote_in rest ≡ Ok x → Spelled x (82 ∷ rest)
remote_spelled rest x e =
    needed bad.Length (λ (found : ℕ × List ℕ). and_then (ending_in found.1) (λ direction. Ok (Remote found.0, direction))) (length_at rest) x e (λ found is f.
    and_then_ok (λ (direction : Option Direction). Ok (Remote found.0, direction)) (ending_in found.1) x f (λ direction ended g.
    let l = length_spelled rest found is in
    let same : ◌≡◌ {A = Content × Option Direction} (Remote found.0, direction) x = cc in
    let result : Spelled (Remote found.0, direction) (82 ∷ rest) = record { digits = l.0; ending = found.1; spelled = l.1; ends = ending_spelled found.1 direction ended; joined = ap (λ (ys : List ℕ). 82 ∷ ys) l.2 } in
    subst (λ (y : Content × Option Direction). Spelled y (82 ∷ rest)) same result))

pub content_spelled : (text : List ℕ) (x : Content × Option Direction) → content_in text ≡ Ok x → SpellsContent x.0 x.1 text
unfolding content_in
content_spelled text x e = by_test (eqb (get_or text 0 0) 35)
    (λ sign. subst (λ (t : List ℕ). Spelled x t) (sym (first_byte 35 text (lit< tt) sign)) (fd_spelled (drop 1 text) x (rw sign at e)))
    (λ other. by_test (eqb (get_or text 0 0) 82)
    (λ letter. subst (λ (t : List ℕ). Spelled x t) (sym (first_byte 82 text (lit< tt) letter)) (remote_spelled (drop 1 text) x (rw (other, letter) at e)))
    (λ neither. data_spelled text x (rw (other, neither) at e)))

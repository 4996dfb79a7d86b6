-- All faults of a text against the first that is answered for a sheet.
use Rattle.std.proofs.Common.{◌≡◌, ℕ, Bool, true, false, cond, List, [], ◌∷◌, ◌++◌, Option, Some, None, refl, sym, ap, ◌∙◌, subst, Contains, ◌⊎◌, inl, inr, nat_lt, length, ◌<◌, ◌≤◌, arith}
use Rattle.std.specs.Prelude.{fold, nat_le, option_map}
use Rattle.std.specs.Option.{option_or}
use Rattle.std.proofs.lemmas.List.{append_assoc, append-nil}
use Rattle.std.proofs.lemmas.List.Elements.{Contains-append_cases, Contains-push_cases}
use Rattle.std.proofs.lemmas.Bool.Decides.{nat_tests}
use Rattle.co_sheet_rows.specs.declared.fault.FaultKind.{FaultKind}
use Rattle.co_sheet_rows.specs.declared.fault.FaultKind.TheVariants.{TooLarge}
use Rattle.co_sheet_rows.specs.declared.fault.SheetFault.{SheetFault}
use Rattle.co_sheet_text.specs.declared.fault.TextFault.{TextFault}
use Rattle.co_sheet_text.specs.Text.{Line, lines_of}
use Rattle.co_sheet_text.specs.Sections.{TextSection, sections_of, first_line_fault}
use Rattle.co_sheet.specs.Faults.{fault_at, sheet_fault}
use Rattle.co_sheet.specs.Checks.{checks}
use Rattle.co_sheet.specs.Accepted.{least_fault, first_found, first_fault, IsAccepted}
use Rattle.co_sheet_text.specs.LinesAtFault.{own_fault, next_read, lines_read, sections_read}
use Rattle.co_sheet_faults.specs.LinesAtFault.{fault_of_line, line_faults}
use Rattle.co_sheet_faults.specs.AllChecks.{all_checks}
use Rattle.co_sheet_faults.specs.AllFaults.{found_by, faults_in, faults_of}
use Rattle.co_sheet_faults.specs.FaultLaws.{IsLineKind, IsLineFault, IsFirstCheckFault, IsFoundFault, IsFaultOf, emptied_of, without}
use Rattle.co_sheet_faults.proofs.LineLemmas.{clean, contains-head, contains-first, kept, filter-append}
use Rattle.co_sheet_faults.proofs.SubLemmas.{Sub, contains-none, sub-same, sub-append, sub-front, sub-after, both-empty, none-sub}
use Rattle.co_sheet_faults.proofs.SoundLemmas.{sound}
use Rattle.co_sheet_faults.proofs.KindLemmas.{late, all-stay}
use Rattle.co_sheet_faults.proofs.CompleteLemmas.{Complete, complete}

-- ---- the one with the smallest line is among them

abbrev lesser : SheetFault → SheetFault → SheetFault
lesser f g = cond (nat_le f.line g.line) f g

fold-in : (f : SheetFault) (faults : List SheetFault) → Contains (f ∷ faults) (fold lesser f faults)
fold-in f [] = contains-head f []
fold-in f (g ∷ faults) = by_test (nat_le f.line g.line) (fold-in (lesser f g) faults)
  where
    by_test : (test : Bool) → Contains (cond test f g ∷ faults) (fold lesser (lesser f g) faults) → Contains (f ∷ g ∷ faults) (fold lesser (lesser f g) faults)
    by_test true c = sub-append (f ∷ []) faults (f ∷ []) (g ∷ faults) (λ a h. h) (sub-after faults (g ∷ []) faults (λ a h. h)) _ c
    by_test false c = sub-after (g ∷ faults) (f ∷ []) (g ∷ faults) (λ a h. h) _ c

same-some : (f g : SheetFault) → ◌≡◌ {A = Option SheetFault} (Some f) (Some g) → f ≡ g
same-some f g h = cc

-- by what the first check finds
first-step : (xs others : List SheetFault) (rest : Option SheetFault) (ys : List SheetFault) (f : SheetFault) → Sub xs ys → option_or (least_fault xs) rest ≡ Some f
    → (xs ≡ [] → rest ≡ Some f → Contains others f) → Contains (ys ++ others) f
first-step [] others rest ys f sub h more = sub-after others ys others (λ a c. c) f (more refl h)
first-step (x ∷ xs) others rest ys f sub h more =
    sub-front ys ys others (λ a c. c) f (sub f (subst (Contains (x ∷ xs)) (same-some (fold lesser x xs) f h) (fold-in x xs)))

first-among : (cs ds : List (List TextSection → List SheetFault)) (sections : List TextSection) (f : SheetFault) → Complete cs ds sections → first_found cs sections ≡ Some f → Contains (found_by ds sections) f
first-among [] ds sections f complete h = absurd (cc)
first-among (c ∷ cs) [] sections f complete h = absurd complete
first-among (c ∷ cs) (d ∷ ds) sections f complete h =
    first-step (c sections) (found_by ds sections) (first_found cs sections) (d sections) f complete.0 h (λ none later. first-among cs ds sections f (complete.1 none) later)

-- ---- the first fault of a text is among all

contains-cases : (text : List ℕ) (f : SheetFault) (large : Bool) (o : Option TextFault) → first_line_fault [] (lines_of text) ≡ o
    → cond large (Some (fault_at 0 TooLarge)) (option_or (option_map sheet_fault o) (first_found checks (sections_of (lines_of text)))) ≡ Some f
    → Contains (cond large (fault_at 0 TooLarge ∷ []) (faults_in (lines_of text))) f
contains-cases text f true o is h = subst (Contains (fault_at 0 TooLarge ∷ [])) (same-some (fault_at 0 TooLarge) f h) (contains-head (fault_at 0 TooLarge) [])
contains-cases text f false (Some g) is h =
    let all = line_faults [] (lines_of text) in
    sub-front all all (found_by all_checks (sections_read (lines_of text))) (λ a c. c) f
    (subst (Contains all) (same-some (sheet_fault g) f h) (contains-first [] (lines_of text) g is))
contains-cases text f false None is h =
    let lines = lines_of text in
    let found = found_by all_checks (sections_read lines) in
    sub-after found (line_faults [] lines) found (λ a c. c) f
    (subst (λ (ls : List Line). Contains (found_by all_checks (sections_of ls)) f) (sym (clean [] lines is).same)
    (first-among checks all_checks (sections_of lines) f (complete (sections_of lines)) h))

pub contains : (text : List ℕ) (f : SheetFault) → first_fault text ≡ Some f → Contains (faults_of text) f
contains text f h = contains-cases text f (nat_lt 1048576 (length text)) (first_line_fault [] (lines_of text)) refl h

-- ---- none, exactly where the text is accepted

none-accepted-cases : (text : List ℕ) (o : Option SheetFault) → first_fault text ≡ o → faults_of text ≡ [] → o ≡ None
none-accepted-cases text None is h = refl
none-accepted-cases text (Some f) is h = absurd (contains-none f (subst (λ (faults : List SheetFault). Contains faults f) h (contains text f is)))

pub none-accepted : (text : List ℕ) → faults_of text ≡ [] → IsAccepted text
none-accepted text h = none-accepted-cases text (first_fault text) refl h

least-none : (faults : List SheetFault) → least_fault faults ≡ None → faults ≡ []
least-none [] h = refl
least-none (f ∷ faults) h = absurd (cc)

neither : {X : Type 0} (o p : Option X) → option_or o p ≡ None → (o ≡ None) × (p ≡ None)
neither None p h = (refl, h)
neither (Some x) p h = absurd (cc)

nothing-found : (cs : List (List TextSection → List SheetFault)) (sections : List TextSection) → first_found cs sections ≡ None → found_by cs sections ≡ []
nothing-found [] sections h = refl
nothing-found (c ∷ cs) sections h =
    let none = neither (least_fault (c sections)) (first_found cs sections) h in
    ap (λ (l : List SheetFault). l ++ found_by cs sections) (least-none (c sections) none.0) ∙ nothing-found cs sections none.1

unmapped : (o : Option TextFault) → option_map sheet_fault o ≡ None → o ≡ None
unmapped None h = refl
unmapped (Some f) h = absurd (cc)

accepted-cases : (text : List ℕ) (large : Bool)
    → cond large (Some (fault_at 0 TooLarge)) (option_or (option_map sheet_fault (first_line_fault [] (lines_of text))) (first_found checks (sections_of (lines_of text)))) ≡ None
    → cond large (fault_at 0 TooLarge ∷ []) (faults_in (lines_of text)) ≡ []
accepted-cases text true h = absurd (cc)
accepted-cases text false h =
    let lines = lines_of text in
    let both = neither (option_map sheet_fault (first_line_fault [] lines)) (first_found checks (sections_of lines)) h in
    let good = clean [] lines (unmapped (first_line_fault [] lines) both.0) in
    let none : found_by all_checks (sections_of lines) ≡ []
    = none-sub (found_by all_checks (sections_of lines)) (λ a c. sub-same (found_by checks (sections_of lines)) [] (nothing-found checks (sections_of lines) both.1) a (sound (sections_of lines) a c)) in
    ap (λ (l : List SheetFault). l ++ found_by all_checks (sections_read lines)) good.none
    ∙ ap (λ (ls : List Line). found_by all_checks (sections_of ls)) good.same ∙ none

pub accepted-none : (text : List ℕ) → IsAccepted text → faults_of text ≡ []
accepted-none text h = accepted-cases text (nat_lt 1048576 (length text)) h

-- ---- each is a fault by the definition of its kind

record IsFaultAfter (read ls : List Line) (f : SheetFault) : Type 0 where
  pub before : List Line
  pub line : Line
  pub after : List Line
  pub cut : ls ≡ before ++ line ∷ after
  pub own : Contains (fault_of_line line (own_fault (read ++ lines_read read before) line)) f

fault-here : (read ls : List Line) (l : Line) (f : SheetFault) → Contains (fault_of_line l (own_fault read l)) f → IsFaultAfter read (l ∷ ls) f
fault-here read ls l f c = record {
  before = [];
  line = l;
  after = ls;
  cut = refl;
  own = subst (λ (b : List Line). Contains (fault_of_line l (own_fault b l)) f) (sym (append-nil read)) c;
}

fault-later : (read ls : List Line) (l : Line) (f : SheetFault) → IsFaultAfter (read ++ next_read read l ∷ []) ls f → IsFaultAfter read (l ∷ ls) f
fault-later read ls l f later = record {
  before = l ∷ later.before;
  line = later.line;
  after = later.after;
  cut = ap (λ (rest : List Line). l ∷ rest) later.cut;
  own = subst (λ (b : List Line). Contains (fault_of_line later.line (own_fault b later.line)) f)
      (append_assoc read (next_read read l ∷ []) (lines_read (read ++ next_read read l ∷ []) later.before)) later.own;
}

fault-cases : (read ls : List Line) (l : Line) (f : SheetFault) → (Contains (line_faults (read ++ next_read read l ∷ []) ls) f → IsFaultAfter (read ++ next_read read l ∷ []) ls f)
    → Contains (fault_of_line l (own_fault read l)) f ⊎ Contains (line_faults (read ++ next_read read l ∷ []) ls) f → IsFaultAfter read (l ∷ ls) f
fault-cases read ls l f more (inl h) = fault-here read ls l f h
fault-cases read ls l f more (inr h) = fault-later read ls l f (more h)

line-fault : (read ls : List Line) (f : SheetFault) → Contains (line_faults read ls) f → IsFaultAfter read ls f
line-fault read [] f c = absurd (contains-none f c)
line-fault read (l ∷ ls) f c =
    fault-cases read ls l f (line-fault (read ++ next_read read l ∷ []) ls f)
    (Contains-append_cases (fault_of_line l (own_fault read l)) (line_faults (read ++ next_read read l ∷ []) ls) f c)

in-lines : (lines : List Line) (f : SheetFault) → IsFaultAfter [] lines f → IsLineFault lines f
in-lines lines f found = record { before = found.before; line = found.line; after = found.after; cut = found.cut; own = found.own }

one-alone : (x f : SheetFault) → Contains (x ∷ []) f → f ≡ x
one-alone x f c = by_cases (Contains-push_cases [] x f c)
  where
    by_cases : Contains [] f ⊎ (x ≡ f) → f ≡ x
    by_cases (inl h) = absurd (contains-none f h)
    by_cases (inr h) = sym h

too_large : (size : ℕ) → nat_lt 1048576 size ≡ true → 1048576 < size
too_large size test = grind (arith, nat_tests)

each-cases : (text : List ℕ) (f : SheetFault) (large : Bool) → nat_lt 1048576 (length text) ≡ large → Contains (cond large (fault_at 0 TooLarge ∷ []) (faults_in (lines_of text))) f → IsFaultOf text f
each-cases text f true is c = inl (too_large (length text) is, one-alone (fault_at 0 TooLarge) f c)
each-cases text f false is c = inr (by_cases (Contains-append_cases (line_faults [] (lines_of text)) (found_by all_checks (sections_read (lines_of text))) f c))
  where
    by_cases : Contains (line_faults [] (lines_of text)) f ⊎ Contains (found_by all_checks (sections_read (lines_of text))) f → IsLineFault (lines_of text) f ⊎ IsFoundFault (lines_of text) f
    by_cases (inl h) = inl (in-lines (lines_of text) f (line-fault [] (lines_of text) f h))
    by_cases (inr h) = inr (sound (sections_read (lines_of text)) f h)

pub each : (text : List ℕ) (f : SheetFault) → Contains (faults_of text) f → IsFaultOf text f
each text f c = each-cases text f (nat_lt 1048576 (length text)) refl c

-- ---- a text that is too large has that fault alone

is_past : (limit size : ℕ) → limit < size → nat_lt limit size ≡ true
is_past limit size h = grind (arith, nat_tests)

large-cases : (large : Bool) (others : List SheetFault) → large ≡ true → cond large (fault_at 0 TooLarge ∷ []) others ≡ fault_at 0 TooLarge ∷ []
large-cases true others h = refl
large-cases false others h = absurd (cc)

pub large-alone : (text : List ℕ) → 1048576 < length text → faults_of text ≡ fault_at 0 TooLarge ∷ []
large-alone text h = large-cases (nat_lt 1048576 (length text)) (faults_in (lines_of text)) (is_past 1048576 (length text) h)

-- ---- of any other, each line's fault is among them

line-among : (read before after : List Line) (line : Line) (f : SheetFault) → Contains (fault_of_line line (own_fault (read ++ lines_read read before) line)) f
    → Contains (line_faults read (before ++ line ∷ after)) f
line-among read [] after line f own =
    let here = fault_of_line line (own_fault read line) in
    sub-front here here (line_faults (read ++ next_read read line ∷ []) after) (λ a c. c) f
    (subst (λ (b : List Line). Contains (fault_of_line line (own_fault b line)) f) (append-nil read) own)
line-among read (l ∷ before) after line f own =
    let next = read ++ next_read read l ∷ [] in
    let rest = line_faults next (before ++ line ∷ after) in
    sub-after rest (fault_of_line l (own_fault read l)) rest (λ a c. c) f
    (line-among next before after line f
    (subst (λ (b : List Line). Contains (fault_of_line line (own_fault b line)) f) (sym (append_assoc read (next_read read l ∷ []) (lines_read next before))) own))

lines-among : (lines : List Line) (f : SheetFault) → IsLineFault lines f → Contains (faults_in lines) f
lines-among lines f found =
    let all = line_faults [] lines in
    sub-front all all (found_by all_checks (sections_read lines)) (λ a c. c) f
    (subst (λ (ls : List Line). Contains (line_faults [] ls) f) (sym found.cut) (line-among [] found.before found.after found.line f found.own))

is_within : (limit size : ℕ) → size ≤ limit → nat_lt limit size ≡ false
is_within limit size h = grind (arith, nat_tests)

of-text : (large : Bool) (others : List SheetFault) (f : SheetFault) → large ≡ false → Contains others f → Contains (cond large (fault_at 0 TooLarge ∷ []) others) f
of-text true others f h c = absurd (cc)
of-text false others f h c = c

pub line-contains : (text : List ℕ) (f : SheetFault) → length text ≤ 1048576 → IsLineFault (lines_of text) f → Contains (faults_of text) f
line-contains text f few found =
    of-text (nat_lt 1048576 (length text)) (faults_in (lines_of text)) f (is_within 1048576 (length text) few) (lines-among (lines_of text) f found)

-- ---- and every fault that the first check to find any finds

check-among : (before after ds : List (List TextSection → List SheetFault)) (check : List TextSection → List SheetFault) (sections : List TextSection) (f : SheetFault)
    → Complete (before ++ check ∷ after) ds sections → found_by before sections ≡ [] → Contains (check sections) f → Contains (found_by ds sections) f
check-among [] after [] check sections f complete none found = absurd complete
check-among [] after (d ∷ ds) check sections f complete none found = sub-front (check sections) (d sections) (found_by ds sections) complete.0 f found
check-among (b ∷ before) after [] check sections f complete none found = absurd complete
check-among (b ∷ before) after (d ∷ ds) check sections f complete none found =
    let apart = both-empty (b sections) (found_by before sections) none in
    sub-after (found_by ds sections) (d sections) (found_by ds sections) (λ a c. c) f
    (check-among before after ds check sections f (complete.1 apart.0) apart.1 found)

every-among : (lines : List Line) (f : SheetFault) → IsFirstCheckFault lines f → Contains (faults_in lines) f
every-among lines f first =
    let sections = sections_read lines in
    let all = found_by all_checks sections in
    sub-after all (line_faults [] lines) all (λ a c. c) f
    (check-among first.before first.after all_checks first.check sections f
    (subst (λ (cs : List (List TextSection → List SheetFault)). Complete cs all_checks sections) first.cut (complete sections)) first.none first.found)

pub every-contains : (text : List ℕ) (f : SheetFault) → length text ≤ 1048576 → IsFirstCheckFault (lines_of text) f → Contains (faults_of text) f
every-contains text f few first =
    of-text (nat_lt 1048576 (length text)) (faults_in (lines_of text)) f (is_within 1048576 (length text) few) (every-among (lines_of text) f first)

-- ---- without the lines of a kind

pub kind-gone : (kind : FaultKind) (lines : List Line) → IsLineKind kind → faults_in (emptied_of kind [] lines) ≡ without kind (faults_in lines)
kind-gone kind lines few =
    let same = kept kind [] lines in
    let found = found_by all_checks (sections_read lines) in
    ap (λ (ls : List Line). line_faults [] (emptied_of kind [] lines) ++ found_by all_checks (sections_of ls)) same.read
    ∙ ap (λ (faults : List SheetFault). faults ++ found) same.faults
    ∙ ap (λ (faults : List SheetFault). without kind (line_faults [] lines) ++ faults) (sym (all-stay kind few found (λ f c. late (sections_read lines) f (sound (sections_read lines) f c))))
    ∙ sym (filter-append kind (line_faults [] lines) found)

-- The sheet of a text whose sections are read, by the faults of its lines.
use Rattle.std.proofs.Common.{◌≡◌, ◌∙◌, ℕ, ◌<◌, ◌≤◌, true, false, ltb, eqb, eqb-true, List, [], ◌∷◌, ◌++◌, length, Option, Some, None, IfSome, refl, sym, ap, arith}
use Rattle.std.proofs.lemmas.Bool.{lt-ltb}
use Rattle.std.proofs.lemmas.Bool.Decides.{nat_tests}
use Rattle.std.specs.Prelude.{option_map}
use Rattle.std.specs.List.{cons_option}
use Rattle.std.specs.Option.{option_map_or, option_or}
use Rattle.co_sheet_text.specs.declared.fault.TextFaultKind.{TextFaultKind}
use Rattle.co_sheet_text.specs.declared.fault.TextFault.{TextFault}
use Rattle.co_sheet_text.specs.Text.{Line, lines_of}
use Rattle.co_sheet_text.specs.Sections.{TextSection, fault_at, first_line_fault, sections_of}
use Rattle.co_sheet_text.specs.LinesAtFault.{own_fault, read_as, lines_read, own_faults, sections_read}
use Rattle.co_sheet_rows.specs.declared.fault.FaultKind.TheVariants.{TooLarge}
use Rattle.co_sheet_rows.specs.declared.fault.SheetFault.{SheetFault}
use Rattle.co_sheet.specs.Accepted.{first_fault, first_found, sections_in}
use Rattle.co_sheet.specs.Checks.{checks}
use Rattle.co_sheet.specs.Content.{SheetContent, content_of}
use Rattle.co_sheet.specs.Faults.{sheet_fault, fault_at as large_fault}
use Rattle.conode_lint.specs.Marks.{sheet_in}
use Rattle.conode_lint_marks.specs.Beside.{sheet_of}
use Rattle.conode_lint.proofs.FaultLemmas.{sheet_refused}

-- ---- where no line is at fault

record IsReadAsItIs (before ls : List Line) : Type 0 where
  pub none : first_line_fault before ls ≡ None
  pub same : lines_read before ls ≡ ls

good_line : (o : Option TextFaultKind) (before ls : List Line) (l : Line)
    → cons_option (option_map (fault_at l.number) o) (own_faults (before ++ read_as o l ∷ []) ls) ≡ []
    → (own_faults (before ++ l ∷ []) ls ≡ [] → IsReadAsItIs (before ++ l ∷ []) ls)
    → (option_or (option_map (fault_at l.number) o) (first_line_fault (before ++ l ∷ []) ls) ≡ None)
    × (read_as o l ∷ lines_read (before ++ read_as o l ∷ []) ls ≡ l ∷ ls)
good_line None before ls l h more =
    let good = more h in
    (good.none, ap (λ (rest : List Line). l ∷ rest) good.same)
good_line (Some k) before ls l h more = absurd (cc)

all_good : (before ls : List Line) → own_faults before ls ≡ [] → IsReadAsItIs before ls
all_good before [] h = record { none = refl; same = refl }
all_good before (l ∷ ls) h =
    let both = good_line (own_fault before l) before ls l h (all_good (before ++ l ∷ []) ls) in
    record { none = both.0; same = both.1 }

-- ---- where lines are, the first fault is that of the first

first_line : (o : Option TextFaultKind) (before ls : List Line) (l : Line) (f : TextFault) (more : List TextFault)
    → cons_option (option_map (fault_at l.number) o) (own_faults (before ++ read_as o l ∷ []) ls) ≡ f ∷ more
    → (own_faults (before ++ l ∷ []) ls ≡ f ∷ more → first_line_fault (before ++ l ∷ []) ls ≡ Some f)
    → option_or (option_map (fault_at l.number) o) (first_line_fault (before ++ l ∷ []) ls) ≡ Some f
first_line None before ls l f more h later = later h
first_line (Some k) before ls l f more h later = cc

first_own : (before ls : List Line) (f : TextFault) (more : List TextFault) → own_faults before ls ≡ f ∷ more → first_line_fault before ls ≡ Some f
first_own before [] f more h = absurd (cc)
first_own before (l ∷ ls) f more h = first_line (own_fault before l) before ls l f more h (first_own (before ++ l ∷ []) ls f more)

not_large : (text : List ℕ) → length text ≤ 1048576 → ltb 1048576 (length text) ≡ false
not_large text small = grind (arith, nat_tests)

pub none_at_fault : (text : List ℕ) (faults : List TextFault) → length text ≤ 1048576 → faults ≡ own_faults [] (lines_of text) → eqb (length faults) 0 ≡ false → None ≡ sheet_of text
none_at_fault text [] small own h = absurd (cc)
none_at_fault text (f ∷ more) small own h =
    sheet_refused text (sheet_fault f) (rw (not_large text small, first_own [] (lines_of text) f more (sym own)) refl)

-- ---- where none is, by the checks of the sections

none_there : (faults : List TextFault) → eqb (length faults) 0 ≡ true → faults ≡ []
none_there [] h = refl
none_there (f ∷ more) h = absurd (let none : length (f ∷ more) ≡ 0 = eqb-true _ _ h in cc)

abbrev sheet_unless : Option SheetFault → List TextSection → Option SheetContent
sheet_unless first sections = option_map_or (λ fault. None) first (Some (content_of sections))

pub same_sheet : (text : List ℕ) (faults : List TextFault) (sections : List TextSection) → length text ≤ 1048576 → faults ≡ own_faults [] (lines_of text) → eqb (length faults) 0 ≡ true
    → sections ≡ sections_read (lines_of text) → sheet_in sections ≡ sheet_of text
unfolding sheet_in sheet_of
same_sheet text faults sections small own empty is =
    let good = all_good [] (lines_of text) (sym own ∙ none_there faults empty) in
    let same : sections ≡ sections_in text = is ∙ ap sections_of good.same in
    let first : first_fault text ≡ first_found checks (sections_in text) = rw (not_large text small, good.none) refl in
    ap (λ (ss : List TextSection). sheet_unless (first_found checks ss) ss) same
    ∙ ap (λ (o : Option SheetFault). sheet_unless o (sections_in text)) (sym first)

-- ---- a text that is too large

pub none_of_large : (text : List ℕ) → 1048576 < length text → None ≡ sheet_of text
none_of_large text large = sheet_refused text (large_fault 0 TooLarge) (rw (lt-ltb 1048576 (length text) large) refl)

pub if_some : {X : Type 0} (o : Option X) (P : Type 0) → P → IfSome o (λ x. P)
if_some None P p = tt
if_some (Some x) P p = p

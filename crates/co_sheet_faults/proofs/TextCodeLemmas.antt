-- What one pass over a text finds, and all its faults.
use Rattle.std.proofs.Common.{◌≡◌, ℕ, ◌≤◌, List, [], ◌∷◌, ◌++◌, Option, Some, None, refl, sym, ap, ◌∙◌, subst, arith, map, length, ltb, false}
use Rattle.std.specs.Prelude.{option_map}
use Rattle.std.specs.List.{cons_option}
use Rattle.std.proofs.lemmas.Bool.Decides.{nat_tests}
use Rattle.co_sheet_text.specs.declared.fault.TextFaultKind.{TextFaultKind}
use Rattle.co_sheet_text.specs.declared.fault.TextFault.{TextFault}
use Rattle.co_sheet_text.specs.Text.{Line, lines_of}
use Rattle.co_sheet_text.specs.Sections.{fault_at as text_fault_at}
use Rattle.co_sheet_text.specs.LinesAtFault.{own_fault, next_read, own_faults, sections_read}
use Rattle.co_sheet_rows.specs.declared.fault.SheetFault.{SheetFault}
use Rattle.co_sheet.specs.Faults.{sheet_fault}
use Rattle.co_sheet_faults.specs.LinesAtFault.{fault_of_line, line_faults}
use Rattle.co_sheet_faults.specs.AllChecks.{all_checks}
use Rattle.co_sheet_faults.specs.AllFaults.{found_by, faults_in, faults_of}
use Rattle.co_sheet_faults.specs.private.Collected.{collected, text_collected}
use Rattle.co_sheet_faults.proofs.SubLemmas.{Sub, sub-same, sub-append}
use Rattle.co_sheet_faults.proofs.CollectedLemmas.{collected-found, found-collected}

own-line : (o : Option TextFaultKind) (l : Line) (rest : List TextFault) → map sheet_fault (cons_option (option_map (text_fault_at l.number) o) rest) ≡ fault_of_line l o ++ map sheet_fault rest
own-line None l rest = refl
own-line (Some k) l rest = refl

own-lines : (before ls : List Line) → map sheet_fault (own_faults before ls) ≡ line_faults before ls
own-lines before [] = refl
own-lines before (l ∷ ls) =
    let next = before ++ next_read before l ∷ [] in
    own-line (own_fault before l) l (own_faults next ls) ∙ ap (λ (fs : List SheetFault). fault_of_line l (own_fault before l) ++ fs) (own-lines next ls)

small-text : (text : List ℕ) → length text ≤ 1048576 → faults_of text ≡ faults_in (lines_of text)
small-text text few = let small : ltb 1048576 (length text) ≡ false = grind (arith, nat_tests) in rw small refl

-- what is found, in both directions
pub text-found : (text : List ℕ) → length text ≤ 1048576 → Sub (text_collected (lines_of text)) (faults_of text)
text-found text few =
    let lines = lines_of text in
    let sections = sections_read lines in
    subst (Sub (text_collected lines)) (sym (small-text text few))
    (sub-append (map sheet_fault (own_faults [] lines)) (collected sections) (line_faults [] lines) (found_by all_checks sections)
    (sub-same (map sheet_fault (own_faults [] lines)) (line_faults [] lines) (own-lines [] lines)) (collected-found sections))

pub found-text : (text : List ℕ) → length text ≤ 1048576 → Sub (faults_of text) (text_collected (lines_of text))
found-text text few =
    let lines = lines_of text in
    let sections = sections_read lines in
    subst (λ (fs : List SheetFault). Sub fs (text_collected lines)) (sym (small-text text few))
    (sub-append (line_faults [] lines) (found_by all_checks sections) (map sheet_fault (own_faults [] lines)) (collected sections)
    (sub-same (line_faults [] lines) (map sheet_fault (own_faults [] lines)) (sym (own-lines [] lines))) (found-collected sections))

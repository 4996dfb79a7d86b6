-- The marks of a text, put together.
use Rattle.std.proofs.Common.{◌≡◌, ◌∙◌, ℕ, ◌<◌, ◌≤◌, Bool, false, ltb, cond, List, [], ◌++◌, map, length, Option, Some, None, IfSome, refl, sym, ap, subst, append_assoc, arith, rules, zero, suc, true, ◌∷◌}
use Rattle.std.proofs.lemmas.Bool.{lt-ltb}
use Rattle.std.proofs.lemmas.Bool.Decides.{nat_tests}
use Rattle.std.proofs.lemmas.List.{append-nil}
use Rattle.co_sheet_rows.specs.declared.fault.SheetFault.{SheetFault}
use Rattle.co_sheet.specs.Content.{SheetContent}
use Rattle.co_sheet_text.specs.LinesAtFault.{sections_read}
use Rattle.co_sheet_text.specs.Sections.{TextSection}
use Rattle.co_sheet_text.specs.declared.section_kind.SectionKind.{SectionKind}
use Rattle.co_sheet_text.specs.Text.{lines_of}
use Rattle.co_sheet_text_warnings.specs.declared.warning.Warning.{Warning}
use Rattle.co_sheet_mend.specs.ReadableTexts.{mended_in}
use Rattle.co_sheet_text_warnings.specs.ReadTexts.{own_node, read_text}
use Rattle.co_sheet_warnings.specs.Warnings.{IsByLine as IsWarningsByLine, all_warnings, warnings_of}
use Rattle.co_dict_build.specs.Capacities.{Limits, limits_view}
use Rattle.conode_lint.specs.declared.linted_text.Linted.{Linted}
use Rattle.conode_lint_marks.specs.declared.mark.Mark.{Mark}
use Rattle.conode_lint.specs.declared.marks.Checks.{Checks}
use Rattle.co_sheet_text_warnings.specs.Lines.{text_lines}
use Rattle.conode_lint_marks.specs.AtFault.{kinds_at_fault}
use Rattle.conode_lint_marks.specs.KnownWarnings.{known_warnings, warning_mark}
use Rattle.conode_lint.specs.Linted.{IsLinted, IsMadeOf, left}
use Rattle.conode_lint.specs.Marks.{IsFound, IsMarked, errors_of, fault_mark, node_for, sheet_marks, text_marks, text_sections, left_of}
use Rattle.conode_lint_marks.specs.Beside.{beside_for, beside_in, beside_marks, sheet_of}

text_marks_with : (text : List ℕ) (checks : Checks) (sheet : Option SheetContent) (node : Option ℕ) → sheet ≡ sheet_of text → node ≡ node_for checks.node sheet
    → sheet_marks (limits_view checks.limits) (sections_read (lines_of text)) sheet node ≡ text_marks text checks.node (limits_view checks.limits)
unfolding text_marks
text_marks_with text checks sheet own is_sheet is_node =
    ap (sheet_marks (limits_view checks.limits) (sections_read (lines_of text)) sheet) is_node
    ∙ ap (λ (s : Option SheetContent). sheet_marks (limits_view checks.limits) (sections_read (lines_of text)) s (node_for checks.node s)) is_sheet

-- faults, what the build gives, also beside faults, and warnings
pub marked_from : (text : List ℕ) (checks : Checks) (faults : List SheetFault) (sheet : Option SheetContent) (node : Option ℕ) (warnings : List Warning) (with_faults with_build with_beside all : List Mark)
    → sheet ≡ sheet_of text → node ≡ node_for checks.node sheet → IsWarningsByLine (warnings_of text checks.node checks.all) warnings
    → with_faults ≡ map fault_mark faults
    → with_build ≡ with_faults ++ sheet_marks (limits_view checks.limits) (sections_read (lines_of text)) sheet node
    → with_beside ≡ with_build ++ beside_marks text checks.node (limits_view checks.limits) faults
    → all ≡ with_beside ++ map warning_mark (left_of text with_beside faults warnings)
    → IsMarked text checks faults all
marked_from text checks faults sheet node warnings with_faults with_build with_beside all is_sheet is_node by_line is_faults is_build is_beside is_all =
    let last_by : List Mark → List Mark = λ errors. map warning_mark (left_of text errors faults warnings) in
    let last = last_by (errors_of text checks faults) in
    let limits = limits_view checks.limits in
    let first = map fault_mark faults in
    let build = text_marks text checks.node limits in
    let beside = beside_marks text checks.node limits faults in
    let of_build : with_build ≡ first ++ build =
    is_build ∙ ap (λ (l : List Mark). l ++ sheet_marks limits (sections_read (lines_of text)) sheet node) is_faults ∙ ap (λ (l : List Mark). first ++ l) (text_marks_with text checks sheet node is_sheet is_node) in
    let of_beside : with_beside ≡ (first ++ build) ++ beside = is_beside ∙ ap (λ (l : List Mark). l ++ beside) of_build in
    record {
      warnings = warnings;
      by_line = by_line;
      are = is_all ∙ ap (λ (l : List Mark). with_beside ++ last_by l) (of_beside ∙ append_assoc first build beside) ∙ ap (λ (l : List Mark). l ++ last) of_beside
          ∙ append_assoc (first ++ build) beside last ∙ append_assoc first build (beside ++ last);
    }

no_sheet : (text : List ℕ) (sheet : Option SheetContent) → IfSome sheet (λ s. length text ≤ 1048576) → 1048576 < length text → sheet ≡ None
no_sheet text None small large = refl
no_sheet text (Some s) small large = absurd (omega (arith, small, large))

no_marks : (text : List ℕ) (checks : Checks) (sheet : Option SheetContent) → sheet ≡ sheet_of text → sheet ≡ None
    → text_marks text checks.node (limits_view checks.limits) ≡ []
no_marks text checks sheet is_sheet none =
    sym (text_marks_with text checks sheet (node_for checks.node sheet) is_sheet refl)
    ∙ ap (λ (s : Option SheetContent). sheet_marks (limits_view checks.limits) (sections_read (lines_of text)) s (node_for checks.node s)) none

none_by_line : IsWarningsByLine [] []
none_by_line = record { rises = search rules; same = λ n. refl }

large_by_line : (text : List ℕ) (checks : Checks) → 1048576 < length text → IsWarningsByLine (warnings_of text checks.node checks.all) []
large_by_line text checks large =
    subst (λ (b : Bool). IsWarningsByLine (cond b [] (all_warnings checks.all (read_text text checks.node))) []) (sym (lt-ltb 1048576 (length text) large)) none_by_line

-- a text that is too large isn't mended, so nothing is built of it
by_size : (large : Bool) (other : Option (List ℕ)) → large ≡ true → cond large None other ≡ None
by_size large other is = ap (λ (b : Bool). cond b None other) is

not_mended : (rounds : ℕ) (text : List ℕ) → 1048576 < length text → mended_in rounds text ≡ None
unfolding mended_in
not_mended zero text large = refl
not_mended (suc rounds) text large = by_size (ltb 1048576 (length text)) _ (lt-ltb 1048576 (length text) large)

beside_none : (limits : Limits) (kinds : List SectionKind) (text : List ℕ) (sections : List TextSection) (own : Option ℕ) → mended_in 8 text ≡ None → beside_for limits kinds text sections own ≡ []
beside_none limits kinds text sections (Some id) none = ap (beside_in limits kinds sections id) none
beside_none limits kinds text sections None none = refl

no_beside : (text : List ℕ) (checks : Checks) (faults : List SheetFault) → 1048576 < length text → beside_marks text checks.node (limits_view checks.limits) faults ≡ []
no_beside text checks [] large = refl
no_beside text checks (fault ∷ faults) large =
    beside_none (limits_view checks.limits) (kinds_at_fault (fault ∷ faults) (sections_read (lines_of text))) text (sections_read (lines_of text)) (own_node checks.node (sections_read (lines_of text))) (not_mended 8 text large)

-- a text that is too large has its fault alone
pub marked_large : (text : List ℕ) (checks : Checks) (faults : List SheetFault) (sheet : Option SheetContent) (marks : List Mark)
    → sheet ≡ sheet_of text → IfSome sheet (λ s. length text ≤ 1048576) → 1048576 < length text → marks ≡ map fault_mark faults
    → IsMarked text checks faults marks
unfolding known_warnings
marked_large text checks faults sheet marks is_sheet small large is =
    let none = no_marks text checks sheet is_sheet (no_sheet text sheet small large) in
    let none_beside = no_beside text checks faults large in
    let first = map fault_mark faults in
    record {
      warnings = [];
      by_line = large_by_line text checks large;
      are = is ∙ sym (append-nil first) ∙ ap (λ (l : List Mark). first ++ (l ++ [])) (sym none_beside)
          ∙ ap (λ (l : List Mark). first ++ (l ++ (beside_marks text checks.node (limits_view checks.limits) faults ++ []))) (sym none);
    }

-- what is left of what is found, made into findings
pub made_from : (lines : List (List ℕ)) (sections : List TextSection) (checks : Checks) (found marks marks_made : List Mark) (made : Linted)
    → marks ≡ left lines checks found → marks_made ≡ marks → IsMadeOf lines sections checks.node marks_made made → IsMadeOf lines sections checks.node (left lines checks found) made
made_from lines sections checks found marks marks_made made is_marks is_marks_made is_made =
    subst (λ (l : List Mark). IsMadeOf lines sections checks.node l made) (is_marks_made ∙ is_marks) is_made

-- a text linted
pub linted_from : (text : List ℕ) (checks : Checks) (lines : List (List ℕ)) (sections : List TextSection) (found found_left : List Mark) (made : Linted) → IsFound text checks found
    → lines ≡ text_lines text → sections ≡ text_sections text → found_left ≡ found → IsMadeOf lines sections checks.node (left lines checks found_left) made → IsLinted text checks made
linted_from text checks lines sections found found_left made is_found is_lines is_sections is_found_left is_made =
    let of_found = subst (λ (l : List Mark). IsMadeOf lines sections checks.node (left lines checks l) made) is_found_left is_made in
    let of_sections = subst (λ (l : List TextSection). IsMadeOf lines l checks.node (left lines checks found) made) is_sections of_found in
    record {
      found = found;
      is_found = is_found;
      made = subst (λ (l : List (List ℕ)). IsMadeOf l (text_sections text) checks.node (left l checks found) made) is_lines of_sections;
    }

-- the sections of a text that is too large, and of any other
pub none_in_large : (text : List ℕ) → 1048576 < length text → [] ≡ text_sections text
none_in_large text large = ap (λ (b : Bool). cond b [] (sections_read (lines_of text))) (sym (lt-ltb 1048576 (length text) large))

pub read_in_others : (text : List ℕ) → length text ≤ 1048576 → text_sections text ≡ sections_read (lines_of text)
read_in_others text small =
    let test : ltb 1048576 (length text) ≡ false = grind (arith, nat_tests) in
    ap (λ (b : Bool). cond b [] (sections_read (lines_of text))) test

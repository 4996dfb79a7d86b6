-- What is found in a text, against its check.
use Rattle.std.proofs.Common.{◌≡◌, ◌∙◌, ℕ, ◌<◌, Bool, true, false, not, ◌&&◌, ◌||◌, List, [], ◌∷◌, ◌++◌, map, Contains, Option, Some, None, refl, sym, ap, subst, arith}
use Rattle.std.specs.Prelude.{is_none, is_some}
use Rattle.std.proofs.Math.ListN.{length-map}
use Rattle.std.proofs.lemmas.List.{get_or-map}
use Rattle.std.proofs.lemmas.List.Elements.{Contains-append_left}
use Rattle.std.proofs.lemmas.List.Folds.{list_any-append}
use Rattle.std.proofs.lemmas.List.Sorted.{Contains-permutation, list_any-IsPermutation}
use Rattle.co_sheet_rows.specs.declared.fault.SheetFault.{SheetFault}
use Rattle.co_sheet.specs.Accepted.{IsAccepted, first_fault}
use Rattle.co_sheet.specs.Content.{SheetContent}
use Rattle.co_sheet_text.specs.LinesAtFault.{sections_read}
use Rattle.co_sheet_text.specs.Sections.{TextSection}
use Rattle.co_sheet_text.specs.Text.{lines_of}
use Rattle.co_sheet_faults.specs.AllFaults.{faults_of}
use Rattle.co_sheet_text_warnings.specs.declared.warning.Warning.{Warning}
use Rattle.co_dict_build.specs.Built.{Plan, plan_of}
use Rattle.co_dict_build.specs.BuildFaults.{build_fault}
use Rattle.co_dict_build.specs.Capacities.{Limits, limits_view}
use Rattle.co_dict_build.specs.declared.build_fault.BuildFault.{BuildFault}
use Rattle.conode_lint_marks.specs.declared.mark.Mark.{Mark}
use Rattle.conode_lint_marks.specs.declared.mark.OtherFormat.{OtherFormat}
use Rattle.conode_lint.specs.declared.marks.Checks.{Checks}
use Rattle.conode_lint_marks.specs.BuildLines.{built_marks}
use Rattle.conode_lint.specs.Formats.{found_format}
use Rattle.co_sheet_text_warnings.specs.Lines.{text_lines}
use Rattle.conode_lint.specs.Linted.{first_build_fault, has_error, is_good}
use Rattle.conode_lint.specs.Marks.{IsAllFound, IsFaultList, IsFound, IsFoundIn, errors_of, fault_mark, left_of, format_of, node_for, sheet_marks, text_marks}
use Rattle.conode_lint_marks.specs.Beside.{beside_marks, sheet_of}
use Rattle.conode_lint_marks.specs.KnownWarnings.{warning_mark}
use Rattle.conode_lint.proofs.BuildLaws.{has_any}

-- ---- marks that are errors, and warnings

faults_error : (faults : List SheetFault) → has_error (map fault_mark faults) ≡ has_any faults
faults_error [] = refl
faults_error (fault ∷ faults) = refl

warnings_error : (warnings : List Warning) → has_error (map warning_mark warnings) ≡ false
warnings_error [] = refl
warnings_error (warning ∷ warnings) = warnings_error warnings

-- faults, what the build gives, also beside faults, and warnings
parts_error : (faults build beside warnings : List Mark) (errors : Bool) → has_error faults ≡ errors → has_error warnings ≡ false
    → has_error (faults ++ (build ++ (beside ++ warnings))) ≡ (errors || (has_error build || (has_error beside || false)))
parts_error faults build beside warnings errors is quiet = simp list_any-append (rw (is, quiet) refl)

-- what the build gives beside faults is there only with these
with_beside : (text : List ℕ) (own : Option ℕ) (limits : Limits) (faults : List SheetFault) (build : Bool)
    → (has_any faults || (build || (has_error (beside_marks text own limits faults) || false))) ≡ (has_any faults || (build || false))
with_beside text own limits [] build = refl
with_beside text own limits (fault ∷ faults) build = refl

-- ---- a text and its faults

none_there : (faults : List SheetFault) → ((fault : SheetFault) → Contains faults fault → ⊥) → has_any faults ≡ false
none_there [] without = refl
none_there (fault ∷ faults) without = absurd (without fault (0, omega arith, refl))

some_there : (faults : List SheetFault) (fault : SheetFault) → Contains faults fault → has_any faults ≡ true
some_there [] fault there = absurd (let few : there.0 < 0 = there.1 in omega arith)
some_there (first ∷ faults) fault there = refl

contained-map : (faults : List SheetFault) (fault : SheetFault) → Contains faults fault → Contains (map fault_mark faults) (fault_mark fault)
contained-map faults fault there =
    (there.0, rw length-map there.1, get_or-map fault_mark faults there.0 fault (fault_mark fault) there.1 ∙ ap fault_mark there.2)

module _
    (accepted : (text : List ℕ) → IsAccepted text → faults_of text ≡ [])
    (first : (text : List ℕ) (fault : SheetFault) → first_fault text ≡ Some fault → Contains (faults_of text) fault)
    (text : List ℕ) where
  any_fault : (faults : List SheetFault) → IsFaultList text faults → (fault : Option SheetFault) → first_fault text ≡ fault → has_any faults ≡ is_some fault
  any_fault faults are None e =
      none_there faults (λ fault there. let (k, few, _) = subst (λ (l : List SheetFault). Contains l fault) (accepted text e) (are.only fault there) in absurd (omega arith))
  any_fault faults are (Some fault) e = some_there faults fault (are.all fault (first text fault e))

  refused : (node : Option ℕ) (limits : Limits) (fault : SheetFault) → first_fault text ≡ Some fault → not (is_good text node limits) ≡ true
  unfolding is_good
  refused own limits fault e = rw e refl

  -- the marks of a text that has faults, or whose build has

  module _
      (built : (sheet : SheetContent) (sections : List TextSection) (plan : Plan) → has_error (built_marks sheet sections plan) ≡ is_some (build_fault plan))
      (limits : Limits) where
    sheet_error : (sections : List TextSection) (sheet : Option SheetContent) (node : Option ℕ) → has_error (sheet_marks limits sections sheet node) ≡ is_some (first_build_fault limits sheet node)
    sheet_error sections (Some sheet) (Some id) = built sheet sections (plan_of id limits sheet)
    sheet_error sections (Some sheet) None = refl
    sheet_error sections None (Some id) = refl
    sheet_error sections None None = refl

    bad : (first : Option SheetFault) (build : Option BuildFault) → (is_some first || (is_some build || false)) ≡ not (is_none first && is_none build)
    bad (Some fault) build = refl
    bad None (Some fault) = refl
    bad None None = refl

    marks_error : (node : Option ℕ) (faults : List SheetFault) → IsFaultList text faults
        → (has_any faults || (has_error (text_marks text node limits) || false)) ≡ not (is_good text node limits)
    unfolding text_marks is_good
    marks_error own faults are =
        rw (any_fault faults are (first_fault text) refl, sheet_error (sections_read (lines_of text)) (sheet_of text) (node_for own (sheet_of text)))
        (bad (first_fault text) (first_build_fault limits (sheet_of text) (node_for own (sheet_of text))))

  -- ---- all that is found

  module _
      (built : (sheet : SheetContent) (sections : List TextSection) (plan : Plan) → has_error (built_marks sheet sections plan) ≡ is_some (build_fault plan))
      (checks : Checks) where
    read_error : (faults : List SheetFault) (found : List Mark) → IsFaultList text faults → IsAllFound text checks faults found
        → has_error found ≡ not (is_good text checks.node (limits_view checks.limits))
    read_error faults found are all =
        sym (list_any-IsPermutation _ all.marks found all.by_line.moved)
        ∙ ap has_error all.are.are
        ∙ parts_error (map fault_mark faults) (text_marks text checks.node (limits_view checks.limits)) (beside_marks text checks.node (limits_view checks.limits) faults) (map warning_mark (left_of text (errors_of text checks faults) faults all.are.warnings)) (has_any faults) (faults_error faults) (warnings_error (left_of text (errors_of text checks faults) faults all.are.warnings))
        ∙ with_beside text checks.node (limits_view checks.limits) faults (has_error (text_marks text checks.node (limits_view checks.limits)))
        ∙ marks_error built (limits_view checks.limits) checks.node faults are

    found_error : (faults : List SheetFault) (found : List Mark) → IsFaultList text faults
        → (format : Option OtherFormat) → format_of (text_lines text) faults ≡ format → IsFoundIn text checks faults found format
        → has_error found ≡ not (is_good text checks.node (limits_view checks.limits))
    found_error faults found are None e all = read_error faults found are all
    found_error [] found are (Some format) e alone = absurd (cc)
    found_error (fault ∷ faults) found are (Some format) e alone = ap has_error alone ∙ by_fault (first_fault text) refl
      where
        by_fault : (least : Option SheetFault) → first_fault text ≡ least → true ≡ not (is_good text checks.node (limits_view checks.limits))
        by_fault (Some least) here = sym (refused checks.node (limits_view checks.limits) least here)
        by_fault None here = absurd (let no : true ≡ false = any_fault (fault ∷ faults) are None here in cc)

  -- an error exactly where the text isn't good
  pub error-good : ((sheet : SheetContent) (sections : List TextSection) (plan : Plan) → has_error (built_marks sheet sections plan) ≡ is_some (build_fault plan))
      → (checks : Checks) (found : List Mark) → IsFound text checks found → has_error found ≡ not (is_good text checks.node (limits_view checks.limits))
  error-good built checks found is =
      found_error built checks is.faults found is.are_faults (format_of (text_lines text) is.faults) refl is.marks

  -- the fault that comes first is among them
  in_read : (checks : Checks) (faults : List SheetFault) (found : List Mark) (fault : SheetFault) → Contains faults fault → (format : Option OtherFormat) → format ≡ None
      → IsFoundIn text checks faults found format → Contains found (fault_mark fault)
  in_read checks faults found fault there (Some format) is alone = absurd (cc)
  in_read checks faults found fault there None is all =
      Contains-permutation all.marks found (fault_mark fault) all.by_line.moved
      (subst (λ (l : List Mark). Contains l (fault_mark fault)) (sym all.are.are)
      (Contains-append_left (map fault_mark faults) _ (fault_mark fault) (contained-map faults fault there)))

  no_other : (lines : List (List ℕ)) (faults : List SheetFault) → found_format lines ≡ None → format_of lines faults ≡ None
  no_other lines [] other = refl
  no_other lines (fault ∷ faults) other = other

  pub first-found : (checks : Checks) (found : List Mark) (fault : SheetFault) → IsFound text checks found → first_fault text ≡ Some fault → found_format (text_lines text) ≡ None
      → Contains found (fault_mark fault)
  first-found checks found fault is here other =
      in_read checks is.faults found fault (is.are_faults.all fault (first text fault here)) (format_of (text_lines text) is.faults) (no_other (text_lines text) is.faults other) is.marks

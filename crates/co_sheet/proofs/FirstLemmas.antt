-- The first fault, step by step.
use Rattle.std.proofs.Common.{◌≡◌, List, [], ◌∷◌, ◌++◌, Option, Some, None, refl, sym, ap, ◌∙◌, inl, inr}
use Rattle.std.specs.Prelude.{option_map}
use Rattle.std.specs.Option.{option_or}
use Rattle.co_sheet_rows.specs.declared.fault.SheetFault.{SheetFault}
use Rattle.co_sheet_text.specs.Sections.{TextSection}
use Rattle.co_sheet.specs.declared.checks.findings.Finding.{Finding}
use Rattle.co_sheet.specs.ObjectLists.{listings}
use Rattle.co_sheet.specs.Entries.{entries_of}
use Rattle.co_sheet.specs.Checks.{listed_twice, of_listings, missing_mandatory, object_checks, entry_checks, entries_checks, checks}
use Rattle.co_sheet.specs.Accepted.{least_fault, first_found, IsAnswered}
use Rattle.co_sheet.specs.private.EntryReadings.{first_in}
use Rattle.co_sheet.specs.private.ListReadings.{own_checks, twice_in}
use Rattle.co_sheet.proofs.FindingLemmas.{soonest-first, found-fault}

option_or-assoc : {X : Type 0} (a b c : Option X) → option_or (option_or a b) c ≡ option_or a (option_or b c)
option_or-assoc None b c = refl
option_or-assoc (Some x) b c = refl

or_none : {X : Type 0} (o : Option X) → option_or o None ≡ o
or_none None = refl
or_none (Some x) = refl

first_found-append : (xs ys : List (List TextSection → List SheetFault)) (sections : List TextSection) → first_found (xs ++ ys) sections ≡ option_or (first_found xs sections) (first_found ys sections)
first_found-append [] ys sections = refl
first_found-append (check ∷ xs) ys sections =
    ap (option_or (least_fault (check sections))) (first_found-append xs ys sections) ∙ sym (option_or-assoc (least_fault (check sections)) (first_found xs sections) (first_found ys sections))

-- of all entries, by what each is found to have
entries-found : (sections : List TextSection) → first_in (entries_of sections) ≡ first_found entries_checks sections
entries-found sections = ap (option_map (λ (f : Finding). f.fault)) (soonest-first 10 entry_checks (entries_of sections)) ∙ found-fault 10 entries_checks sections

-- the steps: lists by themselves, indices that are listed twice, objects, entries, the mandatory objects
abbrev steps : List TextSection → Option SheetFault
steps sections =
    option_or (first_found own_checks sections)
    (option_or (least_fault (twice_in (listings sections)))
    (option_or (first_found object_checks sections)
    (option_or (first_in (entries_of sections)) (least_fault (missing_mandatory sections)))))

all_steps : (sections : List TextSection) → first_found checks sections ≡ steps sections
all_steps sections =
    let mandatory = missing_mandatory ∷ [] in
    let twice = least_fault (twice_in (listings sections)) in
    first_found-append own_checks (of_listings listed_twice ∷ (object_checks ++ (entries_checks ++ mandatory))) sections
    ∙ ap (λ o. option_or (first_found own_checks sections) (option_or twice o)) (first_found-append object_checks (entries_checks ++ mandatory) sections)
    ∙ ap (λ o. option_or (first_found own_checks sections) (option_or twice (option_or (first_found object_checks sections) o))) (first_found-append entries_checks mandatory sections)
    ∙ ap (λ o. option_or (first_found own_checks sections) (option_or twice (option_or (first_found object_checks sections) (option_or (first_found entries_checks sections) o)))) (or_none (least_fault (missing_mandatory sections)))
    ∙ ap (λ o. option_or (first_found own_checks sections) (option_or twice (option_or (first_found object_checks sections) (option_or o (least_fault (missing_mandatory sections)))))) (sym (entries-found sections))

-- a fault that a step answers is answered for all, where the steps before it find nothing
answered : {o : Option SheetFault} (p : Option SheetFault) (fault : SheetFault) → IsAnswered o fault → IsAnswered (option_or o p) fault
answered p fault (inl h) = inl h
answered p fault (inr h) = inr (ap (λ o. option_or o p) h)

module _ (sections : List TextSection) (fault : SheetFault) where
  pub of_lists : IsAnswered (first_found own_checks sections) fault → IsAnswered (first_found checks sections) fault
  of_lists h = rw (all_steps sections) (answered _ fault h)

  pub of_twice : first_found own_checks sections ≡ None → IsAnswered (least_fault (twice_in (listings sections))) fault → IsAnswered (first_found checks sections) fault
  of_twice lists h = rw (all_steps sections, lists) (answered _ fault h)

  pub of_objects : first_found own_checks sections ≡ None → least_fault (twice_in (listings sections)) ≡ None → IsAnswered (first_found object_checks sections) fault → IsAnswered (first_found checks sections) fault
  of_objects lists twice h = rw (all_steps sections, lists, twice) (answered _ fault h)

  pub of_entries : first_found own_checks sections ≡ None → least_fault (twice_in (listings sections)) ≡ None → first_found object_checks sections ≡ None → IsAnswered (first_in (entries_of sections)) fault
      → IsAnswered (first_found checks sections) fault
  of_entries lists twice objects h = rw (all_steps sections, lists, twice, objects) (answered _ fault h)

-- what the last step finds is what all find
pub of_mandatory : (sections : List TextSection) → first_found own_checks sections ≡ None → least_fault (twice_in (listings sections)) ≡ None → first_found object_checks sections ≡ None
    → first_in (entries_of sections) ≡ None → first_found checks sections ≡ least_fault (missing_mandatory sections)
of_mandatory sections lists twice objects entries = rw (all_steps sections, lists, twice, objects, entries) refl

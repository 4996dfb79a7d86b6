-- A text that is a sheet has no faults.
use Rattle.std.proofs.Common.{◌≡◌, ℕ, List, [], Contains, Option, Some, None, refl, sym, subst}
use Rattle.std.specs.List.Sorted.{IsStrictlySortedBy}
use Rattle.co_sheet_rows.specs.declared.fault.SheetFault.{SheetFault}
use Rattle.co_sheet.specs.Accepted.{IsAccepted, IsAnswered, first_fault, sections_in}
use Rattle.co_sheet.specs.Content.{IsSheet, SheetContent, content_of}
use Rattle.co_sheet_rows.specs.declared.fault.FaultKind.TheVariants.{Memory}
use Rattle.co_sheet_faults.specs.AllFaults.{faults_of}
use Rattle.conode_lint.specs.Marks.{IsFaultList}
use Rattle.conode_lint_marks.specs.Beside.{sheet_of}

-- what was read is the sheet of the text
pub sheet_read : (text : List ℕ) (sheet : SheetContent) → IsSheet text sheet → Some sheet ≡ sheet_of text
unfolding sheet_of
sheet_read text sheet is = rw (is.accepted, is.content) refl

-- a text with a first fault is none
pub sheet_refused : (text : List ℕ) (fault : SheetFault) → first_fault text ≡ Some fault → None ≡ sheet_of text
unfolding sheet_of
sheet_refused text fault e = rw e refl

-- an answer that isn't out of memory is the first fault
pub not_memory : (first : Option SheetFault) (fault : SheetFault) → IsAnswered first fault → (fault.kind ≡ Memory → ⊥) → first ≡ Some fault
not_memory first fault (Rattle.std.proofs.Common.inl is) other = absurd (other (Rattle.std.proofs.Common.ap (λ (f : SheetFault). f.kind) is))
not_memory first fault (Rattle.std.proofs.Common.inr is) other = is

accepted_where : (first : Option SheetFault) (content sheet : SheetContent) → Some sheet ≡ Rattle.std.specs.Option.option_map_or (λ (fault : SheetFault). None) first (Some content) → first ≡ None
accepted_where None content sheet e = refl
accepted_where (Some fault) content sheet e = absurd (cc)

pub accepted_sheet : (text : List ℕ) (sheet : SheetContent) → Some sheet ≡ sheet_of text → IsAccepted text
unfolding sheet_of
accepted_sheet text sheet e = accepted_where (first_fault text) (content_of (sections_in text)) sheet e

pub no_faults : (text : List ℕ) (faults : List SheetFault) → faults ≡ [] → faults_of text ≡ [] → IsFaultList text faults
unfolding IsStrictlySortedBy
no_faults text faults is none =
    subst (IsFaultList text) (sym is)
    (record {
      all = λ fault there. subst (λ (l : List SheetFault). Contains l fault) none there;
      only = λ fault there. subst (λ (l : List SheetFault). Contains l fault) (sym none) there;
      increase = tt;
    })

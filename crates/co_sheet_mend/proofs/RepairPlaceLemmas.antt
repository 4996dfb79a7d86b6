-- Which repairs a line of a text may have, by what it is.
use Rattle.std.proofs.Common.{◌≡◌, ℕ, Bool, true, false, not, List, [], ◌∷◌, ◌++◌, Option, Some, None, refl, sym, ap, ◌∙◌, subst, ◌⊎◌, inl, inr, arith, ◌==◌}
use Rattle.co_sheet_rows.specs.declared.fault.FaultKind.{FaultKind}
use Rattle.co_sheet_rows.specs.declared.fault.FaultKind.TheVariants.{BadAccess, MissingSub0}
use Rattle.co_sheet_rows.specs.declared.fault.SheetFault.{SheetFault}
use Rattle.co_sheet_text.specs.declared.fault.TextFaultKind.{TextFaultKind}
use Rattle.co_sheet_text.specs.declared.fault.TextFaultKind.TheVariants as of_text
use Rattle.co_sheet_text.specs.LinesAtFault.{emptied, emptied_form, own_fault, next_read, lines_read}
use Rattle.co_sheet_text.specs.Names.{kind_of}
use Rattle.co_sheet_text.specs.Sections.{LineForm, unclosed, form_of, section_line, name_value, sections_of, line_form}
use Rattle.co_sheet_text.specs.Text.{Line, trim}
use Rattle.co_sheet.specs.Faults.{line_fault_kind}
use Rattle.co_sheet_faults.specs.AllChecks.{all_checks}
use Rattle.co_sheet_faults.specs.AllFaults.{found_by, faults_in}
use Rattle.co_sheet_faults.specs.FaultLaws.{AreNumbered}
use Rattle.co_sheet_faults.specs.LinesAtFault.{fault_of_line, line_faults}
use Rattle.co_sheet_mend.specs.declared.repair.Repair.{Repair}
use Rattle.co_sheet_mend.specs.declared.repair.Repair.TheVariants.{ReadWrite, Numbered}
use Rattle.co_sheet_mend.specs.NameLaws.{is_entry, is_name, is_of_property, is_of_section, keeps_section, may_be_at}
use Rattle.co_sheet_mend.specs.Repairs.{asks_for, first_asked, repair_at, repair_for}
use Rattle.co_sheet_mend.proofs.ElementLemmas.{In, any-found, in-apart, one-of-number, rises-in}
use Rattle.co_sheet_mend.proofs.EntryLineLemmas.{emptied-section, emptied-value, emptied_name, fault_at_read, is_value, number_of}
use Rattle.co_sheet_mend.proofs.FaultPlaceLemmas.{IsPlaced, LacksSub0, both-true, placed}
use Rattle.co_sheet_mend.proofs.ListLineLemmas.{read-from, same-number}
use Rattle.co_sheet_mend.proofs.NameLemmas.{asks, asked-here, clash, keeps, no-repair}
use Rattle.co_sheet_mend.proofs.SectionFormLemmas.{is_bracketed}

-- ---- a repair that no line asks for by itself

module _ (repair : Repair) (never : (kind : TextFaultKind) → asks repair (repair_for (line_fault_kind kind)) ≡ false) where
  fault-asks : (l : Line) (o : Option TextFaultKind) (f : SheetFault) → In f (fault_of_line l o) → asks repair (repair_for f.kind) ≡ false
  fault-asks l None f h = absurd h
  fault-asks l (Some kind) f (inl same) = subst (λ (g : SheetFault). asks repair (repair_for g.kind) ≡ false) same (never kind)
  fault-asks l (Some kind) f (inr h) = absurd h

  own-cases : (l : Line) (o : Option TextFaultKind) (more : List SheetFault) (f : SheetFault) → In f (fault_of_line l o) ⊎ In f more
      → (In f more → asks repair (repair_for f.kind) ≡ false) → asks repair (repair_for f.kind) ≡ false
  own-cases l o more f (inl i) rest = fault-asks l o f i
  own-cases l o more f (inr i) rest = rest i

  own-asks : (before ls : List Line) (f : SheetFault) → In f (line_faults before ls) → asks repair (repair_for f.kind) ≡ false
  own-asks before [] f h = absurd h
  own-asks before (l ∷ ls) f h =
      let next = before ++ next_read before l ∷ [] in
      own-cases l (own_fault before l) (line_faults next ls) f (in-apart (fault_of_line l (own_fault before l)) (line_faults next ls) f h) (own-asks next ls f)

write-never : (kind : TextFaultKind) → asks ReadWrite (repair_for (line_fault_kind kind)) ≡ false
unfolding repair_for
write-never of_text.TooLarge = refl
write-never of_text.BadLine = refl
write-never of_text.KeyOutsideSection = refl
write-never of_text.DuplicateSection = refl
write-never of_text.DuplicateKey = refl
write-never of_text.Memory = refl

number-never : (kind : TextFaultKind) → asks Numbered (repair_for (line_fault_kind kind)) ≡ false
unfolding repair_for
number-never of_text.TooLarge = refl
number-never of_text.BadLine = refl
number-never of_text.KeyOutsideSection = refl
number-never of_text.DuplicateSection = refl
number-never of_text.DuplicateKey = refl
number-never of_text.Memory = refl

write-asked : (a b c d e f : Bool) → first_asked a b c d e f ≡ Some ReadWrite → c ≡ true
write-asked true b c d e f h = absurd (cc)
write-asked false true c d e f h = absurd (cc)
write-asked false false true d e f h = refl
write-asked false false false true e f h = absurd (cc)
write-asked false false false false true f h = absurd (cc)
write-asked false false false false false true h = absurd (cc)
write-asked false false false false false false h = absurd (cc)

number-asked : (a b c d e f : Bool) → first_asked a b c d e f ≡ Some Numbered → f ≡ true
number-asked true b c d e f h = absurd (cc)
number-asked false true c d e f h = absurd (cc)
number-asked false false true d e f h = absurd (cc)
number-asked false false false true e f h = absurd (cc)
number-asked false false false false true f h = absurd (cc)
number-asked false false false false false true h = refl
number-asked false false false false false false h = absurd (cc)

-- ---- which kinds of faults ask for it

write-kind : (found : FaultKind) (form : LineForm) → asks ReadWrite (repair_for found) ≡ true → may_be_at found form ≡ true → is_bracketed form ≡ false
unfolding repair_for
write-kind BadAccess (name_value name value) h at = refl
write-kind BadAccess (section_line name) h at = absurd (cc)
write-kind BadAccess form h at = absurd (cc)
write-kind found form h at = absurd (cc)

number-kind : (found : FaultKind) → asks Numbered (repair_for found) ≡ true → found ≡ MissingSub0
unfolding repair_for
number-kind MissingSub0 h = refl
number-kind found h = absurd (cc)

-- ---- the lines of a text

emptied-bracketed : (form : LineForm) → is_bracketed form ≡ true → is_bracketed (form_of (trim (emptied_form form))) ≡ true
emptied-bracketed (section_line name) h = refl
emptied-bracketed unclosed h = refl
emptied-bracketed form h = absurd (cc)

record IsChecked (rs : List Line) (l : Line) (f : SheetFault) : Type 0 where
  line : Line
  read : (line ≡ l) ⊎ (line ≡ emptied l)
  suits : may_be_at f.kind (line_form line) ≡ true
  lacks : f.kind ≡ MissingSub0 → LacksSub0 rs line

module _ (lines : List Line) (numbered : AreNumbered lines) where
  abbrev rs : List Line
  rs = lines_read [] lines

  checked : (l : Line) → In l lines → (repair : Repair) → ((kind : TextFaultKind) → asks repair (repair_for (line_fault_kind kind)) ≡ false)
      → (f : SheetFault) → In f (faults_in lines) → f.line ≡ l.number → asks repair (repair_for f.kind) ≡ true → IsChecked rs l f
  checked l i repair never f h at asked = by_cases (in-apart (line_faults [] lines) (found_by all_checks (sections_of rs)) f h)
    where
      by_place : IsPlaced rs f → IsChecked rs l f
      by_place (inl zeroth) =
          let first = rises-in number_of 1 lines l numbered i in
          absurd (omega (arith, zeroth, at, first))
      by_place (inr place) =
          let source = read-from [] lines place.line place.among in
          let same = one-of-number number_of 1 lines source.line l numbered source.among i (sym (same-number place.line source.line source.read) ∙ place.number ∙ at) in
          record {
            line = place.line;
            read = subst (λ (k : Line). (place.line ≡ k) ⊎ (place.line ≡ emptied k)) same source.read;
            suits = place.suits;
            lacks = place.lacks;
          }

      by_cases : In f (line_faults [] lines) ⊎ In f (found_by all_checks (sections_of rs)) → IsChecked rs l f
      by_cases (inl c) = clash (asks repair (repair_for f.kind)) asked (own-asks repair never [] lines f c)
      by_cases (inr c) = by_place (placed rs f c)

  -- a section line doesn't become an access type
  unwritten-at : (l : Line) (f : SheetFault) → IsChecked rs l f → is_bracketed (line_form l) ≡ true → asks ReadWrite (repair_for f.kind) ≡ true → ⊥
  unwritten-at l f at bracketed asked = by_read at.line at.read at.suits
    where
      by_read : (m : Line) → (m ≡ l) ⊎ (m ≡ emptied l) → may_be_at f.kind (line_form m) ≡ true → ⊥
      by_read m (inl same) suits = clash (is_bracketed (line_form m)) (ap (λ (k : Line). is_bracketed (line_form k)) same ∙ bracketed) (write-kind f.kind (line_form m) asked suits)
      by_read m (inr same) suits =
          clash (is_bracketed (line_form m)) (ap (λ (k : Line). is_bracketed (line_form k)) same ∙ emptied-bracketed (line_form l) bracketed) (write-kind f.kind (line_form m) asked suits)

  pub unwritten : (l : Line) → In l lines → is_bracketed (line_form l) ≡ true → repair_at (faults_in lines) l.number ≡ Some ReadWrite → ⊥
  unfolding repair_at
  unwritten l i bracketed h =
      let found = any-found (asks_for ReadWrite l.number) (faults_in lines) (write-asked _ _ _ _ _ _ h) in
      let f = found.item in
      let here = asked-here ReadWrite l.number f (f.line == l.number) refl found.passes in
      unwritten-at l f (checked l i ReadWrite write-never f found.among here.0 here.1) bracketed here.1

  -- sub-index 0 is added at a section line of an object that has none
  numbered-at : (l m : Line) → (m ≡ l) ⊎ (m ≡ emptied l) → LacksSub0 rs m → LacksSub0 rs l
  numbered-at l m (inl same) lacks = subst (LacksSub0 rs) same lacks
  numbered-at l m (inr same) lacks =
      let unnamed : lacks.name ≡ [] = sym (ap emptied_name lacks.form) ∙ ap (λ (k : Line). emptied_name (line_form k)) same ∙ emptied-section (line_form l) in
      clash (is_entry (kind_of lacks.name)) (ap is_entry lacks.object) (ap (λ (n : List ℕ). is_entry (kind_of n)) unnamed)

  pub lacks_sub0 : (l : Line) → In l lines → repair_at (faults_in lines) l.number ≡ Some Numbered → LacksSub0 rs l
  unfolding repair_at
  lacks_sub0 l i h =
      let found = any-found (asks_for Numbered l.number) (faults_in lines) (number-asked _ _ _ _ _ _ h) in
      let f = found.item in
      let here = asked-here Numbered l.number f (f.line == l.number) refl found.passes in
      let at = checked l i Numbered number-never f found.among here.0 here.1 in
      numbered-at l at.line at.read (at.lacks (number-kind f.kind here.1))

  -- ---- of lines that are read as they are

  pub name_unrepaired : (l : Line) → In l rs → (name value : List ℕ) → line_form l ≡ name_value name value → is_name name ≡ true → repair_at (faults_in lines) l.number ≡ None
  name_unrepaired l i name value form named = no-repair (faults_in lines) l.number (λ f h at. no_fault f (fault_at_read lines numbered l i f h at))
    where
      no_fault : (f : SheetFault) → ((k : Line) × (emptied k ≡ l)) ⊎ ((may_be_at f.kind (line_form l) ≡ true) × (f.kind ≡ MissingSub0 → LacksSub0 rs l)) → ⊥
      no_fault f (inl own) = clash (is_value (line_form l)) (ap is_value form) (ap (λ (k : Line). is_value (line_form k)) (sym own.1) ∙ emptied-value (line_form own.0))
      no_fault f (inr at) =
          let suits = both-true (is_of_property f.kind) _ (ap (may_be_at f.kind) (sym form) ∙ at.0) in
          clash (not (is_name name)) suits.1 (ap not named)

  pub section_kept : (l : Line) → In l rs → (name : List ℕ) → line_form l ≡ section_line name → is_entry (kind_of name) ≡ true → keeps_section (repair_at (faults_in lines) l.number) ≡ true
  section_kept l i name form entry = keeps (kind_of name) entry (faults_in lines) l.number (λ f h at. suits f (fault_at_read lines numbered l i f h at))
    where
      suits : (f : SheetFault) → ((k : Line) × (emptied k ≡ l)) ⊎ ((may_be_at f.kind (line_form l) ≡ true) × (f.kind ≡ MissingSub0 → LacksSub0 rs l)) → is_of_section (kind_of name) f.kind ≡ true
      suits f (inl own) =
          let unnamed : name ≡ [] = sym (ap emptied_name form) ∙ ap (λ (k : Line). emptied_name (line_form k)) (sym own.1) ∙ emptied-section (line_form own.0) in
          clash (is_entry (kind_of name)) entry (ap (λ (n : List ℕ). is_entry (kind_of n)) unnamed)
      suits f (inr at) = ap (may_be_at f.kind) (sym form) ∙ at.0

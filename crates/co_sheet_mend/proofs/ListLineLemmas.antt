-- Only at the section line of an object list the objects are counted anew.
use Rattle.std.proofs.Common.{◌≡◌, ℕ, Bool, true, false, cond, ◌&&◌, List, [], ◌∷◌, ◌++◌, Option, Some, None, refl, sym, ap, ◌∙◌, subst, ◌⊎◌, inl, inr, arith, length, ◌==◌, ◌≤◌}
use Rattle.std.specs.List.{after_first, before_first, list_any}
use Rattle.std.specs.Option.{option_map_or}
use Rattle.co_sheet_rows.specs.declared.fault.FaultKind.{FaultKind}
use Rattle.co_sheet_rows.specs.declared.fault.FaultKind.TheVariants.{BadList, MissingMandatory}
use Rattle.co_sheet_rows.specs.declared.fault.SheetFault.{SheetFault}
use Rattle.co_sheet_text.specs.declared.fault.TextFaultKind.{TextFaultKind}
use Rattle.co_sheet_text.specs.declared.fault.TextFaultKind.TheVariants as of_text
use Rattle.co_sheet_text.specs.LinesAtFault.{emptied_form, emptied, own_fault, read_as, next_read, lines_read}
use Rattle.co_sheet_text.specs.Names.{is_list, kind_of}
use Rattle.co_sheet_text.specs.Sections.{IsLineOf, LineForm, skipped, unclosed, malformed, form_of, property_form, section_line, name_value, sections_of, line_form, is_bracket, is_equals}
use Rattle.co_sheet_text.specs.Text.{Line, lines_of, trim}
use Rattle.co_sheet.specs.Faults.{line_fault_kind}
use Rattle.co_sheet_changes.specs.Groups.{section_at_text}
use Rattle.co_sheet_faults.specs.AllChecks.{all_checks}
use Rattle.co_sheet_faults.specs.AllFaults.{found_by, faults_in, faults_of}
use Rattle.co_sheet_faults.specs.FaultLaws.{AreNumbered}
use Rattle.co_sheet_faults.specs.LinesAtFault.{fault_of_line, line_faults}
use Rattle.co_sheet_mend.specs.declared.repair.Repair.TheVariants.{Counted}
use Rattle.co_sheet_mend.proofs.ElementLemmas.{In, any-found, in-apart, one-of-number, rises-in}
use Rattle.co_sheet_mend.proofs.EntryLineLemmas.{number_of}
use Rattle.co_sheet_mend.proofs.FaultPlaceLemmas.{IsPlaced, placed}
use Rattle.co_sheet_mend.proofs.NameLemmas.{asks, asked-here, clash, faults-whole, numbered-lines}
use Rattle.co_sheet_mend.specs.NameLaws.{may_be_at}
use Rattle.co_sheet_mend.specs.Repairs.{asks_for, begins_list, first_asked, repair_at, repair_for}

-- ---- which faults ask for it

line-asks : (kind : TextFaultKind) → asks Counted (repair_for (line_fault_kind kind)) ≡ false
unfolding repair_for
line-asks of_text.TooLarge = refl
line-asks of_text.BadLine = refl
line-asks of_text.KeyOutsideSection = refl
line-asks of_text.DuplicateSection = refl
line-asks of_text.DuplicateKey = refl
line-asks of_text.Memory = refl

fault-asks : (l : Line) (o : Option TextFaultKind) (f : SheetFault) → In f (fault_of_line l o) → asks Counted (repair_for f.kind) ≡ false
fault-asks l None f h = absurd h
fault-asks l (Some kind) f (inl same) = subst (λ (g : SheetFault). asks Counted (repair_for g.kind) ≡ false) same (line-asks kind)
fault-asks l (Some kind) f (inr h) = absurd h

own-cases : (l : Line) (o : Option TextFaultKind) (more : List SheetFault) (f : SheetFault) → In f (fault_of_line l o) ⊎ In f more
    → (In f more → asks Counted (repair_for f.kind) ≡ false) → asks Counted (repair_for f.kind) ≡ false
own-cases l o more f (inl i) rest = fault-asks l o f i
own-cases l o more f (inr i) rest = rest i

-- no line's own fault
own-asks : (before ls : List Line) (f : SheetFault) → In f (line_faults before ls) → asks Counted (repair_for f.kind) ≡ false
own-asks before [] f h = absurd h
own-asks before (l ∷ ls) f h =
    let next = before ++ next_read before l ∷ [] in
    own-cases l (own_fault before l) (line_faults next ls) f (in-apart (fault_of_line l (own_fault before l)) (line_faults next ls) f h) (own-asks next ls f)

abbrev is_list_line : LineForm → Bool
is_list_line (section_line name) = is_list (kind_of name)
is_list_line form = false

found-asks : (found : FaultKind) (form : LineForm) → asks Counted (repair_for found) ≡ true → may_be_at found form ≡ true → is_list_line form ≡ true
unfolding repair_for
found-asks BadList (section_line name) h at = at
found-asks BadList form h at = absurd (cc)
found-asks MissingMandatory (section_line name) h at = absurd (cc)
found-asks MissingMandatory form h at = absurd (cc)
found-asks found form h at = absurd (cc)

counted-asked : (a b c d e f : Bool) → first_asked a b c d e f ≡ Some Counted → e ≡ true
counted-asked true b c d e f h = absurd (cc)
counted-asked false true c d e f h = absurd (cc)
counted-asked false false true d e f h = absurd (cc)
counted-asked false false false true e f h = absurd (cc)
counted-asked false false false false true f h = refl
counted-asked false false false false false true h = absurd (cc)
counted-asked false false false false false false h = absurd (cc)

-- ---- the line of a text that a line was read from

pub record IsReadFrom (ls : List Line) (m : Line) : Type 0 where
  pub line : Line
  pub among : In line ls
  pub read : (m ≡ line) ⊎ (m ≡ emptied line)

from-here : (o : Option TextFaultKind) (l m : Line) (ls : List Line) → read_as o l ≡ m → IsReadFrom (l ∷ ls) m
from-here None l m ls same = record { line = l; among = inl refl; read = inl (sym same) }
from-here (Some kind) l m ls same = record { line = l; among = inl refl; read = inr (sym same) }

pub read-from : (before ls : List Line) (m : Line) → In m (lines_read before ls) → IsReadFrom ls m
read-from before [] m h = absurd h
read-from before (l ∷ ls) m (inl same) = from-here (own_fault before l) l m ls same
read-from before (l ∷ ls) m (inr h) = let more = read-from (before ++ next_read before l ∷ []) ls m h in record { line = more.line; among = inr more.among; read = more.read }

emptied-list : (form : LineForm) → is_list_line (form_of (trim (emptied_form form))) ≡ false
emptied-list skipped = refl
emptied-list (section_line name) = refl
emptied-list unclosed = refl
emptied-list (name_value name value) = refl
emptied-list malformed = refl

-- a line that is read as that of a list is one
list-read : (m line : Line) → (m ≡ line) ⊎ (m ≡ emptied line) → is_list_line (line_form m) ≡ true → is_list_line (line_form line) ≡ true
list-read m line (inl same) is = ap (λ (l : Line). is_list_line (line_form l)) (sym same) ∙ is
list-read m line (inr same) is = clash (is_list_line (line_form m)) is (ap (λ (l : Line). is_list_line (line_form l)) same ∙ emptied-list (line_form line))

pub same-number : (m line : Line) → (m ≡ line) ⊎ (m ≡ emptied line) → m.number ≡ line.number
same-number m line (inl same) = ap number_of same
same-number m line (inr same) = ap number_of same

-- ---- and so it begins a list

value-form : (test : Bool) (name value : List ℕ) → is_list_line (cond test (name_value name value) malformed) ≡ false
value-form true name value = refl
value-form false name value = refl

bracket-list : (comment bracket closed : Bool) (name : List ℕ) (other : LineForm) → is_list_line other ≡ false
    → is_list_line (cond comment skipped (cond bracket (cond closed (section_line name) unclosed) other)) ≡ true
    → option_map_or (λ n. is_list (kind_of n)) (cond (bracket && closed) (Some name) None) false ≡ true
bracket-list true bracket closed name other none h = absurd (cc)
bracket-list false true true name other none h = h
bracket-list false true false name other none h = absurd (cc)
bracket-list false false closed name other none h = clash (is_list_line other) h none

begins : (text : List ℕ) → is_list_line (form_of text) ≡ true → option_map_or (λ n. is_list (kind_of n)) (section_at_text text) false ≡ true
begins [] h = absurd (cc)
begins (b ∷ bs) h =
    let text = b ∷ bs in
    let name = trim (before_first is_equals text) in
    bracket-list (b == 59) (b == 91) (list_any is_bracket bs) (trim (before_first is_bracket bs)) (property_form text name)
    (value-form _ name (trim (after_first is_equals text))) h

module _ (lines : List Line) (numbered : AreNumbered lines) where
  list-line : (line : Line) → In line lines → (f : SheetFault) → In f (faults_in lines) → f.line ≡ line.number → asks Counted (repair_for f.kind) ≡ true → begins_list line ≡ true
  list-line line i f h at asked = by_cases (in-apart (line_faults [] lines) (found_by all_checks (sections_of (lines_read [] lines))) f h)
    where
      by_place : IsPlaced (lines_read [] lines) f → begins_list line ≡ true
      by_place (inl zeroth) =
          let first = rises-in number_of 1 lines line numbered i in
          absurd (omega (arith, zeroth, at))
      by_place (inr place) =
          let source = read-from [] lines place.line place.among in
          let same = one-of-number number_of 1 lines source.line line numbered source.among i (sym (same-number place.line source.line source.read) ∙ place.number ∙ at) in
          let is = list-read place.line source.line source.read (found-asks f.kind (line_form place.line) asked place.suits) in
          begins (trim line.bytes) (ap (λ (l : Line). is_list_line (line_form l)) (sym same) ∙ is)

      by_cases : In f (line_faults [] lines) ⊎ In f (found_by all_checks (sections_of (lines_read [] lines))) → begins_list line ≡ true
      by_cases (inl c) = clash (asks Counted (repair_for f.kind)) asked (own-asks [] lines f c)
      by_cases (inr c) = by_place (placed (lines_read [] lines) f c)

  pub counted-line : (line : Line) → In line lines → repair_at (faults_in lines) line.number ≡ Some Counted → begins_list line ≡ true
  unfolding repair_at
  counted-line line i h =
      let found = any-found (asks_for Counted line.number) (faults_in lines) (counted-asked _ _ _ _ _ _ h) in
      let f = found.item in
      let here = asked-here Counted line.number f (f.line == line.number) refl found.passes in
      list-line line i f found.among here.0 here.1

pub in-middle : (before after : List Line) (line : Line) → In line (before ++ line ∷ after)
in-middle [] after line = inl refl
in-middle (l ∷ before) after line = inr (in-middle before after line)

pub list-counted : (text : List ℕ) (before : List Line) (line : Line) → length text ≤ 1048576 → IsLineOf (lines_of text) before line → repair_at (faults_of text) line.number ≡ Some Counted → begins_list line ≡ true
list-counted text before line size of counted =
    counted-line (lines_of text) (numbered-lines text) line (subst (λ (ls : List Line). In line ls) (sym of.cut) (in-middle before of.after line))
    (ap (λ (faults : List SheetFault). repair_at faults line.number) (sym (faults-whole text size)) ∙ counted)

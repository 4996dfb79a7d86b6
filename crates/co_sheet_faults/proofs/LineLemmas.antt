-- The faults of lines, one by one: against the first of them, and of lines that are emptied.
use Rattle.std.proofs.Common.{◌≡◌, Bool, true, false, cond, not, List, [], ◌∷◌, ◌++◌, Option, Some, None, refl, sym, ap, ◌∙◌, subst, Contains}
use Rattle.std.specs.Prelude.{option_map}
use Rattle.std.specs.Option.{option_or}
use Rattle.std.proofs.lemmas.List.Elements.{Contains-append_left, Contains-push, filter-append as elements-append}
use Rattle.co_sheet_rows.specs.declared.fault.FaultKind.{FaultKind}
use Rattle.co_sheet_rows.specs.declared.fault.SheetFault.{SheetFault}
use Rattle.co_sheet_text.specs.declared.fault.TextFaultKind.{TextFaultKind}
use Rattle.co_sheet_text.specs.declared.fault.TextFault.{TextFault}
use Rattle.co_sheet_text.specs.Text.{Line}
use Rattle.co_sheet_text.specs.Sections.{fault_at, first_line_fault}
use Rattle.co_sheet.specs.Faults.{sheet_fault}
use Rattle.co_sheet_text.specs.LinesAtFault.{emptied, own_fault, read_as, next_read, lines_read}
use Rattle.co_sheet_faults.specs.LinesAtFault.{fault_of_line, line_faults}
use Rattle.co_sheet_text.proofs.ReadLemmas.{emptied-good}
use Rattle.co_sheet_faults.specs.FaultLaws.{is_of, has_kind, emptied_of, without}

-- ---- where no line has a fault

pub record IsClean (before ls : List Line) : Type 0 where
  pub none : line_faults before ls ≡ []
  pub same : lines_read before ls ≡ ls

clean-line : (o : Option TextFaultKind) (before ls : List Line) (l : Line)
    → option_or (option_map (fault_at l.number) o) (first_line_fault (before ++ l ∷ []) ls) ≡ None
    → (first_line_fault (before ++ l ∷ []) ls ≡ None → IsClean (before ++ l ∷ []) ls)
    → (fault_of_line l o ++ line_faults (before ++ read_as o l ∷ []) ls ≡ [])
    × (read_as o l ∷ lines_read (before ++ read_as o l ∷ []) ls ≡ l ∷ ls)
clean-line None before ls l h more =
    let clean = more h in
    (clean.none, ap (λ (rest : List Line). l ∷ rest) clean.same)
clean-line (Some k) before ls l h more = absurd (cc)

pub clean : (before ls : List Line) → first_line_fault before ls ≡ None → IsClean before ls
clean before [] h = record { none = refl; same = refl }
clean before (l ∷ ls) h =
    let both = clean-line (own_fault before l) before ls l h (clean (before ++ l ∷ []) ls) in
    record { none = both.0; same = both.1 }

-- ---- the first is among all

pub contains-head : {X : Type 0} (x : X) (xs : List X) → Contains (x ∷ xs) x
contains-head x xs = Contains-append_left (x ∷ []) xs x (Contains-push [] x)

same-some : (f g : TextFault) → ◌≡◌ {A = Option TextFault} (Some f) (Some g) → f ≡ g
same-some f g h = cc

contains-line : (o : Option TextFaultKind) (before ls : List Line) (l : Line) (f : TextFault)
    → option_or (option_map (fault_at l.number) o) (first_line_fault (before ++ l ∷ []) ls) ≡ Some f
    → (first_line_fault (before ++ l ∷ []) ls ≡ Some f → Contains (line_faults (before ++ l ∷ []) ls) (sheet_fault f))
    → Contains (fault_of_line l o ++ line_faults (before ++ read_as o l ∷ []) ls) (sheet_fault f)
contains-line None before ls l f h more = more h
contains-line (Some k) before ls l f h more =
    let rest = line_faults (before ++ emptied l ∷ []) ls in
    let here = sheet_fault (fault_at l.number k) in
    subst (Contains (here ∷ rest)) (ap sheet_fault (same-some (fault_at l.number k) f h)) (contains-head here rest)

pub contains-first : (before ls : List Line) (f : TextFault) → first_line_fault before ls ≡ Some f
    → Contains (line_faults before ls) (sheet_fault f)
contains-first before [] f h = absurd (cc)
contains-first before (l ∷ ls) f h = contains-line (own_fault before l) before ls l f h (contains-first (before ++ l ∷ []) ls f)

-- ---- without the lines of a kind

pub filter-append : (kind : FaultKind) (xs ys : List SheetFault) → without kind (xs ++ ys) ≡ without kind xs ++ without kind ys
filter-append kind xs ys = elements-append (λ f. not (is_of kind f)) xs ys

one-cases : (kind : FaultKind) (f : SheetFault) (test : Bool) → is_of kind f ≡ test → without kind (f ∷ []) ≡ cond test [] (f ∷ [])
one-cases kind f true h = rw h refl
one-cases kind f false h = rw h refl

has-one : (kind : FaultKind) (f : SheetFault) (test : Bool) → is_of kind f ≡ test → has_kind kind (f ∷ []) ≡ test
has-one kind f true h = rw h refl
has-one kind f false h = rw h refl

one-of : (kind : FaultKind) (f : SheetFault) → has_kind kind (f ∷ []) ≡ true → [] ≡ without kind (f ∷ [])
one-of kind f h = sym (one-cases kind f true (sym (has-one kind f (is_of kind f) refl) ∙ h))

one-other : (kind : FaultKind) (f : SheetFault) → has_kind kind (f ∷ []) ≡ false → f ∷ [] ≡ without kind (f ∷ [])
one-other kind f h = sym (one-cases kind f false (sym (has-one kind f (is_of kind f) refl) ∙ h))

-- what a line is in the text without those of the kind: read as before, with its own fault unless that is of the kind
record IsKept (kind : FaultKind) (before : List Line) (l m : Line) : Type 0 where
  pub read : next_read before m ≡ next_read before l
  pub own : fault_of_line m (own_fault before m) ≡ without kind (fault_of_line l (own_fault before l))

kept-cases : (kind : FaultKind) (before : List Line) (l : Line) (o : Option TextFaultKind) (test : Bool) → own_fault before l ≡ o → has_kind kind (fault_of_line l o) ≡ test
    → IsKept kind before l (cond test (emptied l) l)
kept-cases kind before l None true own h = absurd (cc)
kept-cases kind before l None false own h = record { read = refl; own = rw own refl }
kept-cases kind before l (Some k) true own h = record { read = rw (own, emptied-good before l) refl; own = rw (own, emptied-good before l) (one-of kind _ h) }
kept-cases kind before l (Some k) false own h = record { read = refl; own = rw own (one-other kind _ h) }

pub record AreKept (kind : FaultKind) (before ls : List Line) : Type 0 where
  pub read : lines_read before (emptied_of kind before ls) ≡ lines_read before ls
  pub faults : line_faults before (emptied_of kind before ls) ≡ without kind (line_faults before ls)

kept-line : (kind : FaultKind) (before ls : List Line) (l m : Line) → IsKept kind before l m
    → AreKept kind (before ++ next_read before l ∷ []) ls
    → (next_read before m ∷ lines_read (before ++ next_read before m ∷ []) (emptied_of kind (before ++ next_read before l ∷ []) ls)
    ≡ next_read before l ∷ lines_read (before ++ next_read before l ∷ []) ls)
    × (fault_of_line m (own_fault before m) ++ line_faults (before ++ next_read before m ∷ []) (emptied_of kind (before ++ next_read before l ∷ []) ls)
    ≡ without kind (fault_of_line l (own_fault before l) ++ line_faults (before ++ next_read before l ∷ []) ls))
kept-line kind before ls l m kept more =
    let rest = emptied_of kind (before ++ next_read before l ∷ []) ls in
    let after = line_faults (before ++ next_read before l ∷ []) ls in (
      ap (λ (r : Line). r ∷ lines_read (before ++ r ∷ []) rest) kept.read ∙ ap (λ (lines : List Line). next_read before l ∷ lines) more.read,
      ap (λ (r : Line). fault_of_line m (own_fault before m) ++ line_faults (before ++ r ∷ []) rest) kept.read
          ∙ ap (λ (own : List SheetFault). own ++ line_faults (before ++ next_read before l ∷ []) rest) kept.own
          ∙ ap (λ (faults : List SheetFault). without kind (fault_of_line l (own_fault before l)) ++ faults) more.faults
          ∙ sym (filter-append kind (fault_of_line l (own_fault before l)) after),
    )

-- the lines are read as before, and exactly the faults of the kind are gone
pub kept : (kind : FaultKind) (before ls : List Line) → AreKept kind before ls
kept kind before [] = record { read = refl; faults = refl }
kept kind before (l ∷ ls) =
    let o = own_fault before l in
    let test = has_kind kind (fault_of_line l o) in
    let both = kept-line kind before ls l (cond test (emptied l) l) (kept-cases kind before l o test refl refl) (kept kind (before ++ next_read before l ∷ []) ls) in
    record { read = both.0; faults = both.1 }

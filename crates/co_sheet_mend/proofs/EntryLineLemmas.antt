-- Of an entry no fault is at the line of its name, and at its section line only what checks find there.
use Rattle.std.proofs.Common.{◌≡◌, ℕ, Bool, true, false, not, ◌&&◌, List, [], ◌∷◌, ◌++◌, Option, Some, None, refl, sym, ap, ◌∙◌, subst, map, ◌⊎◌, inl, inr, arith}
use Rattle.co_sheet_rows.specs.declared.fault.FaultKind.TheVariants.{MissingSub0}
use Rattle.co_sheet_rows.specs.declared.fault.SheetFault.{SheetFault}
use Rattle.co_sheet_text.specs.declared.fault.TextFaultKind.{TextFaultKind}
use Rattle.co_sheet_text.specs.declared.section_kind.SectionKind.{SectionKind}
use Rattle.co_sheet_text.specs.LinesAtFault.{emptied_form, emptied, own_fault, read_as, next_read, lines_read}
use Rattle.co_sheet_text.specs.Names.{kind_of}
use Rattle.co_sheet_text.specs.SectionLaws.{RisesFrom}
use Rattle.co_sheet_text.specs.Sections.{LineForm, skipped, unclosed, malformed, form_of, section_line, name_value, Property, TextSection, sections_of, line_form}
use Rattle.co_sheet_text.specs.Text.{Line, trim}
use Rattle.co_sheet_faults.specs.AllChecks.{all_checks}
use Rattle.co_sheet_faults.specs.AllFaults.{found_by, faults_in}
use Rattle.co_sheet_faults.specs.FaultLaws.{AreNumbered}
use Rattle.co_sheet_faults.specs.LinesAtFault.{fault_of_line, line_faults}
use Rattle.co_sheet_mend.proofs.ElementLemmas.{In, in-apart, one-of-number, rises-in}
use Rattle.co_sheet_mend.proofs.FaultPlaceLemmas.{IsBegun, IsGiven, IsPlaced, LacksSub0, both-true, placed, read}
use Rattle.co_sheet_mend.specs.NameLaws.{is_entry, is_name, is_of_property, is_of_section, may_be_at}

-- ---- lines that are at fault by themselves

abbrev pub number_of : Line → ℕ
number_of l = l.number

pub record IsOwn (before ls : List Line) (f : SheetFault) : Type 0 where
  pub line : Line
  pub among : In line ls
  pub number : line.number ≡ f.line
  pub read : In (emptied line) (lines_read before ls)

own-cases : (before ls : List Line) (l : Line) (f : SheetFault) (o : Option TextFaultKind)
    → In f (fault_of_line l o) ⊎ In f (line_faults (before ++ read_as o l ∷ []) ls)
    → (In f (line_faults (before ++ read_as o l ∷ []) ls) → IsOwn (before ++ read_as o l ∷ []) ls f)
    → (line : Line) × In line (l ∷ ls) × (line.number ≡ f.line) × In (emptied line) (read_as o l ∷ lines_read (before ++ read_as o l ∷ []) ls)
own-cases before ls l f None (inl h) more = absurd h
own-cases before ls l f (Some kind) (inl (inl same)) more = (l, inl refl, ap (λ (g : SheetFault). g.line) same, inl refl)
own-cases before ls l f (Some kind) (inl (inr h)) more = absurd h
own-cases before ls l f o (inr h) more = let own = more h in (own.line, inr own.among, own.number, inr own.read)

own : (before ls : List Line) (f : SheetFault) → In f (line_faults before ls) → IsOwn before ls f
own before [] f h = absurd h
own before (l ∷ ls) f h =
    let o = own_fault before l in
    let next = before ++ read_as o l ∷ [] in
    let found = own-cases before ls l f o (in-apart (fault_of_line l o) (line_faults next ls) f h) (own next ls f) in
    record { line = found.0; among = found.1; number = found.2; read = found.3 }

read-number : (o : Option TextFaultKind) (l : Line) → (read_as o l).number ≡ l.number
read-number None l = refl
read-number (Some kind) l = refl

numbers-read : (before ls : List Line) → map number_of (lines_read before ls) ≡ map number_of ls
numbers-read before [] = refl
numbers-read before (l ∷ ls) =
    let next = before ++ next_read before l ∷ [] in
    ap (λ n. n ∷ map number_of (lines_read next ls)) (read-number (own_fault before l) l)
    ∙ ap (λ ns. l.number ∷ ns) (numbers-read next ls)

abbrev pub emptied_name : LineForm → List ℕ
emptied_name (section_line name) = name
emptied_name form = []

abbrev pub is_value : LineForm → Bool
is_value (name_value name value) = true
is_value form = false

pub emptied-value : (form : LineForm) → is_value (form_of (trim (emptied_form form))) ≡ false
emptied-value skipped = refl
emptied-value (section_line name) = refl
emptied-value unclosed = refl
emptied-value (name_value name value) = refl
emptied-value malformed = refl

pub emptied-section : (form : LineForm) → emptied_name (form_of (trim (emptied_form form))) ≡ []
emptied-section skipped = refl
emptied-section (section_line name) = refl
emptied-section unclosed = refl
emptied-section (name_value name value) = refl
emptied-section malformed = refl

never : {P : Type 0} (b : Bool) → b ≡ true → b ≡ false → P
never true is fails = absurd (cc)
never false is fails = absurd (cc)

-- ---- the lines of an entry

module _ (lines : List Line) (numbered : AreNumbered lines) where
  abbrev rs : List Line
  rs = lines_read [] lines

  rises : AreNumbered rs
  rises = subst (RisesFrom 1) (sym (numbers-read [] lines)) numbered

  one_line : (l m : Line) → In l rs → In m rs → l.number ≡ m.number → l ≡ m
  one_line l m i j same = one-of-number number_of 1 rs l m rises i j same

  -- at a line as it is read a fault of the line by itself, for which it is emptied, or one that a check finds
  pub fault_at_read : (m : Line) → In m rs → (f : SheetFault) → In f (faults_in lines) → f.line ≡ m.number
      → ((l : Line) × (emptied l ≡ m)) ⊎ ((may_be_at f.kind (line_form m) ≡ true) × (f.kind ≡ MissingSub0 → LacksSub0 rs m))
  fault_at_read m i f h at = by_cases (in-apart (line_faults [] lines) (found_by all_checks (sections_of rs)) f h)
    where
      by_place : IsPlaced rs f → ((l : Line) × (emptied l ≡ m)) ⊎ ((may_be_at f.kind (line_form m) ≡ true) × (f.kind ≡ MissingSub0 → LacksSub0 rs m))
      by_place (inl zeroth) =
          let first = rises-in number_of 1 rs m rises i in
          absurd (omega (arith, zeroth, at, first))
      by_place (inr place) =
          let same = one_line place.line m place.among i (place.number ∙ at) in
          inr (ap (λ (l : Line). may_be_at f.kind (line_form l)) (sym same) ∙ place.suits, λ of. subst (LacksSub0 rs) same (place.lacks of))

      by_cases : In f (line_faults [] lines) ⊎ In f (found_by all_checks (sections_of rs)) → ((l : Line) × (emptied l ≡ m)) ⊎ ((may_be_at f.kind (line_form m) ≡ true) × (f.kind ≡ MissingSub0 → LacksSub0 rs m))
      by_cases (inl c) = let own_line = own [] lines f c in inl (own_line.line, one_line (emptied own_line.line) m own_line.read i (own_line.number ∙ at))
      by_cases (inr c) = by_place (placed rs f c)

  -- a fault of a line by itself, or one that a check finds
  pub no_fault : (s : TextSection) (k : Property) → In s (sections_of rs) → In k s.properties → is_name k.name ≡ true → (f : SheetFault) → In f (faults_in lines) → f.line ≡ k.line → ⊥
  no_fault s k i j named f h at = by_cases (in-apart (line_faults [] lines) (found_by all_checks (sections_of rs)) f h)
    where
      given : IsGiven rs s.kind k
      given = (read rs s i).given k j

      by_place : IsPlaced rs f → ⊥
      by_place (inl zeroth) =
          let first = rises-in number_of 1 rs given.line rises given.among in
          let number = given.number in
          absurd (omega (arith, zeroth, at))
      by_place (inr place) =
          let same = one_line place.line given.line place.among given.among (place.number ∙ at ∙ sym given.number) in
          let suits : (is_of_property f.kind && not (is_name k.name)) ≡ true = ap (may_be_at f.kind) (sym given.form ∙ ap line_form (sym same)) ∙ place.suits in
          never (not (is_name k.name)) (both-true _ _ suits).1 (ap not named)

      by_cases : In f (line_faults [] lines) ⊎ In f (found_by all_checks (sections_of rs)) → ⊥
      by_cases (inl c) =
          let own_line = own [] lines f c in
          let same = one_line (emptied own_line.line) given.line own_line.read given.among (own_line.number ∙ at ∙ sym given.number) in
          never (is_value (line_form given.line)) (ap is_value given.form) (ap (λ (l : Line). is_value (line_form l)) (sym same) ∙ emptied-value (line_form own_line.line))
      by_cases (inr c) = by_place (placed rs f c)

  pub faults_at_section : (s : TextSection) → In s (sections_of rs) → is_entry s.kind ≡ true → (f : SheetFault) → In f (faults_in lines) → f.line ≡ s.line → is_of_section s.kind f.kind ≡ true
  faults_at_section s i entry f h at = by_cases (in-apart (line_faults [] lines) (found_by all_checks (sections_of rs)) f h)
    where
      begun : IsBegun rs s
      begun = (read rs s i).begun

      by_place : IsPlaced rs f → is_of_section s.kind f.kind ≡ true
      by_place (inl zeroth) =
          let first = rises-in number_of 1 rs begun.line rises begun.among in
          let number = begun.number in
          absurd (omega (arith, zeroth, at))
      by_place (inr place) =
          let same = one_line place.line begun.line place.among begun.among (place.number ∙ at ∙ sym begun.number) in
          ap (λ (kind : SectionKind). is_of_section kind f.kind) begun.kind
          ∙ ap (may_be_at f.kind) (sym begun.form ∙ ap line_form (sym same)) ∙ place.suits

      by_cases : In f (line_faults [] lines) ⊎ In f (found_by all_checks (sections_of rs)) → is_of_section s.kind f.kind ≡ true
      by_cases (inl c) =
          let own_line = own [] lines f c in
          let same = one_line (emptied own_line.line) begun.line own_line.read begun.among (own_line.number ∙ at ∙ sym begun.number) in
          let unnamed : s.name ≡ [] = sym (ap emptied_name begun.form) ∙ ap (λ (l : Line). emptied_name (line_form l)) (sym same) ∙ emptied-section (line_form own_line.line) in
          never (is_entry s.kind) entry (ap is_entry (begun.kind ∙ ap kind_of unnamed))
      by_cases (inr c) = by_place (placed rs f c)

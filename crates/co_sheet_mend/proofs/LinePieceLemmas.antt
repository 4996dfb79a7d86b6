-- What comes in place of a line, by its repair, and what that is to an entry.
use Rattle.std.proofs.Common.{◌≡◌, ℕ, Bool, true, false, cond, List, [], ◌∷◌, ◌++◌, Option, Some, None, refl, sym, ap, ◌∙◌, codes}
use Rattle.std.specs.Prelude.{◌&&◌, is_some, option_and_then, take}
use Rattle.std.specs.Option.{option_map_or}
use Rattle.std.proofs.lemmas.List.{append_assoc}
use Rattle.co_value.specs.declared.key.Key.{Key}
use Rattle.co_sheet_text.specs.declared.section_kind.SectionKind.{SectionKind}
use Rattle.co_sheet_text.specs.LinesAtFault.{emptied, emptied_form}
use Rattle.co_sheet_text.specs.Names.{is_hexadecimal_up_to, same_kind}
use Rattle.co_sheet_text.specs.Sections.{LineForm, skipped, section_line, unclosed, name_value, malformed, line_form}
use Rattle.co_sheet_text.specs.Text.{Line, same_name}
use Rattle.co_sheet_changes.specs.Groups.{Given, property_in, section_in}
use Rattle.co_sheet_changes.specs.Pieces.{assigned}
use Rattle.co_sheet_mend.specs.declared.repair.Repair.{Repair}
use Rattle.co_sheet_mend.specs.declared.repair.Repair.TheVariants.{Emptied, Typed, ReadWrite, Completed, Counted, Numbered}
use Rattle.co_sheet_mend.specs.NameLaws.{is_entry, keeps_section}
use Rattle.co_sheet_mend.specs.Repairs.{code_given, code_named, ended, gives, is_sub_of, lacking, lacking_type, line_as, list_text, most_looked_at, next_section, states, sub0_text, type_code, typed}
use Rattle.co_sheet_mend.proofs.LookLemmas.{Look, begins, ends, names, other, named, named-other, named-before, named-end, is_begin, is_end, look, emptied-never, emptied-other, emptied-end}
use Rattle.co_sheet_mend.proofs.NameLemmas.{gives-none}
use Rattle.co_sheet_mend.proofs.NameReadLemmas.{is_long_line, look_line}
use Rattle.co_sheet_mend.proofs.PieceLemmas.{Passes, are_lines_of, looks, looks-ended, passes-access, passes-assigned, passes-both, passes-empty, passes-lacking, passes-lacking-type, passes-list, passes-typed, passes-variable}
use Rattle.co_sheet_mend.proofs.SectionFormLemmas.{begin-section, end-property, other-section}
use Rattle.co_sheet_mend.proofs.SubZeroLemmas.{sub0-lines, sub0-look, sub0_kind}
use Rattle.co_sheet_mend.proofs.TextLineLemmas.{is_line}

emptied-line : (form : LineForm) → is_line (emptied_form form) ≡ true
emptied-line (section_line name) = refl
emptied-line unclosed = refl
emptied-line (name_value name value) = refl
emptied-line skipped = refl
emptied-line malformed = refl

-- two lists of lines that give the same name, after one line more
pub after-one : (look : Look) (inside : Bool) (xs ys : List Look) → ((i : Bool) → named i xs ≡ named i ys) → named inside (look ∷ xs) ≡ named inside (look ∷ ys)
after-one begins false xs ys h = h true
after-one ends false xs ys h = h false
after-one (names value) false xs ys h = h false
after-one other false xs ys h = h false
after-one begins true xs ys h = refl
after-one ends true xs ys h = refl
after-one (names value) true xs ys h = refl
after-one other true xs ys h = h true

-- ---- an object code in digits has no line feed

abbrev code_of_given : Bool → Option Given → Option (List ℕ)
code_of_given has_sub given = option_and_then (λ (g : Given). cond (has_sub && same_name g.name (codes "ObjectType")) (code_named g.value) None) given

abbrev is_code_line : Option (List ℕ) → Bool
is_code_line code = option_map_or is_line code true

codes-lines : (a r : Bool) → is_code_line (cond a (Some (codes "8")) (cond r (Some (codes "9")) None)) ≡ true
codes-lines true r = refl
codes-lines false true = refl
codes-lines false false = refl

if-line : (b : Bool) (code : Option (List ℕ)) → is_code_line code ≡ true → is_code_line (cond b code None) ≡ true
if-line true code h = h
if-line false code h = refl

given-code : (has_sub : Bool) (given : Option Given) → is_code_line (code_of_given has_sub given) ≡ true
given-code has_sub None = refl
given-code has_sub (Some g) =
    if-line (has_sub && same_name g.name (codes "ObjectType")) (code_named g.value)
    (codes-lines (same_name g.value (codes "ARRAY")) (same_name g.value (codes "RECORD")))

code-line : (has_sub : Bool) (l : Line) (code : List ℕ) → code_given has_sub l ≡ Some code → is_line code ≡ true
code-line has_sub l code given = sym (ap is_code_line given) ∙ given-code has_sub (property_in l)

module _ (entry : SectionKind) (is : is_entry entry ≡ true) where
  -- a text that is to the entry what a line is
  abbrev Acts : List ℕ → List ℕ → Type 0
  Acts bytes piece = (inside : Bool) (rest : List ℕ) → named inside (looks entry (piece ++ rest)) ≡ named inside (look entry bytes ∷ looks entry rest)

  acts-alone : (bytes : List ℕ) → is_line bytes ≡ true → Acts bytes (ended bytes)
  acts-alone bytes h inside rest = ap (named inside) (looks-ended entry bytes rest h)

  acts-before : (bytes extra : List ℕ) → is_line bytes ≡ true → Passes entry extra → Acts bytes (ended bytes ++ extra)
  acts-before bytes extra h p inside rest =
      ap (λ (t : List ℕ). named inside (looks entry t)) (append_assoc (ended bytes) extra rest)
      ∙ ap (named inside) (looks-ended entry bytes (extra ++ rest) h)
      ∙ after-one (look entry bytes) inside (looks entry (extra ++ rest)) (looks entry rest) (λ i. p i rest)

  acts-completed : (key : Option Key) (l : Line) (more : List Line) → is_line l.bytes ≡ true → Acts l.bytes (ended l.bytes ++ lacking_type key more ++ lacking (codes "AccessType") (codes "rw") more)
  acts-completed key l more h inside rest =
      let of_type = lacking_type key more in
      let of_access = lacking (codes "AccessType") (codes "rw") more in
      ap (λ (t : List ℕ). named inside (looks entry (t ++ rest))) (append_assoc (ended l.bytes) of_type of_access)
      ∙ acts-before l.bytes (of_type ++ of_access) h (passes-both entry of_type of_access (passes-lacking-type entry key more) (passes-lacking entry more)) inside rest

  acts-emptied : (l : Line) → Acts (emptied l).bytes (ended (emptied l).bytes)
  acts-emptied l = acts-alone (emptied l).bytes (emptied-line (line_form l))

  -- a line that is dropped, by the object code that it gives
  abbrev dropped_by : Line → Option (List ℕ) → List ℕ
  dropped_by l code = option_map_or (assigned (codes "ObjectType")) code (ended (emptied l).bytes)

  -- it passes as it does without such a code
  dropped-passes : (has_sub : Bool) (l : Line) (code : Option (List ℕ)) → code_given has_sub l ≡ code → (inside : Bool) (rest : List ℕ)
      → named inside (look entry (emptied l).bytes ∷ looks entry rest) ≡ named inside (looks entry rest)
      → named inside (looks entry (dropped_by l code ++ rest)) ≡ named inside (looks entry rest)
  dropped-passes has_sub l None given inside rest empty = acts-emptied l inside rest ∙ empty
  dropped-passes has_sub l (Some code) given inside rest empty =
      passes-assigned entry (codes "ObjectType") code (refl, refl) (code-line has_sub l code given) inside rest

  -- the parts of a line whose type is at fault
  module _ (key : Option Key) (l : Line) where
    abbrev retyped_by : Bool → Bool → Bool → List ℕ
    retyped_by typed_here stated section =
        cond typed_here (cond stated (ended []) (typed key)) (cond section (ended l.bytes ++ assigned (codes "ObjectType") (codes "7")) (ended (emptied l).bytes))

    retyped-section : (stated : Bool) (typed_here section : Bool) → is_line l.bytes ≡ true → typed_here ≡ false → section ≡ true → Acts l.bytes (retyped_by typed_here stated section)
    retyped-section stated true section h untyped sectioned = absurd (cc)
    retyped-section stated false false h untyped sectioned = absurd (cc)
    retyped-section stated false true h untyped sectioned = acts-before l.bytes (assigned (codes "ObjectType") (codes "7")) h (passes-variable entry)

    retyped-before : (typed_here stated section : Bool) → is_line l.bytes ≡ true → is_begin (look_line entry l) ≡ false → (rest : List ℕ) → named false (looks entry (retyped_by typed_here stated section ++ rest)) ≡ named false (looks entry rest)
    retyped-before true true section h not rest = passes-empty entry false rest
    retyped-before true false section h not rest = passes-typed entry key false rest
    retyped-before false stated true h not rest =
        acts-before l.bytes (assigned (codes "ObjectType") (codes "7")) h (passes-variable entry) false rest ∙ named-before (look_line entry l) (looks entry rest) not
    retyped-before false stated false h not rest =
        acts-emptied l false rest ∙ named-before (look entry (emptied l).bytes) (looks entry rest) (emptied-never entry is (line_form l))

    retyped-end : (typed_here stated section : Bool) → is_line l.bytes ≡ true → typed_here ≡ false → is_end (look_line entry l) ≡ true → (rest : List ℕ) → named true (looks entry (retyped_by typed_here stated section ++ rest)) ≡ None
    retyped-end true stated section h untyped end rest = absurd (cc)
    retyped-end false stated true h untyped end rest =
        acts-before l.bytes (assigned (codes "ObjectType") (codes "7")) h (passes-variable entry) true rest ∙ named-end (look_line entry l) (looks entry rest) end
    retyped-end false stated false h untyped end rest =
        acts-emptied l true rest ∙ ap (λ (k : Look). named true (k ∷ looks entry rest)) (emptied-end entry is (is_long_line l) (line_form l) end)

    retyped-other : (typed_here stated section : Bool) → section ≡ false → look_line entry l ≡ other → (rest : List ℕ) → named true (looks entry (retyped_by typed_here stated section ++ rest)) ≡ named true (looks entry rest)
    retyped-other true true section untyped h rest = passes-empty entry true rest
    retyped-other true false section untyped h rest = passes-typed entry key true rest
    retyped-other false stated true untyped h rest = absurd (cc)
    retyped-other false stated false untyped h rest =
        acts-emptied l true rest ∙ named-other true (look entry (emptied l).bytes) (looks entry rest) (emptied-other entry is (is_long_line l) (line_form l) h)

  pub kept-piece : (key : Option Key) (l : Line) (more : List Line) → is_line l.bytes ≡ true → (inside : Bool) (rest : List ℕ) → named inside (looks entry (line_as None key l more ++ rest)) ≡ named inside (look_line entry l ∷ looks entry rest)
  unfolding line_as
  kept-piece key l more h inside rest = acts-alone l.bytes h inside rest

  pub listed-piece : (bytes extra : List ℕ) → is_line bytes ≡ true → Passes entry extra → (inside : Bool) (rest : List ℕ) → named inside (looks entry ((ended bytes ++ extra) ++ rest)) ≡ named inside (look entry bytes ∷ looks entry rest)
  listed-piece bytes extra h p inside rest = acts-before bytes extra h p inside rest

  -- ---- before the section of the entry

  pub before-piece : (repair : Option Repair) (key : Option Key) (l : Line) (more : List Line) → is_line l.bytes ≡ true → are_lines_of more ≡ true → is_begin (look_line entry l) ≡ false
      → (repair ≡ Some Numbered → ⊥) → (rest : List ℕ) → named false (looks entry (line_as repair key l more ++ rest)) ≡ named false (looks entry rest)
  unfolding line_as
  before-piece None key l more h lines not other_repair rest = acts-alone l.bytes h false rest ∙ named-before (look_line entry l) (looks entry rest) not
  before-piece (Some Emptied) key l more h lines not other_repair rest =
      let has_sub = is_sub_of key (next_section (take most_looked_at more)) in
      dropped-passes has_sub l (code_given has_sub l) refl false rest (named-before (look entry (emptied l).bytes) (looks entry rest) (emptied-never entry is (line_form l)))
  before-piece (Some Typed) key l more h lines not other_repair rest =
      retyped-before key l (gives (codes "DataType") l) (states (type_code key) l) (is_some (section_in l)) h not rest
  before-piece (Some ReadWrite) key l more h lines not other_repair rest = passes-access entry false rest
  before-piece (Some Completed) key l more h lines not other_repair rest = acts-completed key l more h false rest ∙ named-before (look_line entry l) (looks entry rest) not
  before-piece (Some Counted) key l more h lines not other_repair rest =
      acts-before l.bytes (list_text more) h (passes-list entry more lines) false rest ∙ named-before (look_line entry l) (looks entry rest) not
  before-piece (Some Numbered) key l more h lines not other_repair rest = absurd (other_repair refl)

  -- ---- the section line of the entry

  pub begin-piece : (repair : Option Repair) (key : Option Key) (l : Line) (more : List Line) → is_line l.bytes ≡ true → look_line entry l ≡ begins → keeps_section repair ≡ true
      → (repair ≡ Some Numbered → ⊥) → (rest : List ℕ) → named false (looks entry (line_as repair key l more ++ rest)) ≡ named true (looks entry rest)
  unfolding line_as
  begin-piece None key l more h is_it keeps other_repair rest = acts-alone l.bytes h false rest ∙ ap (λ (k : Look). named false (k ∷ looks entry rest)) is_it
  begin-piece (Some Typed) key l more h is_it keeps other_repair rest =
      let section = begin-section entry is l is_it in
      retyped-section key l (states (type_code key) l) (gives (codes "DataType") l) (is_some (section_in l)) h
      (gives-none (codes "DataType") (property_in l) (end-property entry is l (ap is_end is_it))) (ap is_some section.1) false rest
      ∙ ap (λ (k : Look). named false (k ∷ looks entry rest)) is_it
  begin-piece (Some Completed) key l more h is_it keeps other_repair rest = acts-completed key l more h false rest ∙ ap (λ (k : Look). named false (k ∷ looks entry rest)) is_it
  begin-piece (Some Numbered) key l more h is_it keeps other_repair rest = absurd (other_repair refl)
  begin-piece repair key l more h is_it keeps other_repair rest = absurd (cc)

  -- ---- in the section of the entry

  pub end-piece : (repair : Option Repair) (key : Option Key) (l : Line) (more : List Line) → is_line l.bytes ≡ true → are_lines_of more ≡ true → is_end (look_line entry l) ≡ true
      → (repair ≡ Some ReadWrite → ⊥) → (repair ≡ Some Numbered → ⊥) → (rest : List ℕ) → named true (looks entry (line_as repair key l more ++ rest)) ≡ None
  unfolding line_as
  end-piece None key l more h lines end written numbered rest = acts-alone l.bytes h true rest ∙ named-end (look_line entry l) (looks entry rest) end
  end-piece (Some Emptied) key l more h lines end written numbered rest =
      let has_sub = is_sub_of key (next_section (take most_looked_at more)) in
      ap (λ (o : Option Given). named true (looks entry (dropped_by l (code_of_given has_sub o) ++ rest))) (end-property entry is l end)
      ∙ acts-emptied l true rest ∙ ap (λ (k : Look). named true (k ∷ looks entry rest)) (emptied-end entry is (is_long_line l) (line_form l) end)
  end-piece (Some Typed) key l more h lines end written numbered rest =
      retyped-end key l (gives (codes "DataType") l) (states (type_code key) l) (is_some (section_in l)) h
      (gives-none (codes "DataType") (property_in l) (end-property entry is l end)) end rest
  end-piece (Some ReadWrite) key l more h lines end written numbered rest = absurd (written refl)
  end-piece (Some Completed) key l more h lines end written numbered rest = acts-completed key l more h true rest ∙ named-end (look_line entry l) (looks entry rest) end
  end-piece (Some Counted) key l more h lines end written numbered rest =
      acts-before l.bytes (list_text more) h (passes-list entry more lines) true rest ∙ named-end (look_line entry l) (looks entry rest) end
  end-piece (Some Numbered) key l more h lines end written numbered rest = absurd (numbered refl)

  pub other-piece : (repair : Option Repair) (key : Option Key) (l : Line) (more : List Line) → is_line l.bytes ≡ true → are_lines_of more ≡ true → look_line entry l ≡ other
      → (rest : List ℕ) → named true (looks entry (line_as repair key l more ++ rest)) ≡ named true (looks entry rest)
  unfolding line_as
  other-piece None key l more h lines aside rest = acts-alone l.bytes h true rest ∙ named-other true (look_line entry l) (looks entry rest) aside
  other-piece (Some Emptied) key l more h lines aside rest =
      let has_sub = is_sub_of key (next_section (take most_looked_at more)) in
      dropped-passes has_sub l (code_given has_sub l) refl true rest (named-other true (look entry (emptied l).bytes) (looks entry rest) (emptied-other entry is (is_long_line l) (line_form l) aside))
  other-piece (Some Typed) key l more h lines aside rest =
      retyped-other key l (gives (codes "DataType") l) (states (type_code key) l) (is_some (section_in l)) (ap is_some (other-section entry is l aside)) aside rest
  other-piece (Some ReadWrite) key l more h lines aside rest = passes-access entry true rest
  other-piece (Some Completed) key l more h lines aside rest = acts-completed key l more h true rest ∙ named-other true (look_line entry l) (looks entry rest) aside
  other-piece (Some Counted) key l more h lines aside rest =
      acts-before l.bytes (list_text more) h (passes-list entry more lines) true rest ∙ named-other true (look_line entry l) (looks entry rest) aside
  other-piece (Some Numbered) key l more h lines aside rest =
      ap (λ (o : Option (List ℕ)). named true (looks entry ((option_map_or sub0_text o [] ++ ended l.bytes) ++ rest))) (other-section entry is l aside)
      ∙ acts-alone l.bytes h true rest ∙ named-other true (look_line entry l) (looks entry rest) aside

  -- ---- a section of sub-index 0 before the line

  pub numbered-piece : (key : Option Key) (l : Line) (more : List Line) (name : List ℕ) → is_line l.bytes ≡ true → section_in l ≡ Some name → is_hexadecimal_up_to 4 name ≡ true
      → (inside : Bool) (rest : List ℕ) → named inside (looks entry (line_as (Some Numbered) key l more ++ rest))
      ≡ named inside (cond (same_kind (sub0_kind name) entry) begins ends ∷ other ∷ other ∷ look_line entry l ∷ looks entry rest)
  unfolding line_as
  numbered-piece key l more name h section digits inside rest =
      ap (λ (o : Option (List ℕ)). named inside (looks entry ((option_map_or sub0_text o [] ++ ended l.bytes) ++ rest))) section
      ∙ ap (λ (t : List ℕ). named inside (looks entry t)) (append_assoc (sub0_text name) (ended l.bytes) rest)
      ∙ ap (named inside) (sub0-lines name digits entry (ended l.bytes ++ rest))
      ∙ ap (λ (k : Look). named inside (k ∷ other ∷ other ∷ looks entry (ended l.bytes ++ rest))) (sub0-look name digits entry)
      ∙ ap (λ (ks : List Look). named inside (cond (same_kind (sub0_kind name) entry) begins ends ∷ other ∷ other ∷ ks)) (looks-ended entry l.bytes rest h)

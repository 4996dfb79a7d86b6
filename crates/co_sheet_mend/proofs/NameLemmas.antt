-- A round of mending keeps the section line of an entry and the line of its name.
use Rattle.std.proofs.Common.{◌≡◌, ℕ, ◌≤◌, Bool, true, false, cond, ◌&&◌, ◌||◌, ◌==◌, List, [], ◌∷◌, ◌++◌, length, Option, Some, None, refl, sym, ap, ◌∙◌, eqb-true, arith, codes, ltb}
use Rattle.std.specs.Prelude.{is_some}
use Rattle.std.specs.List.{before_first, list_any}
use Rattle.std.specs.Option.{option_map_or}
use Rattle.std.specs.Str.Lines.{lines}
use Rattle.std.proofs.lemmas.List.{append_assoc, append-nil}
use Rattle.std.proofs.lemmas.Bool.Decides.{nat_tests}
use Rattle.co_value.specs.declared.key.Key.{Key}
use Rattle.co_sheet_text.specs.declared.section_kind.SectionKind.{SectionKind}
use Rattle.co_sheet_text.specs.declared.section_kind.SectionKind.TheVariants.{Object, SubIndex}
use Rattle.co_sheet_rows.specs.declared.fault.FaultKind.{FaultKind}
use Rattle.co_sheet_rows.specs.declared.fault.FaultKind.TheVariants.{TooLarge, BadList, MissingKey, BadType, MissingSub0}
use Rattle.co_sheet_rows.specs.declared.fault.SheetFault.{SheetFault}
use Rattle.co_sheet_text.specs.LinesAtFault.{emptied, sections_read}
use Rattle.co_sheet_text.specs.Names.{same_kind}
use Rattle.co_sheet_text.specs.Sections.{Property, TextSection, property_at, is_bracket, is_equals}
use Rattle.co_sheet_text.specs.Text.{Line, lines_of, same_name, trim, without_mark}
use Rattle.co_sheet_text.proofs.SectionLawLemmas.{numbers-rise}
use Rattle.co_sheet.specs.Faults.{fault_at}
use Rattle.co_sheet_changes.specs.Groups.{Given, property_at_text, property_in, property_of, section_at_text, section_in}
use Rattle.co_sheet_changes.specs.Pieces.{assigned}
use Rattle.co_sheet_faults.specs.AllFaults.{faults_in, faults_of}
use Rattle.co_sheet_faults.specs.FaultLaws.{AreNumbered}
use Rattle.co_sheet_mend.specs.declared.repair.Repair.{Repair}
use Rattle.co_sheet_mend.specs.declared.repair.Repair.TheVariants.{Emptied, Typed, ReadWrite, Completed, Counted, Numbered}
use Rattle.co_sheet_mend.specs.NameLaws.{IsEntryIn, IsWithin, is_entry, is_of_section, keeps_section}
use Rattle.co_sheet_mend.specs.Repairs.{asks_for, ended, first_asked, has_repair, lacking, lacking_type, line_as, repair_at, repair_for, same_repair, states, sub0_text, type_code, typed}
use Rattle.co_sheet_mend.proofs.ElementLemmas.{In, any-found, found-by, not-true}
use Rattle.co_sheet_mend.proofs.EntryLineLemmas.{no_fault, faults_at_section}

-- ---- which repairs a line has, by the faults at it

abbrev pub asks : Repair → Option Repair → Bool
asks repair asked = option_map_or (same_repair repair) asked false

pub asked-here : (repair : Repair) (line : ℕ) (f : SheetFault) (b : Bool) → (f.line == line) ≡ b → asks repair (cond b (repair_for f.kind) None) ≡ true
    → (f.line ≡ line) × (asks repair (repair_for f.kind) ≡ true)
asked-here repair line f true is h = (eqb-true f.line line is, h)
asked-here repair line f false is h = absurd (cc)

pub clash : {P : Type 0} (b : Bool) → b ≡ true → b ≡ false → P
clash true is fails = absurd (cc)
clash false is fails = absurd (cc)

-- no fault at a line asks for a repair
pub not-asked : (faults : List SheetFault) (line : ℕ) (repair : Repair) → ((f : SheetFault) → In f faults → f.line ≡ line → asks repair (repair_for f.kind) ≡ false) → has_repair faults line repair ≡ false
not-asked faults line repair none =
    not-true (has_repair faults line repair)
    (λ is.
    let found = any-found (asks_for repair line) faults is in
    let f = found.item in
    let here = asked-here repair line f (f.line == line) refl found.passes in
    clash (asks repair (repair_for f.kind)) here.1 (none f found.among here.0))

first-none : (a b c d e f : Bool) → a ≡ false → b ≡ false → c ≡ false → d ≡ false → e ≡ false → f ≡ false → first_asked a b c d e f ≡ None
first-none a b c d e f ha hb hc hd he hf =
    ap (λ t. first_asked t b c d e f) ha
    ∙ ap (λ t. first_asked false t c d e f) hb
    ∙ ap (λ t. first_asked false false t d e f) hc
    ∙ ap (λ t. first_asked false false false t e f) hd
    ∙ ap (λ t. first_asked false false false false t f) he
    ∙ ap (λ t. first_asked false false false false false t) hf

pub no-repair : (faults : List SheetFault) (line : ℕ) → ((f : SheetFault) → In f faults → f.line ≡ line → ⊥) → repair_at faults line ≡ None
unfolding repair_at
no-repair faults line none =
    let free : (repair : Repair) → has_repair faults line repair ≡ false = λ repair. not-asked faults line repair (λ f i at. absurd (none f i at)) in
    first-none _ _ _ _ _ _ (free Emptied) (free Typed) (free ReadWrite) (free Completed) (free Counted) (free Numbered)

no-list : (kind : SectionKind) → is_entry kind ≡ true → is_of_section kind BadList ≡ false
no-list (Object index) h = refl
no-list (SubIndex key) h = refl
no-list kind h = absurd (cc)

at-section : (kind : SectionKind) → is_entry kind ≡ true → (found : FaultKind) → is_of_section kind found ≡ true
    → (asks Emptied (repair_for found) ≡ false) × (asks ReadWrite (repair_for found) ≡ false) × (asks Counted (repair_for found) ≡ false)
unfolding repair_for
at-section kind entry MissingKey h = (refl, refl, refl)
at-section kind entry MissingSub0 h = (refl, refl, refl)
at-section kind entry BadType h = (refl, refl, refl)
at-section kind entry BadList h = clash (is_of_section kind BadList) h (no-list kind entry)
at-section kind entry found h = absurd (cc)

kept-cases : (types completes numbers : Bool) → keeps_section (first_asked false types false completes false numbers) ≡ true
kept-cases true completes numbers = refl
kept-cases false true numbers = refl
kept-cases false false true = refl
kept-cases false false false = refl

kept-asked : (a b c d e f : Bool) → a ≡ false → c ≡ false → e ≡ false → keeps_section (first_asked a b c d e f) ≡ true
kept-asked a b c d e f ha hc he =
    ap (λ t. keeps_section (first_asked t b c d e f)) ha
    ∙ ap (λ t. keeps_section (first_asked false b t d e f)) hc
    ∙ ap (λ t. keeps_section (first_asked false b false d t f)) he
    ∙ kept-cases b d f

pub keeps : (kind : SectionKind) → is_entry kind ≡ true → (faults : List SheetFault) (line : ℕ)
    → ((f : SheetFault) → In f faults → f.line ≡ line → is_of_section kind f.kind ≡ true) → keeps_section (repair_at faults line) ≡ true
unfolding repair_at
keeps kind entry faults line each =
    let free : (repair : Repair) → ((found : FaultKind) → is_of_section kind found ≡ true → asks repair (repair_for found) ≡ false) → has_repair faults line repair ≡ false =
    λ repair never. not-asked faults line repair (λ f i at. never f.kind (each f i at)) in
    kept-asked _ _ _ _ _ _ (free Emptied (λ found h. (at-section kind entry found h).0)) (free ReadWrite (λ found h. (at-section kind entry found h).1)) (free Counted (λ found h. (at-section kind entry found h).2))

-- ---- what such a repair makes of a section line

or-true : (a : Bool) → (a || true) ≡ true
or-true true = refl
or-true false = refl

-- a section line gives no property
bracket-cases : (b : ℕ) (bs name : List ℕ) (comment bracket : Bool)
    → cond (bracket && list_any is_bracket bs) (Some (trim (before_first is_bracket bs))) None ≡ Some name
    → cond (comment || bracket) None (property_of (b ∷ bs) (trim (before_first is_equals (b ∷ bs)))) ≡ None
bracket-cases b bs name comment true h = ap (λ t. cond t None (property_of (b ∷ bs) (trim (before_first is_equals (b ∷ bs))))) (or-true comment)
bracket-cases b bs name comment false h = absurd (cc)

pub no-property : (text : List ℕ) (name : List ℕ) → section_at_text text ≡ Some name → property_at_text text ≡ None
no-property [] name h = absurd (cc)
no-property (b ∷ bs) name h = bracket-cases b bs name (b == 59) (b == 91) h

pub gives-none : (name : List ℕ) (given : Option Given) → given ≡ None → option_map_or (λ g. same_name g.name name) given false ≡ false
gives-none name None h = refl
gives-none name (Some g) h = absurd (cc)

pub within : (repair : Option Repair) → keeps_section repair ≡ true → (key : Option Key) (line : Line) (more : List Line) (name : List ℕ) → section_in line ≡ Some name
    → IsWithin (ended line.bytes) (line_as repair key line more)
unfolding line_as
within None keep key line more name is = record { front = []; after = []; cut = sym (append-nil (ended line.bytes)) }
within (Some Typed) keep key line more name is =
    let untyped = gives-none (codes "DataType") (property_in line) (no-property (trim line.bytes) name is) in
    let of_value = cond (states (type_code key) line) (ended []) (typed key) in
    let kept = ended line.bytes ++ assigned (codes "ObjectType") (codes "7") in
    let dropped = ended (emptied line).bytes in
    record {
      front = [];
      after = assigned (codes "ObjectType") (codes "7");
      cut = ap (λ t. cond t of_value (cond (is_some (section_in line)) kept dropped)) untyped ∙ ap (λ (o : Option (List ℕ)). cond (is_some o) kept dropped) is;
    }
within (Some Completed) keep key line more name is =
    let of_type = lacking_type key more in
    let of_access = lacking (codes "AccessType") (codes "rw") more in
    record { front = []; after = of_type ++ of_access; cut = append_assoc (ended line.bytes) of_type of_access }
within (Some Numbered) keep key line more name is =
    let front = option_map_or sub0_text (section_in line) [] in
    record { front = front; after = []; cut = sym (append-nil (front ++ ended line.bytes)) }
within repair keep key line more name is = absurd (cc)

-- ---- of a text

pub numbered-lines : (text : List ℕ) → AreNumbered (lines_of text)
numbered-lines text = numbers-rise 1 (lines (without_mark text))

pub faults-whole : (text : List ℕ) → length text ≤ 1048576 → faults_of text ≡ faults_in (lines_of text)
faults-whole text size =
    let few : ltb 1048576 (length text) ≡ false = grind (arith, nat_tests, size) in
    ap (λ t. cond t (fault_at 0 TooLarge ∷ []) (faults_in (lines_of text))) few

module _ (text : List ℕ) (s : TextSection) (is : IsEntryIn text s) where
  among : In s (sections_read (lines_of text))
  among = (found-by (λ (t : TextSection). same_kind t.kind s.kind) (sections_read (lines_of text)) s is.there).among

  pub name-stays : (k : Property) → property_at (codes "ParameterName") s ≡ Some k → repair_at (faults_of text) k.line ≡ None
  name-stays k named =
      let there = found-by (λ (j : Property). same_name j.name (codes "ParameterName")) s.properties k named in
      ap (λ (faults : List SheetFault). repair_at faults k.line) (faults-whole text is.size)
      ∙ no-repair (faults_in (lines_of text)) k.line (no_fault (lines_of text) (numbered-lines text) s k among there.among there.passes)

  pub section-stays : keeps_section (repair_at (faults_of text) s.line) ≡ true
  section-stays =
      ap (λ (faults : List SheetFault). keeps_section (repair_at faults s.line)) (faults-whole text is.size)
      ∙ keeps s.kind is.entry (faults_in (lines_of text)) s.line (faults_at_section (lines_of text) (numbered-lines text) s among is.entry)

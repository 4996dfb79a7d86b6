-- A line by its form, and what the line gives: the name of a section, or a property.
use Rattle.std.proofs.Common.{◌≡◌, ℕ, Bool, true, false, cond, not, ◌&&◌, ◌||◌, ◌==◌, List, [], ◌∷◌, Option, Some, None, refl, sym, ap, ◌∙◌, ◌⊎◌, inl, inr, eqb-true}
use Rattle.std.specs.Prelude.{is_some}
use Rattle.std.specs.List.{after_first, before_first, list_any}
use Rattle.co_sheet_text.specs.declared.section_kind.SectionKind.{SectionKind}
use Rattle.co_sheet_text.specs.Names.{kind_of, same_kind}
use Rattle.co_sheet_text.specs.Sections.{LineForm, skipped, section_line, unclosed, name_value, malformed, form_of, is_bracket, is_equals, is_section_line, line_form, property_form}
use Rattle.co_sheet_text.specs.Text.{Line, is_empty, trim}
use Rattle.co_sheet_changes.specs.Groups.{Given, property_at_text, property_in, property_of, section_at_text, section_in}
use Rattle.co_sheet_mend.specs.NameLaws.{is_entry}
use Rattle.co_sheet_mend.proofs.LookLemmas.{Look, begins, ends, other, is_begin, is_end, look_form}
use Rattle.co_sheet_mend.proofs.NameLemmas.{clash}
use Rattle.co_sheet_mend.proofs.NameReadLemmas.{beginning, end-form, is_long_line, look_line}

-- a section line, with its name or without `]`
abbrev pub is_bracketed : LineForm → Bool
is_bracketed (section_line name) = true
is_bracketed unclosed = true
is_bracketed form = false

value-bracketed : (b : Bool) (name value : List ℕ) → is_bracketed (cond b (name_value name value) malformed) ≡ false
value-bracketed true name value = refl
value-bracketed false name value = refl

-- ---- the name of a section

same-section : (x y : List ℕ) → ◌≡◌ {A = LineForm} (section_line x) (section_line y) → x ≡ y
same-section x y h = cc

not-section : (form : LineForm) (name : List ℕ) → is_bracketed form ≡ false → form ≡ section_line name → ⊥
not-section form name none h = clash (is_bracketed form) (ap is_bracketed h) none

name-cases : (comment bracket closed : Bool) (n name : List ℕ) (form : LineForm) → is_bracketed form ≡ false
    → cond comment skipped (cond bracket (cond closed (section_line n) unclosed) form) ≡ section_line name → cond (bracket && closed) (Some n) None ≡ Some name
name-cases true bracket closed n name form none h = absurd (cc)
name-cases false true true n name form none h = ap (λ l. Some l) (same-section n name h)
name-cases false true false n name form none h = absurd (cc)
name-cases false false closed n name form none h = absurd (not-section form name none h)

pub section-named : (text name : List ℕ) → form_of text ≡ section_line name → section_at_text text ≡ Some name
section-named [] name h = absurd (cc)
section-named (b ∷ bs) name h =
    let text = b ∷ bs in
    let first = trim (before_first is_equals text) in
    name-cases (b == 59) (b == 91) (list_any is_bracket bs) (trim (before_first is_bracket bs)) name (property_form text first)
    (value-bracketed (list_any is_equals text && not (is_empty first)) first (trim (after_first is_equals text))) h

-- ---- neither a section nor a property

none-cases : (comment bracket closed : Bool) (n : List ℕ) (form : LineForm) → (comment ≡ true → bracket ≡ true → ⊥)
    → is_bracketed (cond comment skipped (cond bracket (cond closed (section_line n) unclosed) form)) ≡ false → cond (bracket && closed) (Some n) None ≡ None
none-cases true true closed n form apart h = absurd (apart refl refl)
none-cases true false closed n form apart h = refl
none-cases false true true n form apart h = absurd (cc)
none-cases false true false n form apart h = absurd (cc)
none-cases false false closed n form apart h = refl

two-bytes : (b : ℕ) → (b == 59) ≡ true → (b == 91) ≡ true → ⊥
two-bytes b h k = clash (b == 91) k (ap (λ c. c == 91) (eqb-true b 59 h))

pub section-none : (text : List ℕ) → is_bracketed (form_of text) ≡ false → section_at_text text ≡ None
section-none [] h = refl
section-none (b ∷ bs) h =
    none-cases (b == 59) (b == 91) (list_any is_bracket bs) (trim (before_first is_bracket bs)) (property_form (b ∷ bs) (trim (before_first is_equals (b ∷ bs)))) (two-bytes b) h

property-cases : (comment bracket closed : Bool) (n : List ℕ) (form : LineForm) (given : Option Given) → is_bracketed form ≡ false
    → is_bracketed (cond comment skipped (cond bracket (cond closed (section_line n) unclosed) form)) ≡ true → cond (comment || bracket) None given ≡ None
property-cases true bracket closed n form given none h = absurd (cc)
property-cases false true closed n form given none h = refl
property-cases false false closed n form given none h = clash (is_bracketed form) h none

pub property-none : (text : List ℕ) → is_bracketed (form_of text) ≡ true → property_at_text text ≡ None
property-none [] h = absurd (cc)
property-none (b ∷ bs) h =
    let text = b ∷ bs in
    let first = trim (before_first is_equals text) in
    property-cases (b == 59) (b == 91) (list_any is_bracket bs) (trim (before_first is_bracket bs)) (property_form text first) (property_of text first)
    (value-bracketed (list_any is_equals text && not (is_empty first)) first (trim (after_first is_equals text))) h

-- ---- by what a line is to an entry

bracketed-of : (form : LineForm) → (is_section_line form ≡ true) ⊎ (form ≡ unclosed) → is_bracketed form ≡ true
bracketed-of (section_line name) h = refl
bracketed-of unclosed h = refl
bracketed-of form (inl h) = absurd (cc)
bracketed-of form (inr h) = absurd (cc)

pub is-begins : (k : Look) → is_begin k ≡ true → k ≡ begins
is-begins begins g = refl
is-begins k g = absurd (cc)

pub section-end : (c : Bool) → is_end (cond c begins ends) ≡ true
section-end true = refl
section-end false = refl

pub end-of : (entry : SectionKind) (form : LineForm) (long : Bool) → is_bracketed form ≡ true → is_end (look_form entry long form) ≡ true
end-of entry (section_line name) long g = section-end (not long && same_kind (kind_of name) entry)
end-of entry unclosed long g = refl
end-of entry form long g = absurd (cc)

module _ (entry : SectionKind) (is : is_entry entry ≡ true) where
  pub end-bracketed : (l : Line) → is_end (look_line entry l) ≡ true → is_bracketed (line_form l) ≡ true
  end-bracketed l h = bracketed-of (line_form l) (end-form entry is (line_form l) (is_long_line l) h)

  pub end-property : (l : Line) → is_end (look_line entry l) ≡ true → property_in l ≡ None
  end-property l h = property-none (trim l.bytes) (end-bracketed l h)

  pub begin-section : (l : Line) → look_line entry l ≡ begins → (name : List ℕ) × (section_in l ≡ Some name)
  begin-section l h = let b = beginning entry l h in (b.name, section-named (trim l.bytes) b.name b.form)

  no-begin : (b : Bool) (l : Line) → is_begin (look_line entry l) ≡ b → is_some (section_in l) ≡ false → b ≡ false
  no-begin true l h none = clash (is_some (section_in l)) (ap is_some (begin-section l (is-begins (look_line entry l) h)).1) none
  no-begin false l h none = refl

  pub unsectioned : (l : Line) → is_some (section_in l) ≡ false → is_begin (look_line entry l) ≡ false
  unsectioned l none = no-begin (is_begin (look_line entry l)) l refl none

  not-bracketed : (b : Bool) (l : Line) → is_bracketed (line_form l) ≡ b → look_line entry l ≡ other → b ≡ false
  not-bracketed true l g h = clash (is_end other) (ap is_end (sym h) ∙ end-of entry (line_form l) (is_long_line l) g) refl
  not-bracketed false l g h = refl

  pub other-section : (l : Line) → look_line entry l ≡ other → section_in l ≡ None
  other-section l h = section-none (trim l.bytes) (not-bracketed (is_bracketed (line_form l)) l refl h)

-- The sections and the first fault of a text, line by line.
use Rattle.std.proofs.Common.{◌≡◌, ℕ, List, [], ◌∷◌, ◌++◌, if◌then◌else◌, Option, Some, None, refl, sym, ◌∙◌, ap}
use Rattle.std.specs.Prelude.{option_map, filter_map, map}
use Rattle.std.specs.List.{cons_option, enumerate_from}
use Rattle.std.proofs.lemmas.List.{append_assoc, append-nil}
use Rattle.std.specs.Option.{option_or}
use Rattle.co_sheet_text.specs.declared.section_kind.SectionKind.{SectionKind}
use Rattle.co_sheet_text.specs.declared.fault.TextFaultKind.{TextFaultKind}
use Rattle.co_sheet_text.specs.declared.fault.TextFaultKind.TheVariants.{TooLarge}
use Rattle.co_sheet_text.specs.declared.fault.TextFault.{TextFault}
use Rattle.co_sheet_text.specs.Text.{Line}
use Rattle.co_sheet_text.specs.Sections.{last_section, is_too_long, form_rules, first_broken, line_fault, LineForm, skipped, section_line, unclosed, name_value, malformed, is_section_line, Property, TextSection, property_given, body_of, section_begun, sections_of, line_form, fault_at, first_line_fault}
use Rattle.co_sheet_text.specs.LinesRead.{form_fault, with_property, with_last, empty_section, with_form, with_line, fault_by_form}

-- lines, numbered from here
abbrev pub numbered : ℕ → List (List ℕ) → List Line
numbered n ls = map (λ l. record { number = l.0; bytes = l.1 }) (enumerate_from n ls)

-- the sections after more lines
abbrev pub with_lines : List TextSection → List Line → List TextSection
with_lines sections [] = sections
with_lines sections (line ∷ lines) = with_lines (with_line sections line) lines

-- the first line at fault, of lines after these sections
abbrev pub fault_after : List TextSection → List Line → Option TextFault
fault_after sections [] = None
fault_after sections (line ∷ lines) =
    option_or (option_map (fault_at line.number) (fault_by_form sections line)) (fault_after (with_line sections line) lines)

-- the key that a line gives a section of this kind
abbrev pub given_by : SectionKind → Line → Option Property
given_by kind l = property_given kind l.number (line_form l)

-- a section with the keys of these lines too
abbrev pub with_body : TextSection → List Line → TextSection
with_body section body = record section { properties = section.properties ++ filter_map (given_by section.kind) body }

abbrev with_properties : TextSection → List Property → TextSection
with_properties section keys = record section { properties = keys }

with_body-nil : (s : TextSection) → with_body s [] ≡ s
with_body-nil s = ap (with_properties s) (append-nil s.properties)

-- the keys of a first line, and then those of the others
with_body-key : (s : TextSection) (o : Option Property) (body : List Line) →
    with_body (with_property s o) body ≡ with_properties s (s.properties ++ cons_option o (filter_map (given_by s.kind) body))
with_body-key s None body = refl
with_body-key s (Some k) body = ap (with_properties s) (append_assoc s.properties (k ∷ []) (filter_map (given_by s.kind) body))

with_body-cons : (s : TextSection) (l : Line) (form : LineForm) (body : List Line) → line_form l ≡ form →
    with_body (with_property s (property_given s.kind l.number form)) body ≡ with_body s (l ∷ body)
with_body-cons s l form body e =
    with_body-key s (property_given s.kind l.number form) body
    ∙ ap (λ (f : LineForm). with_properties s (s.properties ++ cons_option (property_given s.kind l.number f) (filter_map (given_by s.kind) body))) (sym e)

-- the last of sections that end in this one
pub with_last-append : (f : TextSection → TextSection) (ss : List TextSection) (s : TextSection) →
    with_last f (ss ++ s ∷ []) ≡ ss ++ f s ∷ []
with_last-append f [] s = refl
with_last-append f (a ∷ []) s = refl
with_last-append f (a ∷ b ∷ ss) s = ap (λ (rest : List TextSection). a ∷ rest) (with_last-append f (b ∷ ss) s)

abbrev Continues : List Line → Type 0
Continues ls = (ss : List TextSection) (s : TextSection) → with_lines (ss ++ s ∷ []) ls ≡ ss ++ with_body s (body_of ls) ∷ sections_of ls

-- a line that begins a section
continues-section : (l : Line) (ls : List Line) (name : List ℕ) → Continues ls → (ss : List TextSection) (s : TextSection) →
    with_lines (ss ++ s ∷ [] ++ empty_section name l.number ∷ []) ls
    ≡ ss ++ with_body s [] ∷ (section_begun (section_line name) l.number (body_of ls) ++ sections_of ls)
continues-section l ls name more ss s =
    more (ss ++ s ∷ []) (empty_section name l.number)
    ∙ append_assoc ss (s ∷ []) (with_body (empty_section name l.number) (body_of ls) ∷ sections_of ls)
    ∙ ap (λ (t : TextSection). ss ++ t ∷ with_body (empty_section name l.number) (body_of ls) ∷ sections_of ls) (sym (with_body-nil s))

-- any other line
continues-other : (l : Line) (ls : List Line) (form : LineForm) → line_form l ≡ form → Continues ls → (ss : List TextSection) (s : TextSection) →
    with_lines (with_last (λ t. with_property t (property_given t.kind l.number form)) (ss ++ s ∷ [])) ls
    ≡ ss ++ with_body s (l ∷ body_of ls) ∷ sections_of ls
continues-other l ls form e more ss s =
    ap (λ (ts : List TextSection). with_lines ts ls) (with_last-append (λ t. with_property t (property_given t.kind l.number form)) ss s)
    ∙ more ss (with_property s (property_given s.kind l.number form))
    ∙ ap (λ (t : TextSection). ss ++ t ∷ sections_of ls) (with_body-cons s l form (body_of ls) e)

abbrev ContinuesAt : Line → List Line → List TextSection → TextSection → LineForm → Type 0
ContinuesAt l ls ss s form =
    with_lines (with_form (ss ++ s ∷ []) l.number form) ls
    ≡ ss ++ with_body s (if is_section_line form then [] else l ∷ body_of ls) ∷ (section_begun form l.number (body_of ls) ++ sections_of ls)

continues-form : (l : Line) (ls : List Line) (form : LineForm) → line_form l ≡ form → Continues ls → (ss : List TextSection) (s : TextSection) →
    ContinuesAt l ls ss s form
continues-form l ls (section_line name) e more ss s = continues-section l ls name more ss s
continues-form l ls skipped e more ss s = continues-other l ls skipped e more ss s
continues-form l ls unclosed e more ss s = continues-other l ls unclosed e more ss s
continues-form l ls malformed e more ss s = continues-other l ls malformed e more ss s
continues-form l ls (name_value key value) e more ss s = continues-other l ls (name_value key value) e more ss s

-- after sections, more lines give the last one keys up to the next section line, and then sections
pub continues : (ls : List Line) → Continues ls
continues [] ss s = ap (λ (t : TextSection). ss ++ t ∷ []) (sym (with_body-nil s))
continues (l ∷ ls) ss s = continues-form l ls (line_form l) refl (continues ls) ss s

sections_of-form : (l : Line) (ls : List Line) (form : LineForm) → with_lines [] ls ≡ sections_of ls →
    with_lines (with_form [] l.number form) ls ≡ section_begun form l.number (body_of ls) ++ sections_of ls
sections_of-form l ls (section_line name) more = continues ls [] (empty_section name l.number)
sections_of-form l ls skipped more = more
sections_of-form l ls unclosed more = more
sections_of-form l ls malformed more = more
sections_of-form l ls (name_value key value) more = more

-- the sections of lines, read one by one
pub sections_of-with_lines : (ls : List Line) → with_lines [] ls ≡ sections_of ls
sections_of-with_lines [] = refl
sections_of-with_lines (l ∷ ls) = sections_of-form l ls (line_form l) (sections_of-with_lines ls)

with_lines-append : (ss : List TextSection) (ls : List Line) (l : Line) → with_lines ss (ls ++ l ∷ []) ≡ with_line (with_lines ss ls) l
with_lines-append ss [] l = refl
with_lines-append ss (m ∷ ls) l = with_lines-append (with_line ss m) ls l

-- the sections of lines and one line more
pub sections_of-append : (ls : List Line) (l : Line) → sections_of (ls ++ l ∷ []) ≡ with_line (sections_of ls) l
sections_of-append ls l =
    sym (sections_of-with_lines (ls ++ l ∷ []))
    ∙ with_lines-append [] ls l
    ∙ ap (λ (ss : List TextSection). with_line ss l) (sections_of-with_lines ls)

-- the rules of a line, by its form
rules_within : (ss : List TextSection) (o : Option TextSection) (form : LineForm) → last_section ss ≡ o → first_broken (form_rules ss form) ≡ form_fault ss form
rules_within ss None skipped h = rw h refl
rules_within ss None unclosed h = refl
rules_within ss None (section_line name) h = rw h refl
rules_within ss None (name_value name value) h = rw h refl
rules_within ss None malformed h = rw h refl
rules_within ss (Some s) skipped h = rw h refl
rules_within ss (Some s) unclosed h = refl
rules_within ss (Some s) (section_line name) h = rw h refl
rules_within ss (Some s) (name_value name value) h = rw h refl
rules_within ss (Some s) malformed h = rw h refl

pub line_fault-form : (ss : List TextSection) (l : Line) → line_fault ss l ≡ fault_by_form ss l
line_fault-form ss l = ap (λ (o : Option TextFaultKind). let f : Option TextFaultKind = if is_too_long l then Some TooLarge else o in f) (rules_within ss (last_section ss) (line_form l) refl)

-- the first line at fault, by the sections before
pub first_line_fault-after : (before ls : List Line) → first_line_fault before ls ≡ fault_after (sections_of before) ls
first_line_fault-after before [] = refl
first_line_fault-after before (l ∷ ls) =
    ap (λ (o : Option TextFaultKind). option_or (option_map (fault_at l.number) o) (first_line_fault (before ++ l ∷ []) ls)) (line_fault-form (sections_of before) l)
    ∙ ap (option_or (option_map (fault_at l.number) (fault_by_form (sections_of before) l)))
    (first_line_fault-after (before ++ l ∷ []) ls ∙ ap (λ (ss : List TextSection). fault_after ss ls) (sections_of-append before l))

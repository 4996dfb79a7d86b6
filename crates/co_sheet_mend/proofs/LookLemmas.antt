-- What a line is to one entry: it begins the section of the entry, ends it, gives its name, or none of these.
use Rattle.std.proofs.Common.{◌≡◌, ℕ, suc, ◌+◌, ◌-◌, Bool, true, false, cond, not, ◌&&◌, ◌==◌, List, [], ◌∷◌, ◌++◌, length, take, reverse, Option, Some, None, refl, sym, ap, ◌∙◌, arith, codes}
use Rattle.std.specs.Prelude.{nat_lt, slice_index}
use Rattle.std.specs.Char.{to_ascii_lowercase}
use Rattle.std.specs.List.{after_first, before_first, list_any, position_or_len}
use Rattle.std.specs.Str.{bytes_eq, str_to_ascii_lowercase}
use Rattle.std.specs.Str.Lines.{strip_carriage_return}
use Rattle.std.proofs.lemmas.List.{reverse-append}
use Rattle.co_text.specs.Texts.{is_blank}
use Rattle.co_sheet_text.specs.declared.section_kind.SectionKind.{SectionKind}
use Rattle.co_sheet_text.specs.declared.section_kind.SectionKind.TheVariants.{Object, SubIndex}
use Rattle.co_sheet_text.specs.Names.{kind_of, same_kind}
use Rattle.co_sheet_text.specs.LinesAtFault.{emptied_form}
use Rattle.co_sheet_text.specs.Sections.{LineForm, skipped, section_line, unclosed, name_value, malformed, form_of, property_form, section_form, is_equals}
use Rattle.co_sheet_text.specs.Text.{is_empty, trim, trim_front}
use Rattle.co_sheet_mend.specs.NameLaws.{is_entry, is_name}
use Rattle.co_sheet_mend.proofs.NameLemmas.{clash}
use Rattle.co_sheet_mend.proofs.TextLineLemmas.{both, not-so}

pub data Look : Type 0 where
  begins : Look
  ends : Look
  names : List ℕ → Look
  other : Look

-- the name that lines give the entry, of lines in its section or before it
abbrev pub named : Bool → List Look → Option (List ℕ)
named inside [] = None
named false (begins ∷ looks) = named true looks
named false (look ∷ looks) = named false looks
named true (names value ∷ looks) = Some value
named true (other ∷ looks) = named true looks
named true (look ∷ looks) = None

abbrev pub is_begin : Look → Bool
is_begin begins = true
is_begin look = false

abbrev pub is_end : Look → Bool
is_end begins = true
is_end ends = true
is_end look = false

pub named-other : (inside : Bool) (look : Look) (looks : List Look) → look ≡ other → named inside (look ∷ looks) ≡ named inside looks
named-other false look looks is = ap (λ (l : Look). named false (l ∷ looks)) is
named-other true look looks is = ap (λ (l : Look). named true (l ∷ looks)) is

pub named-before : (look : Look) (looks : List Look) → is_begin look ≡ false → named false (look ∷ looks) ≡ named false looks
named-before begins looks is = absurd (cc)
named-before ends looks is = refl
named-before (names value) looks is = refl
named-before other looks is = refl

pub named-end : (look : Look) (looks : List Look) → is_end look ≡ true → named true (look ∷ looks) ≡ None
named-end begins looks is = refl
named-end ends looks is = refl
named-end (names value) looks is = absurd (cc)
named-end other looks is = absurd (cc)

-- of a line that gives no name, before lines without one
pub named-nameless : (inside : Bool) (look : Look) (looks : List Look) → is_end look ≡ true → ((i : Bool) → named i looks ≡ None) → named inside (look ∷ looks) ≡ None
named-nameless false begins looks is more = more true
named-nameless false ends looks is more = more false
named-nameless true begins looks is more = refl
named-nameless true ends looks is more = refl
named-nameless inside (names value) looks is more = absurd (cc)
named-nameless inside other looks is more = absurd (cc)

-- ---- kinds

pub not-entry : (kind entry : SectionKind) → is_entry entry ≡ true → is_entry kind ≡ false → same_kind kind entry ≡ false
not-entry (Object i) entry is fails = absurd (cc)
not-entry (SubIndex k) entry is fails = absurd (cc)
not-entry kind (Object j) is fails = refl
not-entry kind (SubIndex k) is fails = refl
not-entry kind entry is fails = absurd (cc)

-- ---- by the form of a line

abbrev pub look_form : SectionKind → Bool → LineForm → Look
look_form entry long (section_line name) = cond (not long && same_kind (kind_of name) entry) begins ends
look_form entry long unclosed = ends
look_form entry long (name_value name value) = cond (not long && (is_name name && not (is_empty value))) (names value) other
look_form entry long form = other

abbrev pub is_long : List ℕ → Bool
is_long bytes = nat_lt 512 (length bytes)

abbrev pub look : SectionKind → List ℕ → Look
look entry bytes = look_form entry (is_long bytes) (form_of (trim bytes))

-- ---- lines that begin with a byte that no blank, section line or ParameterName begins with

abbrev pub is_plain : ℕ → Bool
is_plain b = not (is_blank b) && (not (b == 91) && (not (b == 61) && not (to_ascii_lowercase b == 112)))

record IsPlain (b : ℕ) : Type 0 where
  blank : is_blank b ≡ false
  bracket : (b == 91) ≡ false
  equals : (b == 61) ≡ false
  letter : (to_ascii_lowercase b == 112) ≡ false

plain : (b : ℕ) → is_plain b ≡ true → IsPlain b
plain b h =
    let one = both (not (is_blank b)) _ h in
    let two = both (not (b == 91)) _ one.1 in
    let three = both (not (b == 61)) _ two.1 in
    record { blank = not-so _ one.0; bracket = not-so _ two.0; equals = not-so _ three.0; letter = not-so _ three.1 }

-- a last byte that is no blank stays
front-kept : (xs : List ℕ) (d : ℕ) → is_blank d ≡ false → (zs : List ℕ) × (trim_front (xs ++ d ∷ []) ≡ zs ++ d ∷ [])
front-kept [] d h = ([], ap (λ (t : Bool). cond t [] (d ∷ [])) h)
front-kept (x ∷ xs) d h =
    let more = front-kept xs d h in
    elim (is_blank x) as (λ b. (zs : List ℕ) × (cond b (trim_front (xs ++ d ∷ [])) (x ∷ (xs ++ d ∷ [])) ≡ zs ++ d ∷ []))
    [ true ↦ more | false ↦ (x ∷ xs, refl) ]

-- so does a first one
pub trim-first : (d : ℕ) (ys : List ℕ) → is_blank d ≡ false → (zs : List ℕ) × (trim (d ∷ ys) ≡ d ∷ zs)
trim-first d ys h =
    let found = front-kept (reverse ys) d h in (
      reverse found.0,
      ap (λ (t : Bool). reverse (trim_front (reverse (cond t (trim_front ys) (d ∷ ys))))) h
          ∙ ap (λ (r : List ℕ). reverse (trim_front r)) (reverse-append (d ∷ []) ys)
          ∙ ap reverse found.1 ∙ reverse-append found.0 (d ∷ []),
    )

unnamed : (b : ℕ) (zs : List ℕ) → IsPlain b → is_name (b ∷ zs) ≡ false
unnamed b zs is = ap (λ (t : Bool). t && bytes_eq (str_to_ascii_lowercase zs) (str_to_ascii_lowercase (codes "arameterName"))) is.letter

first-of : (b : ℕ) (zs : List ℕ) → (b == 61) ≡ false → before_first is_equals (b ∷ zs) ≡ b ∷ before_first is_equals zs
first-of b zs h =
    let n : 1 + position_or_len is_equals zs ≡ suc (position_or_len is_equals zs) = omega arith in
    ap (λ (t : Bool). take (cond (not t) (1 + position_or_len is_equals zs) 0) (b ∷ zs)) h ∙ ap (λ (k : ℕ). take k (b ∷ zs)) n

no-name : (b : ℕ) (zs : List ℕ) → IsPlain b → is_name (trim (before_first is_equals (b ∷ zs))) ≡ false
no-name b zs is =
    let cut = trim-first b (before_first is_equals zs) is.blank in
    ap (λ (l : List ℕ). is_name (trim l)) (first-of b zs is.equals) ∙ ap is_name cut.1 ∙ unnamed b cut.0 is

module _ (entry : SectionKind) where
  value-other : (long given : Bool) (name value : List ℕ) → is_name name ≡ false → look_form entry long (cond given (name_value name value) malformed) ≡ other
  value-other true true name value h = refl
  value-other false true name value h = ap (λ (t : Bool). cond (t && not (is_empty value)) (names value) other) h
  value-other long false name value h = refl

  comment-other : (long comment : Bool) (form : LineForm) → look_form entry long form ≡ other → look_form entry long (cond comment skipped form) ≡ other
  comment-other long true form h = refl
  comment-other long false form h = h

  plain-form : (long : Bool) (b : ℕ) (zs : List ℕ) → IsPlain b → look_form entry long (form_of (b ∷ zs)) ≡ other
  plain-form long b zs is =
      comment-other long (b == 59) _
      (ap (λ (t : Bool). look_form entry long (cond t (section_form zs) (property_form (b ∷ zs) (trim (before_first is_equals (b ∷ zs)))))) is.bracket
      ∙ value-other long (list_any is_equals (b ∷ zs) && not (is_empty (trim (before_first is_equals (b ∷ zs))))) (trim (before_first is_equals (b ∷ zs))) (trim (after_first is_equals (b ∷ zs))) (no-name b zs is))

  plain-other : (b : ℕ) (ys : List ℕ) → is_plain b ≡ true → look entry (b ∷ ys) ≡ other
  plain-other b ys h =
      let is = plain b h in
      let cut = trim-first b ys is.blank in
      ap (λ (l : List ℕ). look_form entry (is_long (b ∷ ys)) (form_of l)) cut.1 ∙ plain-form (is_long (b ∷ ys)) b cut.0 is

  strip-plain : (t : Bool) (n b : ℕ) (ys : List ℕ) → is_plain b ≡ true → look entry (cond t (take (suc n) (b ∷ ys)) (b ∷ ys)) ≡ other
  strip-plain true n b ys h = plain-other b (take n ys) h
  strip-plain false n b ys h = plain-other b ys h

  -- also without a carriage return at the end
  pub stripped-other : (b c : ℕ) (ys : List ℕ) → is_plain b ≡ true → look entry (strip_carriage_return (b ∷ c ∷ ys)) ≡ other
  stripped-other b c ys h =
      let text = b ∷ c ∷ ys in
      let t = slice_index text (length text - 1) == 13 in
      let n : length text - 1 ≡ suc (length ys) = omega arith in
      ap (λ (k : ℕ). look entry (cond t (take k text) text)) n ∙ strip-plain t (length ys) b (c ∷ ys) h

-- ---- of an emptied line

section-end : (b : Bool) → is_end (cond b begins ends) ≡ true
section-end true = refl
section-end false = refl

value-end : (b : Bool) (value : List ℕ) → is_end (cond b (names value) other) ≡ false
value-end true value = refl
value-end false value = refl

module _ (entry : SectionKind) (is : is_entry entry ≡ true) where
  unread-ends : (name : List ℕ) → is_entry (kind_of name) ≡ false → look_form entry false (section_line name) ≡ ends
  unread-ends name fails = ap (λ (t : Bool). cond t begins ends) (not-entry (kind_of name) entry is fails)

  pub emptied-ends : look entry (codes "[]") ≡ ends
  emptied-ends = unread-ends [] refl

  pub mandatory-ends : look entry (codes "[MandatoryObjects]") ≡ ends
  mandatory-ends = unread-ends (codes "MandatoryObjects") refl

  pub emptied-never : (form : LineForm) → is_begin (look entry (emptied_form form)) ≡ false
  emptied-never (section_line name) = ap is_begin emptied-ends
  emptied-never unclosed = ap is_begin emptied-ends
  emptied-never (name_value name value) = refl
  emptied-never skipped = refl
  emptied-never malformed = refl

  pub emptied-other : (long : Bool) (form : LineForm) → look_form entry long form ≡ other → look entry (emptied_form form) ≡ other
  emptied-other long (section_line name) h = clash (is_end other) (ap is_end (sym h) ∙ section-end (not long && same_kind (kind_of name) entry)) refl
  emptied-other long unclosed h = absurd (cc)
  emptied-other long (name_value name value) h = refl
  emptied-other long skipped h = refl
  emptied-other long malformed h = refl

  pub emptied-end : (long : Bool) (form : LineForm) → is_end (look_form entry long form) ≡ true → look entry (emptied_form form) ≡ ends
  emptied-end long (section_line name) h = emptied-ends
  emptied-end long unclosed h = emptied-ends
  emptied-end long (name_value name value) h = clash (is_end (look_form entry long (name_value name value))) h (value-end (not long && (is_name name && not (is_empty value))) value)
  emptied-end long skipped h = absurd (cc)
  emptied-end long malformed h = absurd (cc)

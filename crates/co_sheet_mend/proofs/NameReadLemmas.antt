-- The name that a text gives an entry, read line by line: that of the first line of a name in the first section.
use Rattle.std.proofs.Common.{◌≡◌, ℕ, Bool, true, false, cond, not, ◌&&◌, ◌||◌, ◌==◌, List, [], ◌∷◌, ◌++◌, Option, Some, None, refl, sym, ap, ◌∙◌, eqb-true, eq-eqb, codes, map, ◌⊎◌, inl, inr}
use Rattle.std.specs.Prelude.{is_some, filter_map, find, option_map, option_and_then}
use Rattle.std.specs.List.{cons_option, last_or, list_all, list_any}
use Rattle.std.specs.Str.{bytes_eq, str_to_ascii_lowercase}
use Rattle.std.proofs.lemmas.List.{append_assoc}
use Rattle.std.proofs.lemmas.List.Folds.{list_any-append}
use Rattle.std.proofs.lemmas.Slice.Eq.{bytes_eq-Decides}
use Rattle.co_sheet_text.specs.declared.fault.TextFaultKind.{TextFaultKind}
use Rattle.co_sheet_text.specs.declared.fault.TextFaultKind.TheVariants.{TooLarge}
use Rattle.co_sheet_text.specs.declared.section_kind.SectionKind.{SectionKind}
use Rattle.co_sheet_text.specs.declared.section_kind.SectionKind.TheVariants.{Object, SubIndex}
use Rattle.co_sheet_text.specs.LinesAtFault.{emptied_form, lines_read, next_read, own_fault, read_as}
use Rattle.co_sheet_text.specs.Names.{is_read, is_read_name, kind_of, same_kind}
use Rattle.co_sheet_text.specs.Sections.{LineForm, skipped, section_line, unclosed, name_value, malformed, begins_again, body_of, first_broken, form_of, form_rules, is_given, is_section_line, last_section, line_form, Property, property_at, property_given, section_at, section_begun, sections_of, TextSection}
use Rattle.co_sheet_text.specs.Text.{Line, is_empty, same_name, trim}
use Rattle.co_sheet.specs.Entries.{name_of}
use Rattle.co_sheet_mend.specs.NameLaws.{is_entry, is_name, name_in}
use Rattle.co_sheet_mend.proofs.LookLemmas.{Look, begins, ends, names, other, named, named-before, is_begin, is_end, is_long, look, look_form, not-entry}
use Rattle.co_sheet_mend.proofs.NameLemmas.{clash}
use Rattle.co_sheet_mend.proofs.TextLineLemmas.{both, both-are, not-so}

-- ---- kinds and names

same-key : (i j : ℕ) (index sub : ℕ) → i ≡ index → j ≡ sub → ◌≡◌ {A = SectionKind} (SubIndex (record { index = i; sub = j })) (SubIndex (record { index = index; sub = sub }))
same-key i j index sub h k = cc

pub one-kind : (kind entry : SectionKind) → is_entry entry ≡ true → same_kind kind entry ≡ true → kind ≡ entry
one-kind (Object i) (Object j) is h = ap (λ n. Object n) (eqb-true i j h)
one-kind (SubIndex k) (SubIndex l) is h =
    let of = both (k.index == l.index) (k.sub == l.sub) h in
    same-key k.index k.sub l.index l.sub (eqb-true k.index l.index of.0) (eqb-true k.sub l.sub of.1)
one-kind (Object i) entry is h = absurd (cc)
one-kind (SubIndex k) entry is h = absurd (cc)
one-kind kind entry is h = clash (same_kind kind entry) h (not-entry kind entry is refl)

abbrev later_names : List (List ℕ)
later_names = codes "ObjectType" ∷ codes "DataType" ∷ codes "AccessType" ∷ codes "LowLimit" ∷ codes "HighLimit" ∷ codes "DefaultValue" ∷ codes "ParameterValue" ∷ codes "PDOMapping" ∷ codes "SubNumber" ∷ codes "CompactSubObj" ∷ []

name-given : (entry : SectionKind) (name : List ℕ) → is_entry entry ≡ true → is_name name ≡ true → is_read_name entry name ≡ true
name-given (Object i) name is h = ap (λ b. (b || list_any (same_name name) later_names) || false) h
name-given (SubIndex k) name is h = ap (λ b. (b || list_any (same_name name) later_names) || false) h
name-given entry name is h = absurd (cc)

abbrev name_property : List Property → Option Property
name_property ks = find (λ k. same_name k.name (codes "ParameterName")) ks

at-name : (name : List ℕ) (ks : List Property) → is_name name ≡ true → find (λ (k : Property). same_name k.name name) ks ≡ name_property ks
at-name name ks h = ap (λ (low : List ℕ). find (λ (k : Property). bytes_eq (str_to_ascii_lowercase k.name) low) ks) ((bytes_eq-Decides (str_to_ascii_lowercase name) (str_to_ascii_lowercase (codes "ParameterName"))).0 h)

name-append-cases : (b : Bool) (k : Property) (found : Option Property) → cond b (Some k) found ≡ None → (b ≡ false) × (found ≡ None)
name-append-cases true k found h = absurd (cc)
name-append-cases false k found h = (refl, h)

-- ---- the form of a line, and what it is to the entry

abbrev pub is_long_line : Line → Bool
is_long_line l = is_long l.bytes

abbrev pub is_of : SectionKind → LineForm → Bool
is_of entry (section_line name) = same_kind (kind_of name) entry
is_of entry form = false

pub record IsBeginning (entry : SectionKind) (l : Line) : Type 0 where
  pub short : is_long_line l ≡ false
  pub name : List ℕ
  pub form : line_form l ≡ section_line name
  pub kind : same_kind (kind_of name) entry ≡ true

pub record IsNaming (l : Line) (value : List ℕ) : Type 0 where
  pub short : is_long_line l ≡ false
  pub name : List ℕ
  pub form : line_form l ≡ name_value name value
  pub named : is_name name ≡ true
  pub some : is_empty value ≡ false

same-value : (x y : List ℕ) → ◌≡◌ {A = Look} (names x) (names y) → x ≡ y
same-value x y h = cc

begins-cases : (b : Bool) → cond b begins ends ≡ begins → b ≡ true
begins-cases true h = refl
begins-cases false h = absurd (cc)

value-begins : (b : Bool) (value : List ℕ) → cond b (names value) other ≡ begins → ⊥
value-begins true value h = absurd (cc)
value-begins false value h = absurd (cc)

names-cases : (b : Bool) (x y : List ℕ) → cond b (names x) other ≡ names y → (b ≡ true) × (x ≡ y)
names-cases true x y h = (refl, same-value x y h)
names-cases false x y h = absurd (cc)

section-names : (b : Bool) (y : List ℕ) → cond b begins ends ≡ names y → ⊥
section-names true y h = absurd (cc)
section-names false y h = absurd (cc)

module _ (entry : SectionKind) where
  abbrev pub look_line : Line → Look
  look_line l = look entry l.bytes

  beginning-form : (l : Line) (form : LineForm) → line_form l ≡ form → look_form entry (is_long_line l) form ≡ begins → IsBeginning entry l
  beginning-form l (section_line name) is h =
      let of = both (not (is_long_line l)) (same_kind (kind_of name) entry) (begins-cases (not (is_long_line l) && same_kind (kind_of name) entry) h) in
      record { short = not-so _ of.0; name = name; form = is; kind = of.1 }
  beginning-form l (name_value name value) is h = absurd (value-begins (not (is_long_line l) && (is_name name && not (is_empty value))) value h)
  beginning-form l form is h = absurd (cc)

  pub beginning : (l : Line) → look_line l ≡ begins → IsBeginning entry l
  beginning l h = beginning-form l (line_form l) refl h

  naming-form : (l : Line) (value : List ℕ) (form : LineForm) → line_form l ≡ form → look_form entry (is_long_line l) form ≡ names value → IsNaming l value
  naming-form l value (name_value name other_value) is h =
      let found = names-cases (not (is_long_line l) && (is_name name && not (is_empty other_value))) other_value value h in
      let of = both (not (is_long_line l)) (is_name name && not (is_empty other_value)) found.0 in
      let given = both (is_name name) (not (is_empty other_value)) of.1 in
      record { short = not-so _ of.0; name = name; form = is ∙ ap (λ v. name_value name v) found.1; named = given.0; some = ap is_empty (sym found.1) ∙ not-so _ given.1 }
  naming-form l value (section_line name) is h = absurd (section-names (not (is_long_line l) && same_kind (kind_of name) entry) value h)
  naming-form l value form is h = absurd (cc)

  pub naming : (l : Line) (value : List ℕ) → look_line l ≡ names value → IsNaming l value
  naming l value h = naming-form l value (line_form l) refl h

-- ---- a line's own fault

begin-rules : (ss : List TextSection) (o : Option TextSection) (name : List ℕ) → last_section ss ≡ o → begins_again ss (section_line name) ≡ false → first_broken (form_rules ss (section_line name)) ≡ None
begin-rules ss None name last again = rw (last, again) refl
begin-rules ss (Some s) name last again = rw (last, again) refl

value-rules : (ss : List TextSection) (s : TextSection) (name value : List ℕ) → last_section ss ≡ Some s → (is_given s.kind name value && is_some (property_at name s)) ≡ false → first_broken (form_rules ss (name_value name value)) ≡ None
value-rules ss s name value last once = rw last (rw once refl)

short-fault : (before : List Line) (l : Line) (form : LineForm) → line_form l ≡ form → is_long_line l ≡ false → own_fault before l ≡ first_broken (form_rules (sections_of before) form)
short-fault before l form is h =
    ap (λ b. cond b (Some TooLarge) (first_broken (form_rules (sections_of before) (line_form l)))) h
    ∙ ap (λ (f : LineForm). first_broken (form_rules (sections_of before) f)) is

long-fault : (before : List Line) (l : Line) → is_long_line l ≡ true → own_fault before l ≡ Some TooLarge
long-fault before l h = ap (λ b. cond b (Some TooLarge) (first_broken (form_rules (sections_of before) (line_form l)))) h

-- ---- the lines before, as they are read: without a section of the entry, or in one without a name so far

abbrev pub is_of_line : SectionKind → Line → Bool
is_of_line entry l = is_of entry (line_form l)

abbrev pub is_seen : SectionKind → List Line → Bool
is_seen entry before = list_any (is_of_line entry) before

found-or : (b : Bool) (s : TextSection) (o : Option TextSection) (c : Bool) → is_some o ≡ c → is_some (cond b (Some s) o) ≡ (b || c)
found-or true s o c h = refl
found-or false s o c h = h

seen-form : (entry : SectionKind) (form : LineForm) (n : ℕ) (body : List Line) (ss : List TextSection) (c : Bool) → is_some (section_at entry ss) ≡ c → is_some (section_at entry (section_begun form n body ++ ss)) ≡ (is_of entry form || c)
seen-form entry (section_line name) n body ss c h = found-or (same_kind (kind_of name) entry) _ (section_at entry ss) c h
seen-form entry skipped n body ss c h = h
seen-form entry unclosed n body ss c h = h
seen-form entry (name_value name value) n body ss c h = h
seen-form entry malformed n body ss c h = h

seen : (entry : SectionKind) (before : List Line) → is_some (section_at entry (sections_of before)) ≡ is_seen entry before
seen entry [] = refl
seen entry (l ∷ ls) = seen-form entry (line_form l) l.number (body_of ls) (sections_of ls) (is_seen entry ls) (seen entry ls)

abbrev given_by : SectionKind → Line → Option Property
given_by kind l = property_given kind l.number (line_form l)

abbrev is_body : Line → Bool
is_body l = not (is_section_line (line_form l))

pub record IsInside (entry : SectionKind) (before : List Line) : Type 0 where
  pub front : List Line
  pub head : Line
  pub body : List Line
  pub cut : before ≡ front ++ head ∷ body
  pub name : List ℕ
  pub form : line_form head ≡ section_line name
  pub kind : kind_of name ≡ entry
  pub bodies : list_all is_body body ≡ true
  pub unnamed : name_property (filter_map (given_by entry) body) ≡ None

abbrev section_from : List ℕ → ℕ → List Line → TextSection
section_from name line body = record { kind = kind_of name; name = name; line = line; properties = filter_map (given_by (kind_of name)) body }

body-cond : (b : Bool) (l : Line) (ls rest : List Line) → b ≡ false → rest ≡ ls → cond b [] (l ∷ rest) ≡ l ∷ ls
body-cond true l ls rest h k = absurd (cc)
body-cond false l ls rest h k = ap (λ (r : List Line). l ∷ r) k

whole-body : (body : List Line) → list_all is_body body ≡ true → body_of body ≡ body
whole-body [] h = refl
whole-body (l ∷ ls) h =
    let of = both (is_body l) (list_all is_body ls) h in
    body-cond (is_section_line (line_form l)) l ls (body_of ls) (not-so _ of.0) (whole-body ls of.1)

begun-none : (form : LineForm) (n : ℕ) (body : List Line) (ss : List TextSection) → is_section_line form ≡ false → section_begun form n body ++ ss ≡ ss
begun-none (section_line name) n body ss h = absurd (cc)
begun-none skipped n body ss h = refl
begun-none unclosed n body ss h = refl
begun-none (name_value name value) n body ss h = refl
begun-none malformed n body ss h = refl

no-sections : (body : List Line) → list_all is_body body ≡ true → sections_of body ≡ []
no-sections [] h = refl
no-sections (l ∷ ls) h =
    let of = both (is_body l) (list_all is_body ls) h in
    begun-none (line_form l) l.number (body_of ls) (sections_of ls) (not-so _ of.0) ∙ no-sections ls of.1

last-after : (form : LineForm) (n : ℕ) (body : List Line) (ss : List TextSection) (s : TextSection) (o : Option TextSection) → ((p : Option TextSection) → last_or p ss ≡ Some s) → last_or o (section_begun form n body ++ ss) ≡ Some s
last-after (section_line name) n body ss s o h = h (Some _)
last-after skipped n body ss s o h = h o
last-after unclosed n body ss s o h = h o
last-after (name_value name value) n body ss s o h = h o
last-after malformed n body ss s o h = h o

last-begun : (front body : List Line) (head : Line) (name : List ℕ) → line_form head ≡ section_line name → list_all is_body body ≡ true
    → (o : Option TextSection) → last_or o (sections_of (front ++ head ∷ body)) ≡ Some (section_from name head.number body)
last-begun [] body head name is h o =
    ap (λ (f : LineForm). last_or o (section_begun f head.number (body_of body) ++ sections_of body)) is
    ∙ ap (λ (ss : List TextSection). last_or o (section_from name head.number (body_of body) ∷ ss)) (no-sections body h)
    ∙ ap (λ (ls : List Line). Some (section_from name head.number ls)) (whole-body body h)
last-begun (l ∷ front) body head name is h o =
    last-after (line_form l) l.number (body_of (front ++ head ∷ body)) (sections_of (front ++ head ∷ body)) _ o (λ p. last-begun front body head name is h p)

and-none : (b : Bool) → (b && false) ≡ false
and-none true = refl
and-none false = refl

module _ (entry : SectionKind) (is : is_entry entry ≡ true) where
  pub own-begins : (before : List Line) (l : Line) → is_seen entry before ≡ false → look_line entry l ≡ begins → own_fault before l ≡ None
  own-begins before l unseen h =
      let b = beginning entry l h in
      let again : begins_again (sections_of before) (section_line b.name) ≡ false =
      ap (λ (kind : SectionKind). is_read kind && is_some (section_at kind (sections_of before))) (one-kind (kind_of b.name) entry is b.kind)
      ∙ ap (λ t. is_read entry && t) (seen entry before ∙ unseen) ∙ and-none (is_read entry) in
      short-fault before l (section_line b.name) b.form b.short
      ∙ begin-rules (sections_of before) (last_section (sections_of before)) b.name refl again

  pub own-names : (before : List Line) (l : Line) (value : List ℕ) → IsInside entry before → look_line entry l ≡ names value → own_fault before l ≡ None
  own-names before l value inside h =
      let n = naming entry l value h in
      let s = section_from inside.name inside.head.number inside.body in
      let last : last_section (sections_of before) ≡ Some s =
      ap (λ (ls : List Line). last_section (sections_of ls)) inside.cut ∙ last-begun inside.front inside.body inside.head inside.name inside.form inside.bodies None in
      let first : property_at n.name s ≡ None =
      ap (λ (kind : SectionKind). find (λ (k : Property). same_name k.name n.name) (filter_map (given_by kind) inside.body)) inside.kind
      ∙ at-name n.name (filter_map (given_by entry) inside.body) n.named ∙ inside.unnamed in
      short-fault before l (name_value n.name value) n.form n.short
      ∙ value-rules (sections_of before) s n.name value last
      (ap (λ (o : Option Property). is_given s.kind n.name value && is_some o) first ∙ and-none (is_given s.kind n.name value))

-- ---- one line more

begins-same : (b : Bool) → is_begin (cond b begins ends) ≡ b
begins-same true = refl
begins-same false = refl

section-other : (b : Bool) → cond b begins ends ≡ other → ⊥
section-other true h = absurd (cc)
section-other false h = absurd (cc)

value-other : (b : Bool) (value : List ℕ) → cond b (names value) other ≡ other → b ≡ false
value-other true value h = absurd (cc)
value-other false value h = refl

value-not : (b : Bool) (value : List ℕ) → is_end (cond b (names value) other) ≡ false
value-not true value = refl
value-not false value = refl

apart : (a b : Bool) → (a && b) ≡ false → b ≡ true → a ≡ false
apart true b h k = clash b k h
apart false b h k = refl

given-cases : (a b : Bool) (name value : List ℕ) (line : ℕ) (k : Property) → cond (a && b) (Some (record { name = name; value = value; line = line })) None ≡ Some k → (b ≡ true) × (name ≡ k.name)
given-cases true true name value line k h = (refl, cc)
given-cases true false name value line k h = absurd (cc)
given-cases false b name value line k h = absurd (cc)

given-skip : (entry : SectionKind) (m : Line) (rest : List Line) (o : Option Property) → given_by entry m ≡ o → ((k : Property) → o ≡ Some k → is_name k.name ≡ false)
    → name_property (cons_option o (filter_map (given_by entry) rest)) ≡ name_property (filter_map (given_by entry) rest)
given-skip entry m rest None is each = refl
given-skip entry m rest (Some k) is each = ap (λ b. cond b (Some k) (name_property (filter_map (given_by entry) rest))) (each k refl)

unnamed-last : (o : Option Property) → ((k : Property) → o ≡ Some k → is_name k.name ≡ false) → name_property (cons_option o []) ≡ None
unnamed-last None each = refl
unnamed-last (Some k) each = ap (λ b. cond b (Some k) None) (each k refl)

unnamed-more : (o : Option Property) (ks more : List Property) → name_property (cons_option o ks) ≡ None → (name_property ks ≡ None → name_property more ≡ None) → name_property (cons_option o more) ≡ None
unnamed-more None ks more h rest = rest h
unnamed-more (Some k) ks more h rest =
    let of = name-append-cases (is_name k.name) k (name_property ks) h in
    ap (λ b. cond b (Some k) (name_property more)) of.0 ∙ rest of.1

unnamed-append : (entry : SectionKind) (body : List Line) (m : Line) → name_property (filter_map (given_by entry) body) ≡ None → ((k : Property) → given_by entry m ≡ Some k → is_name k.name ≡ false)
    → name_property (filter_map (given_by entry) (body ++ m ∷ [])) ≡ None
unnamed-append entry [] m h each = unnamed-last (given_by entry m) each
unnamed-append entry (l ∷ ls) m h each =
    unnamed-more (given_by entry l) (filter_map (given_by entry) ls) (filter_map (given_by entry) (ls ++ m ∷ [])) h (λ more. unnamed-append entry ls m more each)

bodies-append : (body : List Line) (m : Line) → list_all is_body body ≡ true → is_body m ≡ true → list_all is_body (body ++ m ∷ []) ≡ true
bodies-append [] m h k = both-are (is_body m) true k refl
bodies-append (l ∷ ls) m h k = let of = both (is_body l) (list_all is_body ls) h in both-are (is_body l) _ of.0 (bodies-append ls m of.1 k)

module _ (entry : SectionKind) (is : is_entry entry ≡ true) where
  not-of : (long : Bool) (form : LineForm) → long ≡ false → is_begin (look_form entry long form) ≡ false → is_of entry form ≡ false
  not-of true form h k = absurd (cc)
  not-of false (section_line name) h k = sym (begins-same (same_kind (kind_of name) entry)) ∙ k
  not-of false skipped h k = refl
  not-of false unclosed h k = refl
  not-of false (name_value name value) h k = refl
  not-of false malformed h k = refl

  emptied-not : (form : LineForm) → is_of entry (form_of (trim (emptied_form form))) ≡ false
  emptied-not (section_line name) = not-entry (kind_of []) entry is refl
  emptied-not unclosed = not-entry (kind_of []) entry is refl
  emptied-not skipped = refl
  emptied-not (name_value name value) = refl
  emptied-not malformed = refl

  short : (before : List Line) (l : Line) (b : Bool) → own_fault before l ≡ None → is_long_line l ≡ b → b ≡ false
  short before l true own h = let long = long-fault before l h in absurd (cc)
  short before l false own h = refl

  read-not : (before : List Line) (l : Line) (o : Option TextFaultKind) → own_fault before l ≡ o → is_begin (look_line entry l) ≡ false → is_of entry (line_form (read_as o l)) ≡ false
  read-not before l None own h = not-of (is_long_line l) (line_form l) (short before l (is_long_line l) own refl) h
  read-not before l (Some kind) own h = emptied-not (line_form l)

  next-not : (before : List Line) (l : Line) → is_begin (look_line entry l) ≡ false → is_of entry (line_form (next_read before l)) ≡ false
  next-not before l h = read-not before l (own_fault before l) refl h

  pub seen-next : (before : List Line) (l : Line) → is_seen entry before ≡ false → is_begin (look_line entry l) ≡ false → is_seen entry (before ++ next_read before l ∷ []) ≡ false
  seen-next before l unseen h =
      list_any-append (is_of_line entry) before (next_read before l ∷ [])
      ∙ ap (λ b. b || (is_of entry (line_form (next_read before l)) || false)) unseen
      ∙ ap (λ b. b || false) (next-not before l h)

  -- what is none of the three gives the entry no name
  other-body : (form : LineForm) (long : Bool) → look_form entry long form ≡ other → is_section_line form ≡ false
  other-body (section_line name) long h = absurd (section-other (not long && same_kind (kind_of name) entry) h)
  other-body unclosed long h = absurd (cc)
  other-body skipped long h = refl
  other-body (name_value name value) long h = refl
  other-body malformed long h = refl

  emptied-body : (form : LineForm) (long : Bool) → look_form entry long form ≡ other → is_section_line (form_of (trim (emptied_form form))) ≡ false
  emptied-body (section_line name) long h = absurd (section-other (not long && same_kind (kind_of name) entry) h)
  emptied-body unclosed long h = absurd (cc)
  emptied-body skipped long h = refl
  emptied-body (name_value name value) long h = refl
  emptied-body malformed long h = refl

  emptied-none : (form : LineForm) (n : ℕ) (k : Property) → property_given entry n (form_of (trim (emptied_form form))) ≡ Some k → ⊥
  emptied-none (section_line name) n k h = absurd (cc)
  emptied-none unclosed n k h = absurd (cc)
  emptied-none skipped n k h = absurd (cc)
  emptied-none (name_value name value) n k h = absurd (cc)
  emptied-none malformed n k h = absurd (cc)

  given-other : (form : LineForm) (n : ℕ) (long : Bool) (k : Property) → long ≡ false → look_form entry long form ≡ other → property_given entry n form ≡ Some k → is_name k.name ≡ false
  given-other (name_value name value) n true k few h given = absurd (cc)
  given-other (name_value name value) n false k few h given =
      let of = given-cases (is_read_name entry name) (not (is_empty value)) name value n k given in
      ap is_name (sym of.1) ∙ apart (is_name name) (not (is_empty value)) (value-other (is_name name && not (is_empty value)) value h) of.0
  given-other (section_line name) n long k few h given = absurd (cc)
  given-other unclosed n long k few h given = absurd (cc)
  given-other skipped n long k few h given = absurd (cc)
  given-other malformed n long k few h given = absurd (cc)

  record IsAside (m : Line) : Type 0 where
    body : is_section_line (line_form m) ≡ false
    given : (k : Property) → given_by entry m ≡ Some k → is_name k.name ≡ false

  read-aside : (before : List Line) (l : Line) (o : Option TextFaultKind) → own_fault before l ≡ o → look_line entry l ≡ other → IsAside (read_as o l)
  read-aside before l None own h = record {
    body = other-body (line_form l) (is_long_line l) h;
    given = λ k given. given-other (line_form l) l.number (is_long_line l) k (short before l (is_long_line l) own refl) h given;
  }
  read-aside before l (Some kind) own h = record {
    body = emptied-body (line_form l) (is_long_line l) h;
    given = λ k given. absurd (emptied-none (line_form l) l.number k given);
  }

  aside : (before : List Line) (l : Line) → look_line entry l ≡ other → IsAside (next_read before l)
  aside before l h = read-aside before l (own_fault before l) refl h

  pub inside-next : (before : List Line) (l : Line) → IsInside entry before → look_line entry l ≡ other → IsInside entry (before ++ next_read before l ∷ [])
  inside-next before l inside h =
      let m = next_read before l in
      let of = aside before l h in
      record {
        front = inside.front;
        head = inside.head;
        body = inside.body ++ m ∷ [];
        cut = ap (λ (ls : List Line). ls ++ m ∷ []) inside.cut ∙ append_assoc inside.front (inside.head ∷ inside.body) (m ∷ []);
        name = inside.name;
        form = inside.form;
        kind = inside.kind;
        bodies = bodies-append inside.body m inside.bodies (ap not of.body);
        unnamed = unnamed-append entry inside.body m inside.unnamed of.given;
      }

  pub inside-first : (before : List Line) (l : Line) → is_seen entry before ≡ false → look_line entry l ≡ begins → IsInside entry (before ++ next_read before l ∷ [])
  inside-first before l unseen h =
      let b = beginning entry l h in
      record {
        front = before;
        head = l;
        body = [];
        cut = ap (λ (o : Option TextFaultKind). before ++ read_as o l ∷ []) (own-begins entry is before l unseen h);
        name = b.name;
        form = b.form;
        kind = one-kind (kind_of b.name) entry is b.kind;
        bodies = refl;
        unnamed = refl;
      }

  -- ---- what the lines give

  abbrev pub looks_of : List Line → List Look
  looks_of ls = map (λ l. look entry l.bytes) ls

  abbrev value_of : Option Property → Option (List ℕ)
  value_of o = option_map (λ k. k.value) o

  abbrev body_name : List Line → Option (List ℕ)
  body_name ls = value_of (name_property (filter_map (given_by entry) (body_of ls)))

  cut-body : (b : Bool) (m : Line) (ls : List Line) → b ≡ true → value_of (name_property (filter_map (given_by entry) (cond b [] (m ∷ ls)))) ≡ None
  cut-body true m ls h = refl
  cut-body false m ls h = absurd (cc)

  more-body : (b : Bool) (m : Line) (ls : List Line) → b ≡ false → filter_map (given_by entry) (cond b [] (m ∷ ls)) ≡ cons_option (given_by entry m) (filter_map (given_by entry) ls)
  more-body true m ls h = absurd (cc)
  more-body false m ls h = refl

  pub end-form : (form : LineForm) (long : Bool) → is_end (look_form entry long form) ≡ true → (is_section_line form ≡ true) ⊎ (form ≡ unclosed)
  end-form (section_line name) long h = inl refl
  end-form unclosed long h = inr refl
  end-form (name_value name value) long h = clash (is_end (look_form entry long (name_value name value))) h (value-not (not long && (is_name name && not (is_empty value))) value)
  end-form skipped long h = absurd (cc)
  end-form malformed long h = absurd (cc)

  emptied-section : (form : LineForm) → (is_section_line form ≡ true) ⊎ (form ≡ unclosed) → is_section_line (form_of (trim (emptied_form form))) ≡ true
  emptied-section (section_line name) h = refl
  emptied-section unclosed h = refl
  emptied-section skipped (inl h) = absurd (cc)
  emptied-section skipped (inr h) = absurd (cc)
  emptied-section (name_value name value) (inl h) = absurd (cc)
  emptied-section (name_value name value) (inr h) = absurd (cc)
  emptied-section malformed (inl h) = absurd (cc)
  emptied-section malformed (inr h) = absurd (cc)

  -- an unclosed section line is at fault
  unclosed-fault : (before : List Line) (l : Line) (b : Bool) → line_form l ≡ unclosed → is_long_line l ≡ b → own_fault before l ≡ None → ⊥
  unclosed-fault before l true is h own = let long = long-fault before l h in absurd (cc)
  unclosed-fault before l false is h own = let bad = short-fault before l unclosed is h in absurd (cc)

  read-end : (before : List Line) (l : Line) (o : Option TextFaultKind) → own_fault before l ≡ o → (is_section_line (line_form l) ≡ true) ⊎ (line_form l ≡ unclosed) → is_section_line (line_form (read_as o l)) ≡ true
  read-end before l None own (inl h) = h
  read-end before l None own (inr h) = absurd (unclosed-fault before l (is_long_line l) h refl own)
  read-end before l (Some kind) own h = emptied-section (line_form l) h

  next-end : (before : List Line) (l : Line) → is_end (look_line entry l) ≡ true → is_section_line (line_form (next_read before l)) ≡ true
  next-end before l h = read-end before l (own_fault before l) refl (end-form (line_form l) (is_long_line l) h)

  found-name : (m : Line) (name value : List ℕ) (rest : List Line) → line_form m ≡ name_value name value → is_name name ≡ true → is_empty value ≡ false
      → value_of (name_property (filter_map (given_by entry) (body_of (m ∷ rest)))) ≡ Some value
  found-name m name value rest form named some =
      let made : Property = record { name = name; value = value; line = m.number } in
      let more = filter_map (given_by entry) (body_of rest) in
      ap (λ (f : LineForm). value_of (name_property (filter_map (given_by entry) (cond (is_section_line f) [] (m ∷ body_of rest))))) form
      ∙ ap (λ (f : LineForm). value_of (name_property (cons_option (property_given entry m.number f) more))) form
      ∙ ap (λ b. value_of (name_property (cons_option (cond b (Some made) None) more))) (both-are (is_read_name entry name) (not (is_empty value)) (name-given entry name is named) (ap not some))
      ∙ ap (λ b. value_of (cond b (Some made) (name_property more))) named

  body-cases : (before : List Line) (l : Line) (ls : List Line) → IsInside entry before → (k : Look) → look_line entry l ≡ k
      → (IsInside entry (before ++ next_read before l ∷ []) → body_name (lines_read (before ++ next_read before l ∷ []) ls) ≡ named true (looks_of ls))
      → body_name (lines_read before (l ∷ ls)) ≡ named true (k ∷ looks_of ls)
  body-cases before l ls inside begins h more = cut-body _ (next_read before l) _ (next-end before l (ap is_end h))
  body-cases before l ls inside ends h more = cut-body _ (next_read before l) _ (next-end before l (ap is_end h))
  body-cases before l ls inside (names value) h more =
      let n = naming entry l value h in
      let same : next_read before l ≡ l = ap (λ (o : Option TextFaultKind). read_as o l) (own-names entry is before l value inside h) in
      ap (λ (m : Line). body_name (m ∷ lines_read (before ++ next_read before l ∷ []) ls)) same
      ∙ found-name l n.name value (lines_read (before ++ next_read before l ∷ []) ls) n.form n.named n.some
  body-cases before l ls inside other h more =
      let m = next_read before l in
      let of = aside before l h in
      let rest = body_of (lines_read (before ++ m ∷ []) ls) in
      ap (λ (ks : List Property). value_of (name_property ks)) (more-body (is_section_line (line_form m)) m rest of.body)
      ∙ ap value_of (given-skip entry m rest (given_by entry m) refl of.given)
      ∙ more (inside-next before l inside h)

  -- in the section of the entry
  body-named : (before ls : List Line) → IsInside entry before → body_name (lines_read before ls) ≡ named true (looks_of ls)
  body-named before [] inside = refl
  body-named before (l ∷ ls) inside =
      body-cases before l ls inside (look_line entry l) refl (λ next. body-named (before ++ next_read before l ∷ []) ls next)

  same-number : (n : ℕ) → (n == n) ≡ true
  same-number n = eq-eqb n n refl

  reflexive : (e : SectionKind) → is_entry e ≡ true → same_kind e e ≡ true
  reflexive (Object i) h = same-number i
  reflexive (SubIndex k) h = both-are (k.index == k.index) (k.sub == k.sub) (same-number k.index) (same-number k.sub)
  reflexive e h = absurd (cc)

  begun-name : (m : Line) (rest : List Line) (name : List ℕ) → line_form m ≡ section_line name → kind_of name ≡ entry → name_in entry (sections_of (m ∷ rest)) ≡ body_name rest
  begun-name m rest name form kind =
      let same : same_kind (kind_of name) entry ≡ true = ap (λ (k : SectionKind). same_kind k entry) kind ∙ reflexive entry is in
      ap (λ (f : LineForm). name_in entry (section_begun f m.number (body_of rest) ++ sections_of rest)) form
      ∙ ap (λ b. option_and_then name_of (cond b (Some (section_from name m.number (body_of rest))) (section_at entry (sections_of rest)))) same
      ∙ ap (λ (k : SectionKind). value_of (name_property (filter_map (given_by k) (body_of rest)))) kind

  skip-form : (form : LineForm) (n : ℕ) (body : List Line) (ss : List TextSection) → is_of entry form ≡ false → name_in entry (section_begun form n body ++ ss) ≡ name_in entry ss
  skip-form (section_line name) n body ss h = ap (λ b. option_and_then name_of (cond b (Some (section_from name n body)) (section_at entry ss))) h
  skip-form skipped n body ss h = refl
  skip-form unclosed n body ss h = refl
  skip-form (name_value name value) n body ss h = refl
  skip-form malformed n body ss h = refl

  read-other : (before : List Line) (l : Line) (ls : List Line) → is_seen entry before ≡ false → (k : Look) → look_line entry l ≡ k → is_begin k ≡ false
      → (is_seen entry (before ++ next_read before l ∷ []) ≡ false → name_in entry (sections_of (lines_read (before ++ next_read before l ∷ []) ls)) ≡ named false (looks_of ls))
      → name_in entry (sections_of (lines_read before (l ∷ ls))) ≡ named false (k ∷ looks_of ls)
  read-other before l ls unseen k h not more =
      let m = next_read before l in
      let none = ap is_begin h ∙ not in
      let rest = lines_read (before ++ m ∷ []) ls in
      skip-form (line_form m) m.number (body_of rest) (sections_of rest) (next-not before l none)
      ∙ more (seen-next before l unseen none) ∙ sym (named-before k (looks_of ls) not)

  read-cases : (before : List Line) (l : Line) (ls : List Line) → is_seen entry before ≡ false → (k : Look) → look_line entry l ≡ k
      → (is_seen entry (before ++ next_read before l ∷ []) ≡ false → name_in entry (sections_of (lines_read (before ++ next_read before l ∷ []) ls)) ≡ named false (looks_of ls))
      → name_in entry (sections_of (lines_read before (l ∷ ls))) ≡ named false (k ∷ looks_of ls)
  read-cases before l ls unseen begins h more =
      let b = beginning entry l h in
      let same : next_read before l ≡ l = ap (λ (o : Option TextFaultKind). read_as o l) (own-begins entry is before l unseen h) in
      let next = before ++ next_read before l ∷ [] in
      ap (λ (m : Line). name_in entry (sections_of (m ∷ lines_read next ls))) same
      ∙ begun-name l (lines_read next ls) b.name b.form (one-kind (kind_of b.name) entry is b.kind)
      ∙ body-named next ls (inside-first before l unseen h)
  read-cases before l ls unseen k h more = read-other before l ls unseen k h refl more

  -- before it
  pub read-named : (before ls : List Line) → is_seen entry before ≡ false → name_in entry (sections_of (lines_read before ls)) ≡ named false (looks_of ls)
  read-named before [] unseen = refl
  read-named before (l ∷ ls) unseen =
      read-cases before l ls unseen (look_line entry l) refl (λ next. read-named (before ++ next_read before l ∷ []) ls next)

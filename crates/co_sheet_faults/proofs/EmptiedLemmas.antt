-- Lines of which those are emptied at which limits, or defaults, are at fault: exactly these faults are gone.
use Rattle.std.proofs.Common.{◌≡◌, ℕ, Bool, true, false, cond, not, ◌&&◌, List, [], ◌∷◌, ◌++◌, Option, Some, None, refl, sym, ap, ◌∙◌, subst, map, eqb, eqb-true, nat_le, ◌⊎◌, inl, inr, arith}
use Rattle.std.specs.Prelude.{flat_map, filter, filter_map, find, is_none, is_some, option_map, codes}
use Rattle.std.specs.List.{cons_option, list_any, last_or, AllByRecursion}
use Rattle.std.proofs.lemmas.List.{append-nil}
use Rattle.std.proofs.lemmas.Bool.Decides.{nat_tests}
use Rattle.std.proofs.lemmas.List.Elements.{filter-append as elements-append, Contains-append_left, Contains-append_right, Contains-push}
use Rattle.co_sheet_text.specs.declared.section_kind.SectionKind.{SectionKind}
use Rattle.co_sheet_text.specs.declared.fault.TextFaultKind.{TextFaultKind}
use Rattle.co_sheet_text.specs.declared.fault.TextFaultKind.TheVariants as of_text
use Rattle.co_sheet_rows.specs.declared.fault.FaultKind.{FaultKind}
use Rattle.co_sheet_rows.specs.declared.fault.FaultKind.TheVariants.{DuplicateKey, BadLimits, BadDefault, Memory}
use Rattle.co_sheet_rows.specs.declared.fault.SheetFault.{SheetFault}
use Rattle.co_sheet_rows.specs.FaultTexts.{fault_number}
use Rattle.co_sheet_text.specs.Names.{same_kind, kind_of, is_read}
use Rattle.co_sheet_text.specs.Text.{Line, trim, same_name}
use Rattle.co_sheet_text.specs.Sections.{LineForm, skipped, section_line, unclosed, name_value, malformed, Property, TextSection, is_given, property_given, section_at, is_section_line, body_of, section_begun, sections_of, line_form, form_of, last_section, is_too_long, is_unclosed, is_body_line, begins_again, is_malformed_in, gives_again, first_broken, line_fault}
use Rattle.co_sheet_text.specs.SectionLaws.{RisesFrom, IsParsed}
use Rattle.co_sheet_text.specs.LinesAtFault.{emptied_form, emptied, own_fault, read_as, next_read, lines_read, sections_read}
use Rattle.co_sheet_text.proofs.SectionLawLemmas.{parsed-lines}
use Rattle.co_sheet_text.proofs.ReadLemmas.{emptied-good, read-clean}
use Rattle.co_sheet.specs.Entries.{Entry}
use Rattle.co_sheet.specs.Checks.{missing_lists, unread_list_numbers, unread_object_numbers, unread_entry_numbers, bad_type, left_out_type, bad_access, in_numeric, unread_limits}
use Rattle.co_sheet_faults.specs.LinesAtFault.{fault_of_line, line_faults}
use Rattle.co_sheet_faults.specs.Soundness.{sound_entries}
use Rattle.co_sheet_faults.specs.AllChecks.{all_bad_lists, all_listed_twice, all_missing_sections, object_types_found, all_compact_forms, sub_index_0_found, key_found, of_sound_type, limits_found, default_found, all_missing_mandatory, of_sound_objects, of_sound_entries, all_checks}
use Rattle.co_sheet_faults.specs.AllFaults.{found_by, faults_in}
use Rattle.co_sheet_faults.specs.FaultLaws.{is_of, has_kind, without, is_at, emptied_at, AreNumbered, HaveNoKeyTwice}
use Rattle.co_sheet_faults.proofs.ElementLemmas.{same-some, In, in-apart, from-flat, made-by, find-map, any-found, any-filter, flat-same, map-append, map-same, one-of-number}
use Rattle.co_sheet_faults.proofs.KindLemmas.{AreOf, PassMost, is_other, AreOther, others-stay, of-line-faults, of-lists, of-numbers, of-bad-lists, of-twice, of-missing-sections, of-object, of-types-found, of-compact-forms, of-sub-0, of-objects, of-mandatory-found, of-entry, of-limits-found, of-default-found, of-sound}
use Rattle.co_sheet_faults.proofs.CutChecks.{Cut, cut, cut_all, cut_entry, IsApart, lists-same, numbers-same, bad-lists-same, twice-same, missing-sections-same, object-numbers-same, types-same, forms-same, sub-0-same, mandatory-same, of-entries-cut, entry-same}
use Rattle.co_sheet_faults.proofs.CutEntries.{entry-of, AreAt, is_on, bad_lines, drop_bad, drop-is-cut}
use Rattle.co_sheet_faults.proofs.CutProperties.{limits-at, defaults-at}
use Rattle.co_sheet_faults.proofs.CutLimits.{AreLeft, limits_cut, limits-apart, limits-left}
use Rattle.co_sheet_faults.proofs.CutDefaults.{defaults_cut, defaults-apart, defaults-left}

-- ---- a line of a property is emptied

abbrev blank : (ℕ → Bool) → Line → Line
blank bad l = cond (bad l.number) (emptied l) l

abbrev is_property : LineForm → Bool
is_property (name_value name value) = true
is_property form = false

abbrev IsSafe : (ℕ → Bool) → Line → Type 0
IsSafe bad l = bad l.number ≡ true → is_property (line_form l) ≡ true

abbrev AreSafe : (ℕ → Bool) → List Line → Type 0
AreSafe bad ls = AllByRecursion (IsSafe bad) ls

skipped-form : (form : LineForm) → is_property form ≡ true → form_of (trim (emptied_form form)) ≡ skipped
skipped-form (name_value name value) h = refl
skipped-form form h = absurd (cc)

other-form : (form : LineForm) → is_property (form_of (trim (emptied_form form))) ≡ false
other-form skipped = refl
other-form (section_line name) = refl
other-form unclosed = refl
other-form (name_value name value) = refl
other-form malformed = refl

no-section : (form : LineForm) → is_property form ≡ true → is_section_line form ≡ false
no-section (name_value name value) h = refl
no-section form h = absurd (cc)

section-cases : (l : Line) (b : Bool) → (b ≡ true → is_property (line_form l) ≡ true) → is_section_line (line_form (cond b (emptied l) l)) ≡ is_section_line (line_form l)
section-cases l true safe = ap is_section_line (skipped-form (line_form l) (safe refl)) ∙ sym (no-section (line_form l) (safe refl))
section-cases l false safe = refl

body-cases : (bad : ℕ → Bool) (l : Line) (b : Bool) (xs ys : List Line) → xs ≡ map (blank bad) ys → cond b [] (blank bad l ∷ xs) ≡ map (blank bad) (cond b [] (l ∷ ys))
body-cases bad l true xs ys h = refl
body-cases bad l false xs ys h = ap (λ (ls : List Line). blank bad l ∷ ls) h

body-blank : (bad : ℕ → Bool) (ls : List Line) → AreSafe bad ls → body_of (map (blank bad) ls) ≡ map (blank bad) (body_of ls)
body-blank bad [] safe = refl
body-blank bad (l ∷ ls) safe =
    ap (λ (b : Bool). cond b [] (blank bad l ∷ body_of (map (blank bad) ls))) (section-cases l (bad l.number) safe.0)
    ∙ body-cases bad l (is_section_line (line_form l)) (body_of (map (blank bad) ls)) (body_of ls) (body-blank bad ls safe.1)

safe-cond : (bad : ℕ → Bool) (b : Bool) (l : Line) (ls : List Line) → IsSafe bad l → AreSafe bad ls → AreSafe bad (cond b [] (l ∷ ls))
safe-cond bad true l ls here more = tt
safe-cond bad false l ls here more = (here, more)

safe-body : (bad : ℕ → Bool) (ls : List Line) → AreSafe bad ls → AreSafe bad (body_of ls)
safe-body bad [] safe = tt
safe-body bad (l ∷ ls) safe = safe-cond bad (is_section_line (line_form l)) l (body_of ls) safe.0 (safe-body bad ls safe.1)

-- ---- so its section lacks the property

abbrev given : SectionKind → Line → Option Property
given kind l = property_given kind l.number (line_form l)

abbrev stays_in : (ℕ → Bool) → Property → Bool
stays_in bad k = not (bad k.line)

given-cases : (kind : SectionKind) (l : Line) (b : Bool) → (b ≡ true → is_property (line_form l) ≡ true) → given kind (cond b (emptied l) l) ≡ cond b None (given kind l)
given-cases kind l true safe = ap (λ (form : LineForm). property_given kind l.number form) (skipped-form (line_form l) (safe refl))
given-cases kind l false safe = refl

drop-test : (bad : ℕ → Bool) (k : Property) (xs ys : List Property) (b : Bool) → bad k.line ≡ b → xs ≡ filter (stays_in bad) ys → cons_option (cond b None (Some k)) xs ≡ cond (not (bad k.line)) (k ∷ filter (stays_in bad) ys) (filter (stays_in bad) ys)
drop-test bad k xs ys true is h = h ∙ sym (ap (λ c. cond (not c) (k ∷ filter (stays_in bad) ys) (filter (stays_in bad) ys)) is)
drop-test bad k xs ys false is h = ap (λ (l : List Property). k ∷ l) h ∙ sym (ap (λ c. cond (not c) (k ∷ filter (stays_in bad) ys) (filter (stays_in bad) ys)) is)

none-cond : (b : Bool) → ◌≡◌ {A = Option Property} (cond b None None) None
none-cond true = refl
none-cond false = refl

drop-given : (bad : ℕ → Bool) (name value : List ℕ) (n : ℕ) (xs ys : List Property) (is : Bool) → xs ≡ filter (stays_in bad) ys
    → cons_option (cond (bad n) None (cond is (Some (record { name = name; value = value; line = n })) None)) xs ≡ filter (stays_in bad) (cons_option (cond is (Some (record { name = name; value = value; line = n })) None) ys)
drop-given bad name value n xs ys true h = drop-test bad (record { name = name; value = value; line = n }) xs ys (bad n) refl h
drop-given bad name value n xs ys false h = ap (λ (o : Option Property). cons_option o xs) (none-cond (bad n)) ∙ h

drop-form : (bad : ℕ → Bool) (kind : SectionKind) (n : ℕ) (form : LineForm) (xs ys : List Property) → xs ≡ filter (stays_in bad) ys
    → cons_option (cond (bad n) None (property_given kind n form)) xs ≡ filter (stays_in bad) (cons_option (property_given kind n form) ys)
drop-form bad kind n (name_value name value) xs ys h = drop-given bad name value n xs ys (is_given kind name value) h
drop-form bad kind n form xs ys h = ap (λ (o : Option Property). cons_option o xs) (none-cond (bad n)) ∙ h

keys-blank : (bad : ℕ → Bool) (kind : SectionKind) (ls : List Line) → AreSafe bad ls → filter_map (given kind) (map (blank bad) ls) ≡ filter (stays_in bad) (filter_map (given kind) ls)
keys-blank bad kind [] safe = refl
keys-blank bad kind (l ∷ ls) safe =
    ap (λ (o : Option Property). cons_option o (filter_map (given kind) (map (blank bad) ls))) (given-cases kind l (bad l.number) safe.0)
    ∙ drop-form bad kind l.number (line_form l) (filter_map (given kind) (map (blank bad) ls)) (filter_map (given kind) ls) (keys-blank bad kind ls safe.1)

begun-form : (bad : ℕ → Bool) (n : ℕ) (form : LineForm) (body : List Line) → AreSafe bad body → section_begun form n (map (blank bad) body) ≡ map (drop_bad bad) (section_begun form n body)
begun-form bad n (section_line name) body safe =
    ap (λ (keys : List Property). let begun : List TextSection = record { kind = kind_of name; name = name; line = n; properties = keys } ∷ [] in begun) (keys-blank bad (kind_of name) body safe)
begun-form bad n form body safe = refl

none-begun : (form : LineForm) (n : ℕ) (body : List Line) → is_property form ≡ true → section_begun form n body ≡ []
none-begun (name_value name value) n body h = refl
none-begun form n body h = absurd (cc)

begun-cases : (bad : ℕ → Bool) (l : Line) (body : List Line) (b : Bool) → (b ≡ true → is_property (line_form l) ≡ true) → AreSafe bad body
    → section_begun (line_form (cond b (emptied l) l)) (cond b (emptied l) l).number (map (blank bad) body) ≡ map (drop_bad bad) (section_begun (line_form l) l.number body)
begun-cases bad l body true safe more =
    ap (λ (form : LineForm). section_begun form l.number (map (blank bad) body)) (skipped-form (line_form l) (safe refl))
    ∙ sym (ap (λ (ss : List TextSection). map (drop_bad bad) ss) (none-begun (line_form l) l.number body (safe refl)))
begun-cases bad l body false safe more = begun-form bad l.number (line_form l) body more

sections-blank : (bad : ℕ → Bool) (ls : List Line) → AreSafe bad ls → sections_of (map (blank bad) ls) ≡ map (drop_bad bad) (sections_of ls)
sections-blank bad [] safe = refl
sections-blank bad (l ∷ ls) safe =
    ap (λ (body : List Line). section_begun (line_form (blank bad l)) (blank bad l).number body ++ sections_of (map (blank bad) ls)) (body-blank bad ls safe.1)
    ∙ ap (λ (ss : List TextSection). ss ++ sections_of (map (blank bad) ls)) (begun-cases bad l (body_of ls) (bad l.number) safe.0 (safe-body bad ls safe.1))
    ∙ ap (λ (ss : List TextSection). map (drop_bad bad) (section_begun (line_form l) l.number (body_of ls)) ++ ss) (sections-blank bad ls safe.1)
    ∙ sym (map-append (drop_bad bad) (section_begun (line_form l) l.number (body_of ls)) (sections_of ls))

-- ---- lines of one number are one, so a line at fault is the property's

record IsLineWith (ls : List Line) (k : Property) : Type 0 where
  pub item : Line
  pub among : In item ls
  pub number : item.number ≡ k.line
  pub property : is_property (line_form item) ≡ true

given-test : (name value : List ℕ) (n : ℕ) (k : Property) (b : Bool) → ◌≡◌ {A = Option Property} (cond b (Some (record { name = name; value = value; line = n })) None) (Some k) → n ≡ k.line
given-test name value n k true h = let made : Property = record { name = name; value = value; line = n } in ap (λ (j : Property). j.line) (same-some made k h)
given-test name value n k false h = absurd (cc)

given-is : (kind : SectionKind) (n : ℕ) (form : LineForm) (k : Property) → property_given kind n form ≡ Some k → (n ≡ k.line) × (is_property form ≡ true)
given-is kind n (name_value name value) k h = (given-test name value n k (is_given kind name value) h, refl)
given-is kind n form k h = absurd (cc)

body-cond : (b : Bool) (l m : Line) (xs ls : List Line) → In m (cond b [] (l ∷ xs)) → (In m xs → In m ls) → In m (l ∷ ls)
body-cond true l m xs ls h more = absurd h
body-cond false l m xs ls (inl same) more = inl same
body-cond false l m xs ls (inr h) more = inr (more h)

in-body : (ls : List Line) (m : Line) → In m (body_of ls) → In m ls
in-body [] m h = h
in-body (l ∷ ls) m h = body-cond (is_section_line (line_form l)) l m (body_of ls) ls h (in-body ls m)

more-lines : (l : Line) (ls : List Line) (k : Property) → IsLineWith ls k → IsLineWith (l ∷ ls) k
more-lines l ls k with_line = record { item = with_line.item; among = inr with_line.among; number = with_line.number; property = with_line.property }

begun-line : (ls : List Line) (n : ℕ) (form : LineForm) (s : TextSection) (k : Property) → In s (section_begun form n (body_of ls)) → In k s.properties → IsLineWith ls k
begun-line ls n (section_line name) s k (inl same) i =
    let made = made-by (given (kind_of name)) (body_of ls) k (subst (λ (t : TextSection). In k t.properties) (sym same) i) in
    let is = given-is (kind_of name) made.item.number (line_form made.item) k made.gives in
    record { item = made.item; among = in-body ls made.item made.among; number = is.0; property = is.1 }
begun-line ls n (section_line name) s k (inr h) i = absurd h
begun-line ls n form s k h i = absurd h

line-cases : (l : Line) (ls : List Line) (s : TextSection) (k : Property) → In s (section_begun (line_form l) l.number (body_of ls)) ⊎ In s (sections_of ls) → In k s.properties
    → (In s (sections_of ls) → IsLineWith ls k) → IsLineWith (l ∷ ls) k
line-cases l ls s k (inl h) i more = more-lines l ls k (begun-line ls l.number (line_form l) s k h i)
line-cases l ls s k (inr h) i more = more-lines l ls k (more h)

line-of : (ls : List Line) (s : TextSection) (k : Property) → In s (sections_of ls) → In k s.properties → IsLineWith ls k
line-of [] s k h i = absurd h
line-of (l ∷ ls) s k h i = line-cases l ls s k (in-apart (section_begun (line_form l) l.number (body_of ls)) (sections_of ls) s h) i (λ j. line-of ls s k j i)

all-in : {X : Type 0} (P : X → Type 0) (xs : List X) → ((x : X) → In x xs → P x) → AllByRecursion P xs
all-in P [] h = tt
all-in P (x ∷ xs) h = (h x (inl refl), all-in P xs (λ y i. h y (inr i)))

all-safe : (first second : List ℕ) (check : Entry → List SheetFault) → AreAt first second check → (ls : List Line) → AreNumbered ls → AreSafe (bad_lines check (sections_of ls)) ls
all-safe first second check are ls rises =
    let ss = sections_of ls in
    all-in (IsSafe (bad_lines check ss)) ls
    (λ l in_l h.
    let found = any-found (is_on l.number) (flat_map check (sound_entries ss)) h in
    let source = from-flat check (sound_entries ss) found.item found.among in
    let at = are source.item found.item source.gives in
    let with_line = line-of ls source.item.section at.item (entry-of ss source.item source.among).among at.among in
    let on_line : at.item.line ≡ l.number = at.line ∙ eqb-true found.item.line l.number found.passes in
    let same = one-of-number (λ (m : Line). m.number) 1 ls with_line.item l rises with_line.among in_l (with_line.number ∙ on_line) in
    subst (λ (m : Line). is_property (line_form m) ≡ true) same with_line.property)

-- ---- the other lines are read as before

abbrev is_twice : Option TextFaultKind → Bool
is_twice (Some of_text.DuplicateKey) = true
is_twice o = false

rules-cases : (a b c d e x y : Bool) (p q r s t : TextFaultKind) → (y ≡ true → x ≡ true)
    → is_twice (first_broken ((a, p) ∷ (b, q) ∷ (c, r) ∷ (d, s) ∷ (e, t) ∷ (x, of_text.DuplicateKey) ∷ [])) ≡ false
    → first_broken ((a, p) ∷ (b, q) ∷ (c, r) ∷ (d, s) ∷ (e, t) ∷ (y, of_text.DuplicateKey) ∷ []) ≡ first_broken ((a, p) ∷ (b, q) ∷ (c, r) ∷ (d, s) ∷ (e, t) ∷ (x, of_text.DuplicateKey) ∷ [])
rules-cases true b c d e x y p q r s t less none = refl
rules-cases false true c d e x y p q r s t less none = refl
rules-cases false false true d e x y p q r s t less none = refl
rules-cases false false false true e x y p q r s t less none = refl
rules-cases false false false false true x y p q r s t less none = refl
rules-cases false false false false false true y p q r s t less none = absurd (cc)
rules-cases false false false false false false true p q r s t less none = let wrong = less refl in absurd (cc)
rules-cases false false false false false false false p q r s t less none = refl

last-map : (f : TextSection → TextSection) (o : Option TextSection) (ss : List TextSection) → last_or (option_map f o) (map f ss) ≡ option_map f (last_or o ss)
last-map f o [] = refl
last-map f o (s ∷ ss) = last-map f (Some s) ss

none-same : (f : TextSection → TextSection) (o : Option TextSection) → is_none (option_map f o) ≡ is_none o
none-same f None = refl
none-same f (Some s) = refl

some-same : (f : TextSection → TextSection) (o : Option TextSection) → is_some (option_map f o) ≡ is_some o
some-same f None = refl
some-same f (Some s) = refl

again-same : (bad : ℕ → Bool) (ss : List TextSection) (form : LineForm) → begins_again (map (drop_bad bad) ss) form ≡ begins_again ss form
again-same bad ss (section_line name) =
    ap (λ (b : Bool). is_read (kind_of name) && b)
    (ap (λ (o : Option TextSection). is_some o) (find-map (λ (s : TextSection). same_kind s.kind (kind_of name)) (drop_bad bad) (λ s. refl) ss)
    ∙ some-same (drop_bad bad) (section_at (kind_of name) ss))
again-same bad ss form = refl

malformed-same : (bad : ℕ → Bool) (o : Option TextSection) (form : LineForm) → is_malformed_in (option_map (drop_bad bad) o) form ≡ is_malformed_in o form
malformed-same bad None form = refl
malformed-same bad (Some s) malformed = refl
malformed-same bad (Some s) form = refl

fewer-cases : (bad : ℕ → Bool) (name : List ℕ) (k : Property) (keys : List Property) (same dropped : Bool)
    → is_some (find (λ j. same_name j.name name) (cond dropped (k ∷ filter (stays_in bad) keys) (filter (stays_in bad) keys))) ≡ true
    → same_name k.name name ≡ same
    → (is_some (find (λ j. same_name j.name name) (filter (stays_in bad) keys)) ≡ true → is_some (find (λ j. same_name j.name name) keys) ≡ true)
    → is_some (cond same (Some k) (find (λ j. same_name j.name name) keys)) ≡ true
fewer-cases bad name k keys true dropped h is more = refl
fewer-cases bad name k keys false true h is more = more (sym (ap (λ (b : Bool). is_some (cond b (Some k) (find (λ j. same_name j.name name) (filter (stays_in bad) keys)))) is) ∙ h)
fewer-cases bad name k keys false false h is more = more h

fewer : (bad : ℕ → Bool) (name : List ℕ) (keys : List Property) → is_some (find (λ j. same_name j.name name) (filter (stays_in bad) keys)) ≡ true
    → is_some (find (λ j. same_name j.name name) keys) ≡ true
fewer bad name [] h = h
fewer bad name (k ∷ keys) h = fewer-cases bad name k keys (same_name k.name name) (stays_in bad k) h refl (fewer bad name keys)

and-less : (a b c : Bool) → (c ≡ true → b ≡ true) → (a && c) ≡ true → (a && b) ≡ true
and-less true b c less h = less h
and-less false b c less h = h

gives-less : (bad : ℕ → Bool) (o : Option TextSection) (form : LineForm) → gives_again (option_map (drop_bad bad) o) form ≡ true → gives_again o form ≡ true
gives-less bad None form h = h
gives-less bad (Some s) (name_value name value) h = and-less (is_given s.kind name value) _ _ (fewer bad name s.properties) h
gives-less bad (Some s) form h = h

fault-same : (bad : ℕ → Bool) (ss : List TextSection) (l : Line) → is_twice (line_fault ss l) ≡ false → line_fault (map (drop_bad bad) ss) l ≡ line_fault ss l
fault-same bad ss l none =
    let form = line_form l in
    let cs = map (drop_bad bad) ss in
    let last : last_section cs ≡ option_map (drop_bad bad) (last_section ss) = last-map (drop_bad bad) None ss in
    let lone : is_none (last_section cs) ≡ is_none (last_section ss) = ap (λ (o : Option TextSection). is_none o) last ∙ none-same (drop_bad bad) (last_section ss) in
    let wrong : is_malformed_in (last_section cs) form ≡ is_malformed_in (last_section ss) form = ap (λ (o : Option TextSection). is_malformed_in o form) last ∙ malformed-same bad (last_section ss) form in
    let by_parts : Bool → Bool → Bool → Option TextFaultKind = λ outside again bad_form.
    first_broken ((is_too_long l, of_text.TooLarge) ∷ (is_unclosed form, of_text.BadLine) ∷ (is_body_line form && outside, of_text.KeyOutsideSection) ∷ (again, of_text.DuplicateSection) ∷ (bad_form, of_text.BadLine) ∷ (gives_again (last_section cs) form, of_text.DuplicateKey) ∷ []) in
    ap (λ (b : Bool). by_parts b (begins_again cs form) (is_malformed_in (last_section cs) form)) lone
    ∙ ap (λ (b : Bool). by_parts (is_none (last_section ss)) b (is_malformed_in (last_section cs) form)) (again-same bad ss form)
    ∙ ap (λ (b : Bool). by_parts (is_none (last_section ss)) (begins_again ss form) b) wrong
    ∙ rules-cases (is_too_long l) (is_unclosed form) (is_body_line form && is_none (last_section ss)) (begins_again ss form) (is_malformed_in (last_section ss) form)
    (gives_again (last_section ss) form) (gives_again (last_section cs) form) of_text.TooLarge of_text.BadLine of_text.KeyOutsideSection of_text.DuplicateSection of_text.BadLine
    (λ h. gives-less bad (last_section ss) form (ap (λ (o : Option TextSection). gives_again o form) (sym last) ∙ h)) none

record IsSameLine (bad : ℕ → Bool) (before : List Line) (l m : Line) : Type 0 where
  pub read : next_read (map (blank bad) before) m ≡ blank bad (next_read before l)
  pub fault : fault_of_line m (own_fault (map (blank bad) before) m) ≡ fault_of_line l (own_fault before l)

read-blank : (bad : ℕ → Bool) (o : Option TextFaultKind) (l : Line) → bad l.number ≡ false → blank bad (read_as o l) ≡ read_as o l
read-blank bad None l h = ap (λ (b : Bool). cond b (emptied l) l) h
read-blank bad (Some kind) l h = ap (λ (b : Bool). cond b (emptied (emptied l)) (emptied l)) h

line-same : (bad : ℕ → Bool) (before : List Line) (l : Line) (o : Option TextFaultKind) (b : Bool) → own_fault before l ≡ o → bad l.number ≡ b → AreSafe bad before
    → IsSafe bad (read_as o l) → is_twice o ≡ false → IsSameLine bad before l (cond b (emptied l) l)
line-same bad before l (Some kind) true own is safe here none =
    let wrong = here is in
    let other = other-form (line_form l) in
    absurd (cc)
line-same bad before l None true own is safe here none =
    let good = emptied-good (map (blank bad) before) l in
    record {
      read = ap (λ (o : Option TextFaultKind). read_as o (emptied l)) good ∙ sym (ap (λ (o : Option TextFaultKind). blank bad (read_as o l)) own ∙ ap (λ (c : Bool). cond c (emptied l) l) is);
      fault = ap (λ (o : Option TextFaultKind). fault_of_line (emptied l) o) good ∙ sym (ap (λ (o : Option TextFaultKind). fault_of_line l o) own);
    }
line-same bad before l o false own is safe here none =
    let same : own_fault (map (blank bad) before) l ≡ own_fault before l =
    ap (λ (ss : List TextSection). line_fault ss l) (sections-blank bad before safe) ∙ fault-same bad (sections_of before) l (ap is_twice own ∙ none) in
    record {
      read = ap (λ (p : Option TextFaultKind). read_as p l) same ∙ sym (read-blank bad (own_fault before l) l is);
      fault = ap (λ (p : Option TextFaultKind). fault_of_line l p) same;
    }

none-twice : (l : Line) (o : Option TextFaultKind) (rest : List SheetFault) → has_kind DuplicateKey (fault_of_line l o ++ rest) ≡ false → (is_twice o ≡ false) × (has_kind DuplicateKey rest ≡ false)
none-twice l None rest h = (refl, h)
none-twice l (Some of_text.DuplicateKey) rest h = absurd (cc)
none-twice l (Some kind) rest h = (refl, h)

safe-more : (bad : ℕ → Bool) (ls : List Line) (l : Line) → AreSafe bad ls → IsSafe bad l → AreSafe bad (ls ++ l ∷ [])
safe-more bad [] l safe here = (here, tt)
safe-more bad (m ∷ ls) l safe here = (safe.0, safe-more bad ls l safe.1 here)

record AreSame (bad : ℕ → Bool) (before ls : List Line) : Type 0 where
  pub read : lines_read (map (blank bad) before) (map (blank bad) ls) ≡ map (blank bad) (lines_read before ls)
  pub faults : line_faults (map (blank bad) before) (map (blank bad) ls) ≡ line_faults before ls

lines-same : (bad : ℕ → Bool) (before ls : List Line) → AreSafe bad before → AreSafe bad (lines_read before ls) → has_kind DuplicateKey (line_faults before ls) ≡ false → AreSame bad before ls
lines-same bad before [] safe read none = record { read = refl; faults = refl }
lines-same bad before (l ∷ ls) safe read none =
    let o = own_fault before l in
    let next = next_read before l in
    let apart = none-twice l o (line_faults (before ++ next ∷ []) ls) none in
    let here = line-same bad before l o (bad l.number) refl refl safe read.0 apart.0 in
    let more = lines-same bad (before ++ next ∷ []) ls (safe-more bad before next safe read.0) read.1 apart.1 in
    let b = map (blank bad) before in
    let rest = map (blank bad) ls in
    let same : b ++ next_read b (blank bad l) ∷ [] ≡ map (blank bad) (before ++ next ∷ []) =
    ap (λ (m : Line). b ++ m ∷ []) here.read ∙ sym (map-append (blank bad) before (next ∷ [])) in
    record {
      read = ap (λ (m : Line). m ∷ lines_read (b ++ next_read b (blank bad l) ∷ []) rest) here.read
          ∙ ap (λ (ms : List Line). blank bad next ∷ lines_read ms rest) same
          ∙ ap (λ (ms : List Line). blank bad next ∷ ms) more.read;
      faults = ap (λ (fs : List SheetFault). fs ++ line_faults (b ++ next_read b (blank bad l) ∷ []) rest) here.fault
          ∙ ap (λ (ms : List Line). fault_of_line l o ++ line_faults ms rest) same
          ∙ ap (λ (fs : List SheetFault). fault_of_line l o ++ fs) more.faults;
    }

read-number : (o : Option TextFaultKind) (l : Line) → (read_as o l).number ≡ l.number
read-number None l = refl
read-number (Some kind) l = refl

numbers-read : (before ls : List Line) → map (λ (l : Line). l.number) (lines_read before ls) ≡ map (λ (l : Line). l.number) ls
numbers-read before [] = refl
numbers-read before (l ∷ ls) =
    ap (λ n. n ∷ map (λ (m : Line). m.number) (lines_read (before ++ next_read before l ∷ []) ls)) (read-number (own_fault before l) l)
    ∙ ap (λ ns. l.number ∷ ns) (numbers-read (before ++ next_read before l ∷ []) ls)

-- ---- what the checks find, without a kind and of it alone

record IsSplit (kind : FaultKind) (xs stay own : List SheetFault) : Type 0 where
  pub others : without kind xs ≡ stay
  pub only : filter (is_of kind) xs ≡ own

split-append : (kind : FaultKind) (xs ys a b c d : List SheetFault) → IsSplit kind xs a b → IsSplit kind ys c d → IsSplit kind (xs ++ ys) (a ++ c) (b ++ d)
split-append kind xs ys a b c d p q = record {
  others = elements-append (λ f. not (is_of kind f)) xs ys ∙ ap (λ (l : List SheetFault). l ++ without kind ys) p.others ∙ ap (λ (l : List SheetFault). a ++ l) q.others;
  only = elements-append (is_of kind) xs ys ∙ ap (λ (l : List SheetFault). l ++ filter (is_of kind) ys) p.only ∙ ap (λ (l : List SheetFault). b ++ l) q.only;
}

split-other : (kind : FaultKind) (xs : List SheetFault) → AreOther kind xs → IsSplit kind xs xs []
split-other kind xs are = let both = others-stay kind xs are in record { others = both.0; only = both.1 }

split-more : (kind : FaultKind) (xs ys c d : List SheetFault) → AreOther kind xs → IsSplit kind ys c d → IsSplit kind (xs ++ ys) (xs ++ c) d
split-more kind xs ys c d are more = split-append kind xs ys xs [] c d (split-other kind xs are) more

own-cases : (kind : FaultKind) (f : SheetFault) (xs : List SheetFault) (b : Bool) → b ≡ true → IsSplit kind xs [] xs
    → (cond (not b) (f ∷ without kind xs) (without kind xs) ≡ []) × (cond b (f ∷ filter (is_of kind) xs) (filter (is_of kind) xs) ≡ f ∷ xs)
own-cases kind f xs true h more = (more.others, ap (λ (l : List SheetFault). f ∷ l) more.only)
own-cases kind f xs false h more = absurd (cc)

split-own : (kind : FaultKind) (xs : List SheetFault) → AreOf (λ k. eqb (fault_number k) (fault_number kind)) xs → IsSplit kind xs [] xs
split-own kind [] are = record { others = refl; only = refl }
split-own kind (f ∷ xs) are =
    let both = own-cases kind f xs (is_of kind f) (are f (Contains-append_left (f ∷ []) xs f (Contains-push [] f))) (split-own kind xs (λ g c. are g (Contains-append_right (f ∷ []) xs g c))) in
    record { others = both.0; only = both.1 }

-- what checks 16 and 17 leave
abbrev found_with : List TextSection → List SheetFault → List SheetFault → List SheetFault
found_with ss limits defaults =
    missing_lists ss ++ (unread_list_numbers ss ++ (all_bad_lists ss ++ (all_listed_twice ss ++ (all_missing_sections ss
    ++ (of_sound_objects unread_object_numbers ss ++ (of_sound_objects object_types_found ss ++ (all_compact_forms ss ++ (of_sound_objects sub_index_0_found ss
    ++ (of_sound_entries key_found ss ++ (of_sound_entries unread_entry_numbers ss ++ (of_sound_entries bad_type ss ++ (of_sound_entries (of_sound_type left_out_type) ss
    ++ (of_sound_entries bad_access ss ++ (of_sound_entries (of_sound_type (in_numeric unread_limits)) ss ++ (limits ++ (defaults ++ (all_missing_mandatory ss ++ [])))))))))))))))))

found-split : (kind : FaultKind) → PassMost (is_other kind) → (ss : List TextSection) (lo ln d_o dn : List SheetFault)
    → IsSplit kind (of_sound_entries (of_sound_type (in_numeric limits_found)) ss) lo ln → IsSplit kind (of_sound_entries (of_sound_type default_found) ss) d_o dn
    → IsSplit kind (found_by all_checks ss) (found_with ss lo d_o) (ln ++ (dn ++ []))
found-split kind most ss lo ln d_o dn limits defaults =
    let P = is_other kind in
    split-more kind _ _ _ _ (of-lists P most ss)
    (split-more kind _ _ _ _ (of-numbers P most ss)
    (split-more kind _ _ _ _ (of-bad-lists P most ss)
    (split-more kind _ _ _ _ (of-twice P most ss)
    (split-more kind _ _ _ _ (of-missing-sections P most ss)
    (split-more kind _ _ _ _ (of-objects P unread_object_numbers (of-object P most) ss)
    (split-more kind _ _ _ _ (of-objects P object_types_found (of-types-found P most) ss)
    (split-more kind _ _ _ _ (of-compact-forms P most ss)
    (split-more kind _ _ _ _ (of-objects P sub_index_0_found (of-sub-0 P most) ss)
    (split-more kind _ _ _ _ (of-sound P key_found (λ e. (of-entry P most e).key) ss)
    (split-more kind _ _ _ _ (of-sound P unread_entry_numbers (λ e. (of-entry P most e).numbers) ss)
    (split-more kind _ _ _ _ (of-sound P bad_type (λ e. (of-entry P most e).data_type) ss)
    (split-more kind _ _ _ _ (of-sound P (of_sound_type left_out_type) (λ e. (of-entry P most e).left_out) ss)
    (split-more kind _ _ _ _ (of-sound P bad_access (λ e. (of-entry P most e).access) ss)
    (split-more kind _ _ _ _ (of-sound P (of_sound_type (in_numeric unread_limits)) (λ e. (of-entry P most e).values) ss)
    (split-append kind _ _ lo ln (d_o ++ (all_missing_mandatory ss ++ [])) (dn ++ []) limits
    (split-append kind _ _ d_o dn (all_missing_mandatory ss ++ []) [] defaults
    (split-more kind (all_missing_mandatory ss) [] [] [] (of-mandatory-found P most ss) (record { others = refl; only = refl }))))))))))))))))))

joined : (us vs xs ys : List SheetFault) → us ≡ vs → xs ≡ ys → us ++ xs ≡ vs ++ ys
joined us vs xs ys same more = ap (λ (l : List SheetFault). l ++ xs) same ∙ ap (λ (l : List SheetFault). vs ++ l) more

found-cut : (c : Cut) → IsApart c → (ss : List TextSection) (limits defaults : Entry → List SheetFault) → ((e : Entry) → In e (sound_entries ss) → AreLeft c e (limits e) (defaults e))
    → found_by all_checks (cut_all c ss) ≡ found_with ss (flat_map limits (sound_entries ss)) (flat_map defaults (sound_entries ss))
found-cut c apart ss limits defaults left =
    let es = sound_entries ss in
    let of_each : (check after : Entry → List SheetFault) → ((e : Entry) → In e es → check (cut_entry c e) ≡ after e) → of_sound_entries check (cut_all c ss) ≡ flat_map after es =
    λ check after same. of-entries-cut c apart check ss ∙ flat-same (λ e. check (cut_entry c e)) after es same in
    joined _ _ _ _ (lists-same c ss)
    (joined _ _ _ _ (numbers-same c ss)
    (joined _ _ _ _ (bad-lists-same c ss)
    (joined _ _ _ _ (twice-same c ss)
    (joined _ _ _ _ (missing-sections-same c ss)
    (joined _ _ _ _ (object-numbers-same c apart ss)
    (joined _ _ _ _ (types-same c apart ss)
    (joined _ _ _ _ (forms-same c apart ss)
    (joined _ _ _ _ (sub-0-same c apart ss)
    (joined _ _ _ _ (of_each key_found key_found (λ e i. (entry-same c apart e).key))
    (joined _ _ _ _ (of_each unread_entry_numbers unread_entry_numbers (λ e i. (entry-same c apart e).numbers))
    (joined _ _ _ _ (of_each bad_type bad_type (λ e i. (entry-same c apart e).bad_type))
    (joined _ _ _ _ (of_each (of_sound_type left_out_type) (of_sound_type left_out_type) (λ e i. (entry-same c apart e).left_out))
    (joined _ _ _ _ (of_each bad_access bad_access (λ e i. (entry-same c apart e).access))
    (joined _ _ _ _ (of_each (of_sound_type (in_numeric unread_limits)) (of_sound_type (in_numeric unread_limits)) (λ e i. (left e i).unread))
    (joined _ _ _ _ (of_each (of_sound_type (in_numeric limits_found)) limits (λ e i. (left e i).limits))
    (joined _ _ _ _ (of_each (of_sound_type default_found) defaults (λ e i. (left e i).defaults))
    (joined _ _ [] [] (mandatory-same c ss) refl)))))))))))))))))

none-each : (es : List Entry) → ◌≡◌ {A = List SheetFault} (flat_map (λ (e : Entry). []) es) []
none-each [] = refl
none-each (e ∷ es) = none-each es

-- ---- all of it

front-none : (kind : FaultKind) (xs ys : List SheetFault) → has_kind kind (xs ++ ys) ≡ false → has_kind kind xs ≡ false
front-none kind [] ys h = refl
front-none kind (f ∷ xs) ys h = front-cases (is_of kind f) h (front-none kind xs ys)
  where
    front-cases : (b : Bool) → cond b true (has_kind kind (xs ++ ys)) ≡ false → (has_kind kind (xs ++ ys) ≡ false → has_kind kind xs ≡ false) → cond b true (has_kind kind xs) ≡ false
    front-cases true h more = h
    front-cases false h more = more h

abbrev early : FaultKind → FaultKind → Type 0
early kind found = nat_le (fault_number found) 5 ≡ true → is_other kind found ≡ true

emptied-gone : (kind : FaultKind) (check : Entry → List SheetFault) (c : List TextSection → Cut) (first second : List ℕ) → AreAt first second check
    → ((ss : List TextSection) → c ss ≡ record { bad = bad_lines check ss; first = first; second = second })
    → ((found : FaultKind) → early kind found) → is_other kind Memory ≡ true
    → (lines : List Line) → AreNumbered lines → HaveNoKeyTwice lines
    → IsSplit kind (found_by all_checks (sections_read lines)) (found_by all_checks (cut_all (c (sections_read lines)) (sections_read lines))) (of_sound_entries check (sections_read lines))
    → faults_in (emptied_at kind lines) ≡ without kind (faults_in lines)
emptied-gone kind check c first second are is_cut earlier memory lines numbered once split =
    let rs = lines_read [] lines in
    let ss = sections_of rs in
    let bad = bad_lines check ss in
    let found = found_by all_checks ss in
    let of_lines = split-other kind (line_faults [] lines) (of-line-faults (is_other kind) earlier memory [] lines) in
    let whole = split-append kind (line_faults [] lines) found (line_faults [] lines) [] (found_by all_checks (cut_all (c ss) ss)) (of_sound_entries check ss) of_lines split in
    let rises : AreNumbered rs = subst (RisesFrom 1) (sym (numbers-read [] lines)) numbered in
    let safe : AreSafe bad rs = all-safe first second check are rs rises in
    let parsed = parsed-lines rs rises (read-clean [] lines) in
    let at_line : (n : ℕ) → is_at kind (faults_in lines) n ≡ bad n = λ n.
    any-filter (is_of kind) (is_on n) (faults_in lines) ∙ ap (λ (fs : List SheetFault). list_any (is_on n) fs) whole.only in
    let lines_at : emptied_at kind lines ≡ map (blank bad) lines = map-same _ (blank bad) lines (λ l i. ap (λ (b : Bool). cond b (emptied l) l) (at_line l.number)) in
    let same = lines-same bad [] lines tt safe (front-none DuplicateKey (line_faults [] lines) found once) in
    let cut_to : sections_of (map (blank bad) rs) ≡ cut_all (c ss) ss =
    sections-blank bad rs safe ∙ map-same (drop_bad bad) (cut (c ss)) ss (λ s i. drop-is-cut first second check are ss parsed.lines_rise s i ∙ sym (ap (λ (k : Cut). cut k s) (is_cut ss))) in
    ap faults_in lines_at
    ∙ ap (λ (fs : List SheetFault). fs ++ found_by all_checks (sections_of (lines_read [] (map (blank bad) lines)))) same.faults
    ∙ ap (λ (ls : List Line). line_faults [] lines ++ found_by all_checks (sections_of ls)) same.read
    ∙ ap (λ (cs : List TextSection). line_faults [] lines ++ found_by all_checks cs) cut_to
    ∙ sym whole.others

most_but_limits : PassMost (is_other BadLimits)
most_but_limits = record { section = refl; number = refl; ambiguous = refl; list = refl; twice = refl; key = refl; bad_type = refl; left_out = refl; access = refl; sub_0 = refl; compact = refl; mandatory = refl }

most_but_defaults : PassMost (is_other BadDefault)
most_but_defaults = record { section = refl; number = refl; ambiguous = refl; list = refl; twice = refl; key = refl; bad_type = refl; left_out = refl; access = refl; sub_0 = refl; compact = refl; mandatory = refl }

numbered-parsed : (lines : List Line) → AreNumbered lines → IsParsed (sections_read lines)
numbered-parsed lines numbered = parsed-lines (lines_read [] lines) (subst (RisesFrom 1) (sym (numbers-read [] lines)) numbered) (read-clean [] lines)

early-limits : (found : FaultKind) → early BadLimits found
early-limits found h = early-number (fault_number found) h
  where
    early-number : (n : ℕ) → nat_le n 5 ≡ true → not (eqb n 15) ≡ true
    early-number n h = grind (arith, nat_tests)

early-defaults : (found : FaultKind) → early BadDefault found
early-defaults found h = early-number (fault_number found) h
  where
    early-number : (n : ℕ) → nat_le n 5 ≡ true → not (eqb n 16) ≡ true
    early-number n h = grind (arith, nat_tests)

pub limits-gone : (lines : List Line) → AreNumbered lines → HaveNoKeyTwice lines → faults_in (emptied_at BadLimits lines) ≡ without BadLimits (faults_in lines)
limits-gone lines numbered once =
    let ss = sections_read lines in
    let check = of_sound_type (in_numeric limits_found) in
    let own = of-sound (λ k. eqb (fault_number k) 15) check (of-limits-found (λ k. eqb (fault_number k) 15) refl) ss in
    let other = of-sound (is_other BadLimits) (of_sound_type default_found) (of-default-found (is_other BadLimits) refl) ss in
    let split = found-split BadLimits most_but_limits ss [] (of_sound_entries check ss) (of_sound_entries (of_sound_type default_found) ss) [] (split-own BadLimits _ own) (split-other BadLimits _ other) in
    let after = found-cut (limits_cut ss) (limits-apart ss) ss (λ e. []) (of_sound_type default_found) (limits-left ss (numbered-parsed lines numbered))
    ∙ ap (λ (fs : List SheetFault). found_with ss fs (of_sound_entries (of_sound_type default_found) ss)) (none-each (sound_entries ss)) in
    emptied-gone BadLimits check limits_cut (codes "LowLimit") (codes "HighLimit") limits-at (λ ts. refl) early-limits refl lines numbered once
    (record { others = split.others ∙ sym after; only = split.only ∙ append-nil (of_sound_entries check ss) })

pub defaults-gone : (lines : List Line) → AreNumbered lines → HaveNoKeyTwice lines → faults_in (emptied_at BadDefault lines) ≡ without BadDefault (faults_in lines)
defaults-gone lines numbered once =
    let ss = sections_read lines in
    let check = of_sound_type default_found in
    let own = of-sound (λ k. eqb (fault_number k) 16) check (of-default-found (λ k. eqb (fault_number k) 16) refl) ss in
    let other = of-sound (is_other BadDefault) (of_sound_type (in_numeric limits_found)) (of-limits-found (is_other BadDefault) refl) ss in
    let split = found-split BadDefault most_but_defaults ss (of_sound_entries (of_sound_type (in_numeric limits_found)) ss) [] [] (of_sound_entries check ss) (split-other BadDefault _ other) (split-own BadDefault _ own) in
    let after = found-cut (defaults_cut ss) (defaults-apart ss) ss (of_sound_type (in_numeric limits_found)) (λ e. []) (defaults-left ss (numbered-parsed lines numbered))
    ∙ ap (λ (fs : List SheetFault). found_with ss (of_sound_entries (of_sound_type (in_numeric limits_found)) ss) fs) (none-each (sound_entries ss)) in
    emptied-gone BadDefault check defaults_cut (codes "DefaultValue") (codes "ParameterValue") defaults-at (λ ts. refl) early-defaults refl lines numbered once
    (record { others = split.others ∙ sym after; only = split.only ∙ append-nil (of_sound_entries check ss) })

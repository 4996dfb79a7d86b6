-- Lines at fault of the properties of an entry, by their names.
use Rattle.std.proofs.Common.{◌≡◌, ℕ, Bool, true, false, cond, ◌&&◌, ◌||◌, ◌==◌, List, [], ◌∷◌, ◌++◌, Option, Some, None, refl, sym, ap, ◌∙◌, subst, eqb-true, eq-eqb, inl, inr}
use Rattle.std.specs.Prelude.{codes}
use Rattle.std.specs.List.{list_any}
use Rattle.std.specs.Option.{option_map_or}
use Rattle.std.proofs.lemmas.List.Folds.{list_any-append}
use Rattle.co_value.specs.declared.data_type.DataType.{DataType}
use Rattle.co_sheet_rows.specs.declared.fault.FaultKind.{FaultKind}
use Rattle.co_sheet_rows.specs.declared.fault.FaultKind.TheVariants.{BadLimits, BadDefault}
use Rattle.co_sheet_rows.specs.declared.fault.SheetFault.{SheetFault}
use Rattle.co_sheet_text.specs.Text.{same_name}
use Rattle.co_sheet_text.specs.Sections.{Property, TextSection, property_at}
use Rattle.co_sheet_text.specs.SectionLaws.{IsParsed}
use Rattle.co_sheet.specs.Entries.{Entry, data_type_of}
use Rattle.co_sheet.specs.Limits.{is_numeric, low_limit}
use Rattle.co_sheet.specs.Checks.{fault_if, at_key, in_numeric, limit_outside}
use Rattle.co_sheet_faults.specs.Soundness.{unless, sound_entries, is_data_type_at_fault}
use Rattle.co_sheet_faults.specs.AllChecks.{of_sound_type, high_found, limits_found, default_found_at, default_found}
use Rattle.co_sheet_faults.proofs.ElementLemmas.{In, found-by}
use Rattle.co_sheet_faults.proofs.CutChecks.{same-as}
use Rattle.co_sheet_faults.proofs.CutEntries.{IsAt, AreAt, is_on, one-property, entry-of}

-- ---- faults at properties

in-if : (test : Bool) (kind : FaultKind) (line : ℕ) (f : SheetFault) → In f (fault_if test kind line) → line ≡ f.line
in-if true kind line f (inl same) = ap (λ (g : SheetFault). g.line) same
in-if true kind line f (inr h) = absurd h
in-if false kind line f h = absurd h

-- a property at a name, or none
at-option : (first second name : List ℕ) (e : Entry) (found : Property → List SheetFault) (f : SheetFault) (o : Option Property) → property_at name e.section ≡ o
    → ((k : Property) → same_name k.name name ≡ true → (same_name k.name first || same_name k.name second) ≡ true) → ((k : Property) → In f (found k) → k.line ≡ f.line)
    → In f (option_map_or found o []) → IsAt first second e f
at-option first second name e found f None is named line h = absurd h
at-option first second name e found f (Some k) is named line h =
    let there = found-by (λ j. same_name j.name name) e.section.properties k is in
    record { item = k; among = there.among; line = line k h; named = named k there.passes }

in-append : {P : Type 0} (xs ys : List SheetFault) (f : SheetFault) → (In f xs → P) → (In f ys → P) → In f (xs ++ ys) → P
in-append [] ys f p q h = q h
in-append (x ∷ xs) ys f p q (inl same) = p (inl same)
in-append (x ∷ xs) ys f p q (inr h) = in-append xs ys f (λ i. p (inr i)) q h

in-unless : (test : Bool) (xs : List SheetFault) (f : SheetFault) → In f (unless test xs) → In f xs
in-unless true xs f h = absurd h
in-unless false xs f h = h

in-cond : (test : Bool) (xs : List SheetFault) (f : SheetFault) → In f (cond test xs []) → In f xs
in-cond true xs f h = h
in-cond false xs f h = absurd h

in-typed : {P : Type 0} (found : DataType → Entry → List SheetFault) (e : Entry) (f : SheetFault) (o : Option DataType) → ((t : DataType) → In f (found t e) → P)
    → In f (option_map_or (λ t. cond (is_numeric t) (found t e) []) o []) → P
in-typed found e f None p h = absurd h
in-typed found e f (Some t) p h = p t (in-cond (is_numeric t) (found t e) f h)

pub first-named : (a b : Bool) → a ≡ true → (a || b) ≡ true
first-named true b h = refl
first-named false b h = absurd (cc)

pub second-named : (a b : Bool) → b ≡ true → (a || b) ≡ true
second-named true b h = refl
second-named false b h = h

pub limits-at : AreAt (codes "LowLimit") (codes "HighLimit") (of_sound_type (in_numeric limits_found))
limits-at e f h =
    let low = codes "LowLimit" in
    let high = codes "HighLimit" in
    in-typed limits_found e f (data_type_of e)
    (λ t i.
    in-append (at_key (limit_outside t (low_limit t e)) low e.section) (at_key (high_found t e) high e.section) f
    (λ j. at-option low high low e (limit_outside t (low_limit t e)) f (property_at low e.section) refl (λ k n. first-named _ (same_name k.name high) n) (λ k n. in-if _ BadLimits k.line f n) j)
    (λ j. at-option low high high e (high_found t e) f (property_at high e.section) refl (λ k n. second-named (same_name k.name low) _ n) (λ k n. in-if _ BadLimits k.line f n) j)
    i)
    (in-unless (is_data_type_at_fault e) (in_numeric limits_found e) f h)

pub defaults-at : AreAt (codes "DefaultValue") (codes "ParameterValue") (of_sound_type default_found)
defaults-at e f h =
    let default = codes "DefaultValue" in
    let value = codes "ParameterValue" in
    in-append (at_key (default_found_at e) default e.section) (at_key (default_found_at e) value e.section) f
    (λ j. at-option default value default e (default_found_at e) f (property_at default e.section) refl (λ k n. first-named _ (same_name k.name value) n) (λ k n. in-if _ BadDefault k.line f n) j)
    (λ j. at-option default value value e (default_found_at e) f (property_at value e.section) refl (λ k n. second-named (same_name k.name default) _ n) (λ k n. in-if _ BadDefault k.line f n) j)
    (in-unless (is_data_type_at_fault e) (default_found e) f h)

-- ---- a line is at fault as its property is

or-false : (b : Bool) → (b || false) ≡ b
or-false true = refl
or-false false = refl

hit-one : (test : Bool) (kind : FaultKind) (line n : ℕ) → list_any (is_on n) (fault_if test kind line) ≡ (test && (line == n))
hit-one true kind line n = or-false (line == n)
hit-one false kind line n = refl

and-same : (test same : Bool) → same ≡ true → (test && same) ≡ test
and-same true same h = h
and-same false same h = refl

and-other : (test same : Bool) → same ≡ false → (test && same) ≡ false
and-other true same h = h
and-other false same h = refl

pub record AreApart (o p : Option Property) : Type 0 where
  pub lines : (k j : Property) → o ≡ Some k → p ≡ Some j → (k.line == j.line) ≡ false

hit-none : (found : Property → Bool) (kind : FaultKind) (n : ℕ) (p : Option Property) → ((j : Property) → p ≡ Some j → (j.line == n) ≡ false)
    → list_any (is_on n) (option_map_or (λ j. fault_if (found j) kind j.line) p []) ≡ false
hit-none found kind n None apart = refl
hit-none found kind n (Some j) apart = hit-one (found j) kind j.line n ∙ and-other (found j) (j.line == n) (apart j refl)

-- of the first of two, and of the second
pub hit-first : (test : Property → Bool) (other : Property → Bool) (kind : FaultKind) (k : Property) (o p : Option Property) → o ≡ Some k → ((j : Property) → p ≡ Some j → (j.line == k.line) ≡ false)
    → list_any (is_on k.line) (option_map_or (λ j. fault_if (test j) kind j.line) o [] ++ option_map_or (λ j. fault_if (other j) kind j.line) p []) ≡ test k
hit-first test other kind k o p is apart =
    let first = option_map_or (λ j. fault_if (test j) kind j.line) o [] in
    let second = option_map_or (λ j. fault_if (other j) kind j.line) p [] in
    list_any-append (is_on k.line) first second
    ∙ ap (λ b. list_any (is_on k.line) first || b) (hit-none other kind k.line p apart)
    ∙ or-false (list_any (is_on k.line) first)
    ∙ ap (λ (q : Option Property). list_any (is_on k.line) (option_map_or (λ j. fault_if (test j) kind j.line) q [])) is
    ∙ hit-one (test k) kind k.line k.line
    ∙ and-same (test k) (k.line == k.line) (eq-eqb k.line k.line refl)

pub hit-second : (test : Property → Bool) (other : Property → Bool) (kind : FaultKind) (k : Property) (o p : Option Property) → p ≡ Some k → ((j : Property) → o ≡ Some j → (j.line == k.line) ≡ false)
    → list_any (is_on k.line) (option_map_or (λ j. fault_if (other j) kind j.line) o [] ++ option_map_or (λ j. fault_if (test j) kind j.line) p []) ≡ test k
hit-second test other kind k o p is apart =
    let first = option_map_or (λ j. fault_if (other j) kind j.line) o [] in
    let second = option_map_or (λ j. fault_if (test j) kind j.line) p [] in
    list_any-append (is_on k.line) first second
    ∙ ap (λ b. b || list_any (is_on k.line) second) (hit-none other kind k.line o apart)
    ∙ ap (λ (q : Option Property). list_any (is_on k.line) (option_map_or (λ j. fault_if (test j) kind j.line) q [])) is
    ∙ hit-one (test k) kind k.line k.line
    ∙ and-same (test k) (k.line == k.line) (eq-eqb k.line k.line refl)

-- two properties of other names are on other lines
not-same : (b : Bool) → (b ≡ true → ⊥) → b ≡ false
not-same true h = absurd (h refl)
not-same false h = refl

pub apart-lines : (ss : List TextSection) → IsParsed ss → (e : Entry) → In e (sound_entries ss) → (a b : List ℕ) → same_name a b ≡ false → (k j : Property) → property_at a e.section ≡ Some k → property_at b e.section ≡ Some j
    → (j.line == k.line) ≡ false
apart-lines ss parsed e in_e a b other k j is_k is_j =
    let of_e = (entry-of ss e in_e).among in
    let one = found-by (λ i. same_name i.name a) e.section.properties k is_k in
    let two = found-by (λ i. same_name i.name b) e.section.properties j is_j in
    not-same (j.line == k.line)
    (λ h.
    let same = (one-property ss e.section e.section j k parsed.lines_rise of_e two.among of_e one.among (eqb-true j.line k.line h)).1 in
    let named : same_name k.name b ≡ true = subst (λ (i : Property). same_name i.name b ≡ true) same two.passes in
    let wrong : same_name a b ≡ true = sym (same-as k.name a b one.passes) ∙ named in
    absurd (cc))

-- Which properties are cut out of which sections: an entry is its section's, and a line is one property's.
use Rattle.std.proofs.Common.{◌≡◌, ℕ, Bool, true, false, cond, not, ◌&&◌, ◌||◌, ◌==◌, List, [], ◌∷◌, ◌++◌, Option, Some, None, refl, sym, ap, ◌∙◌, subst, map, eqb-true, inl, inr}
use Rattle.std.specs.Prelude.{flat_map, filter, find, option_map}
use Rattle.std.specs.List.{list_any, AllByRecursion}
use Rattle.std.specs.Str.{str_to_ascii_lowercase}
use Rattle.std.proofs.lemmas.Slice.Eq.{bytes_eq-Decides}
use Rattle.co_value.specs.declared.key.Key.{Key}
use Rattle.co_sheet_text.specs.declared.section_kind.SectionKind.{SectionKind}
use Rattle.co_sheet_text.specs.declared.section_kind.SectionKind.TheVariants.{Object, SubIndex}
use Rattle.co_sheet_rows.specs.declared.fault.SheetFault.{SheetFault}
use Rattle.co_sheet_text.specs.Names.{same_kind}
use Rattle.co_sheet_text.specs.Text.{same_name}
use Rattle.co_sheet_text.specs.Sections.{Property, TextSection, property_at, section_at}
use Rattle.co_sheet_text.specs.SectionLaws.{IsLikeNone, AllDiffer, RisesFrom, property_lines, PropertiesDiffer, IsParsed}
use Rattle.co_sheet.specs.ObjectLists.{is_one_of, Listing}
use Rattle.co_sheet.specs.Entries.{single_codes, compound_codes, object_code, ListedObject, Entry, sub_index_in, sub_indices, entries_in}
use Rattle.co_sheet.specs.SectionViews.{object_at}
use Rattle.co_sheet_faults.specs.Soundness.{sound_listings, sound_objects, sound_entries}
use Rattle.co_sheet_faults.proofs.ElementLemmas.{same-some, In, in-flat, from-flat, made-by, found-by, find-kept, any-found, any-as, any-flat, not-true, map-flat, filter-same, filter-all, one-of-number}
use Rattle.co_sheet_faults.proofs.CutChecks.{Cut, is_named, stays, is_entry_kind, cut_keys, cut, same-as}

-- ---- an entry has the key of its section

abbrev key_of : SectionKind → Option Key
key_of (Object index) = Some (record { index = index; sub = 0 })
key_of (SubIndex key) = Some key
key_of kind = None

pub record IsEntryOf (ss : List TextSection) (e : Entry) : Type 0 where
  pub among : In e.section ss
  pub key : key_of e.section.kind ≡ Some e.key

object-kind : (kind : SectionKind) (index : ℕ) → same_kind kind (Object index) ≡ true → key_of kind ≡ Some (record { index = index; sub = 0 })
object-kind (Object other) index h = ap (λ i. Some (record { index = i; sub = 0 })) (eqb-true other index h)
object-kind kind index h = absurd (cc)

record IsObjectOf (ss : List TextSection) (o : ListedObject) : Type 0 where
  pub among : In o.section ss
  pub key : key_of o.section.kind ≡ Some (record { index = o.index; sub = 0 })

object-cases : (ss : List TextSection) (index : ℕ) (s : Option TextSection) (o : ListedObject) → section_at (Object index) ss ≡ s
    → option_map (λ t. record { index = index; section = t }) s ≡ Some o → IsObjectOf ss o
object-cases ss index None o is h = absurd (cc)
object-cases ss index (Some s) o is h =
    let found = found-by (λ t. same_kind t.kind (Object index)) ss s is in
    let made : ListedObject = record { index = index; section = s } in
    subst (IsObjectOf ss) (same-some made o h) (record { among = found.among; key = object-kind s.kind index found.passes })

object-of : (ss : List TextSection) (o : ListedObject) → In o (sound_objects ss) → IsObjectOf ss o
object-of ss o h =
    let made = made-by (λ (l : Listing). object_at l.index ss) (sound_listings ss) o h in
    object-cases ss made.item.index (section_at (Object made.item.index) ss) o refl made.gives

part-test : (ss : List TextSection) (s : TextSection) (key : Key) (e : Entry) (b : Bool) → In s ss → key_of s.kind ≡ Some key
    → ◌≡◌ {A = Option Entry} (cond b (Some (record { key = key; section = s })) None) (Some e) → IsEntryOf ss e
part-test ss s key e true i is h =
    let made : Entry = record { key = key; section = s } in
    subst (IsEntryOf ss) (same-some made e h) (record { among = i; key = is })
part-test ss s key e false i is h = absurd (cc)

part-kind : (ss : List TextSection) (index : ℕ) (s : TextSection) (kind : SectionKind) (e : Entry) → In s ss → s.kind ≡ kind → sub_index_in index s kind ≡ Some e → IsEntryOf ss e
part-kind ss index s (SubIndex key) e i is h = part-test ss s key e (key.index == index) i (ap key_of is) h
part-kind ss index s kind e i is h = absurd (cc)

part-of : (ss : List TextSection) (index : ℕ) (e : Entry) → In e (sub_indices ss index) → IsEntryOf ss e
part-of ss index e h =
    let made = made-by (λ (s : TextSection). sub_index_in index s s.kind) ss e h in
    part-kind ss index made.item made.item.kind e made.among refl made.gives

entry-cases : (ss : List TextSection) (o : ListedObject) (e : Entry) (single compound : Bool) → IsObjectOf ss o
    → In e (cond single (record { key = record { index = o.index; sub = 0 }; section = o.section } ∷ []) (cond compound (sub_indices ss o.index) [])) → IsEntryOf ss e
entry-cases ss o e true compound of (inl same) = subst (IsEntryOf ss) same (record { among = of.among; key = of.key })
entry-cases ss o e true compound of (inr h) = absurd h
entry-cases ss o e false true of h = part-of ss o.index e h
entry-cases ss o e false false of h = absurd h

pub entry-of : (ss : List TextSection) (e : Entry) → In e (sound_entries ss) → IsEntryOf ss e
entry-of ss e h =
    let found = from-flat (entries_in ss) (sound_objects ss) e h in
    entry-cases ss found.item e (is_one_of single_codes (object_code found.item.section)) (is_one_of compound_codes (object_code found.item.section)) (object-of ss found.item found.among) found.gives

one-entry : (ss : List TextSection) (e f : Entry) → IsEntryOf ss e → IsEntryOf ss f → e.section ≡ f.section → e ≡ f
one-entry ss e f of_e of_f same =
    let keys = same-some e.key f.key (sym of_e.key ∙ ap (λ (s : TextSection). key_of s.kind) same ∙ of_f.key) in
    let with_key : Key → Entry = λ k. record { key = k; section = e.section } in
    let with_section : TextSection → Entry = λ s. record { key = f.key; section = s } in
    ap with_key keys ∙ ap with_section same

has-key : (kind : SectionKind) (key : Key) → key_of kind ≡ Some key → is_entry_kind kind ≡ true
has-key (Object index) key h = refl
has-key (SubIndex own) key h = refl
has-key kind key h = absurd (cc)

-- ---- a line is one property's

abbrev pairs_of : TextSection → List (TextSection × Property)
pairs_of s = map (λ k. (s, k)) s.properties

abbrev pairs : List TextSection → List (TextSection × Property)
pairs ss = flat_map pairs_of ss

abbrev line_of : TextSection × Property → ℕ
line_of p = p.1.line

pair-lines : (s : TextSection) (keys : List Property) → map line_of (map (λ k. (s, k)) keys) ≡ map (λ (k : Property). k.line) keys
pair-lines s [] = refl
pair-lines s (k ∷ keys) = ap (λ l. k.line ∷ l) (pair-lines s keys)

all-lines : (ss : List TextSection) → map line_of (pairs ss) ≡ property_lines ss
all-lines [] = refl
all-lines (s ∷ ss) =
    map-flat line_of pairs_of (s ∷ ss)
    ∙ ap (λ l. l ++ flat_map (λ t. map line_of (pairs_of t)) ss) (pair-lines s s.properties)
    ∙ ap (λ l. map (λ (k : Property). k.line) s.properties ++ l) (sym (map-flat line_of pairs_of ss) ∙ all-lines ss)

in-pairs : (s : TextSection) (keys : List Property) (k : Property) → In k keys → In {X = TextSection × Property} (s, k) (map (λ j. (s, j)) keys)
in-pairs s [] k h = absurd h
in-pairs s (j ∷ keys) k (inl same) = inl (ap (λ i. (s, i)) same)
in-pairs s (j ∷ keys) k (inr h) = inr (in-pairs s keys k h)

pub one-property : (ss : List TextSection) (s t : TextSection) (k j : Property) → RisesFrom 1 (property_lines ss) → In s ss → In k s.properties → In t ss → In j t.properties → k.line ≡ j.line
    → (s ≡ t) × (k ≡ j)
one-property ss s t k j rises in_s in_k in_t in_j same =
    let p = one-of-number line_of 1 (pairs ss) (s, k) (t, j) (subst (RisesFrom 1) (sym (all-lines ss)) rises)
    (in-flat pairs_of ss s (s, k) in_s (in-pairs s s.properties k in_k)) (in-flat pairs_of ss t (t, j) in_t (in-pairs t t.properties j in_j)) same in
    (ap (λ (q : TextSection × Property). q.0) p, ap (λ (q : TextSection × Property). q.1) p)

-- ---- the lines where a check of entries finds a fault

-- a fault is at a property of one of the two names
pub record IsAt (first second : List ℕ) (e : Entry) (f : SheetFault) : Type 0 where
  pub item : Property
  pub among : In item e.section.properties
  pub line : item.line ≡ f.line
  pub named : (same_name item.name first || same_name item.name second) ≡ true

abbrev pub AreAt : List ℕ → List ℕ → (Entry → List SheetFault) → Type 0
AreAt first second check = (e : Entry) (f : SheetFault) → In f (check e) → IsAt first second e f

abbrev pub is_on : ℕ → SheetFault → Bool
is_on n f = f.line == n

abbrev pub hits : (Entry → List SheetFault) → ℕ → Entry → Bool
hits check n e = list_any (is_on n) (check e)

abbrev pub bad_lines : (Entry → List SheetFault) → List TextSection → ℕ → Bool
bad_lines check ss n = list_any (is_on n) (flat_map check (sound_entries ss))

-- the section of a line where the check finds a fault is the entry's
record IsHit (first second : List ℕ) (ss : List TextSection) (s : TextSection) (k : Property) (e : Entry) : Type 0 where
  pub section : s ≡ e.section
  pub named : (same_name k.name first || same_name k.name second) ≡ true

hit-of : (first second : List ℕ) (check : Entry → List SheetFault) → AreAt first second check → (ss : List TextSection) → RisesFrom 1 (property_lines ss)
    → (s : TextSection) (k : Property) → In s ss → In k s.properties → (e : Entry) → In e (sound_entries ss) → hits check k.line e ≡ true → IsHit first second ss s k e
hit-of first second check are ss rises s k in_s in_k e in_e h =
    let found = any-found (is_on k.line) (check e) h in
    let at = are e found.item found.among in
    let same = one-property ss s e.section k at.item rises in_s in_k (entry-of ss e in_e).among at.among (sym (at.line ∙ eqb-true found.item.line k.line found.passes)) in
    record { section = same.0; named = subst (λ (j : Property). (same_name j.name first || same_name j.name second) ≡ true) (sym same.1) at.named }

pub bad-at : (first second : List ℕ) (check : Entry → List SheetFault) → AreAt first second check → (ss : List TextSection) → RisesFrom 1 (property_lines ss)
    → (e : Entry) → In e (sound_entries ss) → (k : Property) → In k e.section.properties → bad_lines check ss k.line ≡ hits check k.line e
bad-at first second check are ss rises e in_e k in_k =
    let of_e = entry-of ss e in_e in
    any-flat (is_on k.line) check (sound_entries ss)
    ∙ any-as (hits check k.line) (sound_entries ss) e in_e
    (λ f in_f h.
    let hit = hit-of first second check are ss rises e.section k of_e.among in_k f in_f h in
    subst (λ (g : Entry). hits check k.line g ≡ true) (sym (one-entry ss e f of_e (entry-of ss f in_f) hit.section)) h)

-- ---- to drop the lines is to cut the properties of these names

abbrev pub drop_bad : (ℕ → Bool) → TextSection → TextSection
drop_bad bad s = record s { properties = filter (λ k. not (bad k.line)) s.properties }

record IsBad (first second : List ℕ) (s : TextSection) (k : Property) : Type 0 where
  pub entry : is_entry_kind s.kind ≡ true
  pub named : (same_name k.name first || same_name k.name second) ≡ true

bad-is : (first second : List ℕ) (check : Entry → List SheetFault) → AreAt first second check → (ss : List TextSection) → RisesFrom 1 (property_lines ss)
    → (s : TextSection) (k : Property) → In s ss → In k s.properties → bad_lines check ss k.line ≡ true → IsBad first second s k
bad-is first second check are ss rises s k in_s in_k h =
    let found = any-found (hits check k.line) (sound_entries ss) (sym (any-flat (is_on k.line) check (sound_entries ss)) ∙ h) in
    let hit = hit-of first second check are ss rises s k in_s in_k found.item found.among found.passes in
    record { entry = ap (λ (t : TextSection). is_entry_kind t.kind) hit.section ∙ has-key found.item.section.kind found.item.key (entry-of ss found.item found.among).key; named = hit.named }

test-named : (bad named : Bool) → (bad ≡ true → named ≡ true) → not bad ≡ not (bad && named)
test-named true named h = ap (λ b. not b) (sym (h refl))
test-named false named h = refl

drop-cases : (c : Cut) (b : Bool) (keys : List Property) → ((k : Property) → In k keys → c.bad k.line ≡ true → (b ≡ true) × (is_named c k.name ≡ true))
    → filter (λ k. not (c.bad k.line)) keys ≡ cut_keys c b keys
drop-cases c true keys h = filter-same (λ k. not (c.bad k.line)) (stays c) keys (λ k i. test-named (c.bad k.line) (is_named c k.name) (λ is. (h k i is).1))
drop-cases c false keys h =
    filter-all (λ k. not (c.bad k.line)) keys (λ k i. ap (λ b. not b) (not-true (c.bad k.line) (λ is. let both = h k i is in let wrong = both.0 in absurd (cc))))

pub drop-is-cut : (first second : List ℕ) (check : Entry → List SheetFault) → AreAt first second check → (ss : List TextSection) → RisesFrom 1 (property_lines ss)
    → (s : TextSection) → In s ss → drop_bad (bad_lines check ss) s ≡ cut (record { bad = bad_lines check ss; first = first; second = second }) s
drop-is-cut first second check are ss rises s in_s =
    let c : Cut = record { bad = bad_lines check ss; first = first; second = second } in
    ap (λ (keys : List Property). record s { properties = keys })
    (drop-cases c (is_entry_kind s.kind) s.properties (λ k in_k h. let is = bad-is first second check are ss rises s k in_s in_k h in (is.entry, is.named)))

-- ---- what is left of a property of one of the two names

abbrev pub kept : (ℕ → Bool) → Option Property → Option Property
kept bad None = None
kept bad (Some k) = cond (bad k.line) None (Some k)

same_self : (name : List ℕ) → same_name name name ≡ true
same_self name = (bytes_eq-Decides (str_to_ascii_lowercase name) (str_to_ascii_lowercase name)).1 refl

like-none-in : (name : List ℕ) (keys : List Property) (k : Property) → IsLikeNone same_name name (map (λ (j : Property). j.name) keys) → In k keys → same_name name k.name ≡ false
like-none-in name [] k none h = absurd h
like-none-in name (j ∷ keys) k none (inl same) = subst (λ (i : Property). same_name name i.name ≡ false) same none.0
like-none-in name (j ∷ keys) k none (inr h) = like-none-in name keys k none.1 h

two-names : (a b name : List ℕ) → same_name a name ≡ true → same_name b name ≡ true → same_name a b ≡ true
two-names a b name h i = same-as a name b h ∙ sym (same-as b name b i) ∙ same_self b

only-cases : (name : List ℕ) (y : Property) (ys : List Property) (k x : Property) (b : Bool) → same_name y.name name ≡ b
    → IsLikeNone same_name y.name (map (λ (j : Property). j.name) ys) → cond b (Some y) (find (λ j. same_name j.name name) ys) ≡ Some k → In x (y ∷ ys) → same_name x.name name ≡ true
    → (find (λ j. same_name j.name name) ys ≡ Some k → In x ys → x ≡ k) → x ≡ k
only-cases name y ys k x true is none h (inl same) passes more = sym same ∙ same-some y k h
only-cases name y ys k x true is none h (inr i) passes more =
    let apart = like-none-in y.name ys x none i in
    let alike = two-names y.name x.name name is passes in
    absurd (cc)
only-cases name y ys k x false is none h (inl same) passes more =
    let wrong : same_name x.name name ≡ false = subst (λ (j : Property). same_name j.name name ≡ false) same is in
    absurd (cc)
only-cases name y ys k x false is none h (inr i) passes more = more h i

only-one : (name : List ℕ) (keys : List Property) (k x : Property) → AllDiffer same_name (map (λ (j : Property). j.name) keys) → find (λ j. same_name j.name name) keys ≡ Some k
    → In x keys → same_name x.name name ≡ true → x ≡ k
only-one name [] k x differ h i passes = absurd i
only-one name (y ∷ ys) k x differ h i passes = only-cases name y ys k x (same_name y.name name) refl differ.0 h i passes (λ g j. only-one name ys k x differ.1 g j passes)

keep-cond : (b : Bool) (k : Property) → cond (not b) (Some k) None ≡ cond b None (Some k)
keep-cond true k = refl
keep-cond false k = refl

and-true : (b named : Bool) → named ≡ true → not (b && named) ≡ not b
and-true true named h = ap (λ c. not c) h
and-true false named h = refl

none-passes : (name : List ℕ) (keys : List Property) (x : Property) → find (λ j. same_name j.name name) keys ≡ None → In x keys → same_name x.name name ≡ true → ⊥
none-passes name [] x h i passes = i
none-passes name (y ∷ ys) x h i passes = none-cases name y ys x (same_name y.name name) refl h i passes (λ g j. none-passes name ys x g j passes)
  where
    none-cases : (name : List ℕ) (y : Property) (ys : List Property) (x : Property) (b : Bool) → same_name y.name name ≡ b → cond b (Some y) (find (λ j. same_name j.name name) ys) ≡ None
        → In x (y ∷ ys) → same_name x.name name ≡ true → (find (λ j. same_name j.name name) ys ≡ None → In x ys → ⊥) → ⊥
    none-cases name y ys x true is h i passes more = absurd (cc)
    none-cases name y ys x false is h (inl same) passes more =
        let wrong : same_name x.name name ≡ false = subst (λ (j : Property). same_name j.name name ≡ false) same is in
        absurd (cc)
    none-cases name y ys x false is h (inr i) passes more = more h i

key-cases : (c : Cut) (name : List ℕ) (keys : List Property) (o : Option Property) → AllDiffer same_name (map (λ (j : Property). j.name) keys) → ((k : Property) → same_name k.name name ≡ true → is_named c k.name ≡ true)
    → find (λ j. same_name j.name name) keys ≡ o → find (λ j. same_name j.name name) (filter (stays c) keys) ≡ kept c.bad o
key-cases c name keys None differ named is =
    find-kept (λ j. same_name j.name name) (stays c) true keys (λ x i h. absurd (none-passes name keys x is i h)) ∙ is
key-cases c name keys (Some k) differ named is =
    find-kept (λ j. same_name j.name name) (stays c) (not (c.bad k.line)) keys
    (λ x i h. and-true (c.bad x.line) (is_named c x.name) (named x h) ∙ ap (λ (j : Property). not (c.bad j.line)) (only-one name keys k x differ is i h))
    ∙ ap (λ (o : Option Property). cond (not (c.bad k.line)) o None) is
    ∙ keep-cond (c.bad k.line) k

differ-in : (ss : List TextSection) (s : TextSection) → AllByRecursion PropertiesDiffer ss → In s ss → PropertiesDiffer s
differ-in [] s all h = absurd h
differ-in (t ∷ ss) s all (inl same) = subst PropertiesDiffer same all.0
differ-in (t ∷ ss) s all (inr h) = differ-in ss s all.1 h

-- of an entry
pub key-kept : (c : Cut) (name : List ℕ) → ((k : Property) → same_name k.name name ≡ true → is_named c k.name ≡ true) → (ss : List TextSection) → IsParsed ss
    → (e : Entry) → In e (sound_entries ss) → property_at name (cut c e.section) ≡ kept c.bad (property_at name e.section)
key-kept c name named ss parsed e in_e =
    let of_e = entry-of ss e in_e in
    let is_entry = has-key e.section.kind e.key of_e.key in
    ap (λ (b : Bool). find (λ (j : Property). same_name j.name name) (cut_keys c b e.section.properties)) is_entry
    ∙ key-cases c name e.section.properties (property_at name e.section) (differ-in ss e.section parsed.properties_differ of_e.among) named refl

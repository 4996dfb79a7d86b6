-- The sections that are kept, after one more line.
use Rattle.std.proofs.Common.{◌≡◌, ℕ, Bool, true, false, ◌||◌, not, cond, List, [], ◌∷◌, ◌++◌, Option, Some, None, is_some, length, ◌≤◌, ltb, arith, refl, sym, ◌∙◌, ap}
use Rattle.std.proofs.lemmas.Bool.Decides.{nat_tests}
use Rattle.std.specs.Prelude.{if◌then◌else◌, ◌&&◌}
use Rattle.std.specs.List.{list_any, last_or}
use Rattle.co_sheet_text.specs.declared.section_kind.SectionKind.{SectionKind}
use Rattle.co_sheet_text.specs.declared.fault.TextFaultKind.{TextFaultKind}
use Rattle.co_sheet_text.specs.declared.fault.TextFaultKind.TheVariants.{DuplicateSection, DuplicateKey, TooLarge}
use Rattle.co_sheet_text.specs.contracts.section_kind.SectionKindPartialEq.TheImpl.{ghosts}
use Rattle.co_sheet_text.specs.Text.{Line, is_empty}
use Rattle.co_sheet_text.specs.Names.{kind_of, same_kind, is_read, is_read_name}
use Rattle.co_sheet_text.specs.Sections.{TextSection, Property, section_line, name_value, is_given, property_given, property_at, section_at, skipped, line_form}
use Rattle.co_sheet_text.specs.LinesRead.{with_property, with_last, with_form, with_line, fault_within, form_fault, fault_by_form}
use Rattle.co_sheet_text.proofs.SectionKindLemmas.{eq_alike}

-- a line that changes nothing
pub with_last-same : (ss : List TextSection) → with_last (λ s. s) ss ≡ ss
with_last-same [] = refl
with_last-same (s ∷ []) = refl
with_last-same (s ∷ t ∷ ss) = ap (λ (rest : List TextSection). s ∷ rest) (with_last-same (t ∷ ss))

pub last_or-append : (o : Option TextSection) (ss : List TextSection) (s : TextSection) → last_or o (ss ++ s ∷ []) ≡ Some s
last_or-append o [] s = refl
last_or-append o (t ∷ ss) s = last_or-append (Some t) ss s

here : (b : Bool) (s : TextSection) → is_some (cond b (Some s) None) ≡ b
here true s = refl
here false s = refl

here_or : (b c : Bool) (t : TextSection) (o rest : Option TextSection) → is_some o ≡ (is_some rest || c) →
    is_some (cond b (Some t) o) ≡ (is_some (cond b (Some t) rest) || c)
here_or true c t o rest h = refl
here_or false c t o rest h = h

-- whether a section of this kind is there, with one more section
pub section_at-append : (k : SectionKind) (ss : List TextSection) (s : TextSection) →
    is_some (section_at k (ss ++ s ∷ [])) ≡ (is_some (section_at k ss) || same_kind s.kind k)
section_at-append k [] s = here (same_kind s.kind k) s
section_at-append k (t ∷ ss) s =
    here_or (same_kind t.kind k) (same_kind s.kind k) t (section_at k (ss ++ s ∷ [])) (section_at k ss) (section_at-append k ss s)

pub kind-with_property : (s : TextSection) (o : Option Property) → (with_property s o).kind ≡ s.kind
kind-with_property s None = refl
kind-with_property s (Some k) = refl

-- a key more changes no kind
pub section_at-with_property : (k : SectionKind) (ss : List TextSection) (s t : TextSection) (o : Option Property) → t ≡ with_property s o →
    is_some (section_at k (ss ++ s ∷ [])) ≡ is_some (section_at k (ss ++ t ∷ []))
section_at-with_property k ss s t o h =
    section_at-append k ss s
    ∙ ap (λ (kind : SectionKind). is_some (section_at k ss) || same_kind kind k) (sym (ap (λ (r : TextSection). r.kind) h ∙ kind-with_property s o))
    ∙ sym (section_at-append k ss t)

-- a line that gives no key changes nothing
pub not_given : (s : TextSection) (key value : List ℕ) (line : ℕ) → is_given s.kind key value ≡ false →
    (fault_within (Some s) (name_value key value) ≡ None) × (with_property s (property_given s.kind line (name_value key value)) ≡ s)
not_given s key value line h = (
  ap (λ (b : Bool). let o : Option TextFaultKind = if b && is_some (property_at key s) then Some DuplicateKey else None in o) h,
  ap (λ (b : Bool). with_property s (if b then Some (record { name = key; value = value; line = line }) else None)) h,
)

pub joined : (ss ts : List TextSection) (s t : TextSection) → ss ≡ ts → s ≡ t → ss ++ s ∷ [] ≡ ts ++ t ∷ []
joined ss ts s t h k = ap (λ (r : List TextSection). r ++ s ∷ []) h ∙ ap (λ (r : TextSection). ts ++ r ∷ []) k

or_alike : (a b c d : Bool) → a ≡ c → b ≡ d → (a || b) ≡ (c || d)
or_alike a b c d h k = cc

-- the kinds as the set compares them
alike : (k : SectionKind) (ks : List SectionKind) → list_any (ghosts.eq k) ks ≡ list_any (same_kind k) ks
alike k [] = refl
alike k (j ∷ ks) = or_alike _ _ _ _ (eq_alike k j) (alike k ks)

abbrev Indexes : List SectionKind → List TextSection → Type 0
Indexes ks ss = (k : SectionKind) → list_any (same_kind k) ks ≡ is_some (section_at k ss)

or_swap : (a b : Bool) → cond a true b ≡ (b || a)
or_swap true true = refl
or_swap true false = refl
or_swap false true = refl
or_swap false false = refl

-- the kinds and the sections with one more
pub indexes_more : (ks more : List SectionKind) (ss ts : List TextSection) (kind : SectionKind) (s : TextSection) → Indexes ks ss →
    ((k : SectionKind) → list_any (ghosts.eq k) more ≡ cond (ghosts.eq kind k) true (list_any (ghosts.eq k) ks)) → ts ≡ ss → s.kind ≡ kind → Indexes more (ts ++ s ∷ [])
indexes_more ks more ss ts kind s known added same about k =
    sym (alike k more)
    ∙ added k
    ∙ ap (λ (b : Bool). cond b true (list_any (ghosts.eq k) ks)) (eq_alike kind k)
    ∙ ap (λ (b : Bool). cond (same_kind kind k) true b) (alike k ks ∙ known k)
    ∙ or_swap (same_kind kind k) (is_some (section_at k ss))
    ∙ ap (λ (r : List TextSection). is_some (section_at k r) || same_kind kind k) (sym same)
    ∙ ap (λ (j : SectionKind). is_some (section_at k ts) || same_kind j k) (sym about)
    ∙ sym (section_at-append k ts s)

abbrev pub section_fault : Bool → Bool → Option TextFaultKind
section_fault read known = if read && known then Some DuplicateSection else None

not_swap : (a b : Bool) → a ≡ not b → b ≡ not a
not_swap true true h = cc
not_swap true false h = refl
not_swap false true h = refl
not_swap false false h = cc

-- what is wrong with a section line, by what the set of kinds says
pub section_fault_is : (name : List ℕ) (kind : SectionKind) (ks : List SectionKind) (ss : List TextSection) (new : Bool) → kind ≡ kind_of name → Indexes ks ss →
    new ≡ not (list_any (ghosts.eq kind) ks) → form_fault ss (section_line name) ≡ section_fault (is_read kind) (not new)
section_fault_is name kind ks ss new about known added =
    let there : is_some (section_at kind ss) ≡ not new = sym (known kind) ∙ sym (alike kind ks) ∙ not_swap new (list_any (ghosts.eq kind) ks) added in
    ap (λ (k : SectionKind). section_fault (is_read k) (is_some (section_at k ss))) (sym about)
    ∙ ap (section_fault (is_read kind)) there

pub not_read : (read known : Bool) → read ≡ false → section_fault read known ≡ None
not_read read known h = ap (λ (b : Bool). section_fault b known) h

pub not_known : (read known : Bool) → known ≡ false → section_fault read known ≡ None
not_known true known h = ap (section_fault true) h
not_known false known h = refl

and_false : (b : Bool) → (b && false) ≡ false
and_false true = refl
and_false false = refl

-- a key without a value isn't given, nor one that isn't read
pub empty_not_given : (kind : SectionKind) (key value : List ℕ) → is_empty value ≡ true → is_given kind key value ≡ false
empty_not_given kind key value h = ap (λ (b : Bool). is_read_name kind key && not b) h ∙ and_false (is_read_name kind key)

pub unread_not_given : (kind : SectionKind) (key value : List ℕ) → is_read_name kind key ≡ false → is_given kind key value ≡ false
unread_not_given kind key value h = ap (λ (b : Bool). b && not (is_empty value)) h

not_longer : (n : ℕ) → n ≤ 512 → ltb 512 n ≡ false
not_longer n h = grind (arith, nat_tests)

-- an empty line, or a comment
pub skipped_line : (ss : List TextSection) (line : Line) → length line.bytes ≤ 512 → skipped ≡ line_form line →
    (fault_by_form ss line ≡ None) × (ss ≡ with_line ss line)
skipped_line ss line h form = (
  ap (λ (b : Bool). let o : Option TextFaultKind = if b then Some TooLarge else form_fault ss (line_form line) in o) (not_longer (length line.bytes) h) ∙ ap (form_fault ss) (sym form),
  sym (with_last-same ss) ∙ ap (with_form ss line.number) form,
)

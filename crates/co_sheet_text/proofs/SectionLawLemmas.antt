-- Of a text without a line at fault: no section that is read is there twice, and the lines of the keys rise.
use Rattle.std.proofs.Common.{◌≡◌, ℕ, ◌+◌, ◌≤◌, Bool, true, false, cond, ◌&&◌, if◌then◌else◌, List, [], ◌∷◌, ◌++◌, Option, Some, None, refl, sym, ap, ◌∙◌, subst, arith, map, is_some, IfSome, nat_lt, length, reverse, not, ◌==◌, length-drop}
use Rattle.std.specs.Prelude.{filter_map, option_map}
use Rattle.std.specs.Option.{option_or}
use Rattle.std.specs.List.{cons_option, AllByRecursion, last_or, find, list_any, before_first, after_first, position_or_len}
use Rattle.std.proofs.lemmas.Bool.Decides.{nat_tests}
use Rattle.std.proofs.lemmas.List.{length-reverse}
use Rattle.co_sheet_text.specs.declared.section_kind.SectionKind.{SectionKind}
use Rattle.co_sheet_text.specs.declared.section_kind.SectionKind.TheVariants.{PassedOver}
use Rattle.co_sheet_text.specs.declared.fault.TextFaultKind.{TextFaultKind}
use Rattle.co_sheet_text.specs.declared.fault.TextFaultKind.TheVariants.{TooLarge, DuplicateSection, DuplicateKey}
use Rattle.co_sheet_text.specs.Text.{Line, lines_of, without_mark, same_name, trim_front, trim, is_empty}
use Rattle.co_text.specs.Texts.{is_blank}
use Rattle.std.specs.Str.Lines.{lines}
use Rattle.co_sheet_text.specs.Names.{kind_of, same_kind, is_read}
use Rattle.co_sheet_text.specs.Sections.{form_of, section_form, property_form, is_bracket, is_equals, LineForm, skipped, section_line, unclosed, name_value, malformed, is_section_line, is_given, Property, TextSection, property_given, property_at, section_at, body_of, section_begun, sections_of, line_form, fault_at, first_line_fault}
use Rattle.co_sheet_text.specs.SectionLaws.{IsLikeNone, AllDiffer, is_read_twice, RisesFrom, property_lines, PropertiesDiffer, ValuesShort, IsParsed}
use Rattle.co_sheet_text.specs.LinesRead.{with_property, with_last, empty_section, with_form, with_line, fault_within, fault_by_form, form_fault}
use Rattle.co_sheet_text.proofs.LinesReadLemmas.{numbered, with_lines, given_by, fault_after, sections_of-with_lines, first_line_fault-after}
use Rattle.co_sheet_text.proofs.SectionsReadLemmas.{kind-with_property}

pub neither : {X : Type 0} (o p : Option X) → option_or o p ≡ None → (o ≡ None) × (p ≡ None)
neither None p h = (refl, h)
neither (Some x) p h = absurd (cc)

-- a map of one value more
map-push : {X Y : Type 0} (f : X → Y) (xs : List X) (x : X) → map f (xs ++ x ∷ []) ≡ map f xs ++ f x ∷ []
map-push f [] x = refl
map-push f (y ∷ xs) x = ap (λ l. f y ∷ l) (map-push f xs x)

-- ---- lines rise

-- a lower bound
pub rises-lower : (m n : ℕ) (xs : List ℕ) → m ≤ n → RisesFrom n xs → RisesFrom m xs
rises-lower m n [] h rises = tt
rises-lower m n (x ∷ xs) h rises = let above = rises.0 in (omega arith, rises.1)

-- without its front
pub rises-rest : (low : ℕ) (xs ys : List ℕ) → RisesFrom low (xs ++ ys) → RisesFrom low ys
rises-rest low [] ys rises = rises
rises-rest low (x ∷ xs) ys rises =
    let above = rises.0 in
    rises-lower low (x + 1) ys (omega arith) (rises-rest (x + 1) xs ys rises.1)

-- one item more in front, if there is one, at a line n
pub rises-cons : {X : Type 0} (line : X → ℕ) (o : Option X) (n low : ℕ) (xs : List X) (rest : List ℕ) → IfSome o (λ x. line x ≡ n) → low ≤ n
    → RisesFrom (n + 1) (map line xs ++ rest) → RisesFrom low (map line (cons_option o xs) ++ rest)
rises-cons line None n low xs rest is h rises = rises-lower low (n + 1) (map line xs ++ rest) (omega arith) rises
rises-cons line (Some x) n low xs rest is h rises =
    (omega (arith, is), subst (λ (m : ℕ). RisesFrom (m + 1) (map line xs ++ rest)) (sym is) rises)

given_line : (b : Bool) (key value : List ℕ) (n : ℕ) → IfSome (if b then Some (record { name = key; value = value; line = n }) else None) (λ (k : Property). k.line ≡ n)
given_line true key value n = refl
given_line false key value n = tt

-- a key is given by its line
line-given : (kind : SectionKind) (n : ℕ) (form : LineForm) → IfSome (property_given kind n form) (λ k. k.line ≡ n)
line-given kind n (name_value key value) = given_line (is_given kind key value) key value n
line-given kind n skipped = tt
line-given kind n (section_line name) = tt
line-given kind n unclosed = tt
line-given kind n malformed = tt

-- the lines of the keys that lines give to a section before them, and to the sections that they begin
abbrev lines_given : SectionKind → List Line → List Line → List ℕ
lines_given kind body ls = map (λ (k : Property). k.line) (filter_map (given_by kind) body) ++ property_lines (sections_of ls)

abbrev RisesAfter : ℕ → List Line → Type 0
RisesAfter low ls = (kind : SectionKind) → RisesFrom low (lines_given kind (body_of ls) ls)

abbrev lines_at : SectionKind → Line → List Line → LineForm → List ℕ
lines_at kind l ls form =
    map (λ (k : Property). k.line) (filter_map (given_by kind) (if is_section_line form then [] else l ∷ body_of ls))
    ++ property_lines (section_begun form l.number (body_of ls) ++ sections_of ls)

rises-other : (l : Line) (ls : List Line) (low : ℕ) (kind : SectionKind) → low ≤ l.number → RisesAfter (l.number + 1) ls → RisesFrom low (lines_given kind (l ∷ body_of ls) ls)
rises-other l ls low kind h more =
    rises-cons (λ (k : Property). k.line) (given_by kind l) l.number low (filter_map (given_by kind) (body_of ls)) (property_lines (sections_of ls)) (line-given kind l.number (line_form l)) h (more kind)

rises-form : (l : Line) (ls : List Line) (form : LineForm) (low : ℕ) (kind : SectionKind) → low ≤ l.number → RisesAfter (l.number + 1) ls → RisesFrom low (lines_at kind l ls form)
rises-form l ls (section_line name) low kind h more = rises-lower low (l.number + 1) _ (omega arith) (more (kind_of name))
rises-form l ls skipped low kind h more = rises-other l ls low kind h more
rises-form l ls unclosed low kind h more = rises-other l ls low kind h more
rises-form l ls malformed low kind h more = rises-other l ls low kind h more
rises-form l ls (name_value key value) low kind h more = rises-other l ls low kind h more

rises-after : (low : ℕ) (ls : List Line) → RisesFrom low (map (λ (l : Line). l.number) ls) → RisesAfter low ls
rises-after low [] rises kind = tt
rises-after low (l ∷ ls) rises kind = rises-form l ls (line_form l) low kind rises.0 (rises-after (l.number + 1) ls rises.1)

pub numbers-rise : (n : ℕ) (ls : List (List ℕ)) → RisesFrom n (map (λ (l : Line). l.number) (numbered n ls))
numbers-rise n [] = tt
numbers-rise n (l ∷ ls) = (omega arith, numbers-rise (n + 1) ls)

lines-rise : (ls : List Line) → RisesFrom 1 (map (λ (l : Line). l.number) ls) → RisesFrom 1 (property_lines (sections_of ls))
lines-rise ls numbers =
    let kind = PassedOver in
    rises-rest 1 (map (λ (k : Property). k.line) (filter_map (given_by kind) (body_of ls))) (property_lines (sections_of ls))
    (rises-after 1 ls numbers kind)

-- ---- kinds differ

-- one value more at the end
like_none-end : {X : Type 0} (alike : X → X → Bool) (x y : X) (ys : List X) → alike x y ≡ false → IsLikeNone alike x ys → IsLikeNone alike x (ys ++ y ∷ [])
like_none-end alike x y [] h none = (h, tt)
like_none-end alike x y (z ∷ zs) h none = (none.0, like_none-end alike x y zs h none.1)

differ-end : {X : Type 0} (alike : X → X → Bool) (xs : List X) (y : X) → AllByRecursion (λ x. alike x y ≡ false) xs → AllDiffer alike xs → AllDiffer alike (xs ++ y ∷ [])
differ-end alike [] y none differ = (tt, tt)
differ-end alike (x ∷ xs) y none differ = (like_none-end alike x y xs none.0 differ.0, differ-end alike xs y none.1 differ.1)

first_cases : (read here : Bool) (s : TextSection) (rest : Option TextSection) → (read && is_some (cond here (Some s) rest)) ≡ false → ((read && here) ≡ false) × ((read && is_some rest) ≡ false)
first_cases false here s rest h = (refl, refl)
first_cases true true s rest h = absurd (cc)
first_cases true false s rest h = (refl, h)

abbrev kinds : List TextSection → List SectionKind
kinds ss = map (λ (s : TextSection). s.kind) ss

kind-new : (k : SectionKind) (ss : List TextSection) → (is_read k && is_some (section_at k ss)) ≡ false → AllByRecursion (λ j. is_read_twice j k ≡ false) (kinds ss)
kind-new k [] h = tt
kind-new k (s ∷ ss) h =
    let first = first_cases (is_read k) (same_kind s.kind k) s (section_at k ss) h in
    (first.0, kind-new k ss first.1)

not_given_fault : (b : Bool) (kind : TextFaultKind) → ◌≡◌ {A = Option TextFaultKind} (if b then Some kind else None) None → b ≡ false
not_given_fault true kind h = absurd (cc)
not_given_fault false kind h = refl

kinds-last : (f : TextSection → TextSection) → ((s : TextSection) → (f s).kind ≡ s.kind) → (ss : List TextSection) → kinds (with_last f ss) ≡ kinds ss
kinds-last f same [] = refl
kinds-last f same (s ∷ []) = ap (λ k. k ∷ []) (same s)
kinds-last f same (s ∷ t ∷ ss) = ap (λ ks. s.kind ∷ ks) (kinds-last f same (t ∷ ss))

differ-other : (ss : List TextSection) (n : ℕ) (form : LineForm) → AllDiffer is_read_twice (kinds ss)
    → AllDiffer is_read_twice (kinds (with_last (λ s. with_property s (property_given s.kind n form)) ss))
differ-other ss n form differ =
    subst (AllDiffer is_read_twice) (sym (kinds-last (λ s. with_property s (property_given s.kind n form)) (λ s. kind-with_property s (property_given s.kind n form)) ss)) differ

differ-form : (ss : List TextSection) (n : ℕ) (form : LineForm) → AllDiffer is_read_twice (kinds ss) → form_fault ss form ≡ None → AllDiffer is_read_twice (kinds (with_form ss n form))
differ-form ss n (section_line name) differ good =
    subst (AllDiffer is_read_twice) (sym (map-push (λ (s : TextSection). s.kind) ss (empty_section name n)))
    (differ-end is_read_twice (kinds ss) (kind_of name) (kind-new (kind_of name) ss (not_given_fault _ DuplicateSection good)) differ)
differ-form ss n skipped differ good = differ-other ss n skipped differ
differ-form ss n unclosed differ good = differ-other ss n unclosed differ
differ-form ss n malformed differ good = differ-other ss n malformed differ
differ-form ss n (name_value key value) differ good = differ-other ss n (name_value key value) differ

none_at : (line : ℕ) (o : Option TextFaultKind) → option_map (fault_at line) o ≡ None → o ≡ None
none_at line None h = refl
none_at line (Some kind) h = absurd (cc)

-- a line that is at most 512 bytes long and has no fault by its form
pub record IsGood (ss : List TextSection) (l : Line) : Type 0 where
  pub short : length l.bytes ≤ 512
  pub form_good : form_fault ss (line_form l) ≡ None

good_line : (long : Bool) (ss : List TextSection) (l : Line) → nat_lt 512 (length l.bytes) ≡ long → ◌≡◌ {A = Option TextFaultKind} (if long then Some TooLarge else form_fault ss (line_form l)) None → IsGood ss l
good_line true ss l is h = absurd (cc)
good_line false ss l is h = record { short = grind (arith, nat_tests); form_good = h }

-- what each line without a fault keeps of the sections, all lines keep
hold-lines : (Q : List TextSection → Type 0) → ((ss : List TextSection) (l : Line) → Q ss → IsGood ss l → Q (with_form ss l.number (line_form l)))
    → (ss : List TextSection) (ls : List Line) → Q ss → fault_after ss ls ≡ None → Q (with_lines ss ls)
hold-lines Q step ss [] held good = held
hold-lines Q step ss (l ∷ ls) held good =
    let both = neither (option_map (fault_at l.number) (fault_by_form ss l)) (fault_after (with_line ss l) ls) good in
    let here = good_line (nat_lt 512 (length l.bytes)) ss l refl (none_at l.number (fault_by_form ss l) both.0) in
    hold-lines Q step (with_line ss l) ls (step ss l held here) both.1

-- ---- keys differ

all-end : {X : Type 0} (P : X → Type 0) (xs : List X) (y : X) → AllByRecursion P xs → P y → AllByRecursion P (xs ++ y ∷ [])
all-end P [] y all h = (h, tt)
all-end P (x ∷ xs) y all h = (all.0, all-end P xs y all.1 h)

-- a change of the last section
all-last : (P : TextSection → Type 0) (f : TextSection → TextSection) (ss : List TextSection) → AllByRecursion P ss → ((s : TextSection) → last_or None ss ≡ Some s → P s → P (f s)) → AllByRecursion P (with_last f ss)
all-last P f [] all change = tt
all-last P f (s ∷ []) all change = (change s refl all.0, tt)
all-last P f (s ∷ t ∷ ss) all change = (all.0, all-last P f (t ∷ ss) all.1 change)

named_cases : (here : Bool) (k : Property) (rest : Option Property) → is_some (cond here (Some k) rest) ≡ false → (here ≡ false) × (is_some rest ≡ false)
named_cases true k rest h = absurd (cc)
named_cases false k rest h = (refl, h)

none-named : (key : List ℕ) (ks : List Property) → is_some (find (λ (k : Property). same_name k.name key) ks) ≡ false → AllByRecursion (λ name. same_name name key ≡ false) (map (λ (k : Property). k.name) ks)
none-named key [] h = tt
none-named key (k ∷ ks) h =
    let first = named_cases (same_name k.name key) k (find (λ (j : Property). same_name j.name key) ks) h in
    (first.0, none-named key ks first.1)

given_cases : (given : Bool) (s : TextSection) (key value : List ℕ) (n : ℕ) → ◌≡◌ {A = Option TextFaultKind} (if given && is_some (property_at key s) then Some DuplicateKey else None) None → PropertiesDiffer s
    → PropertiesDiffer (with_property s (if given then Some (record { name = key; value = value; line = n }) else None))
given_cases true s key value n good differ =
    subst (AllDiffer same_name) (sym (map-push (λ (k : Property). k.name) s.properties (record { name = key; value = value; line = n })))
    (differ-end same_name (map (λ (k : Property). k.name) s.properties) key (none-named key s.properties (not_given_fault (is_some (property_at key s)) DuplicateKey good)) differ)
given_cases false s key value n good differ = differ

keys-form : (ss : List TextSection) (n : ℕ) (form : LineForm) → AllByRecursion PropertiesDiffer ss → form_fault ss form ≡ None → AllByRecursion PropertiesDiffer (with_form ss n form)
keys-form ss n (section_line name) differ good = all-end PropertiesDiffer ss (empty_section name n) differ tt
keys-form ss n (name_value key value) differ good =
    all-last PropertiesDiffer (λ s. with_property s (property_given s.kind n (name_value key value))) ss differ
    (λ s last own. given_cases (is_given s.kind key value) s key value n (subst (λ o. fault_within o (name_value key value) ≡ None) last good) own)
keys-form ss n skipped differ good = all-last PropertiesDiffer (λ s. with_property s (property_given s.kind n skipped)) ss differ (λ s last own. own)
keys-form ss n unclosed differ good = all-last PropertiesDiffer (λ s. with_property s (property_given s.kind n unclosed)) ss differ (λ s last own. own)
keys-form ss n malformed differ good = all-last PropertiesDiffer (λ s. with_property s (property_given s.kind n malformed)) ss differ (λ s last own. own)

-- ---- values are short

front-short : (bs : List ℕ) → length (trim_front bs) ≤ length bs
front-short [] = omega arith
front-short (b ∷ bs) = by_blank (is_blank b) (front-short bs)
  where
    by_blank : (blank : Bool) → length (trim_front bs) ≤ length bs → length (if blank then trim_front bs else b ∷ bs) ≤ length (b ∷ bs)
    by_blank true rest = omega arith
    by_blank false rest = omega arith

trim-short : (bs : List ℕ) → length (trim bs) ≤ length bs
trim-short bs =
    let front = front-short bs in
    let back = front-short (reverse (trim_front bs)) in
    omega (arith, front, back, length-reverse (trim_front (reverse (trim_front bs))), length-reverse (trim_front bs))

-- the value that a form has
abbrev HasShort : ℕ → LineForm → Type 0
HasShort n (name_value key value) = length value ≤ n
HasShort n skipped = Unit {0}
HasShort n (section_line name) = Unit {0}
HasShort n unclosed = Unit {0}
HasShort n malformed = Unit {0}

section_short : (n : ℕ) (closed : Bool) (name : List ℕ) → HasShort n (if closed then section_line name else unclosed)
section_short n true name = tt
section_short n false name = tt

key_short : (good : Bool) (text key : List ℕ) → HasShort (length text) (if good then name_value key (trim (after_first is_equals text)) else malformed)
key_short true text key =
    let value = trim-short (after_first is_equals text) in
    omega (arith, value, length-drop (position_or_len is_equals text + 1) text)
key_short false text key = tt

form_short : (comment bracket : Bool) (n : ℕ) (section key : LineForm) → HasShort n section → HasShort n key → HasShort n (if comment then skipped else if bracket then section else key)
form_short true bracket n section key h k = tt
form_short false true n section key h k = h
form_short false false n section key h k = k

form-short : (text : List ℕ) → HasShort (length text) (form_of text)
form-short [] = tt
form-short (b ∷ bs) =
    let text = b ∷ bs in
    let key = trim (before_first is_equals text) in
    form_short (b == 59) (b == 91) (length text) (section_form bs) (property_form text key)
    (section_short (length text) (list_any is_bracket bs) (trim (before_first is_bracket bs)))
    (key_short (list_any is_equals text && not (is_empty key)) text key)

shorter : (n : ℕ) (form : LineForm) → HasShort n form → n ≤ 512 → HasShort 512 form
shorter n (name_value key value) h few = omega arith
shorter n skipped h few = tt
shorter n (section_line name) h few = tt
shorter n unclosed h few = tt
shorter n malformed h few = tt

given_short : (given : Bool) (s : TextSection) (key value : List ℕ) (n : ℕ) → length value ≤ 512 → ValuesShort s
    → ValuesShort (with_property s (if given then Some (record { name = key; value = value; line = n }) else None))
given_short true s key value n h short = all-end (λ k. length k.value ≤ 512) s.properties (record { name = key; value = value; line = n }) short h
given_short false s key value n h short = short

values-form : (ss : List TextSection) (n : ℕ) (form : LineForm) → AllByRecursion ValuesShort ss → HasShort 512 form → AllByRecursion ValuesShort (with_form ss n form)
values-form ss n (section_line name) all short = all-end ValuesShort ss (empty_section name n) all tt
values-form ss n (name_value key value) all short =
    all-last ValuesShort (λ s. with_property s (property_given s.kind n (name_value key value))) ss all
    (λ s last own. given_short (is_given s.kind key value) s key value n short own)
values-form ss n skipped all short = all-last ValuesShort (λ s. with_property s (property_given s.kind n skipped)) ss all (λ s last own. own)
values-form ss n unclosed all short = all-last ValuesShort (λ s. with_property s (property_given s.kind n unclosed)) ss all (λ s last own. own)
values-form ss n malformed all short = all-last ValuesShort (λ s. with_property s (property_given s.kind n malformed)) ss all (λ s last own. own)

values-line : (ss : List TextSection) (l : Line) → AllByRecursion ValuesShort ss → IsGood ss l → AllByRecursion ValuesShort (with_form ss l.number (line_form l))
values-line ss l all good =
    let few = trim-short l.bytes in
    let short = good.short in
    values-form ss l.number (line_form l) all (shorter (length (trim l.bytes)) (line_form l) (form-short (trim l.bytes)) (omega arith))

-- ---- all of it

pub parsed-lines : (ls : List Line) → RisesFrom 1 (map (λ (l : Line). l.number) ls) → first_line_fault [] ls ≡ None → IsParsed (sections_of ls)
parsed-lines ls numbers good =
    let none = sym (first_line_fault-after [] ls) ∙ good in
    let whole = sections_of-with_lines ls in
    let keys = subst (AllByRecursion PropertiesDiffer) whole (hold-lines (AllByRecursion PropertiesDiffer) (λ ss l differ good. keys-form ss l.number (line_form l) differ good.form_good) [] ls tt none) in
    record {
      kinds_differ = subst (λ (ss : List TextSection). AllDiffer is_read_twice (kinds ss)) whole (hold-lines (λ ss. AllDiffer is_read_twice (kinds ss)) (λ ss l differ good. differ-form ss l.number (line_form l) differ good.form_good) [] ls tt none);
      properties_differ = keys;
      values_short = subst (AllByRecursion ValuesShort) whole (hold-lines (AllByRecursion ValuesShort) values-line [] ls tt none);
      lines_rise = lines-rise ls numbers;
    }

pub parsed : (text : List ℕ) → first_line_fault [] (lines_of text) ≡ None → IsParsed (sections_of (lines_of text))
parsed text good = parsed-lines (lines_of text) (numbers-rise 1 (lines (without_mark text))) good

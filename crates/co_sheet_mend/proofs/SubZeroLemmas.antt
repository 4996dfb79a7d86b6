-- The section of sub-index 0 that comes before the section of an object, and what its lines are to an entry.
use Rattle.std.proofs.Common.{◌≡◌, ℕ, ◌+◌, ◌<◌, ◌≤◌, Bool, true, false, cond, not, ◌&&◌, ◌||◌, ◌==◌, List, [], ◌∷◌, ◌++◌, length, take, drop, reverse, map, refl, sym, ap, ◌∙◌, eqb-true, arith, codes}
use Rattle.std.specs.Prelude.{nat_le, take_while}
use Rattle.std.specs.Char.{is_digit}
use Rattle.std.specs.List.{before_first, list_all, list_any, prefix_len}
use Rattle.std.specs.Str.{str_to_ascii_lowercase}
use Rattle.std.specs.Str.Lines.{lines}
use Rattle.std.proofs.lemmas.Bool.Decides.{nat_tests}
use Rattle.std.proofs.lemmas.List.{append_assoc, length-append, length-map, reverse-append, reverse-reverse}
use Rattle.std.proofs.lemmas.List.Folds.{list_any-append}
use Rattle.std.proofs.lemmas.Slice.Eq.{bytes_eq-Decides}
use Rattle.co_text.specs.Texts.{is_blank}
use Rattle.co_text.proofs.Tests.{by_test}
use Rattle.co_value.specs.declared.key.Key.{Key}
use Rattle.co_sheet_text.specs.declared.section_kind.SectionKind.{SectionKind}
use Rattle.co_sheet_text.specs.declared.section_kind.SectionKind.TheVariants.{MandatoryObjects, OptionalObjects, ManufacturerObjects, DummyUsage, DeviceInfo, DeviceCommissioning, Object, SubIndex, PassedOver}
use Rattle.co_sheet_text.specs.Names.{is_commissioning, is_hexadecimal_digit, is_hexadecimal_up_to, kind_of, number_in, same_kind, sub_index_kind}
use Rattle.co_sheet_text.specs.Sections.{LineForm, section_line, unclosed, form_of, is_bracket}
use Rattle.co_sheet_text.specs.Text.{is_empty, same_name, trim, trim_front}
use Rattle.co_sheet_mend.specs.Repairs.{sub0_text}
use Rattle.co_sheet_mend.proofs.LookLemmas.{begins, ends, other, is_long, look, look_form}
use Rattle.co_sheet_mend.proofs.NameLemmas.{clash}
use Rattle.co_sheet_mend.proofs.TextLineLemmas.{all-append, both, both-are, is_inner, is_line, lines-last}

-- ---- hexadecimal digits

hex-apart : (c k : ℕ) → is_digit c 16 ≡ true → is_digit k 16 ≡ false → (c == k) ≡ false
hex-apart c k h fails = by_test (c == k) (λ e. clash (is_digit c 16) h (ap (λ x. is_digit x 16) (eqb-true c k e) ∙ fails)) (λ f. f)

abbrev is_name_byte : ℕ → Bool
is_name_byte b = not (is_bracket b)

hex-line : (cs : List ℕ) → list_all is_hexadecimal_digit cs ≡ true → is_line cs ≡ true
hex-line [] h = refl
hex-line (c ∷ cs) h =
    let of = both (is_hexadecimal_digit c) (list_all is_hexadecimal_digit cs) h in
    both-are (is_inner c) (is_line cs) (ap not (hex-apart c 10 of.0 refl)) (hex-line cs of.1)

hex-name : (cs : List ℕ) → list_all is_hexadecimal_digit cs ≡ true → list_all is_name_byte cs ≡ true
hex-name [] h = refl
hex-name (c ∷ cs) h =
    let of = both (is_hexadecimal_digit c) (list_all is_hexadecimal_digit cs) h in
    both-are (is_name_byte c) (list_all is_name_byte cs) (ap not (hex-apart c 93 of.0 refl)) (hex-name cs of.1)

hex-blank : (c : ℕ) → is_digit c 16 ≡ true → is_blank c ≡ false
hex-blank c h = ap (λ b. b || (c == 9)) (hex-apart c 32 h refl) ∙ hex-apart c 9 h refl

-- ---- the first bytes of a list

module _ (p : ℕ → Bool) (y : ℕ) (rest : List ℕ) (stops : p y ≡ false) where
  prefix-all : (xs : List ℕ) → list_all p xs ≡ true → prefix_len p (xs ++ y ∷ rest) ≡ length xs
  prefix-all [] h = ap (λ b. cond b (1 + prefix_len p rest) 0) stops
  prefix-all (x ∷ xs) h =
      let of = both (p x) (list_all p xs) h in
      let more = prefix-all xs of.1 in
      let here : prefix_len p (x ∷ xs ++ y ∷ rest) ≡ 1 + prefix_len p (xs ++ y ∷ rest) = ap (λ b. cond b (1 + prefix_len p (xs ++ y ∷ rest)) 0) of.0 in
      omega (arith, here, more)

pub take-front : (xs ys : List ℕ) → take (length xs) (xs ++ ys) ≡ xs
take-front [] ys = refl
take-front (x ∷ xs) ys = ap (λ (l : List ℕ). x ∷ l) (take-front xs ys)

drop-front : (xs ys : List ℕ) → drop (length xs) (xs ++ ys) ≡ ys
drop-front [] ys = refl
drop-front (x ∷ xs) ys = drop-front xs ys

-- ---- what the section is about

unlike : (a b : List ℕ) → (length a ≡ length b → ⊥) → same_name a b ≡ false
unlike a b differ =
    by_test (same_name a b)
    (λ is.
    let alike = (bytes_eq-Decides (str_to_ascii_lowercase a) (str_to_ascii_lowercase b)).0 is in
    absurd (differ (sym (length-map a _) ∙ ap length alike ∙ length-map b _)))
    (λ fails. fails)

abbrev chosen : Bool → Bool → Bool → Bool → Bool → Bool → Bool → ℕ → SectionKind → SectionKind
chosen a b c d e f g index rest =
    cond a MandatoryObjects (cond b OptionalObjects (cond c ManufacturerObjects (cond d DummyUsage (cond e DeviceInfo (cond f DeviceCommissioning (cond g (Object index) rest))))))

chosen-last : (a b c d e f g : Bool) (index : ℕ) (rest : SectionKind) → a ≡ false → b ≡ false → c ≡ false → d ≡ false → e ≡ false → f ≡ false → g ≡ false → chosen a b c d e f g index rest ≡ rest
chosen-last a b c d e f g index rest ha hb hc hd he hf hg = rw (ha, hb, hc, hd, he, hf, hg) refl

same-index : (i j : ℕ) → ◌≡◌ {A = SectionKind} (Object i) (Object j) → i ≡ j
same-index i j h = cc

chosen-object : (a b c d e f g : Bool) (index i : ℕ) (rest : SectionKind) → (rest ≡ Object i → ⊥) → chosen a b c d e f g index rest ≡ Object i → (g ≡ true) × (index ≡ i)
chosen-object true b c d e f g index i rest none h = absurd (cc)
chosen-object false true c d e f g index i rest none h = absurd (cc)
chosen-object false false true d e f g index i rest none h = absurd (cc)
chosen-object false false false true e f g index i rest none h = absurd (cc)
chosen-object false false false false true f g index i rest none h = absurd (cc)
chosen-object false false false false false true g index i rest none h = absurd (cc)
chosen-object false false false false false false true index i rest none h = (refl, same-index index i h)
chosen-object false false false false false false false index i rest none h = absurd (none h)

never-object : (b : Bool) (key : Key) (i : ℕ) → ◌≡◌ {A = SectionKind} (cond b (SubIndex key) PassedOver) (Object i) → ⊥
never-object true key i h = absurd (cc)
never-object false key i h = absurd (cc)

-- an object's name is its index, of one to four digits
pub object-name : (name : List ℕ) (i : ℕ) → kind_of name ≡ Object i → (is_hexadecimal_up_to 4 name ≡ true) × (number_in 16 name ≡ i)
object-name name i h =
    chosen-object (same_name name (codes "MandatoryObjects")) (same_name name (codes "OptionalObjects")) (same_name name (codes "ManufacturerObjects")) (same_name name (codes "DummyUsage"))
    (same_name name (codes "DeviceInfo")) (is_commissioning name) (is_hexadecimal_up_to 4 name) (number_in 16 name) i
    (sub_index_kind (take_while is_hexadecimal_digit name) (drop (prefix_len is_hexadecimal_digit name) name))
    (never-object _ _ i) h

record IsHex (name : List ℕ) : Type 0 where
  some : 0 < length name
  few : length name ≤ 4
  digits : list_all is_hexadecimal_digit name ≡ true

hex-parts : (a b c : Bool) → (not a && b && c) ≡ true → (a ≡ false) × (b ≡ true) × (c ≡ true)
hex-parts true b c k = absurd (cc)
hex-parts false true true k = (refl, refl, refl)
hex-parts false true false k = absurd (cc)
hex-parts false false c k = absurd (cc)

hex : (name : List ℕ) → is_hexadecimal_up_to 4 name ≡ true → IsHex name
hex name h =
    let parts = hex-parts (is_empty name) (nat_le (length name) 4) (list_all is_hexadecimal_digit name) h in
    let some = parts.0 in
    let few = parts.1 in
    record { some = grind (arith, nat_tests, some); few = grind (arith, nat_tests, few); digits = parts.2 }

abbrev pub sub0_kind : List ℕ → SectionKind
sub0_kind name = SubIndex (record { index = number_in 16 name; sub = 0 })

pub sub0-is : (name : List ℕ) → is_hexadecimal_up_to 4 name ≡ true → kind_of (name ++ codes "sub0") ≡ sub0_kind name
sub0-is name h =
    let is = hex name h in
    let some = is.some in
    let few = is.few in
    let whole = name ++ codes "sub0" in
    let long : length whole ≡ length name + 4 = length-append name (codes "sub0") in
    let apart : (of : List ℕ) → 8 < length of → same_name whole of ≡ false = λ of many. unlike whole of (λ same. absurd (omega (arith, long, few, many, same))) in
    let no_object : is_hexadecimal_up_to 4 whole ≡ false = too-long (not (is_empty whole)) (nat_le (length whole) 4) (list_all is_hexadecimal_digit whole) (grind (arith, nat_tests, long, some)) in
    let front : prefix_len is_hexadecimal_digit whole ≡ length name = prefix-all is_hexadecimal_digit 115 (codes "ub0") refl name is.digits in
    chosen-last (same_name whole (codes "MandatoryObjects")) (same_name whole (codes "OptionalObjects")) (same_name whole (codes "ManufacturerObjects")) (same_name whole (codes "DummyUsage"))
    (same_name whole (codes "DeviceInfo")) (is_commissioning whole) (is_hexadecimal_up_to 4 whole) (number_in 16 whole) (sub_index_kind (take_while is_hexadecimal_digit whole) (drop (prefix_len is_hexadecimal_digit whole) whole))
    (apart (codes "MandatoryObjects") (omega arith)) (apart (codes "OptionalObjects") (omega arith)) (apart (codes "ManufacturerObjects") (omega arith)) (apart (codes "DummyUsage") (omega arith)) (apart (codes "DeviceInfo") (omega arith))
    (neither (same_name whole (codes "DeviceComissioning")) (same_name whole (codes "DeviceCommissioning")) (apart (codes "DeviceComissioning") (omega arith)) (apart (codes "DeviceCommissioning") (omega arith))) no_object
    ∙ ap (λ (k : ℕ). sub_index_kind (take k whole) (drop k whole)) front
    ∙ ap (λ (l : List ℕ). sub_index_kind l (drop (length name) whole)) (take-front name (codes "sub0"))
    ∙ ap (λ (l : List ℕ). sub_index_kind name l) (drop-front name (codes "sub0"))
    ∙ ap (λ (b : Bool). cond (b && same_name (take 3 (codes "sub0")) (codes "sub") && is_hexadecimal_up_to 2 (drop 3 (codes "sub0"))) (sub0_kind name) PassedOver) h
  where
    neither : (a b : Bool) → a ≡ false → b ≡ false → (a || b) ≡ false
    neither false false p q = refl
    neither true b p q = absurd (cc)
    neither false true p q = absurd (cc)

    too-long : (a b c : Bool) → b ≡ false → (a && b && c) ≡ false
    too-long true true c p = absurd (cc)
    too-long true false c p = refl
    too-long false b c p = refl

-- ---- its lines

-- nothing is trimmed where no blank is at an end
whole-front : (xs : List ℕ) (d : ℕ) → is_blank d ≡ false → trim_front (reverse (xs ++ d ∷ [])) ≡ d ∷ reverse xs
whole-front xs d h = ap trim_front (reverse-append xs (d ∷ [])) ∙ ap (λ b. cond b (trim_front (reverse xs)) (d ∷ reverse xs)) h

trim-whole : (c : ℕ) (zs : List ℕ) (d : ℕ) → is_blank c ≡ false → is_blank d ≡ false → trim ((c ∷ zs) ++ d ∷ []) ≡ (c ∷ zs) ++ d ∷ []
trim-whole c zs d h k =
    ap (λ b. reverse (trim_front (reverse (cond b (trim_front (zs ++ d ∷ [])) ((c ∷ zs) ++ d ∷ []))))) h
    ∙ ap reverse (whole-front (c ∷ zs) d k)
    ∙ reverse-append (d ∷ []) (reverse (c ∷ zs))
    ∙ ap (λ (l : List ℕ). l ++ d ∷ []) (reverse-reverse (c ∷ zs))

or-true : (b : Bool) → (b || true) ≡ true
or-true true = refl
or-true false = refl

module _ (name : List ℕ) (up_to_4 : is_hexadecimal_up_to 4 name ≡ true) where
  is : IsHex name
  is = hex name up_to_4

  abbrev section_name : List ℕ
  section_name = name ++ codes "sub0"

  abbrev section_bytes : List ℕ
  section_bytes = (91 ∷ section_name) ++ 93 ∷ []

  name-bytes : list_all is_name_byte section_name ≡ true
  name-bytes = all-append is_name_byte name (codes "sub0") (hex-name name is.digits) refl

  name-trimmed : trim section_name ≡ section_name
  name-trimmed = by_first name is.some is.digits
    where
      by_first : (of : List ℕ) → 0 < length of → list_all is_hexadecimal_digit of ≡ true → trim (of ++ codes "sub0") ≡ of ++ codes "sub0"
      by_first [] some digits = absurd (omega (arith, some))
      by_first (c ∷ cs) some digits =
          let cut : c ∷ cs ++ codes "sub0" ≡ (c ∷ (cs ++ codes "sub")) ++ 48 ∷ [] = ap (λ (l : List ℕ). c ∷ l) (sym (append_assoc cs (codes "sub") (48 ∷ []))) in
          ap trim cut ∙ trim-whole c (cs ++ codes "sub") 48 (hex-blank c (both (is_hexadecimal_digit c) (list_all is_hexadecimal_digit cs) digits).0) refl ∙ sym cut

  section-cut : before_first is_bracket (section_name ++ 93 ∷ []) ≡ section_name
  section-cut =
      ap (λ (k : ℕ). take k (section_name ++ 93 ∷ [])) (prefix-all is_name_byte 93 [] refl section_name name-bytes)
      ∙ take-front section_name (93 ∷ [])

  section-form : form_of (trim section_bytes) ≡ section_line section_name
  section-form =
      ap form_of (trim-whole 91 section_name 93 refl refl)
      ∙ ap (λ b. cond b (section_line (trim (before_first is_bracket (section_name ++ 93 ∷ [])))) unclosed) (list_any-append is_bracket section_name (93 ∷ []) ∙ or-true (list_any is_bracket section_name))
      ∙ ap (λ (l : List ℕ). section_line (trim l)) section-cut
      ∙ ap (λ (l : List ℕ). section_line l) name-trimmed

  section-short : is_long section_bytes ≡ false
  section-short =
      let few = is.few in
      let long : length section_bytes ≡ length section_name + 2 = omega (arith, length-append (91 ∷ section_name) (93 ∷ [])) in
      let of_name : length section_name ≡ length name + 4 = length-append name (codes "sub0") in
      grind (arith, nat_tests, long, of_name, few)

  pub sub0-look : (entry : SectionKind) → look entry section_bytes ≡ cond (same_kind (sub0_kind name) entry) begins ends
  sub0-look entry =
      ap (λ (form : LineForm). look_form entry (is_long section_bytes) form) section-form
      ∙ ap (λ b. cond (not b && same_kind (kind_of section_name) entry) begins ends) section-short
      ∙ ap (λ (kind : SectionKind). cond (same_kind kind entry) begins ends) (sub0-is name up_to_4)

  sub0-bytes : (rest : List ℕ) → sub0_text name ++ rest ≡ section_bytes ++ 10 ∷ ((codes "DataType=" ++ 53 ∷ []) ++ 10 ∷ ((codes "AccessType=r" ++ 111 ∷ []) ++ 10 ∷ rest))
  unfolding sub0_text
  sub0-bytes rest =
      let after = 10 ∷ ((codes "DataType=" ++ 53 ∷ []) ++ 10 ∷ ((codes "AccessType=r" ++ 111 ∷ []) ++ 10 ∷ rest)) in
      ap (λ (l : List ℕ). 91 ∷ l)
      (append_assoc name (codes "sub0]\nDataType=5\nAccessType=ro\n") rest
      ∙ sym (append_assoc section_name (93 ∷ []) after ∙ append_assoc name (codes "sub0") (93 ∷ after)))

  -- a section line, and two lines of other properties
  pub sub0-lines : (entry : SectionKind) (rest : List ℕ) → map (look entry) (lines (sub0_text name ++ rest)) ≡ look entry section_bytes ∷ other ∷ other ∷ map (look entry) (lines rest)
  sub0-lines entry rest =
      let access = (codes "AccessType=r" ++ 111 ∷ []) ++ 10 ∷ rest in
      let type_and = (codes "DataType=" ++ 53 ∷ []) ++ 10 ∷ access in
      ap (λ (l : List ℕ). map (look entry) (lines l)) (sub0-bytes rest)
      ∙ ap (map (look entry)) (lines-last (91 ∷ section_name) 93 type_and (all-append is_inner (91 ∷ name) (codes "sub0") (both-are true (is_line name) refl (hex-line name is.digits)) refl) refl refl)
      ∙ ap (λ (ls : List (List ℕ)). look entry section_bytes ∷ map (look entry) ls) (lines-last (codes "DataType=") 53 access refl refl refl)
      ∙ ap (λ (ls : List (List ℕ)). look entry section_bytes ∷ other ∷ map (look entry) ls) (lines-last (codes "AccessType=r") 111 rest refl refl refl)

-- What comes in place of a line, and what the lines of it are to an entry.
use Rattle.std.proofs.Common.{◌≡◌, ℕ, zero, suc, ◌+◌, ◌/◌, ◌%◌, ◌<◌, Bool, true, false, cond, ◌||◌, ◌==◌, List, [], ◌∷◌, ◌++◌, length, take, drop, reverse, map, Option, Some, None, refl, sym, ap, ◌∙◌, arith, codes, decimal, mod-lt}
use Rattle.std.specs.Fmt.{digits, digits_onto, digit_glyph}
use Rattle.std.specs.Prelude.{filter_map, option_and_then}
use Rattle.std.specs.List.{after_first, before_first, cons_option, list_all, list_any}
use Rattle.std.specs.Str.Lines.{lines, strip_carriage_return}
use Rattle.std.proofs.lemmas.List.{append_assoc, reverse-append}
use Rattle.co_text.specs.Texts.{is_blank}
use Rattle.co_value.specs.declared.key.Key.{Key}
use Rattle.co_sheet_text.specs.declared.section_kind.SectionKind.{SectionKind}
use Rattle.co_sheet_text.specs.Sections.{is_equals}
use Rattle.co_sheet_text.specs.Text.{Line, is_empty, trim, trim_front}
use Rattle.co_sheet_changes.specs.Groups.{Given, before_sections, body_count, property_at_text, property_in, property_of, with_value}
use Rattle.co_sheet_changes.specs.Pieces.{assigned}
use Rattle.co_sheet_mend.specs.Repairs.{counted_text, ended, gives_any, lacking, lacking_type, list_text, numbered_from, objects_named, place_value, type_code, typed}
use Rattle.co_sheet_mend.proofs.LookLemmas.{Look, other, named, named-other, is_plain, look, stripped-other}
use Rattle.co_sheet_mend.proofs.TextLineLemmas.{all-append, both, both-are, is_inner, is_line, lines-ended, lines-front}

-- ---- numbers in decimal digits

glyph : (n : ℕ) → (is_plain (digit_glyph false (n % 10)) ≡ true) × (is_inner (digit_glyph false (n % 10)) ≡ true)
glyph n = by_digit (n % 10) (mod-lt n (omega arith))
  where
    by_digit : (d : ℕ) → d < 10 → (is_plain (digit_glyph false d) ≡ true) × (is_inner (digit_glyph false d) ≡ true)
    by_digit zero h = (refl, refl)
    by_digit (suc zero) h = (refl, refl)
    by_digit (suc (suc zero)) h = (refl, refl)
    by_digit (suc (suc (suc zero))) h = (refl, refl)
    by_digit (suc (suc (suc (suc zero)))) h = (refl, refl)
    by_digit (suc (suc (suc (suc (suc zero))))) h = (refl, refl)
    by_digit (suc (suc (suc (suc (suc (suc zero)))))) h = (refl, refl)
    by_digit (suc (suc (suc (suc (suc (suc (suc zero))))))) h = (refl, refl)
    by_digit (suc (suc (suc (suc (suc (suc (suc (suc zero)))))))) h = (refl, refl)
    by_digit (suc (suc (suc (suc (suc (suc (suc (suc (suc zero))))))))) h = (refl, refl)
    by_digit (suc (suc (suc (suc (suc (suc (suc (suc (suc (suc d)))))))))) h = absurd (omega arith)

-- a line that begins with a byte that no blank, section line or ParameterName begins with
abbrev pub begins_plain : List ℕ → Bool
begins_plain [] = false
begins_plain (b ∷ bs) = is_plain b

abbrev pub IsFine : List ℕ → Type 0
IsFine bytes = (begins_plain bytes ≡ true) × (is_line bytes ≡ true)

fine-cons : (b : ℕ) (bs : List ℕ) → is_plain b ≡ true → is_inner b ≡ true → is_line bs ≡ true → IsFine (b ∷ bs)
fine-cons b bs h k l = (h, both-are (is_inner b) (is_line bs) k l)

pick : (c : Bool) (xs ys : List ℕ) → IsFine xs → IsFine ys → IsFine (cond c xs ys)
pick true xs ys h k = h
pick false xs ys h k = k

digits-fine : (k n : ℕ) (acc : List ℕ) → IsFine acc → IsFine (digits_onto k 10 false n acc)
digits-fine zero n acc h = h
digits-fine (suc k) n acc h =
    let g = glyph n in
    let more = fine-cons (digit_glyph false (n % 10)) acc g.0 g.1 h.1 in
    pick (n / 10 == 0) (digit_glyph false (n % 10) ∷ acc) (digits_onto k 10 false (n / 10) (digit_glyph false (n % 10) ∷ acc)) more (digits-fine k (n / 10) (digit_glyph false (n % 10) ∷ acc) more)

pub decimal-fine : (n : ℕ) → IsFine (decimal n)
unfolding digits
decimal-fine n =
    let g = glyph n in
    let first = fine-cons (digit_glyph false (n % 10)) [] g.0 g.1 refl in
    pick (n / 10 == 0) (digit_glyph false (n % 10) ∷ []) (digits_onto 63 10 false (n / 10) (digit_glyph false (n % 10) ∷ [])) first (digits-fine 63 (n / 10) (digit_glyph false (n % 10) ∷ []) first)

-- ---- a part of a line has no line feed

all-drop : (n : ℕ) (xs : List ℕ) → is_line xs ≡ true → is_line (drop n xs) ≡ true
all-drop zero xs h = h
all-drop (suc n) [] h = refl
all-drop (suc n) (x ∷ xs) h = all-drop n xs (both (is_inner x) (is_line xs) h).1

all-reverse : (xs : List ℕ) → is_line xs ≡ true → is_line (reverse xs) ≡ true
all-reverse [] h = refl
all-reverse (x ∷ xs) h =
    let of = both (is_inner x) (is_line xs) h in
    ap is_line (reverse-append (x ∷ []) xs) ∙ all-append is_inner (reverse xs) (x ∷ []) (all-reverse xs of.1) (both-are (is_inner x) true of.0 refl)

all-front : (xs : List ℕ) → is_line xs ≡ true → is_line (trim_front xs) ≡ true
all-front [] h = refl
all-front (x ∷ xs) h = by_blank (is_blank x) (all-front xs (both (is_inner x) (is_line xs) h).1)
  where
    by_blank : (b : Bool) → is_line (trim_front xs) ≡ true → is_line (cond b (trim_front xs) (x ∷ xs)) ≡ true
    by_blank true more = more
    by_blank false more = h

pub trim-line : (xs : List ℕ) → is_line xs ≡ true → is_line (trim xs) ≡ true
trim-line xs h = all-reverse (trim_front (reverse (trim_front xs))) (all-front (reverse (trim_front xs)) (all-reverse (trim_front xs) (all-front xs h)))

same-given : (g h : Given) → ◌≡◌ {A = Option Given} (Some g) (Some h) → g.value ≡ h.value
same-given g h e = cc

with-cases : (b : Bool) (name value : List ℕ) (g : Given) → cond b None (Some (record { name = name; value = value })) ≡ Some g → value ≡ g.value
with-cases true name value g h = absurd (cc)
with-cases false name value g h = let made : Given = record { name = name; value = value } in same-given made g h

value-cases : (b : Bool) (text name : List ℕ) (g : Given) → cond b (with_value name (trim (after_first is_equals text))) None ≡ Some g → trim (after_first is_equals text) ≡ g.value
value-cases true text name g h = with-cases (is_empty name || is_empty (trim (after_first is_equals text))) name (trim (after_first is_equals text)) g h
value-cases false text name g h = absurd (cc)

given-cases : (b : Bool) (text name : List ℕ) (g : Given) → cond b None (property_of text name) ≡ Some g → trim (after_first is_equals text) ≡ g.value
given-cases true text name g h = absurd (cc)
given-cases false text name g h = value-cases (list_any is_equals text) text name g h

given-line : (text : List ℕ) (g : Given) → is_line text ≡ true → property_at_text text ≡ Some g → is_line g.value ≡ true
given-line [] g inner h = absurd (cc)
given-line (b ∷ bs) g inner h =
    ap is_line (sym (given-cases ((b == 59) || (b == 91)) (b ∷ bs) (trim (before_first is_equals (b ∷ bs))) g h))
    ∙ trim-line (after_first is_equals (b ∷ bs)) (all-drop _ (b ∷ bs) inner)

-- ---- the objects that lines name

abbrev pub are_lines_of : List Line → Bool
are_lines_of ls = list_all (λ l. is_line l.bytes) ls

abbrev pub are_values : List (List ℕ) → Bool
are_values values = list_all is_line values

place-cases : (o : Option Given) (test : Given → Bool) (values : List (List ℕ)) → ((g : Given) → o ≡ Some g → is_line g.value ≡ true) → are_values values ≡ true
    → are_values (cons_option (option_and_then (λ (g : Given). cond (test g) (Some g.value) None) o) values) ≡ true
place-cases None test values each h = h
place-cases (Some g) test values each h = by_test (test g)
  where
    by_test : (b : Bool) → are_values (cons_option (cond b (Some g.value) None) values) ≡ true
    by_test true = both-are (is_line g.value) (are_values values) (each g refl) h
    by_test false = h

places : (ls : List Line) → are_lines_of ls ≡ true → are_values (filter_map place_value ls) ≡ true
places [] h = refl
places (l ∷ ls) h =
    let of = both (is_line l.bytes) (are_lines_of ls) h in
    place-cases (property_in l) _ (filter_map place_value ls) (λ g is. given-line (trim l.bytes) g (trim-line l.bytes of.0) is) (places ls of.1)

take-lines : (n : ℕ) (ls : List Line) → are_lines_of ls ≡ true → are_lines_of (take n ls) ≡ true
take-lines zero ls h = refl
take-lines (suc n) [] h = refl
take-lines (suc n) (l ∷ ls) h = let of = both (is_line l.bytes) (are_lines_of ls) h in both-are (is_line l.bytes) _ of.0 (take-lines n ls of.1)

pub named-values : (ls : List Line) → are_lines_of ls ≡ true → are_values (objects_named ls) ≡ true
named-values ls h = places (before_sections ls) (take-lines (body_count ls) ls h)

-- ---- lines that are none of the three to an entry

module _ (entry : SectionKind) where
  abbrev pub looks : List ℕ → List Look
  looks text = map (look entry) (lines text)

  pub looks-ended : (bytes rest : List ℕ) → is_line bytes ≡ true → looks (ended bytes ++ rest) ≡ look entry bytes ∷ looks rest
  looks-ended bytes rest h = ap (map (look entry)) (lines-ended bytes rest h)

  -- lines after which an entry is where it was before them
  abbrev pub Passes : List ℕ → Type 0
  Passes piece = (inside : Bool) (rest : List ℕ) → named inside (looks (piece ++ rest)) ≡ named inside (looks rest)

  pub passes-none : Passes []
  passes-none inside rest = refl

  pub passes-both : (one two : List ℕ) → Passes one → Passes two → Passes (one ++ two)
  passes-both one two p q inside rest = ap (λ (t : List ℕ). named inside (looks t)) (append_assoc one two rest) ∙ p inside (two ++ rest) ∙ q inside rest

  pub passes-ended : (bytes : List ℕ) → is_line bytes ≡ true → look entry bytes ≡ other → Passes (ended bytes)
  passes-ended bytes h is inside rest = ap (named inside) (looks-ended bytes rest h) ∙ named-other inside (look entry bytes) (looks rest) is

  pub passes-empty : Passes (ended [])
  passes-empty = passes-ended [] refl refl

  plain-line : (name value : List ℕ) → begins_plain name ≡ true → look entry (strip_carriage_return (name ++ 61 ∷ value)) ≡ other
  plain-line [] value h = absurd (cc)
  plain-line (b ∷ []) value h = stripped-other entry b 61 value h
  plain-line (b ∷ c ∷ cs) value h = stripped-other entry b c (cs ++ 61 ∷ value) h

  pub passes-assigned : (name value : List ℕ) → IsFine name → is_line value ≡ true → Passes (assigned name value)
  unfolding assigned
  passes-assigned name value fine h inside rest =
      let line = name ++ 61 ∷ value in
      let cut : (name ++ 61 ∷ [] ++ value ++ 10 ∷ []) ++ rest ≡ line ++ 10 ∷ rest =
      append_assoc (name ++ 61 ∷ [] ++ value) (10 ∷ []) rest ∙ ap (λ (t : List ℕ). t ++ 10 ∷ rest) (append_assoc name (61 ∷ []) value) in
      ap (λ (t : List ℕ). named inside (looks t)) cut
      ∙ ap (λ (ls : List (List ℕ)). named inside (map (look entry) ls)) (lines-front line rest (all-append is_inner name (61 ∷ value) fine.1 (both-are true (is_line value) refl h)))
      ∙ named-other inside (look entry (strip_carriage_return line)) (looks rest) (plain-line name value fine.0)

  pub passes-typed : (key : Option Key) → Passes (typed key)
  passes-typed key = passes-assigned (codes "DataType") (decimal (type_code key)) (refl, refl) (decimal-fine (type_code key)).1

  pub passes-access : Passes (assigned (codes "AccessType") (codes "rw"))
  passes-access = passes-assigned (codes "AccessType") (codes "rw") (refl, refl) refl

  pub passes-variable : Passes (assigned (codes "ObjectType") (codes "7"))
  passes-variable = passes-assigned (codes "ObjectType") (codes "7") (refl, refl) refl

  if-lacking : (b : Bool) (piece : List ℕ) → Passes piece → Passes (cond b [] piece)
  if-lacking true piece p = passes-none
  if-lacking false piece p = p

  pub passes-lacking-type : (key : Option Key) (ls : List Line) → Passes (lacking_type key ls)
  passes-lacking-type key ls = if-lacking (gives_any (codes "DataType") ls) (typed key) (passes-typed key)

  pub passes-lacking : (ls : List Line) → Passes (lacking (codes "AccessType") (codes "rw") ls)
  passes-lacking ls = if-lacking (gives_any (codes "AccessType") ls) (assigned (codes "AccessType") (codes "rw")) passes-access

  passes-numbered : (n : ℕ) (values : List (List ℕ)) → are_values values ≡ true → Passes (numbered_from n values)
  passes-numbered n [] h = passes-none
  passes-numbered n (value ∷ values) h =
      let of = both (is_line value) (are_values values) h in
      passes-both (assigned (decimal n) value) (numbered_from (suc n) values) (passes-assigned (decimal n) value (decimal-fine n) of.0) (passes-numbered (suc n) values of.1)

  pub passes-counted : (values : List (List ℕ)) → are_values values ≡ true → Passes (counted_text values)
  unfolding counted_text
  passes-counted values h =
      passes-both (assigned (codes "SupportedObjects") (decimal (length values))) (numbered_from 1 values)
      (passes-assigned (codes "SupportedObjects") (decimal (length values)) (refl, refl) (decimal-fine (length values)).1) (passes-numbered 1 values h)

  pub passes-list : (ls : List Line) → are_lines_of ls ≡ true → Passes (list_text ls)
  passes-list ls h = passes-counted (objects_named ls) (named-values ls h)

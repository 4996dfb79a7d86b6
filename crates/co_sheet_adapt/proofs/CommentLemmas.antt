-- A comment before a text: the same sections, one line later.
use Rattle.std.proofs.Common.{◌≡◌, ℕ, suc, ◌+◌, ◌-◌, ◌<◌, Bool, true, false, ◌||◌, cond, true≢false, List, [], ◌∷◌, ◌++◌, length, reverse, take, drop, map, refl, sym, ◌∙◌, ap, arith}
use Rattle.std.specs.Prelude.{Option, Some, None, is_none, flat_map, option_map, filter_map, ◌&&◌, ◌==◌, nat_lt, if◌then◌else◌}
use Rattle.std.specs.List.{list_any, slice_split, onto_first, cons_option}
use Rattle.std.specs.Str.Lines.{lines, lines_of_parts, strip_carriage_return}
use Rattle.std.proofs.lemmas.Bool.Decides.{nat_tests}
use Rattle.std.proofs.lemmas.List.{append_assoc, map-append, reverse-append}
use Rattle.std.proofs.lemmas.List.Folds.{list_any-append}
use Rattle.std.proofs.lemmas.List.Splits.{length-slice_split}
use Rattle.co_text.specs.Texts.{is_blank}
use Rattle.co_sheet_text.specs.declared.section_kind.SectionKind.{SectionKind}
use Rattle.co_sheet_text.specs.Text.{Line, lines_of, trim, trim_front, without_mark}
use Rattle.co_sheet_text.specs.Sections.{LineForm, skipped, section_line, unclosed, name_value, malformed, is_section_line, Property, TextSection, is_given, property_given, body_of, section_begun, sections_of, line_form, form_of}
use Rattle.co_sheet_rows.specs.declared.fault.SheetFault.{SheetFault}
use Rattle.co_sheet.specs.Accepted.{first_fault, sections_in}
use Rattle.co_sheet_changes.specs.Pieces.{written}
use Rattle.co_sheet_adapt.specs.Pieces.{all_pieces}
use Rattle.co_sheet_adapt.specs.Adapted.{adapted_text, shown_byte, comment_front, comment_end, comment_line, comment_text, commented, property_later, one_later, returns_first}
use Rattle.co_sheet_changes.proofs.LineLemmas.{numbered}

-- ---- lines one later

abbrev later_line : Line → Line
later_line l = record { number = l.number + 1; bytes = l.bytes }

numbered-later : (n : ℕ) (ls : List (List ℕ)) → numbered (n + 1) ls ≡ map later_line (numbered n ls)
numbered-later n [] = refl
numbered-later n (l ∷ ls) = ap (λ (r : List Line). record { number = n + 1; bytes = l } ∷ r) (numbered-later (n + 1) ls)

body-cut : (b : Bool) (l : Line) (r s : List Line) → s ≡ map later_line r → cond b [] (later_line l ∷ s) ≡ map later_line (cond b [] (l ∷ r))
body-cut true l r s e = refl
body-cut false l r s e = ap (λ (x : List Line). later_line l ∷ x) e

body-later : (ls : List Line) → body_of (map later_line ls) ≡ map later_line (body_of ls)
body-later [] = refl
body-later (l ∷ ls) = body-cut (is_section_line (line_form l)) l (body_of ls) (body_of (map later_line ls)) (body-later ls)

if-given : (b : Bool) (name value : List ℕ) (n : ℕ) →
    cond b (Some (record { name = name; value = value; line = n + 1 })) None
    ≡ option_map property_later (cond b (Some (record { name = name; value = value; line = n })) None)
if-given true name value n = refl
if-given false name value n = refl

given-later : (k : SectionKind) (n : ℕ) (form : LineForm) → property_given k (n + 1) form ≡ option_map property_later (property_given k n form)
given-later k n skipped = refl
given-later k n (section_line name) = refl
given-later k n unclosed = refl
given-later k n (name_value name value) = if-given (is_given k name value) name value n
given-later k n malformed = refl

abbrev given_by : SectionKind → Line → Option Property
given_by k l = property_given k l.number (line_form l)

cons-later : (o : Option Property) (ps : List Property) → cons_option (option_map property_later o) (map property_later ps) ≡ map property_later (cons_option o ps)
cons-later None ps = refl
cons-later (Some p) ps = refl

properties-later : (k : SectionKind) (ls : List Line) → filter_map (given_by k) (map later_line ls) ≡ map property_later (filter_map (given_by k) ls)
properties-later k [] = refl
properties-later k (l ∷ ls) =
    ap (λ (o : Option Property). cons_option o (filter_map (given_by k) (map later_line ls))) (given-later k l.number (line_form l))
    ∙ ap (λ (ps : List Property). cons_option (option_map property_later (given_by k l)) ps) (properties-later k ls)
    ∙ cons-later (given_by k l) (filter_map (given_by k) ls)

abbrev section_with : SectionKind → List ℕ → ℕ → List Property → TextSection
section_with kind name line properties = record { kind = kind; name = name; line = line; properties = properties }

begun-later : (form : LineForm) (n : ℕ) (body : List Line) → section_begun form (n + 1) (map later_line body) ≡ map one_later (section_begun form n body)
begun-later skipped n body = refl
begun-later (section_line name) n body =
    let k = Rattle.co_sheet_text.specs.Names.kind_of name in
    ap (λ (ps : List Property). section_with k name (n + 1) ps ∷ []) (properties-later k body)
begun-later unclosed n body = refl
begun-later (name_value name value) n body = refl
begun-later malformed n body = refl

sections-later : (ls : List Line) → sections_of (map later_line ls) ≡ map one_later (sections_of ls)
sections-later [] = refl
sections-later (l ∷ ls) =
    let form = line_form l in
    let begun = section_begun form l.number (body_of ls) in
    ap (λ (b : List Line). section_begun form (l.number + 1) b ++ sections_of (map later_line ls)) (body-later ls)
    ∙ ap (λ (s : List TextSection). s ++ sections_of (map later_line ls)) (begun-later form l.number (body_of ls))
    ∙ ap (λ (s : List TextSection). map one_later begun ++ s) (sections-later ls)
    ∙ sym (map-append one_later begun (sections_of ls))

-- ---- the first line

abbrev is_line_feed : ℕ → Bool
is_line_feed b = b == 10

left-false : (t u : Bool) → (t || u) ≡ false → t ≡ false
left-false false u h = refl
left-false true u h = h

right-false : (t u : Bool) → (t || u) ≡ false → u ≡ false
right-false false u h = h
right-false true u h = absurd (true≢false h)

split-front : (front rest : List ℕ) → list_any is_line_feed front ≡ false →
    slice_split is_line_feed (front ++ 10 ∷ rest) ≡ front ∷ slice_split is_line_feed rest
split-front [] rest h = refl
split-front (b ∷ bs) rest h =
    let parts = slice_split is_line_feed (bs ++ 10 ∷ rest) in
    ap (λ (t : Bool). cond t ([] ∷ parts) (onto_first b parts)) (left-false (is_line_feed b) (list_any is_line_feed bs) h)
    ∙ ap (onto_first b) (split-front bs rest (right-false (is_line_feed b) (list_any is_line_feed bs) h))

parts-more : (x : List ℕ) (parts : List (List ℕ)) → 0 < length parts → lines_of_parts (x ∷ parts) ≡ strip_carriage_return x ∷ lines_of_parts parts
parts-more x [] h = absurd (omega arith)
parts-more x (y ∷ more) h = refl

lines-front : (front rest : List ℕ) → list_any is_line_feed front ≡ false →
    lines (front ++ 10 ∷ rest) ≡ strip_carriage_return front ∷ lines rest
lines-front front rest h =
    let some : 0 < length (slice_split is_line_feed rest) = omega (arith, length-slice_split is_line_feed rest) in
    ap lines_of_parts (split-front front rest h) ∙ parts-more front (slice_split is_line_feed rest) some

shown-at : (b : Bool) (x : ℕ) → nat_lt x 32 ≡ b → is_line_feed (cond b 63 x) ≡ false
shown-at true x h = refl
shown-at false x h = grind (arith, nat_tests, h)

shown-no-feed : (xs : List ℕ) → list_any is_line_feed (map shown_byte xs) ≡ false
shown-no-feed [] = refl
shown-no-feed (x ∷ xs) =
    ap (λ (t : Bool). t || list_any is_line_feed (map shown_byte xs)) (shown-at (nat_lt x 32) x refl) ∙ shown-no-feed xs

comment-no-feed : (by : List ℕ) → list_any is_line_feed (comment_text by) ≡ false
unfolding comment_front comment_end
comment-no-feed by =
    let shown = map shown_byte (take 256 by) in
    list_any-append is_line_feed (comment_front ++ shown) comment_end
    ∙ ap (λ (t : Bool). t || list_any is_line_feed comment_end)
    (list_any-append is_line_feed comment_front shown ∙ ap (λ (t : Bool). list_any is_line_feed comment_front || t) (shown-no-feed (take 256 by)))

-- a text that begins with `;` is a comment, without a carriage return at its end too
trim-end : (xs : List ℕ) → (zs : List ℕ) × (trim_front (xs ++ 59 ∷ []) ≡ zs ++ 59 ∷ [])
trim-end [] = ([], refl)
trim-end (x ∷ xs) =
    elim (is_blank x) as (λ b. (zs : List ℕ) × (cond b (trim_front (xs ++ 59 ∷ [])) (x ∷ (xs ++ 59 ∷ [])) ≡ zs ++ 59 ∷ []))
    [ true ↦ trim-end xs | false ↦ (x ∷ xs, refl) ]

form-comment : (ys : List ℕ) → form_of (trim (59 ∷ ys)) ≡ skipped
form-comment ys =
    let found = trim-end (reverse ys) in
    ap (λ (r : List ℕ). form_of (reverse (trim_front r))) (reverse-append (59 ∷ []) ys)
    ∙ ap (λ (r : List ℕ). form_of (reverse r)) found.1
    ∙ ap form_of (reverse-append found.0 (59 ∷ []))

strip-form : (t : Bool) (n : ℕ) (y : ℕ) (ys : List ℕ) → form_of (trim (cond t (take (suc n) (59 ∷ y ∷ ys)) (59 ∷ y ∷ ys))) ≡ skipped
strip-form true n y ys = form-comment (take n (y ∷ ys))
strip-form false n y ys = form-comment (y ∷ ys)

strip-skipped : (y : ℕ) (ys : List ℕ) → form_of (trim (strip_carriage_return (59 ∷ y ∷ ys))) ≡ skipped
strip-skipped y ys =
    let text = 59 ∷ y ∷ ys in
    let t = Rattle.std.specs.Prelude.slice_index text (length text - 1) == 13 in
    let n : length text - 1 ≡ suc (length ys) = omega arith in
    ap (λ (k : ℕ). form_of (trim (cond t (take k text) text))) n ∙ strip-form t (length ys) y ys

-- sections after a line that is skipped
skipped-first : (form : LineForm) (n : ℕ) (body : List Line) → form ≡ skipped → section_begun form n body ≡ []
skipped-first form n body e = ap (λ (f : LineForm). section_begun f n body) e

-- a text after a line that is a comment
front-later : (y : ℕ) (ys text : List ℕ) → list_any is_line_feed (59 ∷ y ∷ ys) ≡ false →
    sections_in ((59 ∷ y ∷ ys) ++ 10 ∷ without_mark text) ≡ map one_later (sections_in text)
front-later y ys text none =
    let front = 59 ∷ y ∷ ys in
    let rest = without_mark text in
    let ls = lines rest in
    let first : Line = record { number = 1; bytes = strip_carriage_return front } in
    ap (λ (l : List (List ℕ)). sections_of (numbered 1 l)) (lines-front front rest none)
    ∙ ap (λ (s : List TextSection). s ++ sections_of (numbered 2 ls))
    (skipped-first (line_form first) 1 (body_of (numbered 2 ls)) (strip-skipped y ys))
    ∙ ap sections_of (numbered-later 1 ls) ∙ sections-later (numbered 1 ls)

-- with CR at its end
returned-no-feed : (by : List ℕ) → list_any is_line_feed (comment_text by ++ 13 ∷ []) ≡ false
returned-no-feed by =
    list_any-append is_line_feed (comment_text by) (13 ∷ []) ∙ ap (λ (t : Bool). t || false) (comment-no-feed by)

returned : (comment rest : List ℕ) → (comment ++ 13 ∷ 10 ∷ []) ++ rest ≡ (comment ++ 13 ∷ []) ++ 10 ∷ rest
returned comment rest = append_assoc comment (13 ∷ 10 ∷ []) rest ∙ sym (append_assoc comment (13 ∷ []) (10 ∷ rest))

pub commented-later : (by text : List ℕ) → sections_in (commented by text) ≡ map one_later (sections_in text)
unfolding comment_front comment_end
commented-later by text =
    let rest = without_mark text in
    let tail = drop 2 (comment_text by) in
    elim (returns_first text) as (λ b. sections_in (comment_line b by ++ rest) ≡ map one_later (sections_in text)) [
      | true ↦ ap sections_in (returned (comment_text by) rest) ∙ front-later 32 (tail ++ 13 ∷ []) text (returned-no-feed by)
      | false ↦ ap sections_in (append_assoc (comment_text by) (10 ∷ []) rest) ∙ front-later 32 tail text (comment-no-feed by)
    ]

-- a text that is accepted stays
pub accepted-stays : (by text : List ℕ) → first_fault text ≡ None → adapted_text by text ≡ commented by text
accepted-stays by text e =
    ap (λ (o : Option SheetFault). comment_line (is_none o && returns_first text) by ++ (if is_none o then without_mark text else flat_map written (all_pieces (lines_of text)))) e

pub accepted-later : (by text : List ℕ) → first_fault text ≡ None → sections_in (adapted_text by text) ≡ map one_later (sections_in text)
accepted-later by text e = ap sections_in (accepted-stays by text e) ∙ commented-later by text

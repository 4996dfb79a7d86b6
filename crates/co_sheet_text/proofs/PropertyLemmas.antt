-- Whether a section gives a key: by the keys that are digits alone, and by the others.
use Rattle.std.proofs.Common.{◌≡◌, ℕ, ◌<◌, Bool, true, false, ◌||◌, ◌&&◌, cond, List, [], ◌∷◌, ◌++◌, map, Option, Some, is_some, Bor, refl, sym, ◌∙◌, ap, arith, eqb}
use Rattle.std.proofs.lemmas.Bool.{and_parts}
use Rattle.std.specs.Prelude.{find, filter}
use Rattle.std.specs.List.{list_any}
use Rattle.std.specs.Char.{is_digit, to_ascii_lowercase}
use Rattle.std.specs.Str.{bytes_eq}
use Rattle.std.proofs.lemmas.Bool.Decides.{nat_tests}
use Rattle.std.proofs.lemmas.List.{append-nil, map-append}
use Rattle.std.proofs.lemmas.List.Elements.{filter-append}
use Rattle.std.proofs.lemmas.Slice.Eq.{bytes_eq-Decides}
use Rattle.indexmap.specs.IndexSet.{insert_key}
use Rattle.co_sheet_text.specs.declared.text_section.Property.{Property as CodeProperty}
use Rattle.co_sheet_text.specs.Text.{same_name}
use Rattle.co_sheet_text.specs.Sections.{Property}
use Rattle.co_sheet_text.specs.LinesRead.{all_digits}
use Rattle.co_sheet_text.specs.Views.{property_view}

digit_below : (d : ℕ) → is_digit d 10 ≡ true → d < 58
digit_below d h = grind (arith, nat_tests)

same_as_digit : (k d : ℕ) → d < 58 → eqb (to_ascii_lowercase k) (to_ascii_lowercase d) ≡ eqb d k
same_as_digit k d h = grind (arith, nat_tests)

and_alike : (a b c d : Bool) → a ≡ c → b ≡ d → (a && b) ≡ (c && d)
and_alike a b c d h k = cc

-- digits have no case
same_as_digits : (digits name : List ℕ) → all_digits digits ≡ true → same_name name digits ≡ bytes_eq digits name
same_as_digits [] [] h = refl
same_as_digits [] (c ∷ cs) h = refl
same_as_digits (d ∷ ds) [] h = refl
same_as_digits (d ∷ ds) (c ∷ cs) h =
    let parts = and_parts (is_digit d 10) (all_digits ds) h in
    and_alike _ _ _ _ (same_as_digit c d (digit_below d parts.0)) (same_as_digits ds cs parts.1)

found_or : (b : Bool) (k : Property) (o : Option Property) (r : Bool) → r ≡ is_some o → (b || r) ≡ is_some (cond b (Some k) o)
found_or true k o r h = refl
found_or false k o r h = h

-- whether a key passes, by a look at all
pub list_any-find : (p : List ℕ → Bool) (keys : List CodeProperty) → list_any (λ k. p k.name.now) keys ≡ is_some (find (λ k. p k.name) (map property_view keys))
list_any-find p [] = refl
list_any-find p (k ∷ keys) = found_or (p k.name.now) (property_view k) (find (λ k. p k.name) (map property_view keys)) (list_any (λ k. p k.name.now) keys) (list_any-find p keys)

abbrev names : List CodeProperty → List (List ℕ)
names keys = map (λ k. k.name.now) keys

abbrev texts : List (Bor (List ℕ)) → List (List ℕ)
texts ns = map (λ n. n.now) ns

among_names : (digits : List ℕ) (keys : List CodeProperty) → all_digits digits ≡ true →
    list_any (bytes_eq digits) (names keys) ≡ list_any (λ k. same_name k.name.now digits) keys
among_names digits [] h = refl
among_names digits (k ∷ keys) h = or_alike _ _ _ _ (sym (same_as_digits digits k.name.now h)) (among_names digits keys h)
  where
    or_alike : (a b c d : Bool) → a ≡ c → b ≡ d → (a || b) ≡ (c || d)
    or_alike a b c d h k = cc

among_texts : (digits : List ℕ) (ns : List (Bor (List ℕ))) → list_any (λ n. bytes_eq digits n.now) ns ≡ list_any (bytes_eq digits) (texts ns)
among_texts digits [] = refl
among_texts digits (n ∷ ns) = ap (λ (b : Bool). bytes_eq digits n.now || b) (among_texts digits ns)

differs : (digits name : List ℕ) (e : Bool) → all_digits digits ≡ true → all_digits name ≡ false → bytes_eq digits name ≡ e → e ≡ false
differs digits name false h k same = refl
differs digits name true h k same =
    let alike : digits ≡ name = (bytes_eq-Decides digits name).0 same in
    let passes : all_digits digits ≡ all_digits name = ap all_digits alike in
    cc

kept_or : (digits name : List ℕ) (b : Bool) (rest : List (List ℕ)) (r : Bool) → all_digits digits ≡ true → all_digits name ≡ b → list_any (bytes_eq digits) rest ≡ r →
    list_any (bytes_eq digits) (cond b (name ∷ rest) rest) ≡ (bytes_eq digits name || r)
kept_or digits name true rest r h k more = ap (λ (b : Bool). bytes_eq digits name || b) more
kept_or digits name false rest r h k more = rw (differs digits name (bytes_eq digits name) h k refl) more

-- digits are among names, if they are among those that are digits
among_digits : (digits : List ℕ) (all : List (List ℕ)) → all_digits digits ≡ true →
    list_any (bytes_eq digits) (filter all_digits all) ≡ list_any (bytes_eq digits) all
among_digits digits [] h = refl
among_digits digits (name ∷ all) h =
    kept_or digits name (all_digits name) (filter all_digits all) (list_any (bytes_eq digits) all) h refl (among_digits digits all h)

-- a key of digits is given, if it is among the given ones that are digits
pub number_given : (digits : List ℕ) (ns : List (Bor (List ℕ))) (keys : List CodeProperty) → all_digits digits ≡ true →
    map (λ n. n.now) ns ≡ filter all_digits (map (λ k. k.name.now) keys) →
    list_any (λ n. bytes_eq digits n.now) ns ≡ is_some (find (λ k. same_name k.name digits) (map property_view keys))
number_given digits ns keys h indexed =
    among_texts digits ns
    ∙ ap (list_any (bytes_eq digits)) indexed
    ∙ among_digits digits (names keys) h
    ∙ among_names digits keys h
    ∙ list_any-find (λ name. same_name name digits) keys

abbrev same_text : Bor (List ℕ) → Bor (List ℕ) → Bool
same_text m n = bytes_eq m.now n.now

-- the keys that are digits, with one more
pub number_added : (ns more : List (Bor (List ℕ))) (keys : List CodeProperty) (k : CodeProperty) → all_digits k.name.now ≡ true →
    map (λ n. n.now) ns ≡ filter all_digits (map (λ k. k.name.now) keys) →
    is_some (find (λ g. same_name g.name k.name.now) (map property_view keys)) ≡ false →
    more ≡ insert_key same_text ns k.name →
    (after : List CodeProperty) → after ≡ keys ++ k ∷ [] →
    map (λ n. n.now) more ≡ filter all_digits (map (λ k. k.name.now) after)
number_added ns more keys k h indexed new added after pushed =
    let absent : list_any (same_text k.name) ns ≡ false = number_given k.name.now ns keys h indexed ∙ new in
    let last : filter all_digits (k.name.now ∷ []) ≡ k.name.now ∷ [] = ap (λ (b : Bool). cond b (k.name.now ∷ []) []) h in
    let here : more ≡ ns ++ k.name ∷ [] = added ∙ ap (λ (b : Bool). cond b ns (ns ++ k.name ∷ [])) absent in
    ap texts here
    ∙ map-append (λ n. n.now) ns (k.name ∷ [])
    ∙ ap (λ (front : List (List ℕ)). front ++ k.name.now ∷ []) indexed
    ∙ ap (λ (back : List (List ℕ)). filter all_digits (names keys) ++ back) (sym last)
    ∙ sym (filter-append all_digits (names keys) (k.name.now ∷ []))
    ∙ ap (filter all_digits) (sym (map-append (λ k. k.name.now) keys (k ∷ [])))
    ∙ ap (λ (all : List CodeProperty). filter all_digits (names all)) (sym pushed)

-- any other key is kept beside them
pub other_added : (ns : List (Bor (List ℕ))) (keys : List CodeProperty) (k : CodeProperty) → all_digits k.name.now ≡ false →
    map (λ n. n.now) ns ≡ filter all_digits (map (λ k. k.name.now) keys) →
    (after : List CodeProperty) → after ≡ keys ++ k ∷ [] →
    map (λ n. n.now) ns ≡ filter all_digits (map (λ k. k.name.now) after)
other_added ns keys k h indexed after pushed =
    let last : filter all_digits (k.name.now ∷ []) ≡ [] = ap (λ (b : Bool). cond b (k.name.now ∷ []) []) h in
    indexed
    ∙ sym (append-nil (filter all_digits (names keys)))
    ∙ ap (λ (back : List (List ℕ)). filter all_digits (names keys) ++ back) (sym last)
    ∙ sym (filter-append all_digits (names keys) (k.name.now ∷ []))
    ∙ ap (filter all_digits) (sym (map-append (λ k. k.name.now) keys (k ∷ [])))
    ∙ ap (λ (all : List CodeProperty). filter all_digits (names all)) (sym pushed)

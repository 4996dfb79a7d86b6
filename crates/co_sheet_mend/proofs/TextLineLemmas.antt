-- The lines of a text that is made of lines.
use Rattle.std.proofs.Common.{◌≡◌, ℕ, zero, suc, ◌-◌, ◌<◌, Bool, true, false, cond, not, ◌&&◌, ◌==◌, List, [], ◌∷◌, ◌++◌, length, take, refl, sym, ap, ◌∙◌, arith}
use Rattle.std.specs.List.{list_all, slice_split, onto_first}
use Rattle.std.specs.Prelude.{slice_index}
use Rattle.std.specs.Str.Lines.{lines, lines_of_parts, strip_carriage_return}
use Rattle.std.proofs.lemmas.List.{append_assoc, length-append}
use Rattle.std.proofs.lemmas.List.Splits.{length-slice_split}
use Rattle.co_sheet_mend.specs.Repairs.{ended, ends_in_return, line_end}

-- a byte within a line
abbrev pub is_inner : ℕ → Bool
is_inner b = not (b == 10)

-- no line feed
abbrev pub is_line : List ℕ → Bool
is_line bytes = list_all is_inner bytes

abbrev is_line_feed : ℕ → Bool
is_line_feed b = b == 10

pub both : (a b : Bool) → (a && b) ≡ true → (a ≡ true) × (b ≡ true)
both true b h = (refl, h)
both false b h = absurd (cc)

pub both-are : (a b : Bool) → a ≡ true → b ≡ true → (a && b) ≡ true
both-are true true h k = refl
both-are true false h k = absurd (cc)
both-are false b h k = absurd (cc)

pub not-so : (a : Bool) → not a ≡ true → a ≡ false
not-so false h = refl
not-so true h = absurd (cc)

-- ---- tests of all bytes

module _ (p : ℕ → Bool) where
  pub all-append : (xs ys : List ℕ) → list_all p xs ≡ true → list_all p ys ≡ true → list_all p (xs ++ ys) ≡ true
  all-append [] ys h k = k
  all-append (x ∷ xs) ys h k = let of = both (p x) (list_all p xs) h in both-are (p x) _ of.0 (all-append xs ys of.1 k)

  pub all-take : (n : ℕ) (xs : List ℕ) → list_all p xs ≡ true → list_all p (take n xs) ≡ true
  all-take zero xs h = refl
  all-take (suc n) [] h = refl
  all-take (suc n) (x ∷ xs) h = let of = both (p x) (list_all p xs) h in both-are (p x) _ of.0 (all-take n xs of.1)

-- ---- the line before a line feed

split-front : (front rest : List ℕ) → is_line front ≡ true → slice_split is_line_feed (front ++ 10 ∷ rest) ≡ front ∷ slice_split is_line_feed rest
split-front [] rest h = refl
split-front (b ∷ bs) rest h =
    let of = both (is_inner b) (is_line bs) h in
    let parts = slice_split is_line_feed (bs ++ 10 ∷ rest) in
    ap (λ (t : Bool). cond t ([] ∷ parts) (onto_first b parts)) (not-so (b == 10) of.0)
    ∙ ap (onto_first b) (split-front bs rest of.1)

parts-more : (x : List ℕ) (parts : List (List ℕ)) → 0 < length parts → lines_of_parts (x ∷ parts) ≡ strip_carriage_return x ∷ lines_of_parts parts
parts-more x [] h = absurd (omega arith)
parts-more x (y ∷ more) h = refl

pub lines-front : (front rest : List ℕ) → is_line front ≡ true → lines (front ++ 10 ∷ rest) ≡ strip_carriage_return front ∷ lines rest
lines-front front rest h =
    let some : 0 < length (slice_split is_line_feed rest) = omega (arith, length-slice_split is_line_feed rest) in
    ap lines_of_parts (split-front front rest h) ∙ parts-more front (slice_split is_line_feed rest) some

-- ---- a line is read as it was

last-byte : (bytes : List ℕ) (c : ℕ) → slice_index (bytes ++ c ∷ []) (length bytes) ≡ c
last-byte [] c = refl
last-byte (b ∷ bs) c = last-byte bs c

take-all : (bytes : List ℕ) (c : ℕ) → take (length bytes) (bytes ++ c ∷ []) ≡ bytes
take-all [] c = refl
take-all (b ∷ bs) c = ap (λ (l : List ℕ). b ∷ l) (take-all bs c)

strip-last : (bytes : List ℕ) (c : ℕ) → strip_carriage_return (bytes ++ c ∷ []) ≡ cond (c == 13) bytes (bytes ++ c ∷ [])
strip-last bytes c =
    let whole = bytes ++ c ∷ [] in
    let n : length whole - 1 ≡ length bytes = omega (arith, length-append bytes (c ∷ [])) in
    ap (λ (k : ℕ). cond (slice_index whole k == 13) (take k whole) whole) n
    ∙ ap (λ (b : ℕ). cond (b == 13) (take (length bytes) whole) whole) (last-byte bytes c)
    ∙ ap (λ (l : List ℕ). cond (c == 13) l whole) (take-all bytes c)

-- a last byte that is no carriage return stays
pub lines-last : (bytes : List ℕ) (c : ℕ) (rest : List ℕ) → is_line bytes ≡ true → is_inner c ≡ true → (c == 13) ≡ false
    → lines ((bytes ++ c ∷ []) ++ 10 ∷ rest) ≡ (bytes ++ c ∷ []) ∷ lines rest
lines-last bytes c rest h inner other =
    lines-front (bytes ++ c ∷ []) rest (all-append is_inner bytes (c ∷ []) h (both-are (is_inner c) true inner refl))
    ∙ ap (λ (l : List ℕ). l ∷ lines rest) (strip-last bytes c ∙ ap (λ (t : Bool). cond t bytes (bytes ++ c ∷ [])) other)

ended-cases : (bytes rest : List ℕ) (return : Bool) → is_line bytes ≡ true → ends_in_return bytes ≡ return → lines ((bytes ++ line_end return) ++ rest) ≡ bytes ∷ lines rest
ended-cases bytes rest true h is =
    ap lines (append_assoc bytes (13 ∷ 10 ∷ []) rest ∙ sym (append_assoc bytes (13 ∷ []) (10 ∷ rest)))
    ∙ lines-front (bytes ++ 13 ∷ []) rest (all-append is_inner bytes (13 ∷ []) h refl)
    ∙ ap (λ (l : List ℕ). l ∷ lines rest) (strip-last bytes 13)
ended-cases bytes rest false h is =
    ap lines (append_assoc bytes (10 ∷ []) rest)
    ∙ lines-front bytes rest h
    ∙ ap (λ (t : Bool). cond t (take (length bytes - 1) bytes) bytes ∷ lines rest) is

pub lines-ended : (bytes rest : List ℕ) → is_line bytes ≡ true → lines (ended bytes ++ rest) ≡ bytes ∷ lines rest
lines-ended bytes rest h = ended-cases bytes rest (ends_in_return bytes) h refl

-- ---- no line of a text has a line feed

abbrev pub are_lines : List (List ℕ) → Bool
are_lines bs = list_all is_line bs

split-onto : (b : ℕ) (feed : Bool) (parts : List (List ℕ)) → (b == 10) ≡ feed → are_lines parts ≡ true → are_lines (cond feed ([] ∷ parts) (onto_first b parts)) ≡ true
split-onto b true parts is h = h
split-onto b false [] is h = both-are (is_inner b && true) true (both-are (is_inner b) true (ap not is) refl) refl
split-onto b false (p ∷ parts) is h =
    let of = both (is_line p) (are_lines parts) h in both-are (is_line (b ∷ p)) (are_lines parts) (both-are (is_inner b) (is_line p) (ap not is) of.0) of.1

split-lines : (text : List ℕ) → are_lines (slice_split is_line_feed text) ≡ true
split-lines [] = refl
split-lines (b ∷ bs) = split-onto b (b == 10) (slice_split is_line_feed bs) refl (split-lines bs)

strip-cases : (t : Bool) (n : ℕ) (l : List ℕ) → is_line l ≡ true → is_line (cond t (take n l) l) ≡ true
strip-cases true n l h = all-take is_inner n l h
strip-cases false n l h = h

last-part : (t : Bool) (x : List ℕ) → is_line x ≡ true → are_lines (cond t [] (x ∷ [])) ≡ true
last-part true x h = refl
last-part false x h = both-are (is_line x) true h refl

part-lines : (parts : List (List ℕ)) → are_lines parts ≡ true → are_lines (lines_of_parts parts) ≡ true
part-lines [] h = refl
part-lines (x ∷ []) h = last-part (length x == 0) x (both (is_line x) true h).0
part-lines (x ∷ y ∷ more) h =
    let of = both (is_line x) (are_lines (y ∷ more)) h in
    both-are (is_line (strip_carriage_return x)) _ (strip-cases (slice_index x (length x - 1) == 13) (length x - 1) x of.0) (part-lines (y ∷ more) of.1)

pub lines-are-lines : (text : List ℕ) → are_lines (lines text) ≡ true
lines-are-lines text = part-lines (slice_split is_line_feed text) (split-lines text)

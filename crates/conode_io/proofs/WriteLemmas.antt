-- What a writer holds after some lines.
use Rattle.std.proofs.Common.{◌≡◌, ℕ, zero, suc, ◌+◌, ◌<◌, List, [], ◌∷◌, ◌++◌, length, map, take, drop, get_or, Option, refl, ap, subst, sym, ◌∙◌, arith, append_assoc, append-nil, length-append}
use Rattle.std.specs.List.{flat_map}
use Rattle.std.specs.Io.KnownBytes.{Appends}
use Rattle.std.proofs.KnownBytes.{Appends-trans, Appends-nil}
use Rattle.std.proofs.lemmas.List.{length-map, take-append-le, take-map}
use Rattle.std.proofs.lemmas.Grind.{flat_map-append}
use Rattle.std.proofs.Math.Seq.{take-append-add}
use Rattle.std.proofs.Math.Numerals.{add-one}
use Rattle.conode_io.specs.Written.{IsFront, AppendsFront, WritesLines, WritesSome, WritesFront}

-- ---- fronts

-- a front after other bytes
pub front_after : (before front text : List ℕ) → IsFront front text → IsFront (before ++ front) (before ++ text)
front_after before front text h = record { rest = h.rest; some = h.some; joined = ap (λ (ys : List ℕ). before ++ ys) h.joined ∙ sym (append_assoc before front h.rest) }

-- a front of a text is one of a longer text
pub front_of_longer : (front text more : List ℕ) → IsFront front text → IsFront front (text ++ more)
front_of_longer front text more h = record { rest = h.rest ++ more; some = omega (arith, h.some, length-append h.rest more); joined = ap (λ (ys : List ℕ). ys ++ more) h.joined ∙ append_assoc front h.rest more }

pub appends_front_after : (old mid new : Option (List ℕ)) (before text : List ℕ) → Appends old mid before → AppendsFront mid new text → AppendsFront old new (before ++ text)
appends_front_after old mid new before text first (front, is, written) = (before ++ front, front_after before front text is, Appends-trans old mid new before front first written)

pub appends_front_of_longer : (old new : Option (List ℕ)) (text more : List ℕ) → AppendsFront old new text → AppendsFront old new (text ++ more)
appends_front_of_longer old new text more (front, is, written) = (front, front_of_longer front text more is, written)

-- ---- lines

pub some_lines : {X : Type 0} (old new : Option (List ℕ)) (f : X → List ℕ) (xs : List X) (number : ℕ)
    → number < length xs → WritesLines old new (map f (take number xs)) → WritesSome old new (map f xs)
some_lines old new f xs number within written = (
  number,
  omega (arith, within, length-map xs f),
  subst (WritesLines old new) (sym (take-map f number xs)) written,
)

pub no_lines : (held : Option (List ℕ)) (line : List ℕ) (lines : List (List ℕ)) → WritesSome held held (line ∷ lines)
no_lines held line lines = (0, omega arith, Appends-nil held)

pub first_lines : (old mid new : Option (List ℕ)) (line : List ℕ) (lines : List (List ℕ))
    → Appends old mid line → WritesSome mid new lines → WritesSome old new (line ∷ lines)
first_lines old mid new line lines first rest = (
  rest.0 + 1,
  omega (arith, rest.1),
  subst (λ (n : ℕ). WritesLines old new (take n (line ∷ lines))) (sym (add-one rest.0)) (Appends-trans old mid new line (flat_map (λ l. l) (take rest.0 lines)) first rest.2),
)

-- the text of lines, split at one of them
lines_split : {X : Type 0} (f : X → List ℕ) (xs : List X) (i : ℕ) (d : X) → i < length xs
    → flat_map (λ line. line) (map f xs) ≡ (flat_map (λ line. line) (map f (take i xs)) ++ f (get_or xs i d)) ++ flat_map (λ line. line) (map f (drop (suc i) xs))
lines_split f [] i d within = absurd (omega arith)
lines_split f (x ∷ xs) zero d within = refl
lines_split f (x ∷ xs) (suc i) d within =
    ap (λ (ys : List ℕ). f x ++ ys) (lines_split f xs i d (omega arith)) ∙ simp append_assoc refl

-- lines were written, and a front of the next one
pub front_of_lines : {X : Type 0} (old mid new : Option (List ℕ)) (f : X → List ℕ) (xs : List X) (i : ℕ) (d : X) → i < length xs
    → WritesLines old mid (map f (take i xs)) → AppendsFront mid new (f (get_or xs i d)) → WritesFront old new (map f xs)
front_of_lines old mid new f xs i d within first next =
    let before = flat_map (λ line. line) (map f (take i xs)) in
    let written = appends_front_after old mid new before (f (get_or xs i d)) first next in
    subst (AppendsFront old new) (sym (lines_split f xs i d within)) (appends_front_of_longer old new _ (flat_map (λ line. line) (map f (drop (suc i) xs))) written)

-- lines after other lines
pub lines_after : (old mid new : Option (List ℕ)) (lines more : List (List ℕ)) → WritesLines old mid lines → WritesLines mid new more → WritesLines old new (lines ++ more)
lines_after old mid new lines more first rest =
    subst (Appends old new) (sym (flat_map-append (λ l. l) lines more))
    (Appends-trans old mid new (flat_map (λ l. l) lines) (flat_map (λ l. l) more) first rest)

pub front_of_more : (old new : Option (List ℕ)) (lines more : List (List ℕ)) → WritesFront old new lines → WritesFront old new (lines ++ more)
front_of_more old new lines more first =
    subst (AppendsFront old new) (sym (flat_map-append (λ l. l) lines more))
    (appends_front_of_longer old new (flat_map (λ l. l) lines) (flat_map (λ l. l) more) first)

pub front_after_lines : (old mid new : Option (List ℕ)) (lines more : List (List ℕ)) → WritesLines old mid lines → WritesFront mid new more → WritesFront old new (lines ++ more)
front_after_lines old mid new lines more first rest =
    subst (AppendsFront old new) (sym (flat_map-append (λ l. l) lines more))
    (appends_front_after old mid new (flat_map (λ l. l) lines) (flat_map (λ l. l) more) first rest)

pub some_of_more : (old new : Option (List ℕ)) (lines more : List (List ℕ)) → WritesSome old new lines → WritesSome old new (lines ++ more)
some_of_more old new lines more first = (
  first.0,
  omega (arith, first.1, length-append lines more),
  subst (WritesLines old new) (sym (take-append-le first.0 lines more (omega (arith, first.1)))) first.2,
)

pub some_after_lines : (old mid new : Option (List ℕ)) (lines more : List (List ℕ)) → WritesLines old mid lines → WritesSome mid new more → WritesSome old new (lines ++ more)
some_after_lines old mid new lines more first rest = (
  length lines + rest.0,
  omega (arith, rest.1, length-append lines more),
  subst (WritesLines old new) (sym (take-append-add lines more rest.0)) (lines_after old mid new lines (take rest.0 more) first rest.2),
)

pub line_alone : (old new : Option (List ℕ)) (line : List ℕ) → Appends old new line → WritesLines old new (line ∷ [])
line_alone old new line written = subst (Appends old new) (sym (append-nil line)) written

pub front_alone : (old new : Option (List ℕ)) (line : List ℕ) → AppendsFront old new line → WritesFront old new (line ∷ [])
front_alone old new line written = subst (AppendsFront old new) (sym (append-nil line)) written

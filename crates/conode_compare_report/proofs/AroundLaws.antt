-- The lines around a difference that is listed are those of the recording from the third before it to the third after it.
use Rattle.std.proofs.Common.{◌≡◌, ℕ, zero, suc, ◌+◌, ◌-◌, ◌^◌, ◌<◌, ◌≤◌, min, Bool, true, false, ltb, List, [], ◌∷◌, ◌++◌, length, take, drop, refl, sym, ap, ap₂, subst, ◌∙◌, arith, append_assoc, append-nil}
use Rattle.std.specs.Prelude.{position, nat_lt, if◌then◌else◌, ⊤}
use Rattle.std.specs.List.{Contains, position_or_len, slice_index_or}
use Rattle.std.specs.Option.{option_map_or}
use Rattle.std.proofs.Math.Seq.{take-append_seam, drop-append_seam}
use Rattle.std.proofs.lemmas.Bool.Decides.{nat_tests}
use Rattle.std.proofs.lemmas.List.{take-append-le, drop-append-le, length-append}
use Rattle.co_sheet.specs.Content.{Row}
use Rattle.conode_compare_report.specs.declared.noted.Noted.{Noted}
use Rattle.conode_compare_report.specs.Contexts.{KeptLine, around, greatest_around}
use Rattle.conode_compare_report.specs.Counts.{one_more}
use Rattle.conode_compare_report.specs.Kinds.{kind_of}
use Rattle.conode_compare_report.specs.Occasions.{counts_found}
use Rattle.conode_compare_report.specs.Histories.{Happening, Came, WasBad, Framed, Passed, Found, happened, kept_of, line_in, lines_of, near, numbered_from}
use Rattle.conode_compare_report.specs.Reports.{if_listed, line_kept, line_of, listed_in, most_listed, newest_with, noted_at, nothing_kept, with_bad_line, with_finding, with_frame, with_line, with_passed}
use Rattle.conode_compare_report.specs.Views.{Kept}
use Rattle.conode_compare_text.specs.declared.details.Details.{Details}
use Rattle.conode_compare_nmt.specs.declared.finding.Finding.{Finding}

-- ---- numbers of lines

-- each is at most this, or above it
abbrev UpTo : ℕ → List KeptLine → Type 0
UpTo most [] = ⊤
UpTo most (line ∷ more) = (line.number ≤ most) × UpTo most more

abbrev Past : ℕ → List KeptLine → Type 0
Past least [] = ⊤
Past least (line ∷ more) = (least < line.number) × Past least more

up_to_both : (most : ℕ) (xs ys : List KeptLine) → UpTo most xs → UpTo most ys → UpTo most (xs ++ ys)
up_to_both most [] ys h k = k
up_to_both most (x ∷ xs) ys h k = (h.0, up_to_both most xs ys h.1 k)

up_to_later : (most : ℕ) (xs ys : List KeptLine) → UpTo most (xs ++ ys) → UpTo most ys
up_to_later most [] ys h = h
up_to_later most (x ∷ xs) ys h = up_to_later most xs ys h.1

up_to_more : (most next : ℕ) (xs : List KeptLine) → most ≤ next → UpTo most xs → UpTo next xs
up_to_more most next [] le h = tt
up_to_more most next (x ∷ xs) le h = (omega (arith, h.0), up_to_more most next xs le h.1)

past_both : (least : ℕ) (xs ys : List KeptLine) → Past least xs → Past least ys → Past least (xs ++ ys)
past_both least [] ys h k = k
past_both least (x ∷ xs) ys h k = (h.0, past_both least xs ys h.1 k)

past_less : (least next : ℕ) (xs : List KeptLine) → next ≤ least → Past least xs → Past next xs
past_less least next [] le h = tt
past_less least next (x ∷ xs) le h = (omega (arith, h.0), past_less least next xs le h.1)

numbered_more : (first : ℕ) (lines : List (List ℕ)) (line : List ℕ) → numbered_from first (lines ++ line ∷ []) ≡ numbered_from first lines ++ line_of (length lines + first) line ∷ []
unfolding numbered_from
numbered_more first [] line = let same : first ≡ 0 + first = omega arith in ap (λ (n : ℕ). line_of n line ∷ []) same
numbered_more first (l ∷ lines) line =
    ap (λ (more : List KeptLine). line_of first l ∷ more) (numbered_more (first + 1) lines line
    ∙ ap (λ (n : ℕ). numbered_from (first + 1) lines ++ line_of n line ∷ []) (omega arith))

numbered_length : (first : ℕ) (lines : List (List ℕ)) → length (numbered_from first lines) ≡ length lines
unfolding numbered_from
numbered_length first [] = refl
numbered_length first (l ∷ lines) = ap suc (numbered_length (first + 1) lines)

-- ---- the first part of a list

one_more_than : (a b : ℕ) → a ≡ b → 1 + a ≡ suc b
one_more_than a b h = omega (arith, h)

counted : (most : ℕ) (xs ys : List KeptLine) → UpTo most xs → Past most ys → position_or_len (λ (l : KeptLine). nat_lt most l.number) (xs ++ ys) ≡ length xs
counted most [] [] h k = refl
counted most [] (y ∷ ys) h k = let is : ltb most y.number ≡ true = let p = k.0 in grind (arith, nat_tests) in rw is refl
counted most (x ∷ xs) ys h k = let is : ltb most x.number ≡ false = let p = h.0 in grind (arith, nat_tests) in rw is (one_more_than (position_or_len (λ (l : KeptLine). nat_lt most l.number) (xs ++ ys)) (length xs) (counted most xs ys h.1 k))

first_part : (most : ℕ) (xs ys : List KeptLine) → UpTo most xs → Past most ys
    → option_map_or (λ (count : ℕ). take count (xs ++ ys)) (position (λ (l : KeptLine). nat_lt most l.number) (xs ++ ys)) (xs ++ ys) ≡ xs
first_part most xs [] h k =
    let is : position_or_len (λ (l : KeptLine). nat_lt most l.number) (xs ++ []) ≡ length xs = counted most xs [] h k in
    let no : ltb (length xs) (length (xs ++ [])) ≡ false = rw append-nil (grind (arith, nat_tests)) in
    rw (is, no) (append-nil xs)
first_part most xs (y ∷ ys) h k =
    let is : position_or_len (λ (l : KeptLine). nat_lt most l.number) (xs ++ y ∷ ys) ≡ length xs = counted most xs (y ∷ ys) h k in
    let more : length (xs ++ y ∷ ys) ≡ length xs + suc (length ys) = length-append xs (y ∷ ys) in
    let yes : ltb (length xs) (length (xs ++ y ∷ ys)) ≡ true = grind (arith, nat_tests) in
    rw (is, yes) (take-append_seam xs (y ∷ ys))

-- ---- what is kept

-- of a recording with these lines so far
record IsAround (all context : List KeptLine) (noted : Noted) : Type 0 where
  front : List KeptLine
  here : List KeptLine
  after : List KeptLine
  parts : context ≡ front ++ (here ++ after)
  first : length front ≡ noted.first
  is : here ≡ drop (noted.line - 4) (take (noted.line + 3) all)
  low : UpTo (noted.line + 3) here
  past : Past (noted.line + 3) after
  open_end : length all ≤ noted.line + 3 → after ≡ []
  came : noted.line ≤ length all

abbrev AllAround : List KeptLine → List KeptLine → ℕ → List Noted → Type 0
AllAround all context wanted [] = ⊤
AllAround all context wanted (noted ∷ more) = (IsAround all context noted × (noted.line + 3 ≤ wanted)) × AllAround all context wanted more

record IsKept (all context recent : List KeptLine) (noted : List Noted) (lines wanted : ℕ) : Type 0 where
  older : List KeptLine
  middle : List KeptLine
  before : List KeptLine
  kept : context ≡ older ++ middle
  whole : all ≡ before ++ (middle ++ recent)
  newest : length (middle ++ recent) ≡ min (length all) 4
  numbers : UpTo (length all) all
  pending : Past wanted recent
  none : length all ≤ wanted → recent ≡ []
  counts : lines ≡ length all
  bound : wanted ≤ length all + 3
  listed : AllAround all context wanted noted

take_all : {A : Type 0} (n : ℕ) (xs : List A) → length xs ≤ n → take n xs ≡ xs
take_all zero [] le = refl
take_all (suc n) [] le = refl
take_all zero (x ∷ xs) le = absurd (omega (arith, le))
take_all (suc n) (x ∷ xs) le = ap (λ (l : List _). x ∷ l) (take_all n xs (omega (arith, le)))

-- ---- one line more

module _ (all context : List KeptLine) (bytes : List ℕ) where
  abbrev next : KeptLine
  next = line_of (length all + 1) bytes

  one_longer : length (all ++ next ∷ []) ≡ length all + 1
  one_longer = length-append all (next ∷ [])

  same_near : (line : ℕ) → line + 3 ≤ length all → drop (line - 4) (take (line + 3) all) ≡ drop (line - 4) (take (line + 3) (all ++ next ∷ []))
  same_near line le = ap (drop (line - 4)) (sym (take-append-le (line + 3) all (next ∷ []) le))

  longer_near : (line : ℕ) → line ≤ length all → length all < line + 3 → drop (line - 4) (take (line + 3) all) ++ next ∷ [] ≡ drop (line - 4) (take (line + 3) (all ++ next ∷ []))
  longer_near line came lt =
      let now : take (line + 3) all ≡ all = take_all (line + 3) all (omega (arith, lt)) in
      let whole : take (line + 3) (all ++ next ∷ []) ≡ all ++ next ∷ [] = take_all (line + 3) (all ++ next ∷ []) (let more = one_longer in omega (arith, lt, more)) in
      let cut : drop (line - 4) (all ++ next ∷ []) ≡ drop (line - 4) all ++ next ∷ [] = drop-append-le (line - 4) all (next ∷ []) (omega (arith, came)) in
      ap (λ (l : List KeptLine). drop (line - 4) l ++ next ∷ []) now ∙ sym cut ∙ ap (drop (line - 4)) (sym whole)

  -- it isn't kept
  around_passed : (noted : Noted) → noted.line + 3 ≤ length all → IsAround all context noted → IsAround (all ++ next ∷ []) context noted
  around_passed noted le h = record {
    front = h.front;
    here = h.here;
    after = h.after;
    parts = h.parts;
    first = h.first;
    is = h.is ∙ same_near noted.line le;
    low = h.low;
    past = h.past;
    open_end = λ more. absurd (let longer = one_longer in omega (arith, le, more, longer));
    came = let longer = one_longer in let c = h.came in omega (arith, c, longer);
  }

  appended : (front here after : List KeptLine) → context ≡ front ++ (here ++ after) → context ++ next ∷ [] ≡ front ++ (here ++ (after ++ next ∷ []))
  appended front here after parts =
      ap (λ (l : List KeptLine). l ++ next ∷ []) parts ∙ append_assoc front (here ++ after) (next ∷ []) ∙ ap (λ (l : List KeptLine). front ++ l) (append_assoc here after (next ∷ []))

  -- it is kept
  around_kept : (noted : Noted) → IsAround all context noted → IsAround (all ++ next ∷ []) (context ++ next ∷ []) noted
  around_kept noted h = by_place (ltb (length all) (noted.line + 3)) refl
    where
      by_place : (b : Bool) → ltb (length all) (noted.line + 3) ≡ b → IsAround (all ++ next ∷ []) (context ++ next ∷ []) noted
      by_place false e =
          let le : noted.line + 3 ≤ length all = grind (arith, nat_tests) in
          record {
            front = h.front;
            here = h.here;
            after = h.after ++ next ∷ [];
            parts = appended h.front h.here h.after h.parts;
            first = h.first;
            is = h.is ∙ same_near noted.line le;
            low = h.low;
            past = past_both (noted.line + 3) h.after (next ∷ []) h.past (omega (arith, le), tt);
            open_end = λ more. absurd (let longer = one_longer in omega (arith, le, more, longer));
            came = let longer = one_longer in let c = h.came in omega (arith, c, longer);
          }
      by_place true e =
          let lt : length all < noted.line + 3 = grind (arith, nat_tests) in
          let nothing : h.after ≡ [] = h.open_end (omega (arith, lt)) in
          record {
            front = h.front;
            here = h.here ++ next ∷ [];
            after = [];
            parts = appended h.front h.here [] (h.parts ∙ ap (λ (l : List KeptLine). h.front ++ (h.here ++ l)) nothing)
                ∙ ap (λ (l : List KeptLine). h.front ++ l) (sym (append-nil (h.here ++ next ∷ [])));
            first = h.first;
            is = ap (λ (l : List KeptLine). l ++ next ∷ []) h.is ∙ longer_near noted.line h.came lt;
            low = up_to_both (noted.line + 3) h.here (next ∷ []) h.low (omega (arith, lt), tt);
            past = tt;
            open_end = λ more. refl;
            came = let longer = one_longer in let c = h.came in omega (arith, c, longer);
          }

  all_passed : (wanted : ℕ) (noted : List Noted) → wanted ≤ length all → AllAround all context wanted noted → AllAround (all ++ next ∷ []) context wanted noted
  all_passed wanted [] le h = tt
  all_passed wanted (x ∷ more) le h = ((around_passed x (let w = h.0.1 in omega (arith, le, w)) h.0.0, h.0.1), all_passed wanted more le h.1)

  all_kept : (wanted : ℕ) (noted : List Noted) → AllAround all context wanted noted → AllAround (all ++ next ∷ []) (context ++ next ∷ []) wanted noted
  all_kept wanted [] h = tt
  all_kept wanted (x ∷ more) h = ((around_kept x h.0.0, h.0.1), all_kept wanted more h.1)

-- ---- the lines before a difference are kept

around_moved : (all context recent : List KeptLine) (noted : Noted) → Past (noted.line + 3) recent → (length all ≤ noted.line + 3 → recent ≡ []) → IsAround all context noted → IsAround all (context ++ recent) noted
around_moved all context recent noted later none h = record {
  front = h.front;
  here = h.here;
  after = h.after ++ recent;
  parts = ap (λ (l : List KeptLine). l ++ recent) h.parts ∙ append_assoc h.front (h.here ++ h.after) recent ∙ ap (λ (l : List KeptLine). h.front ++ l) (append_assoc h.here h.after recent);
  first = h.first;
  is = h.is;
  low = h.low;
  past = past_both (noted.line + 3) h.after recent h.past later;
  open_end = λ le. ap₂ (λ (a b : List KeptLine). a ++ b) (h.open_end le) (none le);
  came = h.came;
}

all_moved : (all context recent : List KeptLine) (wanted later : ℕ) (noted : List Noted) → wanted ≤ later → Past wanted recent → (length all ≤ wanted → recent ≡ []) → AllAround all context wanted noted → AllAround all (context ++ recent) later noted
all_moved all context recent wanted later [] le past none h = tt
all_moved all context recent wanted later (x ∷ more) le past none h = (
  (
    around_moved all context recent x (past_less wanted (x.line + 3) recent h.0.1 past) (λ few. none (let w = h.0.1 in omega (arith, few, w))) h.0.0,
    (let w = h.0.1 in omega (arith, le, w)),
  ),
  all_moved all context recent wanted later more le past none h.1,
)

all_around_both : (all context : List KeptLine) (wanted : ℕ) (noted : List Noted) (x : Noted) → AllAround all context wanted noted → IsAround all context x → x.line + 3 ≤ wanted → AllAround all context wanted (noted ++ x ∷ [])
all_around_both all context wanted [] x h is le = ((is, le), tt)
all_around_both all context wanted (y ∷ more) x h is le = (h.0, all_around_both all context wanted more x h.1 is le)

-- ---- what happens

min_next : (n : ℕ) (size : ℕ) → size ≡ min n 4 → nat_lt n 4 ≡ true → size + 1 ≡ min (n + 1) 4
min_next n size is lt = let l : n < 4 = grind (arith, nat_tests) in omega (arith, is, l)

min_full : (n : ℕ) (size : ℕ) → size ≡ min n 4 → nat_lt n 4 ≡ false → size ≡ 4
min_full n size is fails = let l : 4 ≤ n = grind (arith, nat_tests) in omega (arith, is, l)

module _ (all context recent : List KeptLine) (noted : List Noted) (lines wanted : ℕ) (h : IsKept all context recent noted lines wanted) (bytes : List ℕ) where
  abbrev line : KeptLine
  line = next all context bytes

  longer : length (all ++ line ∷ []) ≡ length all + 1
  longer = one_longer all context bytes

  numbers_then : UpTo (length (all ++ line ∷ [])) (all ++ line ∷ [])
  numbers_then = subst (λ (n : ℕ). UpTo n (all ++ line ∷ [])) (sym longer)
      (up_to_both (length all + 1) all (line ∷ []) (up_to_more (length all) (length all + 1) all (omega arith) h.numbers) (omega arith, tt))

  -- it isn't wanted
  kept_recent : (some older middle before : List KeptLine) → wanted < length all + 1 → Past wanted some → context ≡ older ++ middle
      → all ++ line ∷ [] ≡ before ++ (middle ++ (some ++ line ∷ [])) → length (middle ++ (some ++ line ∷ [])) ≡ min (length all + 1) 4
      → IsKept (all ++ line ∷ []) context (some ++ line ∷ []) noted (length all + 1) wanted
  kept_recent some older middle before lt past kept whole newest = record {
    older = older;
    middle = middle;
    before = before;
    kept = kept;
    whole = whole;
    newest = newest ∙ ap (λ (n : ℕ). min n 4) (sym longer);
    numbers = numbers_then;
    pending = past_both wanted some (line ∷ []) past (omega (arith, lt), tt);
    none = λ le. absurd (let l = longer in omega (arith, lt, le, l));
    counts = sym longer;
    bound = let l = longer in let b = h.bound in omega (arith, l, b);
    listed = all_passed all context bytes wanted noted (omega (arith, lt)) h.listed;
  }

  -- it is
  kept_wanted : (older middle before : List KeptLine) → length all + 1 ≤ wanted → recent ≡ [] → context ++ line ∷ [] ≡ older ++ middle
      → all ++ line ∷ [] ≡ before ++ middle → length middle ≡ min (length all + 1) 4
      → IsKept (all ++ line ∷ []) (context ++ line ∷ []) recent noted (length all + 1) wanted
  kept_wanted older middle before le nothing kept whole newest = record {
    older = older;
    middle = middle;
    before = before;
    kept = kept;
    whole = whole ∙ ap (λ (l : List KeptLine). before ++ l) (sym (append-nil middle) ∙ ap (λ (l : List KeptLine). middle ++ l) (sym nothing));
    newest = ap (λ (l : List KeptLine). length (middle ++ l)) nothing ∙ ap length (append-nil middle) ∙ newest ∙ ap (λ (n : ℕ). min n 4) (sym longer);
    numbers = numbers_then;
    pending = h.pending;
    none = λ few. nothing;
    counts = sym longer;
    bound = let l = longer in let b = h.bound in omega (arith, l, b);
    listed = all_kept all context bytes wanted noted h.listed;
  }

  one_more_there : (xs ys : List KeptLine) → length (xs ++ (ys ++ line ∷ [])) ≡ length (xs ++ ys) + 1
  one_more_there xs ys = ap length (sym (append_assoc xs ys (line ∷ []))) ∙ length-append (xs ++ ys) (line ∷ [])

  assoc_line : (xs ys zs : List KeptLine) → all ≡ xs ++ (ys ++ zs) → all ++ line ∷ [] ≡ xs ++ (ys ++ (zs ++ line ∷ []))
  assoc_line xs ys zs is =
      ap (λ (l : List KeptLine). l ++ line ∷ []) is ∙ append_assoc xs (ys ++ zs) (line ∷ []) ∙ ap (λ (l : List KeptLine). xs ++ l) (append_assoc ys zs (line ∷ []))

  -- fewer than four wait
  few_wait : wanted < length all + 1 → (middle : List KeptLine) → h.middle ≡ middle → length recent < 4 → (b : Bool) → nat_lt (length all) 4 ≡ b
      → IsKept (all ++ line ∷ []) context (recent ++ line ∷ []) noted (length all + 1) wanted
  few_wait lt middle is few true e =
      kept_recent recent h.older h.middle h.before lt h.pending h.kept (assoc_line h.before h.middle recent h.whole)
      (one_more_there h.middle recent ∙ min_next (length all) (length (h.middle ++ recent)) h.newest e)
  few_wait lt [] is few false e =
      let four : length recent ≡ 4 = ap (λ (m : List KeptLine). length (m ++ recent)) (sym is) ∙ min_full (length all) (length (h.middle ++ recent)) h.newest e in
      absurd (omega (arith, few, four))
  few_wait lt (y ∷ middle) is few false e =
      let four : length ((y ∷ middle) ++ recent) ≡ 4 = ap (λ (m : List KeptLine). length (m ++ recent)) (sym is) ∙ min_full (length all) (length (h.middle ++ recent)) h.newest e in
      let more : length (middle ++ (recent ++ line ∷ [])) ≡ length (middle ++ recent) + 1 = one_more_there middle recent in
      let least : 4 ≤ length all = grind (arith, nat_tests) in
      kept_recent recent (h.older ++ y ∷ []) middle (h.before ++ y ∷ []) lt h.pending
      (h.kept ∙ ap (λ (m : List KeptLine). h.older ++ m) is ∙ sym (append_assoc h.older (y ∷ []) middle))
      (assoc_line h.before (y ∷ middle) recent (h.whole ∙ ap (λ (m : List KeptLine). h.before ++ (m ++ recent)) is) ∙ sym (append_assoc h.before (y ∷ []) (middle ++ (recent ++ line ∷ []))))
      (omega (arith, four, more, least))

  -- four do
  four_wait : wanted < length all + 1 → (middle some : List KeptLine) → h.middle ≡ middle → recent ≡ some → 4 ≤ length recent
      → IsKept (all ++ line ∷ []) context (drop 1 recent ++ line ∷ []) noted (length all + 1) wanted
  four_wait lt (y ∷ middle) some is are many =
      let most : length ((y ∷ middle) ++ recent) ≡ min (length all) 4 = ap (λ (m : List KeptLine). length (m ++ recent)) (sym is) ∙ h.newest in
      let size : length ((y ∷ middle) ++ recent) ≡ suc (length middle) + length recent = length-append (y ∷ middle) recent in
      absurd (omega (arith, most, size, many))
  four_wait lt [] [] is are many = absurd (let none : length recent ≡ 0 = ap length are in omega (arith, none, many))
  four_wait lt [] (r ∷ some) is are many =
      let size : length recent ≡ min (length all) 4 = ap (λ (m : List KeptLine). length (m ++ recent)) (sym is) ∙ h.newest in
      let same : length recent ≡ suc (length some) = ap length are in
      let more : length (some ++ line ∷ []) ≡ length some + 1 = length-append some (line ∷ []) in
      subst (λ (l : List KeptLine). IsKept (all ++ line ∷ []) context (drop 1 l ++ line ∷ []) noted (length all + 1) wanted) (sym are)
      (kept_recent some h.older [] (h.before ++ r ∷ []) lt (subst (Past wanted) are h.pending).1 (h.kept ∙ ap (λ (m : List KeptLine). h.older ++ m) is)
      (assoc_line h.before [] (r ∷ some) (h.whole ∙ ap₂ (λ (m l : List KeptLine). h.before ++ (m ++ l)) is are) ∙ sym (append_assoc h.before (r ∷ []) (some ++ line ∷ [])))
      (omega (arith, size, same, more, many)))

  passed : wanted < length all + 1 → IsKept (all ++ line ∷ []) context (newest_with recent line) noted (length all + 1) wanted
  passed lt = by_number (nat_lt (length recent) 4) refl
    where
      by_number : (b : Bool) → nat_lt (length recent) 4 ≡ b → IsKept (all ++ line ∷ []) context ((if b then recent else drop 1 recent) ++ line ∷ []) noted (length all + 1) wanted
      by_number true e = few_wait lt h.middle refl (grind (arith, nat_tests)) (nat_lt (length all) 4) refl
      by_number false e = four_wait lt h.middle recent refl refl (grind (arith, nat_tests))

  -- of the lines that are kept at once
  wanted_one : length all + 1 ≤ wanted → (middle : List KeptLine) → h.middle ≡ middle → (b : Bool) → nat_lt (length all) 4 ≡ b
      → IsKept (all ++ line ∷ []) (context ++ line ∷ []) recent noted (length all + 1) wanted
  wanted_one le middle is true e =
      let nothing : recent ≡ [] = h.none (omega (arith, le)) in
      let whole : all ≡ h.before ++ h.middle = h.whole ∙ ap (λ (l : List KeptLine). h.before ++ (h.middle ++ l)) nothing ∙ ap (λ (l : List KeptLine). h.before ++ l) (append-nil h.middle) in
      let size : length h.middle ≡ min (length all) 4 = ap length (sym (append-nil h.middle)) ∙ ap (λ (l : List KeptLine). length (h.middle ++ l)) (sym nothing) ∙ h.newest in
      kept_wanted h.older (h.middle ++ line ∷ []) h.before le nothing
      (ap (λ (l : List KeptLine). l ++ line ∷ []) h.kept ∙ append_assoc h.older h.middle (line ∷ []))
      (ap (λ (l : List KeptLine). l ++ line ∷ []) whole ∙ append_assoc h.before h.middle (line ∷ []))
      (length-append h.middle (line ∷ []) ∙ min_next (length all) (length h.middle) size e)
  wanted_one le [] is false e =
      let nothing : recent ≡ [] = h.none (omega (arith, le)) in
      let four : 0 ≡ 4 = ap₂ (λ (m l : List KeptLine). length (m ++ l)) (sym is) (sym nothing) ∙ min_full (length all) (length (h.middle ++ recent)) h.newest e in
      absurd (omega (arith, four))
  wanted_one le (y ∷ middle) is false e =
      let nothing : recent ≡ [] = h.none (omega (arith, le)) in
      let whole : all ≡ h.before ++ (y ∷ middle) = h.whole ∙ ap₂ (λ (m l : List KeptLine). h.before ++ (m ++ l)) is nothing ∙ ap (λ (l : List KeptLine). h.before ++ l) (append-nil (y ∷ middle)) in
      let four : suc (length (middle ++ [])) ≡ 4 = ap₂ (λ (m l : List KeptLine). length (m ++ l)) (sym is) (sym nothing) ∙ min_full (length all) (length (h.middle ++ recent)) h.newest e in
      let same : length (middle ++ []) ≡ length middle = ap length (append-nil middle) in
      let more : length (middle ++ line ∷ []) ≡ length middle + 1 = length-append middle (line ∷ []) in
      let least : 4 ≤ length all = grind (arith, nat_tests) in
      kept_wanted (h.older ++ y ∷ []) (middle ++ line ∷ []) (h.before ++ y ∷ []) le nothing
      (ap (λ (l : List KeptLine). l ++ line ∷ []) (h.kept ∙ ap (λ (m : List KeptLine). h.older ++ m) is) ∙ append_assoc h.older (y ∷ middle) (line ∷ []) ∙ sym (append_assoc h.older (y ∷ []) (middle ++ line ∷ [])))
      (ap (λ (l : List KeptLine). l ++ line ∷ []) whole ∙ append_assoc h.before (y ∷ middle) (line ∷ []) ∙ sym (append_assoc h.before (y ∷ []) (middle ++ line ∷ [])))
      (omega (arith, four, same, more, least))

  -- ---- a difference in the newest line

  found_there : (x : Noted) → x.line ≡ length all → x.first ≡ length (context ++ recent) - min (length all) 4 → IsAround all (context ++ recent) x
  found_there x here first =
      let tail : context ++ recent ≡ h.older ++ (h.middle ++ recent) = ap (λ (l : List KeptLine). l ++ recent) h.kept ∙ append_assoc h.older h.middle recent in
      let size : length (context ++ recent) ≡ length h.older + length (h.middle ++ recent) = ap length tail ∙ length-append h.older (h.middle ++ recent) in
      let total : length all ≡ length h.before + length (h.middle ++ recent) = ap length h.whole ∙ length-append h.before (h.middle ++ recent) in
      let newest = h.newest in
      let front : length h.older ≡ x.first = omega (arith, size, first, newest) in
      let skipped : x.line - 4 ≡ length h.before = omega (arith, here, total, newest) in
      let every : take (x.line + 3) all ≡ all = take_all (x.line + 3) all (omega (arith, here)) in
      record {
        front = h.older;
        here = h.middle ++ recent;
        after = [];
        parts = tail ∙ ap (λ (l : List KeptLine). h.older ++ l) (sym (append-nil (h.middle ++ recent)));
        first = front;
        is = sym (ap₂ drop skipped (every ∙ h.whole) ∙ drop-append_seam h.before (h.middle ++ recent));
        low = up_to_more (length all) (x.line + 3) (h.middle ++ recent) (omega (arith, here))
            (up_to_later (length all) h.before (h.middle ++ recent) (subst (UpTo (length all)) h.whole h.numbers));
        past = tt;
        open_end = λ le. refl;
        came = omega (arith, here);
      }

  found : (x : Noted) (later : ℕ) → x.line ≡ length all → x.first ≡ length (context ++ recent) - min (length all) 4 → later ≡ length all + 3
      → IsKept all (context ++ recent) [] (noted ++ x ∷ []) lines later
  found x later here first until = record {
    older = h.older;
    middle = h.middle ++ recent;
    before = h.before;
    kept = ap (λ (l : List KeptLine). l ++ recent) h.kept ∙ append_assoc h.older h.middle recent;
    whole = h.whole ∙ ap (λ (l : List KeptLine). h.before ++ l) (sym (append-nil (h.middle ++ recent)));
    newest = ap length (append-nil (h.middle ++ recent)) ∙ h.newest;
    numbers = h.numbers;
    pending = tt;
    none = λ few. refl;
    counts = h.counts;
    bound = omega (arith, until);
    listed = all_around_both all (context ++ recent) later noted x (all_moved all context recent wanted later noted (let b = h.bound in omega (arith, b, until)) h.pending h.none h.listed)
        (found_there x here first) (omega (arith, here, until));
  }

-- ---- all that happened

abbrev Stands : List KeptLine → Kept → Type 0
Stands all kept = IsKept all kept.context kept.recent kept.noted kept.lines kept.wanted

line_step : (all : List KeptLine) (kept : Kept) (bytes : List ℕ) → Stands all kept → Stands (all ++ line_of (length all + 1) bytes ∷ []) (line_kept kept (line_of (length all + 1) bytes))
line_step all kept bytes h = by_number (nat_lt kept.wanted (length all + 1)) refl
  where
    by_number : (b : Bool) → nat_lt kept.wanted (length all + 1) ≡ b
        → Stands (all ++ line_of (length all + 1) bytes ∷ []) (if b then record kept { lines = length all + 1; recent = newest_with kept.recent (line_of (length all + 1) bytes) } else record kept { lines = length all + 1; context = kept.context ++ line_of (length all + 1) bytes ∷ [] })
    by_number true e = passed all kept.context kept.recent kept.noted kept.lines kept.wanted h bytes (grind (arith, nat_tests))
    by_number false e = wanted_one all kept.context kept.recent kept.noted kept.lines kept.wanted h bytes (grind (arith, nat_tests)) h.middle refl (nat_lt (length all) 4) refl

came : (all : List KeptLine) (kept : Kept) (bytes : List ℕ) → length all < 2 ^ 64 - 4 → Stands all kept → Stands (all ++ line_of (length all + 1) bytes ∷ []) (with_line kept bytes)
unfolding with_line
came all kept bytes few h =
    let number : min (kept.lines + 1) (2 ^ 64 - 1) ≡ length all + 1 = let c = h.counts in omega (arith, few, c) in
    subst (λ (n : ℕ). Stands (all ++ line_of (length all + 1) bytes ∷ []) (line_kept kept (line_of n bytes))) (sym number) (line_step all kept bytes h)

was_found : (all : List KeptLine) (kept : Kept) (micros : ℕ) (details : Details) (finding : Finding) → length all < 2 ^ 64 - 4 → Stands all kept → Stands all (if_listed kept micros details finding)
was_found all kept micros details finding few h = by_number (nat_lt (length kept.noted) most_listed) refl
  where
    by_number : (b : Bool) → nat_lt (length kept.noted) most_listed ≡ b
        → Stands all (if b then listed_in (kept.context ++ kept.recent) kept micros details finding else record kept { unlisted = one_more kept.unlisted })
    by_number true e =
        found all kept.context kept.recent kept.noted kept.lines kept.wanted h [] (noted_at (kept.context ++ kept.recent) kept.lines micros details finding) (min (kept.lines + 3) (2 ^ 64 - 1)) h.counts
        (ap (λ (n : ℕ). length (kept.context ++ kept.recent) - min n 4) h.counts) (let c = h.counts in omega (arith, few, c))
    by_number false e = h

begins : (rows : List Row) (node : ℕ) → Stands [] (nothing_kept rows node)
unfolding nothing_kept
begins rows node = record {
  older = [];
  middle = [];
  before = [];
  kept = refl;
  whole = refl;
  newest = refl;
  numbers = tt;
  pending = tt;
  none = λ few. refl;
  counts = refl;
  bound = omega arith;
  listed = tt;
}

step : (lines : List (List ℕ)) (kept : Kept) (happening : Happening) → length lines < 2 ^ 64 - 4 → Stands (numbered_from 1 lines) kept → Stands (numbered_from 1 (lines ++ line_in happening)) (happened kept happening)
unfolding with_frame with_finding
step lines kept (Came bytes) few h =
    let size : length (numbered_from 1 lines) ≡ length lines = numbered_length 1 lines in
    subst (λ (all : List KeptLine). Stands all (with_line kept bytes))
    (ap (λ (n : ℕ). numbered_from 1 lines ++ line_of (n + 1) bytes ∷ []) size ∙ sym (numbered_more 1 lines bytes))
    (came (numbered_from 1 lines) kept bytes (omega (arith, few, size)) h)
step lines kept WasBad few h = subst (λ (all : List (List ℕ)). Stands (numbered_from 1 all) (with_bad_line kept)) (sym (append-nil lines)) h
step lines kept (Framed rows micros kind before state free judged found) few h =
    subst (λ (all : List (List ℕ)). Stands (numbered_from 1 all) (with_frame rows kept micros kind before state free judged found)) (sym (append-nil lines)) h
step lines kept (Passed kind) few h = subst (λ (all : List (List ℕ)). Stands (numbered_from 1 all) (with_passed kept kind)) (sym (append-nil lines)) h
step lines kept (Found micros details finding) few h =
    let size : length (numbered_from 1 lines) ≡ length lines = numbered_length 1 lines in
    subst (λ (all : List (List ℕ)). Stands (numbered_from 1 all) (with_finding kept micros details finding)) (sym (append-nil lines))
    (was_found (numbered_from 1 lines) (record kept { kinds = counts_found (kind_of finding) kept.kinds }) micros details finding (omega (arith, few, size)) h)

stands : (rows : List Row) (node : ℕ) (happenings : List Happening) → length (lines_of happenings) < 2 ^ 64 - 4 → Stands (numbered_from 1 (lines_of happenings)) (kept_of rows node happenings)
unfolding kept_of lines_of numbered_from
stands rows node [] few = begins rows node
stands rows node (newest ∷ older) few =
    let size : length (lines_of older ++ line_in newest) ≡ length (lines_of older) + length (line_in newest) = length-append (lines_of older) (line_in newest) in
    let less : length (lines_of older) < 2 ^ 64 - 4 = omega (arith, few, size) in
    step (lines_of older) (kept_of rows node older) newest less (stands rows node older less)

-- ---- the lines around one

shown_around : (all context : List KeptLine) (noted : Noted) → length all < 2 ^ 64 - 4 → IsAround all context noted → around context noted ≡ drop (noted.line - 4) (take (noted.line + 3) all)
shown_around all context noted few h =
    let greatest : greatest_around noted.line ≡ noted.line + 3 = let c = h.came in omega (arith, few, c) in
    let rest : drop noted.first context ≡ h.here ++ h.after = ap₂ drop (sym h.first) h.parts ∙ drop-append_seam h.front (h.here ++ h.after) in
    ap₂ (λ (most : ℕ) (l : List KeptLine). option_map_or (λ (count : ℕ). take count l) (position (λ (line : KeptLine). nat_lt most line.number) l) l) greatest rest
    ∙ first_part (noted.line + 3) h.here h.after h.low h.past ∙ h.is

one_of_all : (all context : List KeptLine) (wanted : ℕ) (noted : List Noted) → AllAround all context wanted noted → (k : ℕ) (d : Noted) → k < length noted → IsAround all context (slice_index_or noted k d)
one_of_all all context wanted [] h k d lt = absurd (omega (arith, lt))
one_of_all all context wanted (x ∷ more) h zero d lt = h.0.0
one_of_all all context wanted (x ∷ more) h (suc k) d lt = one_of_all all context wanted more h.1 k d (omega (arith, lt))

pub lines_around : (rows : List Row) (node : ℕ) (happenings : List Happening) (noted : Noted) → length (lines_of happenings) < 2 ^ 64 - 4 → Contains (kept_of rows node happenings).noted noted
    → around (kept_of rows node happenings).context noted ≡ near noted.line (lines_of happenings)
lines_around rows node happenings noted few there =
    let h = stands rows node happenings few in
    let size : length (numbered_from 1 (lines_of happenings)) ≡ length (lines_of happenings) = numbered_length 1 (lines_of happenings) in
    let one = one_of_all (numbered_from 1 (lines_of happenings)) (kept_of rows node happenings).context (kept_of rows node happenings).wanted (kept_of rows node happenings).noted h.listed there.0 noted there.1 in
    shown_around (numbered_from 1 (lines_of happenings)) (kept_of rows node happenings).context noted (omega (arith, few, size))
    (subst (IsAround (numbered_from 1 (lines_of happenings)) (kept_of rows node happenings).context) there.2 one)

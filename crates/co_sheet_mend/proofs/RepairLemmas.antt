-- Of several repairs of a line the strongest, whatever the order of the faults.
use Rattle.std.proofs.Common.{◌≡◌, ℕ, ◌+◌, ◌<◌, Bool, true, false, leb, List, [], ◌∷◌, length, drop, Option, Some, None, refl, sym, ap, ◌∙◌, arith}
use Rattle.std.specs.Prelude.{◌||◌}
use Rattle.std.specs.List.{Any, Contains, list_any, slice_index_or}
use Rattle.std.proofs.lemmas.List.{at_drop_more}
use Rattle.std.specs.Option.{option_map_or}
use Rattle.std.proofs.lemmas.Bool.Decides.{nat_tests}
use Rattle.std.proofs.lemmas.List.Folds.{Any-from_list_any, list_any-from_Any}
use Rattle.co_text.proofs.Tests.{by_test}
use Rattle.co_sheet_rows.specs.declared.fault.SheetFault.{SheetFault}
use Rattle.co_value.specs.declared.key.Key.{Key}
use Rattle.co_sheet_text.specs.Text.{Line}
use Rattle.co_sheet_mend.specs.declared.repair.Repair.{Repair}
use Rattle.co_sheet_mend.specs.declared.repair.Repair.TheVariants.{Emptied, Typed, ReadWrite, Completed, Counted, Numbered}
use Rattle.co_sheet_mend.specs.Repairs.{asks_for, first_asked, has_repair, is_counted, key_at, mended_by, mended_lines, rank, repair_at, repair_here, same_repair, stronger}

pub stronger-none : (a : Option Repair) → stronger a None ≡ a
stronger-none None = refl
stronger-none (Some x) = refl

pub stronger-assoc : (a b c : Option Repair) → stronger (stronger a b) c ≡ stronger a (stronger b c)
stronger-assoc None b c = refl
stronger-assoc (Some x) None c = refl
stronger-assoc (Some x) (Some y) None = by_test (leb (rank x) (rank y)) (λ e. rw e refl) (λ e. rw e refl)
stronger-assoc (Some x) (Some y) (Some z) =
    by_test (leb (rank x) (rank y))
    (λ e. by_test (leb (rank y) (rank z))
    (λ f. let g : leb (rank x) (rank z) ≡ true = grind (arith, nat_tests, e, f) in rw (e, f) (rw (e, g) refl))
    (λ f. rw (e, f) refl))
    (λ e. by_test (leb (rank y) (rank z))
    (λ f. rw (e, f) (rw e refl))
    (λ f. let g : leb (rank x) (rank z) ≡ false = grind (arith, nat_tests, e, f) in rw (e, f) (rw g refl)))

-- ---- one fault more

asked : (r : Repair) (a b c d e f : Bool)
    → first_asked (same_repair Emptied r || a) (same_repair Typed r || b) (same_repair ReadWrite r || c) (same_repair Completed r || d) (same_repair Counted r || e) (same_repair Numbered r || f)
    ≡ stronger (Some r) (first_asked a b c d e f)
asked Emptied true b c d e f = refl
asked Emptied false true c d e f = refl
asked Emptied false false true d e f = refl
asked Emptied false false false true e f = refl
asked Emptied false false false false true f = refl
asked Emptied false false false false false true = refl
asked Emptied false false false false false false = refl
asked Typed true b c d e f = refl
asked Typed false true c d e f = refl
asked Typed false false true d e f = refl
asked Typed false false false true e f = refl
asked Typed false false false false true f = refl
asked Typed false false false false false true = refl
asked Typed false false false false false false = refl
asked ReadWrite true b c d e f = refl
asked ReadWrite false true c d e f = refl
asked ReadWrite false false true d e f = refl
asked ReadWrite false false false true e f = refl
asked ReadWrite false false false false true f = refl
asked ReadWrite false false false false false true = refl
asked ReadWrite false false false false false false = refl
asked Completed true b c d e f = refl
asked Completed false true c d e f = refl
asked Completed false false true d e f = refl
asked Completed false false false true e f = refl
asked Completed false false false false true f = refl
asked Completed false false false false false true = refl
asked Completed false false false false false false = refl
asked Counted true b c d e f = refl
asked Counted false true c d e f = refl
asked Counted false false true d e f = refl
asked Counted false false false true e f = refl
asked Counted false false false false true f = refl
asked Counted false false false false false true = refl
asked Counted false false false false false false = refl
asked Numbered true b c d e f = refl
asked Numbered false true c d e f = refl
asked Numbered false false true d e f = refl
asked Numbered false false false true e f = refl
asked Numbered false false false false true f = refl
asked Numbered false false false false false true = refl
asked Numbered false false false false false false = refl

asked_here : (here : Option Repair) (a b c d e f : Bool)
    → first_asked (option_map_or (same_repair Emptied) here false || a) (option_map_or (same_repair Typed) here false || b) (option_map_or (same_repair ReadWrite) here false || c) (option_map_or (same_repair Completed) here false || d) (option_map_or (same_repair Counted) here false || e) (option_map_or (same_repair Numbered) here false || f)
    ≡ stronger here (first_asked a b c d e f)
asked_here None a b c d e f = refl
asked_here (Some r) a b c d e f = asked r a b c d e f

pub repair_at-first : (fault : SheetFault) (faults : List SheetFault) (line : ℕ)
    → repair_at (fault ∷ faults) line ≡ stronger (repair_here line fault) (repair_at faults line)
unfolding repair_at
repair_at-first fault faults line =
    asked_here (repair_here line fault) (has_repair faults line Emptied) (has_repair faults line Typed) (has_repair faults line ReadWrite)
    (has_repair faults line Completed) (has_repair faults line Counted) (has_repair faults line Numbered)

-- the repairs so far and those of the rest, with one fault more
pub repair-turn : (before after : Option Repair) (faults : List SheetFault) (i : ℕ) (d : SheetFault) (line : ℕ) → i < length faults
    → after ≡ stronger before (repair_here line (slice_index_or faults i d))
    → stronger after (repair_at (drop (i + 1) faults) line) ≡ stronger before (repair_at (drop i faults) line)
repair-turn before after faults i d line within is =
    let here = repair_here line (slice_index_or faults i d) in
    let rest = repair_at (drop (i + 1) faults) line in
    ap (λ (a : Option Repair). stronger a rest) is
    ∙ stronger-assoc before here rest
    ∙ sym (ap (λ (a : Option Repair). stronger before a)
    (at_drop_more (λ (fs : List SheetFault). repair_at fs line) faults i d within ∙ repair_at-first (slice_index_or faults i d) (drop (i + 1) faults) line))

pub repair_at-none : (line : ℕ) → repair_at [] line ≡ None
unfolding repair_at
repair_at-none line = refl

-- ---- lists with the same faults

module _ {X : Type 0} (p : X → Bool) where
  moved : (xs ys : List X) → ((x : X) → Contains xs x → Contains ys x) → Any (λ x. p x ≡ true) xs → Any (λ x. p x ≡ true) ys
  moved xs ys into some =
      let there = into some.1 (some.0, some.2, some.3) in (there.0, some.1, there.1, there.2, some.4)

  passes : (xs ys : List X) → ((x : X) → Contains xs x → Contains ys x) → list_any p xs ≡ true → list_any p ys ≡ true
  passes xs ys into is = list_any-from_Any p ys (moved xs ys into (Any-from_list_any p xs is))

  same_members : (xs ys : List X) → ((x : X) → Contains xs x → Contains ys x) → ((x : X) → Contains ys x → Contains xs x) → list_any p xs ≡ list_any p ys
  same_members xs ys into back = by_test (list_any p xs)
      (λ is. is ∙ sym (passes xs ys into is))
      (λ fails. by_test (list_any p ys) (λ is. let other = passes ys xs back is in absurd cc) (λ also. fails ∙ sym also))

pub same_repairs : (xs ys : List SheetFault) → ((f : SheetFault) → Contains xs f → Contains ys f) → ((f : SheetFault) → Contains ys f → Contains xs f)
    → (line : ℕ) → repair_at xs line ≡ repair_at ys line
unfolding repair_at
same_repairs xs ys into back line =
    let a : has_repair xs line Emptied ≡ has_repair ys line Emptied = same_members (asks_for Emptied line) xs ys into back in
    let b : has_repair xs line Typed ≡ has_repair ys line Typed = same_members (asks_for Typed line) xs ys into back in
    let c : has_repair xs line ReadWrite ≡ has_repair ys line ReadWrite = same_members (asks_for ReadWrite line) xs ys into back in
    let d : has_repair xs line Completed ≡ has_repair ys line Completed = same_members (asks_for Completed line) xs ys into back in
    let e : has_repair xs line Counted ≡ has_repair ys line Counted = same_members (asks_for Counted line) xs ys into back in
    let f : has_repair xs line Numbered ≡ has_repair ys line Numbered = same_members (asks_for Numbered line) xs ys into back in
    cc

-- ---- lines by the same repairs

module _ (f g : ℕ → Option Repair) (same : (line : ℕ) → f line ≡ g line) where
  pub same_lines : (counted : Bool) (key : Option Key) (lines : List Line) → mended_lines f counted key lines ≡ mended_lines g counted key lines
  same_lines counted key [] = refl
  same_lines counted key (line ∷ more) =
      rw (same line.number, same_lines true key more, same_lines (is_counted (g line.number)) (key_at key line) more) refl

  pub same_mended : (lines : List Line) → mended_by f lines ≡ mended_by g lines
  same_mended lines = rw (same 0, same_lines false None lines) refl

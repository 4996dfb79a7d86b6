-- The first line at fault has the fault, and no earlier line has one.
use Rattle.std.proofs.Common.{◌≡◌, ℕ, List, [], ◌∷◌, ◌++◌, Option, Some, None, refl, sym, ◌∙◌, ap}
use Rattle.std.specs.Prelude.{option_map}
use Rattle.std.specs.Option.{option_or}
use Rattle.std.proofs.lemmas.List.{append_assoc}
use Rattle.co_sheet_text.specs.declared.fault.TextFaultKind.{TextFaultKind}
use Rattle.co_sheet_text.specs.declared.fault.TextFault.{TextFault}
use Rattle.co_sheet_text.specs.Text.{Line}
use Rattle.co_sheet_text.specs.Sections.{sections_of, line_fault, fault_at, first_line_fault, IsLineOf, HaveNoFault, IsFirstAtFault}

-- of lines that come after the lines before: no line has a fault
abbrev NoneAfter : List Line → List Line → Type 0
NoneAfter before ls = (front : List Line) (l : Line) → IsLineOf ls front l → line_fault (sections_of (before ++ front)) l ≡ None

record FoundAfter (before ls : List Line) (fault : TextFault) : Type 0 where
  pub front : List Line
  pub line : Line
  pub of_text : IsLineOf ls front line
  pub here : line_fault (sections_of (before ++ front)) line ≡ Some fault.kind
  pub number : fault.line ≡ line.number
  pub none_earlier : NoneAfter before front

head : {X : Type 0} (x y : X) (xs ys : List X) → x ∷ xs ≡ y ∷ ys → x ≡ y
head x y xs ys h = cc

tail : {X : Type 0} (x y : X) (xs ys : List X) → x ∷ xs ≡ y ∷ ys → xs ≡ ys
tail x y xs ys h = cc

append-none : (before : List Line) → before ++ [] ≡ before
append-none [] = refl
append-none (l ∷ before) = ap (λ (ls : List Line). l ∷ ls) (append-none before)

nil-not-cut : (front : List Line) (l : Line) (after : List Line) → ◌≡◌ {A = List Line} [] (front ++ l ∷ after) → ⊥
nil-not-cut [] l after h = cc
nil-not-cut (x ∷ front) l after h = cc

-- one line more in front, which has none
none-cons : (before ls : List Line) (l : Line) → line_fault (sections_of before) l ≡ None → NoneAfter (before ++ l ∷ []) ls → NoneAfter before (l ∷ ls)
none-cons before ls l here rest [] m is =
    ap (λ (b : List Line). line_fault (sections_of b) m) (append-none before)
    ∙ ap (line_fault (sections_of before)) (sym (head l m ls is.after is.cut)) ∙ here
none-cons before ls l here rest (x ∷ front) m is =
    ap (λ (y : Line). line_fault (sections_of (before ++ y ∷ front)) m) (sym (head l x ls (front ++ m ∷ is.after) is.cut))
    ∙ ap (λ (b : List Line). line_fault (sections_of b) m) (sym (append_assoc before (l ∷ []) front))
    ∙ rest front m (record { after = is.after; cut = tail l x ls (front ++ m ∷ is.after) is.cut })

none-nil : (before : List Line) → NoneAfter before []
none-nil before front l is = absurd (nil-not-cut front l is.after is.cut)

none_step : (o : Option TextFaultKind) (n : ℕ) (rest : Option TextFault) → option_or (option_map (fault_at n) o) rest ≡ None → (o ≡ None) × (rest ≡ None)
none_step None n rest h = (refl, h)
none_step (Some k) n rest h = absurd (cc)

none-after : (before ls : List Line) → first_line_fault before ls ≡ None → NoneAfter before ls
none-after before [] h = none-nil before
none-after before (l ∷ ls) h =
    let both = none_step (line_fault (sections_of before) l) l.number (first_line_fault (before ++ l ∷ []) ls) h in
    none-cons before ls l both.0 (none-after (before ++ l ∷ []) ls both.1)

-- where no line is answered, no line has a fault
pub none-found : (ls : List Line) → first_line_fault [] ls ≡ None → HaveNoFault ls
none-found ls h = record { none = none-after [] ls h }

found-here : (before ls : List Line) (l : Line) (k : TextFaultKind) (fault : TextFault) → line_fault (sections_of before) l ≡ Some k → fault_at l.number k ≡ fault
    → FoundAfter before (l ∷ ls) fault
found-here before ls l k fault here is = record {
  front = [];
  line = l;
  of_text = record { after = ls; cut = refl };
  here = ap (λ (b : List Line). line_fault (sections_of b) l) (append-none before) ∙ here ∙ ap (λ (f : TextFault). let o : Option TextFaultKind = Some f.kind in o) is;
  number = sym (ap (λ (f : TextFault). f.line) is);
  none_earlier = none-nil before;
}

found-later : (before ls : List Line) (l : Line) (fault : TextFault) → line_fault (sections_of before) l ≡ None → FoundAfter (before ++ l ∷ []) ls fault → FoundAfter before (l ∷ ls) fault
found-later before ls l fault none found = record {
  front = l ∷ found.front;
  line = found.line;
  of_text = record { after = found.of_text.after; cut = ap (λ (rest : List Line). l ∷ rest) found.of_text.cut };
  here = ap (λ (b : List Line). line_fault (sections_of b) found.line) (sym (append_assoc before (l ∷ []) found.front)) ∙ found.here;
  number = found.number;
  none_earlier = none-cons before found.front l none found.none_earlier;
}

same-some : (f g : TextFault) → ◌≡◌ {A = Option TextFault} (Some f) (Some g) → f ≡ g
same-some f g h = cc

found-cases : (before ls : List Line) (l : Line) (fault : TextFault) (o : Option TextFaultKind) (rest : Option TextFault) → line_fault (sections_of before) l ≡ o
    → (rest ≡ Some fault → FoundAfter (before ++ l ∷ []) ls fault)
    → option_or (option_map (fault_at l.number) o) rest ≡ Some fault → FoundAfter before (l ∷ ls) fault
found-cases before ls l fault (Some k) rest is more h = found-here before ls l k fault is (same-some (fault_at l.number k) fault h)
found-cases before ls l fault None rest is more h = found-later before ls l fault is (more h)

found-after : (before ls : List Line) (fault : TextFault) → first_line_fault before ls ≡ Some fault → FoundAfter before ls fault
found-after before [] fault h = absurd (cc)
found-after before (l ∷ ls) fault h =
    found-cases before ls l fault (line_fault (sections_of before) l) (first_line_fault (before ++ l ∷ []) ls) refl (found-after (before ++ l ∷ []) ls fault) h

-- the fault that is answered is that of the first line that has one
pub first-found : (ls : List Line) (fault : TextFault) → first_line_fault [] ls ≡ Some fault → IsFirstAtFault ls fault
first-found ls fault h =
    let found = found-after [] ls fault h in
    record { before = found.front; line = found.line; of_text = found.of_text; here = found.here; number = found.number; none_earlier = record { none = found.none_earlier } }

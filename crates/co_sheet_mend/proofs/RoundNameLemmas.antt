-- A round of mending gives each entry the name that it had.
use Rattle.std.proofs.Common.{◌≡◌, ℕ, ◌+◌, ◌≤◌, Bool, true, false, cond, not, ◌&&◌, List, [], ◌∷◌, ◌++◌, length, map, Option, Some, None, refl, sym, ap, ◌∙◌, subst, inl, inr, codes}
use Rattle.std.specs.Prelude.{is_some, option_and_then}
use Rattle.std.specs.List.{list_all, list_any}
use Rattle.std.specs.Option.{option_map_or}
use Rattle.std.specs.Str.Lines.{lines}
use Rattle.std.proofs.lemmas.List.{append_assoc}
use Rattle.co_value.specs.declared.key.Key.{Key}
use Rattle.co_sheet_rows.specs.declared.fault.SheetFault.{SheetFault}
use Rattle.co_sheet_text.specs.declared.fault.TextFaultKind.{TextFaultKind}
use Rattle.co_sheet_text.specs.declared.section_kind.SectionKind.{SectionKind}
use Rattle.co_sheet_text.specs.declared.section_kind.SectionKind.TheVariants.{Object, SubIndex}
use Rattle.co_sheet_text.specs.LinesAtFault.{lines_read, next_read, own_fault, read_as}
use Rattle.co_sheet_text.specs.Names.{is_hexadecimal_up_to, is_list, kind_of, same_kind}
use Rattle.co_sheet_text.specs.Sections.{LineForm, skipped, section_line, unclosed, name_value, malformed, form_of, line_form, section_at, sections_of, TextSection}
use Rattle.co_sheet_text.specs.Text.{Line, is_empty, lines_of, trim, without_mark}
use Rattle.co_sheet_changes.specs.Groups.{section_in}
use Rattle.co_sheet_changes.proofs.LineLemmas.{numbered}
use Rattle.co_sheet_faults.specs.AllFaults.{faults_in}
use Rattle.co_sheet_faults.specs.FaultLaws.{AreNumbered}
use Rattle.co_sheet_mend.specs.declared.repair.Repair.{Repair}
use Rattle.co_sheet_mend.specs.declared.repair.Repair.TheVariants.{Typed, Completed, Counted, Numbered}
use Rattle.co_sheet.specs.Entries.{name_of}
use Rattle.co_sheet_mend.specs.NameLaws.{is_entry, is_name, keeps_section, name_in, name_read}
use Rattle.co_sheet_mend.specs.ReadableTexts.{mended}
use Rattle.co_sheet_mend.specs.Repairs.{begins_list, begins_mandatory, begun_list, counted_text, ended, is_counted, key_at, line_as, mandatory_lines, mandatory_objects, mandatory_sections, mended_by, mended_lines, objects_named, repair_at, with_mandatory}
use Rattle.co_sheet_mend.proofs.ElementLemmas.{In}
use Rattle.co_sheet_mend.proofs.FaultPlaceLemmas.{LacksSub0}
use Rattle.co_sheet_mend.proofs.LinePieceLemmas.{after-one, before-piece, begin-piece, end-piece, kept-piece, listed-piece, numbered-piece, other-piece}
use Rattle.co_sheet_mend.proofs.ListLineLemmas.{counted-line, in-middle}
use Rattle.co_sheet_mend.proofs.LookLemmas.{Look, begins, ends, names, other, named, named-before, named-end, named-nameless, named-other, is_begin, is_end, is_long, look, look_form}
use Rattle.co_sheet_mend.proofs.NameLemmas.{clash, faults-whole, numbered-lines}
use Rattle.co_sheet_mend.proofs.NameReadLemmas.{IsInside, beginning, inside-first, inside-next, is_long_line, is_seen, look_line, naming, one-kind, own-begins, own-names, read-named, seen-next}
use Rattle.co_sheet_mend.proofs.PieceLemmas.{Passes, are_lines_of, are_values, looks, named-values, passes-counted, passes-empty, passes-none}
use Rattle.co_sheet_mend.proofs.RepairPlaceLemmas.{lacks_sub0, name_unrepaired, section_kept, unwritten}
use Rattle.co_sheet_mend.proofs.SectionFormLemmas.{end-bracketed, end-of, is-begins, is_bracketed, other-section, section-end, section-named, unsectioned}
use Rattle.co_sheet_mend.proofs.SubZeroLemmas.{object-name, sub0_kind}
use Rattle.co_sheet_mend.proofs.TextLineLemmas.{are_lines, both, both-are, is_line, lines-are-lines, not-so}

-- ---- the lines of a text

looks-numbered : (entry : SectionKind) (n : ℕ) (bs : List (List ℕ)) → map (λ (l : Line). look entry l.bytes) (numbered n bs) ≡ map (look entry) bs
looks-numbered entry n [] = refl
looks-numbered entry n (b ∷ bs) = ap (λ (ks : List Look). look entry b ∷ ks) (looks-numbered entry (n + 1) bs)

lines-numbered : (n : ℕ) (bs : List (List ℕ)) → are_lines_of (numbered n bs) ≡ are_lines bs
lines-numbered n [] = refl
lines-numbered n (b ∷ bs) = ap (λ t. is_line b && t) (lines-numbered (n + 1) bs)

-- ---- texts that are added

-- lines without a name
abbrev Nameless : List Look → Type 0
Nameless ks = (inside : Bool) → named inside ks ≡ None

after-other : (ks : List Look) → Nameless ks → Nameless (other ∷ ks)
after-other ks none inside = named-other inside other ks refl ∙ none inside

after-section : (b : Bool) (ks : List Look) → Nameless ks → Nameless (cond b begins ends ∷ ks)
after-section b ks none inside = named-nameless inside (cond b begins ends) ks (section-end b) none

abbrev is_nameless : LineForm → Bool
is_nameless (name_value name value) = not (is_name name)
is_nameless form = true

value-other : (long named some : Bool) (value : List ℕ) → not named ≡ true → cond (not long && (named && some)) (names value) other ≡ other
value-other true named some value h = refl
value-other false true some value h = absurd (cc)
value-other false false some value h = refl

nameless-form : (entry : SectionKind) (long : Bool) (form : LineForm) (ks : List Look) → is_nameless form ≡ true → Nameless ks → Nameless (look_form entry long form ∷ ks)
nameless-form entry long (section_line name) ks h none = after-section (not long && same_kind (kind_of name) entry) ks none
nameless-form entry long unclosed ks h none = λ inside. named-nameless inside ends ks refl none
nameless-form entry long (name_value name value) ks h none =
    λ inside. named-other inside (look_form entry long (name_value name value)) ks (value-other long (is_name name) (not (is_empty value)) value h) ∙ none inside
nameless-form entry long skipped ks h none = after-other ks none
nameless-form entry long malformed ks h none = after-other ks none

abbrev are_nameless : List (List ℕ) → Bool
are_nameless bs = list_all (λ b. is_nameless (form_of (trim b))) bs

all-nameless : (entry : SectionKind) (bs : List (List ℕ)) → are_nameless bs ≡ true → Nameless (map (look entry) bs)
all-nameless entry [] h = λ inside. refl
all-nameless entry (b ∷ bs) h =
    let of = both (is_nameless (form_of (trim b))) (are_nameless bs) h in
    nameless-form entry (is_long b) (form_of (trim b)) (map (look entry) bs) of.0 (all-nameless entry bs of.1)

mandatory-lines : are_nameless (lines mandatory_sections) ≡ true
unfolding mandatory_sections
mandatory-lines = refl

mandatory-nameless : (entry : SectionKind) → Nameless (looks entry mandatory_sections)
mandatory-nameless entry = all-nameless entry (lines mandatory_sections) mandatory-lines

abbrev begun_lines : List ℕ
begun_lines = codes "[MandatoryObjects]\nSupportedObjects=0\n"

begun-all : are_nameless (lines begun_lines) ≡ true
begun-all = refl

begun-nameless : (entry : SectionKind) (b : Bool) → Nameless (looks entry (cond b begun_lines []))
begun-nameless entry true = all-nameless entry (lines begun_lines) begun-all
begun-nameless entry false = λ inside. refl

-- ---- repairs

uncounted : (repair : Option Repair) → (repair ≡ Some Counted → ⊥) → is_counted repair ≡ false
uncounted None h = refl
uncounted (Some Counted) h = absurd (h refl)
uncounted (Some repair) h = refl

kept-uncounted : (repair : Option Repair) → keeps_section repair ≡ true → is_counted repair ≡ false
kept-uncounted None h = refl
kept-uncounted (Some Typed) h = refl
kept-uncounted (Some Completed) h = refl
kept-uncounted (Some Numbered) h = refl
kept-uncounted repair h = absurd (cc)

name-missing : (entry : SectionKind) (ss : List TextSection) → section_at entry ss ≡ None → name_in entry ss ≡ None
name-missing entry ss h = ap (λ (o : Option TextSection). option_and_then name_of o) h

module _ (entry : SectionKind) (is : is_entry entry ≡ true) where
  abbrev looks_in : List Line → List Look
  looks_in ls = map (λ l. look entry l.bytes) ls

  -- ---- a text to which the mandatory objects are added

  values-lines : (ls : List Line) → are_lines_of ls ≡ true → are_values (with_mandatory ls) ≡ true
  values-lines ls h = append-values (objects_named ls) (named-values ls h)
    where
      append-values : (values : List (List ℕ)) → are_values values ≡ true → are_values (values ++ mandatory_objects) ≡ true
      append-values [] g = refl
      append-values (value ∷ values) g = let of = both (is_line value) (are_values values) g in both-are (is_line value) _ of.0 (append-values values of.1)

  listed-passes : (b : Bool) (ls : List Line) → are_lines_of ls ≡ true → Passes entry (cond b (counted_text (with_mandatory ls)) [])
  listed-passes true ls h = passes-counted entry (with_mandatory ls) (values-lines ls h)
  listed-passes false ls h = passes-none entry

  mandatory-walk : (ls : List Line) → are_lines_of ls ≡ true → (inside : Bool) → named inside (looks entry (mandatory_lines ls)) ≡ named inside (looks_in ls)
  mandatory-walk [] h inside = mandatory-nameless entry inside
  mandatory-walk (l ∷ ls) h inside =
      let of = both (is_line l.bytes) (are_lines_of ls) h in
      let extra = cond (begins_mandatory l) (counted_text (with_mandatory ls)) [] in
      listed-piece entry is l.bytes extra of.0 (listed-passes (begins_mandatory l) ls of.1) inside (mandatory_lines ls)
      ∙ after-one (look entry l.bytes) inside (looks entry (mandatory_lines ls)) (looks_in ls) (mandatory-walk ls of.1)

  -- ---- a text whose lines are mended

  module _ (lines : List Line) (numbers : AreNumbered lines) (tail : List ℕ) (nameless : Nameless (looks entry tail)) where
    abbrev repairs : ℕ → Option Repair
    repairs n = repair_at (faults_in lines) n

    -- these lines of the text come after these, as they are read
    record IsHere (before ls : List Line) : Type 0 where
      read : lines_read [] lines ≡ before ++ lines_read before ls
      part : (l : Line) → In l ls → In l lines
      whole : are_lines_of ls ≡ true

    next-here : (before : List Line) (l : Line) (ls : List Line) → IsHere before (l ∷ ls) → IsHere (before ++ next_read before l ∷ []) ls
    next-here before l ls here = record {
      read = here.read ∙ sym (append_assoc before (next_read before l ∷ []) (lines_read (before ++ next_read before l ∷ []) ls));
      part = λ k i. here.part k (inr i);
      whole = (both (is_line l.bytes) (are_lines_of ls) here.whole).1;
    }

    bytes-whole : (before : List Line) (l : Line) (ls : List Line) → IsHere before (l ∷ ls) → is_line l.bytes ≡ true
    bytes-whole before l ls here = (both (is_line l.bytes) (are_lines_of ls) here.whole).0

    in-read : (before : List Line) (l : Line) (ls : List Line) → IsHere before (l ∷ ls) → own_fault before l ≡ None → In l (lines_read [] lines)
    in-read before l ls here own =
        let rest = lines_read (before ++ next_read before l ∷ []) ls in
        let same : next_read before l ≡ l = ap (λ (o : Option TextFaultKind). read_as o l) own in
        subst (λ (ms : List Line). In l ms) (sym here.read)
        (subst (λ (m : Line). In l (before ++ m ∷ rest)) (sym same) (in-middle before rest l))

    numbers-of : (l : Line) → In l lines → repairs l.number ≡ Some Numbered → LacksSub0 (lines_read [] lines) l
    numbers-of l i h = lacks_sub0 lines numbers l i h

    sub0-section : (l : Line) (lacks : LacksSub0 (lines_read [] lines) l) → section_in l ≡ Some lacks.name
    sub0-section l lacks = section-named (trim l.bytes) lacks.name lacks.form

    sub0-digits : (l : Line) (lacks : LacksSub0 (lines_read [] lines) l) → is_hexadecimal_up_to 4 lacks.name ≡ true
    sub0-digits l lacks = (object-name lacks.name lacks.index lacks.object).0

    sub0-ends : (l : Line) → LacksSub0 (lines_read [] lines) l → is_end (look_line entry l) ≡ true
    sub0-ends l lacks = end-of entry (line_form l) (is_long_line l) (ap is_bracketed lacks.form)

    -- ---- in the section of the entry

    other-uncounted : (l : Line) → In l lines → section_in l ≡ None → is_counted (repairs l.number) ≡ false
    other-uncounted l i none = uncounted (repairs l.number) (λ counts. clash (begins_list l) (counted-line lines numbers l i counts) (ap (λ (o : Option (List ℕ)). option_map_or (λ name. is_list (kind_of name)) o false) none))

    end-by : (repair : Option Repair) (key : Option Key) (l : Line) (ls : List Line) → repairs l.number ≡ repair → In l lines → is_line l.bytes ≡ true → are_lines_of ls ≡ true → is_end (look_line entry l) ≡ true
        → (rest : List ℕ) → named true (looks entry (line_as repair key l ls ++ rest)) ≡ None
    end-by (Some Numbered) key l ls h i inner whole end rest =
        let lacks = numbers-of l i h in
        numbered-piece entry is key l ls lacks.name inner (sub0-section l lacks) (sub0-digits l lacks) true rest
        ∙ named-end (cond (same_kind (sub0_kind lacks.name) entry) begins ends) _ (section-end (same_kind (sub0_kind lacks.name) entry))
    end-by repair key l ls h i inner whole end rest =
        end-piece entry is repair key l ls inner whole end (λ written. unwritten lines numbers l i (end-bracketed entry is l end) (h ∙ written)) (λ same. absurd (cc)) rest

    abbrev after : (key : Option Key) (l : Line) (ls : List Line) → List ℕ
    after key l ls = mended_lines repairs (is_counted (repairs l.number)) (key_at key l) ls ++ tail

    inside-cases : (before : List Line) (l : Line) (ls : List Line) (key : Option Key) → IsHere before (l ∷ ls) → IsInside entry before → (k : Look) → look_line entry l ≡ k
        → (IsInside entry (before ++ next_read before l ∷ []) → named true (looks entry (mended_lines repairs false (key_at key l) ls ++ tail)) ≡ named true (looks_in ls))
        → named true (looks entry (line_as (repairs l.number) (key_at key l) l ls ++ after key l ls)) ≡ named true (k ∷ looks_in ls)
    inside-cases before l ls key here inside begins h more =
        end-by (repairs l.number) (key_at key l) l ls refl (here.part l (inl refl)) (bytes-whole before l ls here) (both (is_line l.bytes) (are_lines_of ls) here.whole).1 (ap is_end h) (after key l ls)
    inside-cases before l ls key here inside ends h more =
        end-by (repairs l.number) (key_at key l) l ls refl (here.part l (inl refl)) (bytes-whole before l ls here) (both (is_line l.bytes) (are_lines_of ls) here.whole).1 (ap is_end h) (after key l ls)
    inside-cases before l ls key here inside (names value) h more =
        let n = naming entry l value h in
        let none = name_unrepaired lines numbers l (in-read before l ls here (own-names entry is before l value inside h)) n.name value n.form n.named in
        ap (λ (r : Option Repair). named true (looks entry (line_as r (key_at key l) l ls ++ after key l ls))) none
        ∙ kept-piece entry is (key_at key l) l ls (bytes-whole before l ls here) true (after key l ls)
        ∙ ap (λ (k : Look). named true (k ∷ looks entry (after key l ls))) h
    inside-cases before l ls key here inside other h more =
        other-piece entry is (repairs l.number) (key_at key l) l ls (bytes-whole before l ls here) (both (is_line l.bytes) (are_lines_of ls) here.whole).1 h (after key l ls)
        ∙ ap (λ b. named true (looks entry (mended_lines repairs b (key_at key l) ls ++ tail))) (other-uncounted l (here.part l (inl refl)) (other-section entry is l h))
        ∙ more (inside-next entry is before l inside h)

    inside-walk : (before ls : List Line) (key : Option Key) → IsHere before ls → IsInside entry before → named true (looks entry (mended_lines repairs false key ls ++ tail)) ≡ named true (looks_in ls)
    inside-walk before [] key here inside = nameless true
    inside-walk before (l ∷ ls) key here inside =
        ap (λ (t : List ℕ). named true (looks entry t)) (append_assoc (line_as (repairs l.number) (key_at key l) l ls) (mended_lines repairs (is_counted (repairs l.number)) (key_at key l) ls) tail)
        ∙ inside-cases before l ls key here inside (look_line entry l) refl (λ next. inside-walk (before ++ next_read before l ∷ []) ls (key_at key l) (next-here before l ls here) next)

    -- ---- before it

    abbrev IsWhole : List Line → Type 0
    IsWhole ls = named false (looks_in ls) ≡ name_in entry (sections_of (lines_read [] lines))

    -- sub-index 0 isn't added before its own section
    first-by : (repair : Option Repair) (key : Option Key) (l : Line) (ls : List Line) → repairs l.number ≡ repair → In l lines → is_line l.bytes ≡ true → keeps_section repair ≡ true → look_line entry l ≡ begins
        → (rest : List ℕ) → named false (looks entry (line_as repair key l ls ++ rest)) ≡ named true (looks entry rest)
    first-by (Some Numbered) key l ls h i inner keeps_it first rest =
        let lacks = numbers-of l i h in
        let b = beginning entry l first in
        let named_same : kind_of b.name ≡ Object lacks.index = ap (λ n. kind_of n) (same-section b.name lacks.name (sym b.form ∙ lacks.form)) ∙ lacks.object in
        let object : entry ≡ Object lacks.index = sym (one-kind (kind_of b.name) entry is b.kind) ∙ named_same in
        numbered-piece entry is key l ls lacks.name inner (sub0-section l lacks) (sub0-digits l lacks) false rest
        ∙ ap (λ (e : SectionKind). named false (cond (same_kind (sub0_kind lacks.name) e) begins ends ∷ other ∷ other ∷ look_line entry l ∷ looks entry rest)) object
        ∙ ap (λ (k : Look). named false (k ∷ looks entry rest)) first
      where
        same-section : (x y : List ℕ) → section_line x ≡ section_line y → x ≡ y
        same-section x y g = cc
    first-by repair key l ls h i inner keeps_it first rest = begin-piece entry is repair key l ls inner first keeps_it (λ same. absurd (cc)) rest

    no-name-there : (l : Line) (lacks : LacksSub0 (lines_read [] lines) l) → same_kind (sub0_kind lacks.name) entry ≡ true → name_in entry (sections_of (lines_read [] lines)) ≡ None
    no-name-there l lacks same =
        let index = (object-name lacks.name lacks.index lacks.object).1 in
        let its : SubIndex (record { index = lacks.index; sub = 0 }) ≡ entry = ap (λ n. SubIndex (record { index = n; sub = 0 })) (sym index) ∙ one-kind (sub0_kind lacks.name) entry is same in
        name-missing entry (sections_of (lines_read [] lines)) (ap (λ (kind : SectionKind). section_at kind (sections_of (lines_read [] lines))) (sym its) ∙ lacks.none)

    sub0-before : (b : Bool) (l : Line) (ls : List Line) (lacks : LacksSub0 (lines_read [] lines) l) → same_kind (sub0_kind lacks.name) entry ≡ b → is_begin (look_line entry l) ≡ false → IsWhole (l ∷ ls)
        → (rest : List ℕ) → (named false (looks entry rest) ≡ named false (looks_in ls))
        → named false (cond b begins ends ∷ other ∷ other ∷ look_line entry l ∷ looks entry rest) ≡ named false (look_line entry l ∷ looks_in ls)
    sub0-before true l ls lacks same not whole rest more =
        named-end (look_line entry l) (looks entry rest) (sub0-ends l lacks) ∙ sym (whole ∙ no-name-there l lacks same)
    sub0-before false l ls lacks same not whole rest more = named-before (look_line entry l) (looks entry rest) not ∙ more ∙ sym (named-before (look_line entry l) (looks_in ls) not)

    before-by : (repair : Option Repair) (key : Option Key) (l : Line) (ls : List Line) → repairs l.number ≡ repair → In l lines → is_line l.bytes ≡ true → are_lines_of ls ≡ true → is_begin (look_line entry l) ≡ false
        → IsWhole (l ∷ ls) → (rest : List ℕ) → (named false (looks entry rest) ≡ named false (looks_in ls))
        → named false (looks entry (line_as repair key l ls ++ rest)) ≡ named false (look_line entry l ∷ looks_in ls)
    before-by (Some Numbered) key l ls h i inner lines_whole not whole rest more =
        let lacks = numbers-of l i h in
        numbered-piece entry is key l ls lacks.name inner (sub0-section l lacks) (sub0-digits l lacks) false rest
        ∙ sub0-before (same_kind (sub0_kind lacks.name) entry) l ls lacks refl not whole rest more
    before-by repair key l ls h i inner lines_whole not whole rest more =
        before-piece entry is repair key l ls inner lines_whole not (λ same. absurd (cc)) rest ∙ more ∙ sym (named-before (look_line entry l) (looks_in ls) not)

    begin-walk : (before : List Line) (l : Line) (ls : List Line) (key : Option Key) → IsHere before (l ∷ ls) → is_seen entry before ≡ false → look_line entry l ≡ begins
        → named false (looks entry (line_as (repairs l.number) (key_at key l) l ls ++ after key l ls)) ≡ named false (look_line entry l ∷ looks_in ls)
    begin-walk before l ls key here unseen first =
        let b = beginning entry l first in
        let kind = one-kind (kind_of b.name) entry is b.kind in
        let keeps_it = section_kept lines numbers l (in-read before l ls here (own-begins entry is before l unseen first)) b.name b.form (ap is_entry kind ∙ is) in
        first-by (repairs l.number) (key_at key l) l ls refl (here.part l (inl refl)) (bytes-whole before l ls here) keeps_it first (after key l ls)
        ∙ ap (λ t. named true (looks entry (mended_lines repairs t (key_at key l) ls ++ tail))) (kept-uncounted (repairs l.number) keeps_it)
        ∙ inside-walk (before ++ next_read before l ∷ []) ls (key_at key l) (next-here before l ls here) (inside-first entry is before l unseen first)
        ∙ sym (ap (λ (k : Look). named false (k ∷ looks_in ls)) first)

    abbrev Walks : List Line → List Line → Type 0
    Walks before ls = (counted : Bool) (key : Option Key) → is_seen entry before ≡ false → IsWhole ls → named false (looks entry (mended_lines repairs counted key ls ++ tail)) ≡ named false (looks_in ls)

    line-walk : (b : Bool) (before : List Line) (l : Line) (ls : List Line) (key : Option Key) → is_begin (look_line entry l) ≡ b → IsHere before (l ∷ ls) → is_seen entry before ≡ false → IsWhole (l ∷ ls)
        → Walks (before ++ next_read before l ∷ []) ls
        → named false (looks entry (line_as (repairs l.number) (key_at key l) l ls ++ after key l ls)) ≡ named false (look_line entry l ∷ looks_in ls)
    line-walk true before l ls key h here unseen whole more = begin-walk before l ls key here unseen (is-begins (look_line entry l) h)
    line-walk false before l ls key h here unseen whole more =
        before-by (repairs l.number) (key_at key l) l ls refl (here.part l (inl refl)) (bytes-whole before l ls here) (both (is_line l.bytes) (are_lines_of ls) here.whole).1 h whole (after key l ls)
        (more (is_counted (repairs l.number)) (key_at key l) (seen-next entry is before l unseen h) (sym (named-before (look_line entry l) (looks_in ls) h) ∙ whole))

    before-cases : (b : Bool) (counted : Bool) (before : List Line) (l : Line) (ls : List Line) (key : Option Key) → (counted && not (is_some (section_in l))) ≡ b → IsHere before (l ∷ ls) → is_seen entry before ≡ false → IsWhole (l ∷ ls)
        → Walks (before ++ next_read before l ∷ []) ls
        → named false (looks entry (cond b (ended [] ++ mended_lines repairs true key ls) (line_as (repairs l.number) (key_at key l) l ls ++ mended_lines repairs (is_counted (repairs l.number)) (key_at key l) ls) ++ tail)) ≡ named false (look_line entry l ∷ looks_in ls)
    before-cases true counted before l ls key h here unseen whole more =
        let not = unsectioned entry is l (not-so _ (both counted _ h).1) in
        ap (λ (t : List ℕ). named false (looks entry t)) (append_assoc (ended []) (mended_lines repairs true key ls) tail)
        ∙ passes-empty entry false (mended_lines repairs true key ls ++ tail)
        ∙ more true key (seen-next entry is before l unseen not) (sym (named-before (look_line entry l) (looks_in ls) not) ∙ whole)
        ∙ sym (named-before (look_line entry l) (looks_in ls) not)
    before-cases false counted before l ls key h here unseen whole more =
        ap (λ (t : List ℕ). named false (looks entry t)) (append_assoc (line_as (repairs l.number) (key_at key l) l ls) (mended_lines repairs (is_counted (repairs l.number)) (key_at key l) ls) tail)
        ∙ line-walk (is_begin (look_line entry l)) before l ls key refl here unseen whole more

    before-walk : (before ls : List Line) → IsHere before ls → Walks before ls
    before-walk before [] here counted key unseen whole = nameless false
    before-walk before (l ∷ ls) here counted key unseen whole =
        before-cases (counted && not (is_some (section_in l))) counted before l ls key refl here unseen whole (before-walk (before ++ next_read before l ∷ []) ls (next-here before l ls here))

    all-here : are_lines_of lines ≡ true → IsHere [] lines
    all-here whole = record { read = refl; part = λ l i. i; whole = whole }

    pub lines-walk : are_lines_of lines ≡ true → named false (looks entry (mended_lines repairs false None lines ++ tail)) ≡ named false (looks_in lines)
    lines-walk whole = before-walk [] lines (all-here whole) false None refl (sym (read-named entry is [] lines refl))

  -- ---- a round

  mended-cases : (lines : List Line) → AreNumbered lines → are_lines_of lines ≡ true → (b : Bool)
      → named false (looks entry (cond b (mandatory_lines lines) (mended_lines (repair_at (faults_in lines)) false None lines ++ begun_list (repair_at (faults_in lines) 0) lines))) ≡ named false (looks_in lines)
  mended-cases lines numbers whole true = mandatory-walk lines whole false
  mended-cases lines numbers whole false =
      lines-walk lines numbers (begun_list (repair_at (faults_in lines) 0) lines) (begun-nameless entry (is_some (repair_at (faults_in lines) 0) && list_any begins_list lines)) whole

  mended-walk : (lines : List Line) → AreNumbered lines → are_lines_of lines ≡ true → named false (looks entry (mended_by (repair_at (faults_in lines)) lines)) ≡ named false (looks_in lines)
  mended-walk lines numbers whole = mended-cases lines numbers whole (is_counted (repair_at (faults_in lines) 0))

  text-named : (text : List ℕ) → name_read entry text ≡ named false (looks_in (lines_of text))
  text-named text = read-named entry is [] (lines_of text) refl

  pub round-named : (text : List ℕ) → length text ≤ 1048576 → without_mark (mended text) ≡ mended text → name_read entry (mended text) ≡ name_read entry text
  round-named text size unmarked =
      let lines_in = lines_of text in
      let whole : are_lines_of lines_in ≡ true = lines-numbered 1 (lines (without_mark text)) ∙ lines-are-lines (without_mark text) in
      text-named (mended text)
      ∙ ap (named false) (looks-numbered entry 1 (lines (without_mark (mended text))))
      ∙ ap (λ (t : List ℕ). named false (looks entry t)) unmarked
      ∙ ap (λ (faults : List SheetFault). named false (looks entry (mended_by (repair_at faults) lines_in))) (faults-whole text size)
      ∙ mended-walk lines_in (numbered-lines text) whole
      ∙ sym (text-named text)

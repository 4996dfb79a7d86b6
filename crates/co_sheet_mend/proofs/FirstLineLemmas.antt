-- A text that begins with a comment, as `adapt` writes it, and after a round of mending still does.
use Rattle.std.proofs.Common.{◌≡◌, ℕ, ◌-◌, ◌≤◌, Bool, true, false, cond, List, [], ◌∷◌, ◌++◌, codes, length, Option, Some, None, refl, sym, ap, ◌∙◌, subst, ◌⊎◌, inl, inr, take}
use Rattle.std.specs.Prelude.{◌==◌, ◌&&◌}
use Rattle.std.specs.Str.Lines.{lines}
use Rattle.std.proofs.lemmas.List.{append_assoc}
use Rattle.co_sheet_rows.specs.declared.fault.FaultKind.{FaultKind}
use Rattle.co_sheet_rows.specs.declared.fault.FaultKind.TheVariants.{MissingSub0}
use Rattle.co_sheet_rows.specs.declared.fault.SheetFault.{SheetFault}
use Rattle.co_sheet_text.specs.declared.fault.TextFaultKind.{TextFaultKind}
use Rattle.co_sheet_text.specs.declared.fault.TextFaultKind.TheVariants.{TooLarge}
use Rattle.co_sheet_text.specs.LinesAtFault.{emptied, emptied_form, lines_read, own_fault, read_as}
use Rattle.co_sheet_text.specs.Sections.{LineForm, skipped, section_line, unclosed, name_value, malformed, first_broken, form_of, form_rules, line_form}
use Rattle.co_sheet_text.specs.Text.{Line, lines_of, trim, without_mark}
use Rattle.co_sheet_changes.proofs.LineLemmas.{numbered}
use Rattle.co_sheet_adapt.specs.Adapted.{adapted_text, body_in, comment_end, comment_front, comment_line, comment_text, returns_first}
use Rattle.co_sheet_faults.specs.AllFaults.{faults_in, faults_of}
use Rattle.co_sheet_mend.specs.declared.repair.Repair.{Repair}
use Rattle.co_sheet_mend.specs.NameLaws.{may_be_at}
use Rattle.co_sheet_mend.specs.ReadableTexts.{is_accepted, mended}
use Rattle.co_sheet_mend.specs.Repairs.{begins_mandatory, begun_list, counted_text, ended, ends_in_return, is_counted, key_at, line_as, line_end, mandatory_lines, mended_by, mended_lines, repair_at, with_mandatory}
use Rattle.co_sheet_mend.proofs.ElementLemmas.{In}
use Rattle.co_sheet_mend.proofs.EntryLineLemmas.{fault_at_read}
use Rattle.co_sheet_mend.proofs.FaultPlaceLemmas.{LacksSub0}
use Rattle.co_sheet_mend.proofs.LookLemmas.{is_long, trim-first}
use Rattle.co_sheet_mend.proofs.NameLemmas.{clash, faults-whole, no-repair, numbered-lines}
use Rattle.co_sheet_mend.proofs.TextLineLemmas.{is_line, lines-front}

-- a first line that is a comment
pub record IsCommented (text : List ℕ) : Type 0 where
  pub comment : List ℕ
  pub rest : List ℕ
  pub cut : text ≡ (59 ∷ comment) ++ 10 ∷ rest
  pub line : is_line (59 ∷ comment) ≡ true
  pub ends : ends_in_return (59 ∷ comment) ≡ false
  pub short : is_long (59 ∷ comment) ≡ false

-- no byte order mark is in front of it
pub unmarked : (text : List ℕ) → IsCommented text → without_mark text ≡ text
unmarked text of = subst (λ (t : List ℕ). without_mark t ≡ t) (sym of.cut) refl

-- the comment before a text that isn't accepted ends with LF alone
pub adapted-commented : (text : List ℕ) → is_accepted text ≡ false → IsCommented (adapted_text [] text)
unfolding comment_front comment_end
adapted-commented text fails = record {
  comment = codes " adapted by : not for configuration tools";
  rest = body_in text;
  cut = ap (λ (b : Bool). comment_line (b && returns_first text) [] ++ body_in text) fails ∙ append_assoc (comment_text []) (10 ∷ []) (body_in text);
  line = refl;
  ends = refl;
  short = refl;
}

-- ---- it has no repair

skipped-first : (comment : List ℕ) → form_of (trim (59 ∷ comment)) ≡ skipped
skipped-first comment = ap form_of (trim-first 59 comment refl).1

own-none : (first : Line) → is_long first.bytes ≡ false → line_form first ≡ skipped → own_fault [] first ≡ None
own-none first short form =
    ap (λ b. cond b (Some TooLarge) (first_broken (form_rules [] (line_form first)))) short
    ∙ ap (λ (f : LineForm). first_broken (form_rules [] f)) form

abbrev is_comment : List ℕ → Bool
is_comment [] = false
is_comment (b ∷ bs) = b == 59

no-comment : (form : LineForm) → is_comment (emptied_form form) ≡ false
no-comment (section_line name) = refl
no-comment unclosed = refl
no-comment (name_value name value) = refl
no-comment skipped = refl
no-comment malformed = refl

not-emptied : (form : LineForm) (comment : List ℕ) → emptied_form form ≡ 59 ∷ comment → ⊥
not-emptied form comment h = clash (is_comment (emptied_form form)) (ap is_comment h) (no-comment form)

no-place : (kind : FaultKind) → may_be_at kind skipped ≡ true → ⊥
no-place kind h = absurd (cc)

same-bytes : (l m : Line) → l ≡ m → l.bytes ≡ m.bytes
same-bytes l m h = ap (λ (k : Line). k.bytes) h

abbrev first_line : List ℕ → Line
first_line comment = record { number = 1; bytes = 59 ∷ comment }

first-lines : (text : List ℕ) (of : IsCommented text) → lines_of text ≡ first_line of.comment ∷ numbered 2 (lines of.rest)
first-lines text of =
    let bytes = 59 ∷ of.comment in
    ap (λ (t : List ℕ). numbered 1 (lines (without_mark t))) of.cut
    ∙ ap (numbered 1) (lines-front bytes of.rest of.line)
    ∙ ap (λ b. numbered 1 (cond b (take (length bytes - 1) bytes) bytes ∷ lines of.rest)) of.ends

module _ (text : List ℕ) (size : length text ≤ 1048576) (of : IsCommented text) where
  abbrev first : Line
  first = first_line of.comment

  abbrev later : List Line
  later = numbered 2 (lines of.rest)

  form : line_form first ≡ skipped
  form = skipped-first of.comment

  first-read : In first (lines_read [] (lines_of text))
  first-read =
      subst (λ (ls : List Line). In first (lines_read [] ls)) (sym (first-lines text of))
      (inl (ap (λ (o : Option TextFaultKind). read_as o first) (own-none first of.short form)))

  first-unrepaired : repair_at (faults_of text) 1 ≡ None
  first-unrepaired =
      ap (λ (faults : List SheetFault). repair_at faults 1) (faults-whole text size)
      ∙ no-repair (faults_in (lines_of text)) 1 (λ f h at. no-fault f (fault_at_read (lines_of text) (numbered-lines text) first first-read f h at))
    where
      no-fault : (f : SheetFault) → ((k : Line) × (emptied k ≡ first)) ⊎ ((may_be_at f.kind (line_form first) ≡ true) × (f.kind ≡ MissingSub0 → LacksSub0 (lines_read [] (lines_of text)) first)) → ⊥
      no-fault f (inl own) = not-emptied (line_form own.0) of.comment (same-bytes (emptied own.0) first own.1)
      no-fault f (inr at) = no-place f.kind (ap (may_be_at f.kind) (sym form) ∙ at.0)

  -- ---- so it stays

  abbrev repairs : ℕ → Option Repair
  repairs n = repair_at (faults_of text) n

  kept-first : (extra rest : List ℕ) → (ended first.bytes ++ extra) ++ rest ≡ first.bytes ++ 10 ∷ (extra ++ rest)
  kept-first extra rest =
      ap (λ b. ((first.bytes ++ line_end b) ++ extra) ++ rest) of.ends
      ∙ append_assoc (first.bytes ++ 10 ∷ []) extra rest
      ∙ append_assoc first.bytes (10 ∷ []) (extra ++ rest)

  abbrev Begins : List ℕ → Type 0
  Begins made = (rest : List ℕ) × (made ≡ first.bytes ++ 10 ∷ rest)

  mandatory-first : Begins (mandatory_lines (first ∷ later))
  mandatory-first =
      let extra = cond (begins_mandatory first) (counted_text (with_mandatory later)) [] in (extra ++ mandatory_lines later, kept-first extra (mandatory_lines later))

  lines-first : (repair : Option Repair) → repairs 1 ≡ repair → repair ≡ None → Begins (mended_lines repairs false None (first ∷ later) ++ begun_list (repairs 0) (first ∷ later))
  unfolding line_as
  lines-first repair h none =
      let more = mended_lines repairs (is_counted (repairs 1)) (key_at None first) later in
      let begun = begun_list (repairs 0) (first ∷ later) in (
        more ++ begun,
        ap (λ (r : Option Repair). (line_as r (key_at None first) first later ++ more) ++ begun) (h ∙ none)
            ∙ kept-first more begun,
      )

  by-text : (b : Bool) → Begins (cond b (mandatory_lines (first ∷ later)) (mended_lines repairs false None (first ∷ later) ++ begun_list (repairs 0) (first ∷ later)))
  by-text true = mandatory-first
  by-text false = lines-first (repairs 1) refl first-unrepaired

  pub mended-commented : IsCommented (mended text)
  mended-commented =
      let made = by-text (is_counted (repairs 0)) in
      record {
        comment = of.comment;
        rest = made.0;
        cut = ap (λ (ls : List Line). mended_by repairs ls) (first-lines text of) ∙ made.1;
        line = of.line;
        ends = of.ends;
        short = of.short;
      }

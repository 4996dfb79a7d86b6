-- A text that is read in spite of its lines at fault: what is read has no fault.
use Rattle.std.proofs.Common.{◌≡◌, ℕ, ◌+◌, List, [], ◌∷◌, ◌++◌, Option, Some, None, refl, sym, ◌∙◌, ap, map, subst}
use Rattle.std.specs.Prelude.{option_map}
use Rattle.std.specs.List.{cons_option}
use Rattle.std.specs.Option.{option_or}
use Rattle.std.specs.Str.Lines.{lines}
use Rattle.std.proofs.lemmas.List.{append_assoc, append-nil}
use Rattle.co_sheet_text.specs.declared.fault.TextFaultKind.{TextFaultKind}
use Rattle.co_sheet_text.specs.declared.fault.TextFault.{TextFault}
use Rattle.co_sheet_text.specs.Text.{Line, lines_of, without_mark}
use Rattle.co_sheet_text.specs.Sections.{LineForm, skipped, section_line, unclosed, name_value, malformed, TextSection, sections_of, line_form, last_section, form_rules, first_broken, fault_at, first_line_fault}
use Rattle.co_sheet_text.specs.SectionLaws.{RisesFrom, IsParsed}
use Rattle.co_sheet_text.specs.LinesAtFault.{emptied_form, emptied, own_fault, read_as, next_read, lines_read, sections_read, own_faults}
use Rattle.co_sheet_text.specs.LinesRead.{with_line, fault_by_form, with_line_read}
use Rattle.co_sheet_text.proofs.LinesReadLemmas.{numbered, sections_of-append, line_fault-form}
use Rattle.co_sheet_text.proofs.SectionLawLemmas.{parsed-lines, numbers-rise}

-- ---- a line that is read has no fault

skipped-good : (ss : List TextSection) (o : Option TextSection) → last_section ss ≡ o → first_broken (form_rules ss skipped) ≡ None
skipped-good ss None h = rw h refl
skipped-good ss (Some s) h = rw h refl

opened-good : (ss : List TextSection) (o : Option TextSection) → last_section ss ≡ o → first_broken (form_rules ss (section_line [])) ≡ None
opened-good ss None h = rw h refl
opened-good ss (Some s) h = rw h refl

-- by the form that a line had
emptied-form : (before : List Line) (form : LineForm) (n : ℕ)
    → own_fault before (record { number = n; bytes = emptied_form form }) ≡ None
emptied-form before skipped n = skipped-good (sections_of before) (last_section (sections_of before)) refl
emptied-form before malformed n = skipped-good (sections_of before) (last_section (sections_of before)) refl
emptied-form before (name_value name value) n = skipped-good (sections_of before) (last_section (sections_of before)) refl
emptied-form before unclosed n = opened-good (sections_of before) (last_section (sections_of before)) refl
emptied-form before (section_line name) n = opened-good (sections_of before) (last_section (sections_of before)) refl

pub emptied-good : (before : List Line) (l : Line) → own_fault before (emptied l) ≡ None
emptied-good before l = emptied-form before (line_form l) l.number

read-good : (before : List Line) (l : Line) (o : Option TextFaultKind) → own_fault before l ≡ o → own_fault before (read_as o l) ≡ None
read-good before l None h = h
read-good before l (Some k) h = emptied-good before l

-- so what is read has no line at fault
pub read-clean : (before ls : List Line) → first_line_fault before (lines_read before ls) ≡ None
read-clean before [] = refl
read-clean before (l ∷ ls) =
    ap (λ (o : Option TextFaultKind). option_or (option_map (fault_at (next_read before l).number) o) (first_line_fault (before ++ next_read before l ∷ []) (lines_read (before ++ next_read before l ∷ []) ls)))
    (read-good before l (own_fault before l) refl)
    ∙ read-clean (before ++ next_read before l ∷ []) ls

-- ---- the numbers of lines stay

read-number : (o : Option TextFaultKind) (l : Line) → (read_as o l).number ≡ l.number
read-number None l = refl
read-number (Some k) l = refl

numbers-read : (before ls : List Line) → map (λ (l : Line). l.number) (lines_read before ls) ≡ map (λ (l : Line). l.number) ls
numbers-read before [] = refl
numbers-read before (l ∷ ls) =
    ap (λ n. n ∷ map (λ (m : Line). m.number) (lines_read (before ++ next_read before l ∷ []) ls)) (read-number (own_fault before l) l)
    ∙ ap (λ ns. l.number ∷ ns) (numbers-read (before ++ next_read before l ∷ []) ls)

-- so the sections that are read are as those of a text without a line at fault
pub parsed-read : (text : List ℕ) → IsParsed (sections_read (lines_of text))
parsed-read text =
    let ls = lines_of text in
    parsed-lines (lines_read [] ls) (subst (RisesFrom 1) (sym (numbers-read [] ls)) (numbers-rise 1 (lines (without_mark text)))) (read-clean [] ls)

-- ---- line by line

-- the sections after more lines, as they are read, and the faults of these lines
abbrev pub read_after : List TextSection → List Line → List TextSection
read_after ss [] = ss
read_after ss (l ∷ ls) = read_after (with_line_read ss l) ls

abbrev pub faults_after : List TextSection → List Line → List TextFault
faults_after ss [] = []
faults_after ss (l ∷ ls) = cons_option (option_map (fault_at l.number) (fault_by_form ss l)) (faults_after (with_line_read ss l) ls)

sections-next : (before : List Line) (l : Line) → sections_of (before ++ next_read before l ∷ []) ≡ with_line_read (sections_of before) l
sections-next before l =
    sections_of-append before (next_read before l)
    ∙ ap (λ (o : Option TextFaultKind). with_line (sections_of before) (read_as o l)) (line_fault-form (sections_of before) l)

after-read : (before ls : List Line) → read_after (sections_of before) ls ≡ sections_of (before ++ lines_read before ls)
after-read before [] = ap sections_of (sym (append-nil before))
after-read before (l ∷ ls) =
    let next = before ++ next_read before l ∷ [] in
    ap (λ (ss : List TextSection). read_after ss ls) (sym (sections-next before l))
    ∙ after-read next ls
    ∙ ap sections_of (append_assoc before (next_read before l ∷ []) (lines_read next ls))

after-faults : (before ls : List Line) → faults_after (sections_of before) ls ≡ own_faults before ls
after-faults before [] = refl
after-faults before (l ∷ ls) =
    let next = before ++ next_read before l ∷ [] in
    let here = option_map (fault_at l.number) (fault_by_form (sections_of before) l) in
    ap (λ (ss : List TextSection). cons_option here (faults_after ss ls)) (sym (sections-next before l))
    ∙ ap (cons_option here) (after-faults next ls)
    ∙ ap (λ (o : Option TextFaultKind). cons_option (option_map (fault_at l.number) o) (own_faults next ls)) (sym (line_fault-form (sections_of before) l))

-- these sections and faults, with the lines from this number that a rest of the text has, give what the text gives
pub record ReadsOn (text : List ℕ) (sections : List TextSection) (faults : List TextFault) (number : ℕ) (rest : List ℕ) : Type 0 where
  pub found : faults ++ faults_after sections (numbered number (lines rest)) ≡ own_faults [] (lines_of text)
  pub whole : read_after sections (numbered number (lines rest)) ≡ sections_read (lines_of text)

pub on_all : (text rest : List ℕ) (sections : List TextSection) (faults : List TextFault) → rest ≡ without_mark text → sections ≡ [] → faults ≡ [] → ReadsOn text sections faults 1 rest
on_all text rest sections faults h empty none =
    record {
      found = ap (λ (fs : List TextFault). fs ++ faults_after sections (numbered 1 (lines rest))) none
          ∙ ap (λ (r : List ℕ). faults_after sections (numbered 1 (lines r))) h
          ∙ ap (λ (ss : List TextSection). faults_after ss (lines_of text)) empty
          ∙ after-faults [] (lines_of text);
      whole = ap (λ (r : List ℕ). read_after sections (numbered 1 (lines r))) h
          ∙ ap (λ (ss : List TextSection). read_after ss (lines_of text)) empty
          ∙ after-read [] (lines_of text);
    }

more-faults : (here : Option TextFault) (faults rest : List TextFault) → (faults ++ cons_option here []) ++ rest ≡ faults ++ cons_option here rest
more-faults None faults rest = ap (λ (fs : List TextFault). fs ++ rest) (append-nil faults)
more-faults (Some f) faults rest = append_assoc faults (f ∷ []) rest

-- one line more, with its fault if it has one
pub on_next : (text rest tail bytes : List ℕ) (number : ℕ) (sections next : List TextSection) (faults more : List TextFault) → ReadsOn text sections faults number rest → lines rest ≡ bytes ∷ lines tail
    → next ≡ with_line_read sections (record { number = number; bytes = bytes })
    → more ≡ faults ++ cons_option (option_map (fault_at number) (fault_by_form sections (record { number = number; bytes = bytes }))) []
    → ReadsOn text next more (number + 1) tail
on_next text rest tail bytes number sections next faults more reads first taken added =
    let line : Line = record { number = number; bytes = bytes } in
    let here : Option TextFault = option_map (fault_at number) (fault_by_form sections line) in
    let left : List Line = numbered (number + 1) (lines tail) in
    record {
      found = ap (λ (fs : List TextFault). fs ++ faults_after next left) added
          ∙ ap (λ (ss : List TextSection). (faults ++ cons_option here []) ++ faults_after ss left) taken
          ∙ more-faults here faults (faults_after (with_line_read sections line) left)
          ∙ sym (ap (λ (ls : List (List ℕ)). faults ++ faults_after sections (numbered number ls)) first) ∙ reads.found;
      whole = ap (λ (ss : List TextSection). read_after ss left) taken
          ∙ sym (ap (λ (ls : List (List ℕ)). read_after sections (numbered number ls)) first) ∙ reads.whole;
    }

-- no line is left
pub on_end : (text rest : List ℕ) (number : ℕ) (sections : List TextSection) (faults : List TextFault) → ReadsOn text sections faults number rest → lines rest ≡ []
    → (faults ≡ own_faults [] (lines_of text)) × (sections ≡ sections_read (lines_of text))
on_end text rest number sections faults reads none = (
  sym (append-nil faults) ∙ sym (ap (λ (ls : List (List ℕ)). faults ++ faults_after sections (numbered number ls)) none) ∙ reads.found,
  sym (ap (λ (ls : List (List ℕ)). read_after sections (numbered number ls)) none) ∙ reads.whole,
)

-- The lines of a text, one by one.
use Rattle.std.proofs.Common.{◌≡◌, ℕ, ◌+◌, List, [], ◌∷◌, Option, Some, None, sym, ◌∙◌, ap}
use Rattle.std.specs.Prelude.{option_map}
use Rattle.std.specs.Str.Lines.{lines}
use Rattle.std.specs.Option.{option_or}
use Rattle.co_sheet_text.specs.declared.fault.TextFault.{TextFault}
use Rattle.co_sheet_text.specs.Text.{Line, lines_of, without_mark}
use Rattle.co_sheet_text.specs.Sections.{TextSection, sections_of, first_line_fault, fault_at}
use Rattle.co_sheet_text.specs.LinesRead.{with_line, fault_by_form}
use Rattle.co_sheet_text.proofs.LinesReadLemmas.{numbered, with_lines, fault_after, sections_of-with_lines, first_line_fault-after}

-- these sections, with the lines from this number that a rest of the text has, give what the text gives
pub record Reads (text : List ℕ) (sections : List TextSection) (number : ℕ) (rest : List ℕ) : Type 0 where
  pub faults : fault_after sections (numbered number (lines rest)) ≡ first_line_fault [] (lines_of text)
  pub whole : with_lines sections (numbered number (lines rest)) ≡ sections_of (lines_of text)

pub reads_all : (text rest : List ℕ) (sections : List TextSection) → rest ≡ without_mark text → sections ≡ [] → Reads text sections 1 rest
reads_all text rest sections h empty =
    record {
      faults = ap (λ (r : List ℕ). fault_after sections (numbered 1 (lines r))) h
          ∙ ap (λ (ss : List TextSection). fault_after ss (lines_of text)) empty
          ∙ sym (first_line_fault-after [] (lines_of text));
      whole = ap (λ (r : List ℕ). with_lines sections (numbered 1 (lines r))) h
          ∙ ap (λ (ss : List TextSection). with_lines ss (lines_of text)) empty
          ∙ sections_of-with_lines (lines_of text);
    }

-- the first line at fault
pub reads_fault : (text rest tail bytes : List ℕ) (number : ℕ) (sections : List TextSection) (fault : TextFault) → Reads text sections number rest →
    lines rest ≡ bytes ∷ lines tail → option_map (fault_at number) (fault_by_form sections (record { number = number; bytes = bytes })) ≡ Some fault →
    first_line_fault [] (lines_of text) ≡ Some fault
reads_fault text rest tail bytes number sections fault reads first bad =
    let line : Line = record { number = number; bytes = bytes } in
    sym reads.faults
    ∙ ap (λ (ls : List (List ℕ)). fault_after sections (numbered number ls)) first
    ∙ ap (λ (o : Option TextFault). option_or o (fault_after (with_line sections line) (numbered (number + 1) (lines tail)))) bad

-- no line is left
pub reads_end : (text rest : List ℕ) (number : ℕ) (sections : List TextSection) → Reads text sections number rest → lines rest ≡ [] →
    (first_line_fault [] (lines_of text) ≡ None) × (sections ≡ sections_of (lines_of text))
reads_end text rest number sections reads none = (
  sym reads.faults ∙ ap (λ (ls : List (List ℕ)). fault_after sections (numbered number ls)) none,
  sym (ap (λ (ls : List (List ℕ)). with_lines sections (numbered number ls)) none) ∙ reads.whole,
)

use Rattle.std.proofs.Common.{ℕ, ◌≡◌, ◌⊎◌, List, [], ◌∷◌, Some, inl, inr, rules, arith}
use Rattle.std.proofs.lemmas.Result.{err_from_is_err_and}
use Rattle.std.specs.Str.Lines.{lines}
use Rattle.co_sheet_text.specs.declared.fault.TextFault.{TextFault}
use Rattle.co_sheet_text.specs.Text.{lines_of}
use Rattle.co_sheet_text.specs.Sections.{TextSection, first_line_fault}
use Rattle.co_sheet_text.specs.OutOfMemory.{out_of_memory}
use Rattle.co_sheet_text.specs.LinesRead.{RefusesLine}
use Rattle.co_sheet_text.specs.SectionsKept.{sections_kept}
use Rattle.co_sheet_text.proofs.PassLemmas.{Reads, reads_all, reads_end, reads_fault}
use Rattle.co_sheet_text.proofs.pass.take_lines.Goals as goal

pub loop-line-init : goal.loop-line-init
loop-line-init c =
    let s = c.args.sections.now in
    record {
      reads = reads_all c.args.text.now c.without_mark-rest.result.now (sections_kept s.closed.items s.current) c.without_mark-rest.ensures.text c.requires.new;
      few = omega arith;
    }

refused : (text rest tail bytes : List ℕ) (number : ℕ) (sections : List TextSection) (fault : TextFault) → Reads text sections number rest → lines rest ≡ bytes ∷ lines tail
    → RefusesLine sections (record { number = number; bytes = bytes }) fault → (fault ≡ out_of_memory) ⊎ (first_line_fault [] (lines_of text) ≡ Some fault)
refused text rest tail bytes number sections fault reads first (inl e) = inl e
refused text rest tail bytes number sections fault reads first (inr bad) = inr (reads_fault text rest tail bytes number sections fault reads first bad)

pub returns-in_err-take_line-clause-err : goal.returns-in_err-take_line-clause-err
returns-in_err-take_line-clause-err c =
    let s = c.loop-line.sections in
    let p = err_from_is_err_and c.from_residual.result c.from_residual.ensures.1 in
    let first : lines c.loop-line.rest.now ≡ c.in-Some.line.now ∷ lines c.in-Some.others.now = search rules in
    rw (p.1, p.2) (refused c.args.text.now c.loop-line.rest.now c.in-Some.others.now c.in-Some.line.now c.loop-line.number (sections_kept s.closed.items s.current) _
    c.loop-line.invariant.reads first c.in_err-take_line.ensures.err)

pub returns-clause-none : goal.returns-clause-none
returns-clause-none c =
    let s = c.loop-line.sections in
    let none : lines c.loop-line.rest.now ≡ [] = search rules in
    (reads_end c.args.text.now c.loop-line.rest.now c.loop-line.number (sections_kept s.closed.items s.current) c.loop-line.invariant.reads none).0

pub returns-clause-all : goal.returns-clause-all
returns-clause-all c =
    let s = c.loop-line.sections in
    let none : lines c.loop-line.rest.now ≡ [] = search rules in
    (reads_end c.args.text.now c.loop-line.rest.now c.loop-line.number (sections_kept s.closed.items s.current) c.loop-line.invariant.reads none).1

use Rattle.std.proofs.Common.{◌≡◌, ◌⊎◌, List, [], Some, inl, inr, sym, ◌∙◌, subst}
use Rattle.std.proofs.lemmas.Result.{err_from_is_err_and}
use Rattle.co_sheet_text.specs.declared.fault.TextFault.{TextFault}
use Rattle.co_sheet_text.specs.Text.{Line, lines_of}
use Rattle.co_sheet_text.specs.Sections.{first_line_fault, IsFirstAtFault}
use Rattle.co_sheet_text.specs.OutOfMemory.{out_of_memory}
use Rattle.co_sheet_text.specs.SectionLaws.{IsParsed}
use Rattle.co_sheet_text.proofs.FirstFaultLemmas.{none-found, first-found}
use Rattle.co_sheet_text.proofs.SectionLawLemmas.{parsed}
use Rattle.co_sheet_text.proofs.pass.sections_in.Goals as goal

in_words : (ls : List Line) (fault : TextFault) → (fault ≡ out_of_memory) ⊎ (first_line_fault [] ls ≡ Some fault) → (fault ≡ out_of_memory) ⊎ IsFirstAtFault ls fault
in_words ls fault (inl e) = inl e
in_words ls fault (inr is) = inr (first-found ls fault is)

pub returns-in_err-take_lines-clause-first : goal.returns-in_err-take_lines-clause-first
returns-in_err-take_lines-clause-first c =
    let p = err_from_is_err_and c.from_residual.result c.from_residual.ensures.1 in
    rw (p.1, p.2) (in_words (lines_of c.args.text.now) _ c.in_err-take_lines.ensures.err)

pub returns-clause-ok : goal.returns-clause-ok
returns-clause-ok c = (c.in_ok-take_lines.ensures.none, c.in_ok-into_text.ensures ∙ c.in_ok-take_lines.ensures.all)

pub returns-clause-parsed : goal.returns-clause-parsed
returns-clause-parsed c =
    subst IsParsed (sym (c.in_ok-into_text.ensures ∙ c.in_ok-take_lines.ensures.all)) (parsed c.args.text.now c.in_ok-take_lines.ensures.none)

pub returns-clause-good : goal.returns-clause-good
returns-clause-good c = none-found (lines_of c.args.text.now) c.in_ok-take_lines.ensures.none

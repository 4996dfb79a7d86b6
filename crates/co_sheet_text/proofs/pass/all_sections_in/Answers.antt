use Rattle.std.proofs.Common.{sym, ◌∙◌, subst}
use Rattle.co_sheet_text.specs.SectionLaws.{IsParsed}
use Rattle.co_sheet_text.proofs.ReadLemmas.{parsed-read}
use Rattle.co_sheet_text.proofs.pass.all_sections_in.Goals as goal

pub returns-clause-parsed : goal.returns-clause-parsed
returns-clause-parsed c =
    subst IsParsed (sym (c.in_ok-into_text.ensures ∙ c.in_ok-take_lines_in_spite.ensures.sections)) (parsed-read c.args.text.now)

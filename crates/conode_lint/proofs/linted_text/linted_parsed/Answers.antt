use Rattle.std.proofs.Common.{◌∙◌, sym, map, ap, subst}
use Rattle.co_sheet_text.specs.SectionLaws.{IsParsed}
use Rattle.co_sheet_text.specs.Views.{section_view}
use Rattle.conode_lint.proofs.linted_text.linted_parsed.Goals as goal

pub linted_sections-requires-clause-parsed : goal.linted_sections-requires-clause-parsed
linted_sections-requires-clause-parsed c = subst IsParsed (sym (ap (map section_view) c.as_slice.ensures.value ∙ c.in-Ok.ensures)) c.requires.parsed

pub linted_sections-requires-clause-sections : goal.linted_sections-requires-clause-sections
linted_sections-requires-clause-sections c = ap (map section_view) c.as_slice.ensures.value ∙ c.in-Ok.ensures ∙ c.requires.sections

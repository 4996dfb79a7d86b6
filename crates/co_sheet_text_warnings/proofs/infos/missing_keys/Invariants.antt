use Rattle.std.proofs.Common.{◌≡◌, drop, map}
use Rattle.co_sheet_text.specs.Views.{section_view}
use Rattle.co_sheet_text_warnings.specs.Infos.{info_line}
use Rattle.co_sheet_text_warnings.proofs.infos.missing_keys.Given as goal

-- what the rest has is what all have
abbrev pub invariant-loop-section : goal.invariant-loop-section
invariant-loop-section l = info_line l.info (map section_view (drop l.section-index l.sections)) ≡ info_line l.info (map section_view l.sections)

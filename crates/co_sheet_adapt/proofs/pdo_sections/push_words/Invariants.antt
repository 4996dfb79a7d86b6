use Rattle.std.proofs.Common.{◌≡◌, ◌++◌}
use Rattle.co_sheet_adapt.specs.Compact.{sub_sections}
use Rattle.co_sheet_adapt.specs.CompactPdo.{word_section}
use Rattle.co_sheet_adapt.proofs.pdo_sections.push_words.Given as goal

-- those so far
abbrev pub invariant-loop-before : goal.invariant-loop-before
invariant-loop-before l = l.text.items ≡ l.fn.text.items ++ sub_sections word_section l.index l.before

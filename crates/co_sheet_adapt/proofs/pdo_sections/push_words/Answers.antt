use Rattle.std.proofs.Common.{◌∙◌, ◌+◌, append_assoc}
use Rattle.co_sheet_adapt.specs.Compact.{sub_head}
use Rattle.co_sheet_adapt.specs.CompactPdo.{keys_of, word_section}
use Rattle.co_sheet_adapt.specs.declared.pdo_sections.Part.TheVariants.{MappingWord}
use Rattle.co_sheet_adapt.proofs.CompactLemmas.{section_added}
use Rattle.co_sheet_adapt.proofs.pdo_sections.push_words.Goals as goal

pub loop-before-preserved : goal.loop-before-preserved
loop-before-preserved c =
    let before = c.loop-before.text.items in
    c.in-Ok.ensures ∙ append_assoc before (sub_head (record { index = c.args.index; sub = c.loop-before.before + 1 })) (keys_of MappingWord)
    ∙ section_added word_section c.args.index c.loop-before.before c.args.text.now.items before c.loop-before.invariant

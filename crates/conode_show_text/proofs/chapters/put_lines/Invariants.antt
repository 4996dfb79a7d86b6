use Rattle.std.proofs.Common.{map, take}
use Rattle.std.specs.List.{flat_map}
use Rattle.co_sheet_text.specs.Views.{section_view}
use Rattle.conode_text.specs.Appended.{Appended}
use Rattle.conode_show_text.specs.Document.{chapter_text}
use Rattle.conode_show_text.proofs.chapters.put_lines.Given as goal

abbrev pub invariant-loop-section : goal.invariant-loop-section
invariant-loop-section l =
    Appended l.initial.page (flat_map (chapter_text l.chapter l.format l.node (map section_view l.sections)) (map section_view (take l.section-index l.sections))) l.page

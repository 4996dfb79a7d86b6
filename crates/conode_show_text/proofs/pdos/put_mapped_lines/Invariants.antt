use Rattle.std.proofs.Common.{map, take}
use Rattle.std.specs.List.{flat_map}
use Rattle.co_sheet_text.specs.Views.{section_view}
use Rattle.conode_text.specs.Appended.{Appended}
use Rattle.conode_show_text.specs.Pdos.{counted_line}
use Rattle.conode_show_text.proofs.pdos.put_mapped_lines.Given as goal

abbrev pub invariant-loop-section : goal.invariant-loop-section
invariant-loop-section l =
    Appended l.initial.page (flat_map (counted_line l.format l.node (map section_view l.sections) l.index l.count) (map section_view (take l.section-index l.sections))) l.page

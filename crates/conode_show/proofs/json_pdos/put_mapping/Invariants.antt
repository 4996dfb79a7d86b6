use Rattle.std.proofs.Common.{map, take}
use Rattle.std.specs.List.{flat_map}
use Rattle.co_sheet_text.specs.Views.{section_view}
use Rattle.conode_text.specs.Appended.{Appended}
use Rattle.conode_show.specs.JsonForm.{counted_tokens}
use Rattle.conode_show.proofs.json_pdos.put_mapping.Given as goal

abbrev pub invariant-loop-section : goal.invariant-loop-section
invariant-loop-section l =
    Appended l.fn.document (flat_map (counted_tokens l.node (map section_view l.sections) l.index l.count) (map section_view (take l.section-index l.sections))) l.document

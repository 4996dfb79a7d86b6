-- What is before the lines, and the lines.
use Rattle.conode_text.proofs.Appending.{both}
use Rattle.conode_show_text.proofs.entries.put_section.Goals as goal

pub returns-in-Object : goal.returns-in-Object
returns-in-Object c = rw c.in-Object.is (both c.put_heading.ensures c.put_lines.ensures)

pub returns-in-SubIndex : goal.returns-in-SubIndex
returns-in-SubIndex c = rw c.in-SubIndex.is (both c.put_sub_heading.ensures c.put_entry.ensures)

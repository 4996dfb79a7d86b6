-- What the lines that are read so far give.
use Rattle.std.specs.Prelude.{List}
use Rattle.co_sheet_text.specs.declared.sections_read.SectionsRead.{SectionsRead}
use Rattle.co_sheet_text.specs.Sections.{TextSection}
use Rattle.co_sheet_text.specs.SectionsKept.{sections_kept}

-- the sections of the lines that are read so far
abbrev pub sections_so_far : SectionsRead → List TextSection
sections_so_far read = sections_kept read.closed.items read.current

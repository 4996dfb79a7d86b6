-- What a sheet holds, part by part.
use Rattle.std.proofs.Common.{◌≡◌, ℕ, List, Bool, Option}
use Rattle.co_sheet_rows.specs.declared.note.Note.{Note}
use Rattle.co_sheet_text.specs.Sections.{TextSection}
use Rattle.co_sheet.specs.Content.{Row, ObjectRow, SectionName, SheetContent, content_of}

same-parts : (objects other_objects : List ObjectRow) (rows other_rows : List Row) (names other_names : List SectionName) (notes other_notes : List Note) (dummies other_dummies : List Bool) (id other_id : Option ℕ)
    → objects ≡ other_objects → rows ≡ other_rows → names ≡ other_names → notes ≡ other_notes → dummies ≡ other_dummies → id ≡ other_id
    → ◌≡◌ {A = SheetContent} (record { objects = objects; rows = rows; sections = names; notes = notes; dummies = dummies; node_id = id }) (record { objects = other_objects; rows = other_rows; sections = other_names; notes = other_notes; dummies = other_dummies; node_id = other_id })
same-parts objects other_objects rows other_rows names other_names notes other_notes dummies other_dummies id other_id o r s n d i = cc

pub content-parts : (sections : List TextSection) (objects : List ObjectRow) (rows : List Row) (names : List SectionName) (notes : List Note) (dummies : List Bool) (id : Option ℕ)
    → objects ≡ (content_of sections).objects → rows ≡ (content_of sections).rows → names ≡ (content_of sections).sections → notes ≡ (content_of sections).notes → dummies ≡ (content_of sections).dummies → id ≡ (content_of sections).node_id
    → ◌≡◌ {A = SheetContent} (record { objects = objects; rows = rows; sections = names; notes = notes; dummies = dummies; node_id = id }) (content_of sections)
content-parts sections objects rows names notes dummies id =
    let content = content_of sections in
    same-parts objects content.objects rows content.rows names content.sections notes content.notes dummies content.dummies id content.node_id

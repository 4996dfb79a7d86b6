-- A sheet's lists, as they are read of its sections.
use Rattle.std.specs.Prelude.{◌≡◌, [], map, None, List}
use Rattle.co_sheet_text.specs.Sections.{TextSection}
use Rattle.co_sheet.specs.declared.sheet.Lists.{Lists}
use Rattle.co_sheet.specs.Accepted.{first_found}
use Rattle.co_sheet.specs.Checks.{checks}
use Rattle.co_sheet.specs.Content.{SheetContent, objects_in, rows_in, section_names_in, content_of}
use Rattle.co_sheet.specs.Notes.{notes_of}
use Rattle.co_sheet.specs.SheetLaws.{KeepsEntries}
use Rattle.co_sheet.specs.SheetViews.{row_view, object_row_view, section_name_view}

-- before anything is read
pub record AreEmpty (lists : Lists) : Type 0 where
  pub objects : lists.objects.items ≡ []
  pub entries : lists.entries.items ≡ []
  pub sections : lists.sections.items ≡ []
  pub notes : lists.notes.items ≡ []

-- the checks accept the sections, and these are their lists
pub record AreListsOf (sections : List TextSection) (lists : Lists) : Type 0 where
  pub accepted : first_found checks sections ≡ None
  pub kept : KeepsEntries sections
  pub objects : map object_row_view lists.objects.items ≡ objects_in sections
  pub rows : map row_view lists.entries.items ≡ rows_in sections
  pub names : map section_name_view lists.sections.items ≡ section_names_in sections
  pub notes : lists.notes.items ≡ notes_of sections

-- the same of a whole sheet
pub record IsReadOf (sections : List TextSection) (sheet : SheetContent) : Type 0 where
  pub accepted : first_found checks sections ≡ None
  pub kept : KeepsEntries sections
  pub content : sheet ≡ content_of sections

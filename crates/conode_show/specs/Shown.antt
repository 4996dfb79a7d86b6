-- What is written for a text.
use Rattle.std.specs.Prelude.{
  ◌≡◌,
  ℕ,
  nat_lt,
  Bool,
  true,
  false,
  List,
  [],
  length,
  map,
  codes,
  if◌then◌else◌,
  Option,
  Some,
  None,
}
use Rattle.std.specs.List.{list_any}
use Rattle.std.specs.Option.{option_map_or}
use Rattle.std.specs.Io.KnownBytes.{Appends}
use Rattle.co_sheet_rows.specs.declared.fault.FaultKind.TheVariants.{TooLarge}
use Rattle.co_sheet_rows.specs.FaultTexts.{fault_text}
use Rattle.co_sheet.specs.Faults.{fault_at}
use Rattle.co_sheet_text.specs.LinesAtFault.{sections_read}
use Rattle.co_sheet_text.specs.declared.section_kind.SectionKind.{SectionKind}
use Rattle.co_sheet_text.specs.declared.section_kind.SectionKind.TheVariants.{Object, SubIndex}
use Rattle.co_sheet_text.specs.Sections.{Property, TextSection}
use Rattle.co_sheet_text.specs.Text.{lines_of, same_name}
use Rattle.co_sheet_adapt.specs.Expanded.{expanded}
use Rattle.co_sheet_changes.specs.Originals.{original_at}
use Rattle.conode_lint_marks.specs.declared.mark.OtherFormat.{OtherFormat}
use Rattle.conode_lint.specs.Formats.{text_format}
use Rattle.conode_lint.specs.FormatWords.{format_meaning}
use Rattle.conode_show.specs.declared.form.Form.{Form}
use Rattle.conode_show.specs.declared.form.Form.TheVariants.{Lines, Json}
use Rattle.conode_show_text.specs.Document.{document, node_for, ordered}
use Rattle.conode_show.specs.JsonForm.{json_document, json_reason}

-- a text that is too large to be read
abbrev pub is_too_large : List ℕ → Bool
is_too_large text = nat_lt 1048576 (length text)

-- in each form the document of sections in order
abbrev pub document_in : Form → Option ℕ → List TextSection → List ℕ
document_in (Lines format) node sections = document format node sections
document_in Json node sections = json_document node sections

-- what is written of a text that isn't shown: in JSON a document with the reason, in lines nothing,
-- since standard error has it
abbrev pub reason_in : Form → List ℕ → List ℕ
reason_in (Lines format) words = []
reason_in Json words = json_reason words

-- a property; DataType with the code of the original type
abbrev pub retyped_property : List ℕ → Property → Property
retyped_property code k =
    if same_name k.name (codes "DataType") then record k { value = code } else k

-- a section with its original type, if it has one
abbrev pub properties_with : Option (List ℕ) → List Property → List Property
properties_with code properties = option_map_or (λ c. map (retyped_property c) properties) code properties

abbrev pub retyped : (ℕ → Option (List ℕ)) → TextSection → TextSection
retyped originals s = record s { properties = properties_with (originals s.line) s.properties }

-- the sections of a text, read in spite of faulty lines, with their original types if the sheet was
-- adapted
unfoldable pub sections_of : List ℕ → List TextSection
sections_of text = map (retyped (original_at text)) (sections_read (lines_of text))

-- the document of sections, put in order, for the given node-ID or else theirs
abbrev pub document_of : Form → Option ℕ → List TextSection → List ℕ
document_of form node sections = document_in form (node_for node sections) (ordered sections)

-- one of the sections is that of an object or a sub-index
abbrev pub is_of_object : SectionKind → Bool
is_of_object (Object index) = true
is_of_object (SubIndex key) = true
is_of_object other = false

abbrev pub has_object : List TextSection → Bool
has_object sections = list_any (λ s. is_of_object s.kind) sections

-- why a text that is too large isn't shown: its format, if that is another one, else its fault
abbrev pub large_reason : Option OtherFormat → List ℕ
large_reason format = option_map_or format_meaning format (fault_text (fault_at 0 TooLarge))

-- why a text without an object isn't shown: its format, if that is another one, else this
abbrev pub empty_reason : Option OtherFormat → List ℕ
empty_reason format =
    option_map_or format_meaning format (codes "this is no EDS: it has no section of an object, as [1000]")

abbrev pub unless_object : Option OtherFormat → List TextSection → Option (List ℕ)
unless_object format sections = if has_object sections then None else Some (empty_reason format)

-- the text with the sections of its compact forms; without them, if it is too large with them
abbrev pub whole_text : List ℕ → Option (List ℕ) → List ℕ
whole_text text None = text
whole_text text (Some whole) = whole

-- why a text of this format isn't shown, if neither it nor its compact forms have an object
abbrev pub unless_whole : Option OtherFormat → List ℕ → Option (List ℕ)
unless_whole format text = unless_object format (sections_read (lines_of (whole_text text (expanded text))))

-- why a text isn't shown: it is too large, or has no object
unfoldable pub reason : List ℕ → Option (List ℕ)
reason text =
    if is_too_large text then Some (large_reason (text_format text)) else unless_whole (text_format text) text

-- the document of a text with the sections of its compact forms, if there is no reason against it
abbrev pub shown_unless : Form → Option ℕ → Option (List ℕ) → List ℕ → List ℕ
shown_unless form node why text = option_map_or (reason_in form) why (document_of form node (sections_of text))

-- the document of a text, or what is written where it isn't shown
unfoldable pub shown : Form → Option ℕ → List ℕ → List ℕ
shown form node text = shown_unless form node (reason text) (whole_text text (expanded text))

-- the dictionary of this text is shown: there is no reason against it, and its document is written
abbrev pub IsShown : Form → Option ℕ → Option (List ℕ) → Option (List ℕ) → List ℕ → Type 0
IsShown form node old new text = (reason text ≡ None) × Appends old new (shown form node text)

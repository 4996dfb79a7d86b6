-- The object dictionary of a sheet, as it is shown.
use Rattle.std.specs.Prelude.{ℕ, ◌+◌, ◌*◌, nat_lt, if◌then◌else◌, List, [], ◌++◌, codes, Option}
use Rattle.std.specs.List.{flat_map}
use Rattle.std.specs.Option.{option_or}
use Rattle.co_sheet_text.specs.declared.section_kind.SectionKind.{SectionKind}
use Rattle.co_sheet_text.specs.declared.section_kind.SectionKind.TheVariants.{Object, SubIndex}
use Rattle.co_sheet_text.specs.Sections.{TextSection}
use Rattle.co_sheet_text.specs.Text.{is_empty}
use Rattle.co_sheet.specs.Commissioning.{node_id_in}
use Rattle.co_sheet.specs.Content.{in_order}
use Rattle.conode_show_text.specs.declared.chapters.Chapter.{Chapter}
use Rattle.conode_show_text.specs.declared.chapters.Chapter.TheVariants.{Entries, Pdos, Services}
use Rattle.conode_show_text.specs.declared.format.Format.{Format}
use Rattle.conode_show_text.specs.declared.format.Format.TheVariants.{Text, Markdown}
use Rattle.conode_show_text.specs.Entries.{entries_head, section_text}
use Rattle.conode_show_text.specs.Pdos.{pdo_text}
use Rattle.conode_show_text.specs.Services.{service_text}

-- the place of a section among others: by index, an object before its sub-indices
abbrev pub rank : SectionKind → ℕ
rank (Object index) = 257 * index
rank (SubIndex key) = 257 * key.index + key.sub + 1
rank other = 0

-- the sections in this order
abbrev pub ordered : List TextSection → List TextSection
ordered sections = in_order (λ s t. nat_lt (rank s.kind) (rank t.kind)) sections

-- the head of a chapter
abbrev pub head_of : Chapter → Format → List ℕ
head_of Entries Text = entries_head Text
head_of Entries Markdown = codes "## Objects\n"
head_of Pdos Text = codes "\nPDO     COB-ID, mapped                Transmission type, name           Inhibit    Event timer\n"
head_of Pdos Markdown =
    codes "\n## PDOs\n\n| PDO | COB-ID, mapped | Transmission type, name | Inhibit time | Event timer |\n| --- | --- | --- | --- | --- |\n"
head_of Services Text = codes "\nEntry   Service                       Says\n"
head_of Services Markdown = codes "\n## Services\n\n| Entry | Service | Says |\n| --- | --- | --- |\n"

-- what a chapter has for a section
abbrev pub chapter_text : Chapter → Format → Option ℕ → List TextSection → TextSection → List ℕ
chapter_text Entries format given sections section = section_text format given sections section
chapter_text Pdos format given sections section = pdo_text format given sections section
chapter_text Services format given sections section = service_text format given section

abbrev pub chapter_lines : Chapter → Format → Option ℕ → List TextSection → List ℕ
chapter_lines chapter format node sections =
    flat_map (chapter_text chapter format node sections) sections

-- a text with its head, nothing if the text is empty
abbrev pub with_head : List ℕ → List ℕ → List ℕ
with_head front text = if is_empty text then [] else front ++ text

abbrev pub chapter_of : Chapter → Format → Option ℕ → List TextSection → List ℕ
chapter_of chapter format node sections =
    with_head (head_of chapter format) (chapter_lines chapter format node sections)

-- the entries, the PDOs and the services, of sections in order
unfoldable pub document : Format → Option ℕ → List TextSection → List ℕ
document format node sections =
    head_of Entries format ++ chapter_lines Entries format node sections
    ++ chapter_of Pdos format node sections ++ chapter_of Services format node sections

-- the given node-ID, or else that of a device configuration file
abbrev pub node_for : Option ℕ → List TextSection → Option ℕ
node_for node sections = option_or node (node_id_in sections)

-- The node-ID of a device configuration file (CiA 306, device commissioning).
use Rattle.std.specs.Prelude.{ℕ, Bool, false, not, if◌then◌else◌, List, [], ◌∷◌, codes}
use Rattle.std.specs.Option.{option_map_or}
use Rattle.co_sheet_text.specs.declared.section_kind.SectionKind.{SectionKind}
use Rattle.co_sheet_text.specs.declared.section_kind.SectionKind.TheVariants.{DeviceCommissioning}
use Rattle.co_sheet_text.specs.Properties.{property_number}
use Rattle.co_sheet_text.specs.Sections.{Property, TextSection, property_at}
use Rattle.co_sheet.specs.Commissioning.{is_node_number}

-- a NodeID that is a number, and no node-ID: the note of that name of `co_sheet`
abbrev pub is_no_node : ℕ → Bool
is_no_node n = not (is_node_number n)

abbrev pub no_node_line : Property → List ℕ
no_node_line k = if option_map_or is_no_node (property_number k) false then k.line ∷ [] else []

abbrev pub no_node_id : TextSection → SectionKind → List ℕ
no_node_id s DeviceCommissioning = option_map_or no_node_line (property_at (codes "NodeID") s) []
no_node_id s kind = []

-- The device commissioning: the node-ID that a device configuration file has for its node
-- (CiA 306).
use Rattle.std.specs.Prelude.{ℕ, Bool, ◌&&◌, nat_le, if◌then◌else◌, List, codes, Option, Some, None, option_and_then}
use Rattle.co_sheet_text.specs.declared.section_kind.SectionKind.TheVariants.{DeviceCommissioning}
use Rattle.co_sheet_text.specs.Sections.{Property, TextSection, property_at, section_at}
use Rattle.co_sheet_text.specs.Properties.{property_number}

-- a node-ID is 1 to 127
abbrev pub is_node_number : ℕ → Bool
is_node_number n = nat_le 1 n && nat_le n 127

abbrev pub node_id_with : ℕ → Option ℕ
node_id_with n = if is_node_number n then Some n else None

-- the node-ID that a property NodeID states, where its number is one
abbrev pub node_id_of : Property → Option ℕ
node_id_of k = option_and_then node_id_with (property_number k)

-- the node-ID of a text, by NodeID of its device commissioning
abbrev pub node_id_in : List TextSection → Option ℕ
node_id_in sections =
    option_and_then (λ s. option_and_then node_id_of (property_at (codes "NodeID") s))
    (section_at DeviceCommissioning sections)

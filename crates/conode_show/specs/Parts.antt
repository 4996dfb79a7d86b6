-- The tokens of parts of a document.
use Rattle.std.specs.Prelude.{List, [], ◌∷◌, map, None}
use Rattle.json.specs.Token.{Token, begin_object, end_object, end_array}
use Rattle.co_sheet_text.specs.Sections.{property_at}
use Rattle.co_sheet_text.specs.Views.{section_view}
use Rattle.conode_json.specs.Members.{array_begin, flag_member, text_member, number_if}
use Rattle.conode_show_text.specs.Cells.{cell_text}
use Rattle.conode_show_text.specs.Values.{type_of}
use Rattle.conode_show.specs.declared.parts.Part.{Part}
use Rattle.conode_show.specs.declared.parts.Part.TheVariants.{BeginObject, EndObject, EndArray, Array, Flag, Text, Number, Property, Value, Limit, Shown, ShownIf, Said, SaidAt, NameAt}
use Rattle.conode_show.specs.Members.{member_name}
use Rattle.conode_show.specs.JsonForm.{property_member, value_member, limit_member, said_member, said_at_member, name_at, text_if}

abbrev pub part_tokens : Part → List Token
part_tokens BeginObject = begin_object ∷ []
part_tokens EndObject = end_object ∷ []
part_tokens EndArray = end_array ∷ []
part_tokens (Array member) = array_begin (member_name member)
part_tokens (Flag member is) = flag_member (member_name member) is
part_tokens (Text member text) = text_member (member_name member) text.now
part_tokens (Number member n) = number_if (member_name member) n
part_tokens (Property member name section) = property_member (member_name member) name.now (section_view section.now)
part_tokens (Value member name given section) =
    value_member (member_name member) given (type_of (section_view section.now)) (property_at name.now (section_view section.now))
part_tokens (Limit member name section) =
    limit_member (member_name member) (type_of (section_view section.now)) (property_at name.now (section_view section.now))
part_tokens (Shown member given content) = text_member (member_name member) (cell_text given content)
part_tokens (ShownIf member content) = text_if (member_name member) (cell_text None content)
part_tokens (Said member meaning given section) = said_member (member_name member) meaning given (section_view section.now)
part_tokens (SaidAt member meaning given sections key) =
    said_at_member (member_name member) meaning given (map section_view sections.now) key
part_tokens (NameAt sections key) = name_at (map section_view sections.now) key

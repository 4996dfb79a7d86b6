-- The tokens of the parts of a document.
use Rattle.std.specs.Prelude.{ℕ, List, [], ◌∷◌, option_map, pos, Option}
use Rattle.std.specs.List.{flat_map}
use Rattle.std.specs.Option.{option_map_or}
use Rattle.json.specs.Token.{Token, begin_object, end_array, end_object}
use Rattle.co_text.specs.Printed.{digits_text}
use Rattle.conode_json.specs.Characters.{utf8_of}
use Rattle.conode_json.specs.Members.{array_begin, flag_member, number_if, number_member, object_begin, text_member}
use Rattle.conode_compare_documents.specs.Members.{member_name}
use Rattle.conode_compare_documents.specs.declared.parts.Part.{Part}
use Rattle.conode_compare_documents.specs.declared.parts.Part.TheVariants.{BeginObject, EndObject, Object, Array, EndArray, Text, Number, NumberIf, Flag, Code}

-- members one after another
abbrev pub joined : List (List Token) → List Token
joined members = flat_map (λ tokens. tokens) members

-- a text from outside in UTF-8, left out if there is none
abbrev pub bytes_if : List ℕ → Option (List ℕ) → List Token
bytes_if name bytes = option_map_or (λ b. text_member name (utf8_of b)) bytes []

abbrev pub part_tokens : Part → List Token
part_tokens BeginObject = begin_object ∷ []
part_tokens EndObject = end_object ∷ []
part_tokens (Object member) = object_begin (member_name member)
part_tokens (Array member) = array_begin (member_name member)
part_tokens EndArray = end_array ∷ []
part_tokens (Text member text) = text_member (member_name member) text.now
part_tokens (Number member number) = number_member (member_name member) (pos number)
part_tokens (NumberIf member number) = number_if (member_name member) (option_map pos number)
part_tokens (Flag member is) = flag_member (member_name member) is
part_tokens (Code member code) = text_member (member_name member) (digits_text 16 8 code)

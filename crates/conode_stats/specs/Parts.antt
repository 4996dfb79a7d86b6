-- The tokens of the parts of a document.
use Rattle.std.specs.Prelude.{ℕ, List, [], ◌∷◌}
use Rattle.json.specs.Token.{Token, begin_object, end_array, end_object}
use Rattle.conode_json.specs.Members.{array_begin, object_begin, text_member}
use Rattle.co_text.specs.Printed.{digits_text}
use Rattle.conode_stats.specs.declared.parts.Part.{Part}
use Rattle.conode_stats.specs.declared.parts.Part.TheVariants.{Nothing, BeginObject, EndObject, EndArray, Object, Array, Text, Number, NumberIf, Word as WordPart}
use Rattle.conode_stats.specs.declared.parts.Word.{Word}
use Rattle.conode_stats.specs.declared.parts.Word.TheVariants.{Id, Name, Long, Short}
use Rattle.conode_stats.specs.StatsTokens.{number_in, number_of}
use Rattle.conode_stats_text.specs.Cells.{name_text}
use Rattle.conode_stats_text.specs.StatsLines.{id_text}

-- the text of such a text
abbrev pub word_text : Word → List ℕ
word_text (Id id) = id_text id
word_text (Name name) = name_text name.now
word_text (Long number) = digits_text 16 8 number
word_text (Short number) = digits_text 16 4 number

abbrev pub part_tokens : Part → List Token
part_tokens Nothing = []
part_tokens BeginObject = begin_object ∷ []
part_tokens EndObject = end_object ∷ []
part_tokens EndArray = end_array ∷ []
part_tokens (Object name) = object_begin name.now
part_tokens (Array name) = array_begin name.now
part_tokens (Text name text) = text_member name.now text.now
part_tokens (Number name number) = number_of name.now number
part_tokens (NumberIf name number) = number_in name.now number
part_tokens (WordPart name word) = text_member name.now (word_text word)

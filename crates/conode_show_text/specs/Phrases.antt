-- Words with values in them.
use Rattle.std.specs.Prelude.{ℕ, List, [], ◌∷◌, ◌++◌, codes, decimal}
use Rattle.std.specs.Fmt.{signed_decimal}
use Rattle.co_value.specs.KeyTexts.{key_text}
use Rattle.conode_text.specs.Filled.{filled}
use Rattle.conode_show_text.specs.declared.phrase.Phrase.{Phrase}
use Rattle.conode_show_text.specs.declared.phrase.Piece.{Piece}
use Rattle.conode_show_text.specs.declared.phrase.Piece.TheVariants.{Nothing, Words, Number, Signed, Hexadecimal, Sum, Key, TypeCode, Plain}
use Rattle.conode_show_text.specs.Numbers.{hex_text}
use Rattle.conode_show_text.specs.Texts.{plain_text}
use Rattle.conode_show_text.specs.Values.{addend_text}

-- the text of a value
abbrev pub piece_text : Piece → List ℕ
piece_text Nothing = []
piece_text (Words words) = words.now
piece_text (Number number) = decimal number
piece_text (Signed number) = signed_decimal number
piece_text (Hexadecimal number) = hex_text number
piece_text (Sum addend) = addend_text addend
piece_text (Key key) = key_text key
piece_text (TypeCode code) = codes "type " ++ hex_text code
piece_text (Plain text) = plain_text text.now

-- words with their values
abbrev pub phrase_text : Phrase → List ℕ
phrase_text phrase =
    filled phrase.words.now
    (piece_text phrase.first ∷ piece_text phrase.second ∷ piece_text phrase.third ∷ piece_text phrase.fourth ∷ [])

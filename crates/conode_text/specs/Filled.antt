-- Words with texts in them.
use Rattle.std.specs.Prelude.{ℕ, ◌==◌, Bool, true, false, List, [], ◌∷◌, ◌++◌, drop}

-- the first text; nothing if there is none
abbrev pub first_text : List (List ℕ) → List ℕ
first_text [] = []
first_text (text ∷ others) = text

-- what a byte gives: the first text at a place, else itself
abbrev pub text_of_byte : Bool → ℕ → List (List ℕ) → List ℕ
text_of_byte true byte texts = first_text texts
text_of_byte false byte texts = byte ∷ []

-- the texts for the places after it
abbrev pub texts_left : Bool → List (List ℕ) → List (List ℕ)
texts_left true texts = drop 1 texts
texts_left false texts = texts

-- words with these texts in their places, one after another: each percent sign is a place
unfoldable pub filled : List ℕ → List (List ℕ) → List ℕ
filled [] texts = []
filled (byte ∷ rest) texts =
    text_of_byte (byte == 37) byte texts ++ filled rest (texts_left (byte == 37) texts)

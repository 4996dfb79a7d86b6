-- The words of a line, between blanks. The escape sequences of colours count as blanks.
use Rattle.std.specs.Prelude.{ℕ, ◌==◌, Bool, true, false, not, ◌||◌, if◌then◌else◌, List, [], ◌∷◌, take, drop, Option, Some, None, bytes_eq}
use Rattle.std.specs.List.{prefix_len}
use Rattle.std.specs.Option.{option_map_or}
use Rattle.co_text.specs.Texts.{is_blank}

-- any byte but a blank and the ESC of an escape sequence
abbrev pub is_word_byte : ℕ → Bool
is_word_byte byte = not (is_blank byte || (byte == 27))

-- what follows the blanks and the escape sequences at the front; a sequence ends with its `m`
unfoldable pub past_gap : Bool → List ℕ → List ℕ
past_gap escaped [] = []
past_gap escaped (byte ∷ text) =
    if escaped then past_gap (not (byte == 109)) text
    else (if byte == 27 then past_gap true text
    else (if is_blank byte then past_gap false text else byte ∷ text))

-- the first word, and what follows
unfoldable pub word_at : List ℕ → Option (List ℕ × List ℕ)
word_at line =
    let text = past_gap false line in
    let n = prefix_len is_word_byte text in
    if n == 0 then None else Some (take n text, drop n text)

-- whether this word comes first
abbrev pub next_is : List ℕ → List ℕ → Bool
next_is name text = option_map_or (λ word. bytes_eq word.0 name) (word_at text) false

-- whether no word is left
abbrev pub is_over : List ℕ → Bool
is_over text = option_map_or (λ word. false) (word_at text) true

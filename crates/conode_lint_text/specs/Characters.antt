-- How the characters of a line are shown.
use Rattle.std.specs.Prelude.{ℕ, ◌==◌, ◌||◌, if◌then◌else◌, List, codes}
use Rattle.std.specs.List.{flat_map, prefix_len}
use Rattle.std.specs.Char.{encode_utf8, is_control}
use Rattle.co_text.specs.Texts.{is_blank}
use Rattle.conode_text.specs.Unseen.{code_text, is_unseen}

-- a character as it is shown: control characters as `\t` and `\x1B`, a no-break space (U+00A0), which
-- looks like a blank, as `\xA0`, and what can't be seen or turns the text around as `\u200B`
unfoldable pub shown : ℕ → List ℕ
shown character =
    if character == 9 then codes "\\t"
    else if is_control character || character == 0xA0 || is_unseen character then code_text character
    else encode_utf8 character

abbrev pub shown_all : List ℕ → List ℕ
shown_all characters = flat_map shown characters

-- how many characters there are before the first that is no blank
abbrev pub blanks : List ℕ → ℕ
blanks characters = prefix_len is_blank characters

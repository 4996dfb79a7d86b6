-- Event lines, this project's own. A line is words between single spaces; the grammar says which.
use Rattle.std.specs.Prelude.{ℕ, ◌==◌, ◌≤◌, if◌then◌else◌, List, [], ◌∷◌, length, Option, Some, None, codes, bytes_eq}
use Rattle.std.specs.List.{slice_split}
use Rattle.std.specs.Option.{option_map}
use Rattle.conode_trace.specs.declared.event_line.EventLine.{EventLine}
use Rattle.conode_trace.specs.declared.event_line.EventLine.TheVariants.{Ticks, App}
use Rattle.co_frame.specs.declared.app_event.AppEvent.{AppEvent}
use Rattle.co_frame.specs.declared.app_event.AppEvent.TheVariants as app
use Rattle.co_text.specs.Texts.{◌>>=◌, decimal_in}
use Rattle.co_text.specs.HexPairs.{hex_in, byte_in, word_in, bytes_in}
use Rattle.co_value.specs.KeyTexts.{key_in}

-- the parts of a line between its single spaces: two spaces in a row have an empty word between
-- them
abbrev pub words : List ℕ → List (List ℕ)
words line = slice_split (λ byte. byte == 32) line

-- `!tick N`, `!event K`, `!changed KEY`, `!clear BITS`
unfoldable pub event_of_one : List ℕ → List ℕ → Option EventLine
event_of_one name word =
    if bytes_eq name (codes "!tick") then option_map Ticks (decimal_in 1 86400000 word)
    else (if bytes_eq name (codes "!event") then option_map (λ k. App (app.Event k)) (decimal_in 0 65535 word)
    else (if bytes_eq name (codes "!changed") then option_map (λ key. App (app.Changed key)) (key_in word)
    else (if bytes_eq name (codes "!clear") then option_map (λ bits. App (app.Clear bits)) (byte_in word)
    else None)))

-- `!write KEY HEX`
unfoldable pub event_of_two : List ℕ → List ℕ → List ℕ → Option EventLine
event_of_two name first second =
    if bytes_eq name (codes "!write")
    then (key_in first >>= λ key. hex_in second >>= λ bytes. Some (App (app.Write key bytes)))
    else None

-- `!raise CODE BITS EXTRA`
unfoldable pub event_of_three : List ℕ → List ℕ → List ℕ → List ℕ → Option EventLine
event_of_three name first second third =
    if bytes_eq name (codes "!raise")
    then (word_in first >>= λ code. byte_in second >>= λ bits. bytes_in 5 third >>= λ extra.
    Some (App (app.Raise code bits extra)))
    else None

-- the event that words are, the first of them its name
abbrev pub event_in : List (List ℕ) → Option EventLine
event_in (name ∷ word ∷ []) = event_of_one name word
event_in (name ∷ first ∷ second ∷ []) = event_of_two name first second
event_in (name ∷ first ∷ second ∷ third ∷ []) = event_of_three name first second third
event_in other = None

-- the bytes that an event of the application writes; none where it writes none
abbrev pub written_bytes : AppEvent (List ℕ) → List ℕ
written_bytes (app.Write key bytes) = bytes
written_bytes other = []

-- an event whose bytes, if it writes some, are at most 256: half of the longest line
abbrev pub HasFewBytes : EventLine → Type 0
HasFewBytes (App (app.Write key bytes)) = length bytes ≤ 256
HasFewBytes other = Unit {0}

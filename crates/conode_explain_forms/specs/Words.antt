-- What the words of `--signal` name.
use Rattle.std.specs.Prelude.{◌≡◌, ℕ, ◌==◌, if◌then◌else◌, List, [], ◌∷◌, Option, None, option_map, option_and_then, Result, Ok, Err, ⊤}
use Rattle.std.specs.List.{list_any, before_first, after_first, slice_split}
use Rattle.std.specs.Option.{option_map_or}
use Rattle.co_text.specs.Texts.{decimal_in}
use Rattle.co_value.specs.KeyTexts.{key_in}
use Rattle.conode_explain_forms.specs.declared.signal.Signal.{Signal}
use Rattle.conode_explain_forms.specs.declared.signal.SignalFault.{SignalFault}
use Rattle.conode_explain_forms.specs.declared.signal.SignalFault.TheVariants.{Word, Memory}

-- `NODE:INDEX:SUB`: a node-ID, a colon and a key
unfoldable pub signal_word : List ℕ → Option Signal
signal_word word =
    if list_any (λ b. b == 58) word
    then option_and_then (λ node. option_map (λ key. record { node = node; key = key }) (key_in (after_first (λ b. b == 58) word)))
    (decimal_in 1 127 (before_first (λ b. b == 58) word))
    else None

-- what a word names, before what the words after it name
abbrev pub with_first : Signal → Result (List Signal) (List ℕ) → Result (List Signal) (List ℕ)
with_first signal (Ok more) = Ok (signal ∷ more)
with_first signal (Err word) = Err word

-- what words name, or the first that names no signal
unfoldable pub signals_of : List (List ℕ) → Result (List Signal) (List ℕ)
signals_of [] = Ok []
signals_of (word ∷ words) = option_map_or (λ signal. with_first signal (signals_of words)) (signal_word word) (Err word)

-- the words of a text have a comma between two
unfoldable pub words_in : List ℕ → List (List ℕ)
words_in text = slice_split (λ b. b == 44) text

-- what a text names
abbrev pub signals_in : List ℕ → Result (List Signal) (List ℕ)
signals_in text = signals_of (words_in text)

-- a fault of a text: memory ran out, or the first word that names no signal
abbrev pub IsFault : List ℕ → SignalFault → Type 0
IsFault text Memory = ⊤
IsFault text (Word word) = signals_in text ≡ Err word.now

-- The words that name data sheets: `[INTERFACE:][NODE=]FILE`.
use Rattle.std.specs.Prelude.{ℕ, ◌==◌, nat_le, Bool, not, ◌&&◌, ◌||◌, if◌then◌else◌, List, length, Option, Some, None, option_and_then, Result, Ok, Err, ⊤, ◌≡◌}
use Rattle.std.specs.List.{after_first, before_first, list_all, list_any}
use Rattle.std.specs.Option.{option_copied, option_map_or}
use Rattle.co_text.specs.Texts.{decimal_in, is_blank}
use Rattle.conode_sheets.specs.declared.sheet_word.SheetPart.{SheetPart}
use Rattle.conode_sheets.specs.declared.sheet_word.SheetPart.TheVariants.{Interface, Node, Path}
use Rattle.conode_sheets.specs.declared.sheet_word.SheetWord.{SheetWord}
use Rattle.conode_sheets.specs.declared.sheet_word.SheetWordFault.{SheetWordFault}
use Rattle.conode_sheets.specs.declared.sheet_word.SheetWordFault.TheVariants.{Word, Memory}

-- the interface and the node that a sheet is for, each if the word has one, and the sheet's path
pub record Named : Type 0 where
  pub interface : Option (List ℕ)
  pub node : Option ℕ
  pub path : List ℕ

abbrev pub word_view : SheetWord → Named
word_view word = record { interface = option_copied word.interface; node = word.node; path = word.path.now }

-- a word cut at the first of a mark
abbrev pub first_cut : ℕ → List ℕ → Option (List ℕ × List ℕ)
first_cut mark word =
    if list_any (λ byte. byte == mark) word
    then Some (before_first (λ byte. byte == mark) word, after_first (λ byte. byte == mark) word) else None

-- what comes before a mark is part of a path where it has a slash or an equals sign
abbrev pub is_in_path : List ℕ → Bool
is_in_path front = list_any (λ byte. (byte == 47) || (byte == 61)) front

abbrev pub if_own : List ℕ × List ℕ → Option (List ℕ × List ℕ)
if_own cut = if is_in_path cut.0 then None else Some cut

-- what comes before a mark and isn't part of a path, and what comes after it
abbrev pub cut_at : ℕ → List ℕ → Option (List ℕ × List ℕ)
cut_at mark word = option_and_then if_own (first_cut mark word)

-- a name that an interface may have
abbrev pub has_no_blank : List ℕ → Bool
has_no_blank name = list_all (λ byte. not (is_blank byte)) name

abbrev pub is_interface : List ℕ → Bool
is_interface name = (nat_le 1 (length name) && nat_le (length name) 15) && has_no_blank name

-- a path that isn't empty
abbrev pub with_path : Option (List ℕ) → Option ℕ → List ℕ → Result Named SheetPart
with_path interface node path =
    if length path == 0 then Err Path else Ok (record { interface = interface; node = node; path = path })

-- `NODE=FILE`: a node-ID from 1 to 127
abbrev pub with_node : Option (List ℕ) → List ℕ × List ℕ → Result Named SheetPart
with_node interface cut =
    option_map_or (λ node. with_path interface (Some node) cut.1) (decimal_in 1 127 cut.0) (Err Node)

-- `[NODE=]FILE`
unfoldable pub node_and_path : Option (List ℕ) → List ℕ → Result Named SheetPart
node_and_path interface word = option_map_or (with_node interface) (cut_at 61 word) (with_path interface None word)

-- `INTERFACE:[NODE=]FILE`
abbrev pub with_interface : List ℕ × List ℕ → Result Named SheetPart
with_interface cut = if is_interface cut.0 then node_and_path (Some cut.0) cut.1 else Err Interface

-- what a word names, or which part of it is wrong
unfoldable pub sheet_word : List ℕ → Result Named SheetPart
sheet_word word = option_map_or with_interface (cut_at 58 word) (node_and_path None word)

-- what is wrong with words: memory ran out, or a part of one that names no sheet
abbrev pub IsWrong : SheetWordFault → Type 0
IsWrong Memory = ⊤
IsWrong (Word part word) = sheet_word word.now ≡ Err part

-- the node-ID that the interface of a word without a node-ID looks like, as of `5:FILE` for `5=FILE`
abbrev pub node_like : Option ℕ → Option (List ℕ) → Option ℕ
node_like (Some node) interface = None
node_like None interface = option_and_then (decimal_in 1 127) interface

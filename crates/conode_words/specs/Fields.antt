-- Which word or option gives each field of a task.
use Rattle.std.specs.Prelude.{◌≡◌, ℕ, List, codes, Option, Some, IsSomeAnd, option_map}
use Rattle.clap.specs.Words.{Row, Text, first_of}
use Rattle.conode_words.specs.declared.tasks.DeviceWords.{DeviceWords}
use Rattle.conode_words.specs.declared.tasks.DictionaryWords.{DictionaryWords}
use Rattle.conode_words.specs.declared.tasks.RoomWords.{RoomWords}
use Rattle.conode_words.specs.declared.tasks.TimingWords.{TimingWords}
use Rattle.conode_words.specs.Choices.{colours_of, format_of, lines_as_of, log_form_of, mode_of, report_as_of, shown_as, stamps_of, zeros_of}
use Rattle.conode_words.specs.Tasks.{Asked, check, lint, decode, replay, loop_back, show, adapt, explain, convert, stats, compare, asked_lines, is_used, number_for, number_of_bits, words_for}

-- a word, or the value of an option, is this one
abbrev pub IsWord : Text → List Row → Text → Type 0
IsWord name rows word = first_of name rows ≡ Some word

-- it is a number of 16 bits
abbrev pub IsNumber : Text → List Row → ℕ → Type 0
IsNumber name rows number = IsSomeAnd (first_of name rows) (λ word. number_of_bits 16 word ≡ Some number)

-- it is a number of so many bits
abbrev pub IsNumberOf : ℕ → Text → List Row → ℕ → Type 0
IsNumberOf bits name rows number = IsSomeAnd (first_of name rows) (λ word. number_of_bits bits word ≡ Some number)

-- it names this choice
abbrev pub IsChoice : {A : Type 0} → (Text → Option A) → Text → List Row → A → Type 0
IsChoice choice name rows a = IsSomeAnd (first_of name rows) (λ word. choice word ≡ Some a)

-- it names this choice, if it is used
abbrev pub IsChoiceIfUsed : {A : Type 0} → (Text → Option A) → Text → List Row → Option A → Type 0
IsChoiceIfUsed choice name rows a =
    option_map choice (first_of name rows) ≡ option_map (λ used. Some used) a

-- `--node`, if it is used
abbrev pub IsNode : List Row → Option ℕ → Type 0
IsNode rows node = node ≡ number_for 8 (codes "node") rows

-- `--node`, `--strings` and `--domains`
pub record GivesDictionary (rows : List Row) (d : DictionaryWords) : Type 0 where
  pub node : IsNode rows d.node
  pub strings : IsNumber (codes "strings") rows d.strings
  pub domains : IsNumber (codes "domains") rows d.domains

-- the same and `--time`
pub record GivesDevice (rows : List Row) (d : DeviceWords) : Type 0 where
  pub dictionary : GivesDictionary rows d.dictionary
  pub time : IsNumber (codes "time") rows d.time

-- `--tolerance`, `--drift`, `--answer` and `--boot`; and `--time`, if it is used
pub record GivesTiming (rows : List Row) (t : TimingWords) : Type 0 where
  pub tolerance : IsNumberOf 32 (codes "tolerance") rows t.tolerance
  pub drift : IsNumberOf 8 (codes "drift") rows t.drift
  pub answer : IsNumberOf 32 (codes "answer") rows t.answer
  pub boot : IsNumberOf 32 (codes "boot") rows t.boot
  pub time : t.time ≡ number_for 16 (codes "time") rows

-- `--strings` and `--domains`, if they are used
pub record GivesRooms (rows : List Row) (r : RoomWords) : Type 0 where
  pub strings : r.strings ≡ number_for 16 (codes "strings") rows
  pub domains : r.domains ≡ number_for 16 (codes "domains") rows

-- the words after the name of a subcommand ask for this
abbrev pub AsksFor : Text → List Row → Asked → Type 0
AsksFor name rows (check a) =
    (name ≡ codes "check") × IsWord (codes "SHEET") rows a.sheet × GivesDictionary rows a.dictionary
AsksFor name rows (lint a) =
    (name ≡ codes "lint")
    × (a.sheets ≡ words_for (codes "SHEET") rows) × (a.allowed ≡ words_for (codes "allow") rows)
    × GivesDictionary rows a.dictionary
    × IsChoice format_of (codes "format") rows a.format × IsChoice colours_of (codes "color") rows a.colours
    × (a.strict ≡ is_used (codes "strict") rows) × (a.all ≡ is_used (codes "all") rows)
AsksFor name rows (decode a) =
    (name ≡ codes "decode") × IsWord (codes "TRACE") rows a.trace
    × (a.sheet ≡ first_of (codes "sheet") rows) × IsNode rows a.node
AsksFor name rows (replay a) =
    (name ≡ codes "replay") × IsWord (codes "SHEET") rows a.sheet × IsWord (codes "TRACE") rows a.trace
    × GivesDevice rows a.device
AsksFor name rows (loop_back a) =
    (name ≡ codes "loop") × IsWord (codes "SHEET") rows a.sheet × IsWord (codes "KEY") rows a.key
    × IsWord (codes "HEX") rows a.bytes × IsChoice mode_of (codes "mode") rows a.mode × GivesDevice rows a.device
AsksFor name rows (show a) =
    (name ≡ codes "show") × IsWord (codes "SHEET") rows a.sheet × IsNode rows a.node
    × IsChoice shown_as (codes "format") rows a.shown_as
AsksFor name rows (adapt a) =
    (name ≡ codes "adapt") × IsWord (codes "SHEET") rows a.sheet
    × IsChoiceIfUsed zeros_of (codes "leading-zeros") rows a.leading_zeros
    × (a.force ≡ is_used (codes "force") rows)
AsksFor name rows (explain a) =
    (name ≡ codes "explain") × IsWord (codes "TRACE") rows a.trace
    × (a.sheets ≡ words_for (codes "sheet") rows) × IsChoice stamps_of (codes "stamps") rows a.stamps
    × (a.transfers ≡ is_used (codes "transfers") rows) × (a.changes ≡ is_used (codes "changes") rows)
    × (a.stop ≡ is_used (codes "stop") rows) × IsChoice colours_of (codes "color") rows a.colours
    × IsChoice lines_as_of (codes "format") rows a.lines_as × IsChoice log_form_of (codes "log") rows a.form
    × (a.only ≡ asked_lines rows) × (a.signals ≡ first_of (codes "signal") rows)
AsksFor name rows (convert a) =
    (name ≡ codes "convert") × IsWord (codes "LOG") rows a.log × IsChoice log_form_of (codes "log") rows a.form
AsksFor name rows (stats a) =
    (name ≡ codes "stats") × IsWord (codes "TRACE") rows a.trace × (a.sheets ≡ words_for (codes "sheet") rows)
    × (a.bit_rate ≡ first_of (codes "bitrate") rows) × IsChoice lines_as_of (codes "format") rows a.lines_as
    × IsChoice log_form_of (codes "log") rows a.form
AsksFor name rows (compare a) =
    (name ≡ codes "compare") × IsWord (codes "SHEET") rows a.sheet × IsWord (codes "TRACE") rows a.trace
    × IsNode rows a.node × (a.interface ≡ first_of (codes "interface") rows) × (a.held ≡ first_of (codes "held") rows)
    × GivesRooms rows a.rooms
    × (a.choices ≡ is_used (codes "choices") rows) × (a.learned ≡ is_used (codes "learned") rows)
    × IsChoice log_form_of (codes "log") rows a.form × IsChoice report_as_of (codes "format") rows a.report_as × GivesTiming rows a.timing

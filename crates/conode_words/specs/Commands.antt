-- The commands of the command line: their words and their options.
use Rattle.std.specs.Prelude.{◌≡◌, true, false, ℕ, List, [], ◌∷◌, codes, Some}
use Rattle.clap.specs.Lexer.{usize_max}
use Rattle.clap.specs.Words.{App, Rule, Text, app_of, new_app, new_rule, with_rule, with_subcommand}
use Rattle.clap.specs.declared.builder.action.ArgAction.TheVariants.{Append, SetTrue}
use Rattle.clap.specs.declared.builder.command.Command.{Command}
use Rattle.clap.specs.declared.builder.command.Command.TheViews.{out-Command}
use Rattle.clap.specs.declared.builder.value_parser.ValueParser.TheVariants.{Unsigned}

-- a command is built as this one, and has no option that its subcommands take too
pub record IsCommand (command : Command) (app : App) : Type 0 where
  pub shape : app_of command ≡ app
  pub local : (out-Command command).has_globals ≡ false

-- ---- words and options by their kind

-- a word that has to be there; such words, one at least
abbrev pub wanted : Text → Rule
wanted id = record (new_rule id) { required = true }

abbrev pub many_wanted : Text → Rule
many_wanted id =
    record (wanted id) { range = Some (record { start_inclusive = 1; end_inclusive = usize_max }) }

-- an option `--NAME` without a value
abbrev pub flag : Text → Rule
flag name = record (new_rule name) { long = Some name; action = Some SetTrue }

-- an option with a value
abbrev pub valued : Text → Rule
valued name = record (new_rule name) { long = Some name; value_names = 1 }

-- an option with a value, which may be used several times
abbrev pub repeated : Text → Rule
repeated name = record (valued name) { action = Some Append }

-- an option with a value, and its default
abbrev pub worded : Text → Text → Rule
worded name default = record (valued name) { defaults = default ∷ [] }

-- the same with a letter, as `-t`
abbrev pub lettered : Text → ℕ → Text → Rule
lettered name letter default = record (worded name default) { short = Some letter }

-- an option `--NAME N` with a number from low to high, and its default, if it has one
abbrev pub numbered : Text → ℕ → ℕ → List Text → Rule
numbered name low high default =
    record (valued name) { parser = Some (Unsigned low high); defaults = default }

-- `--node N`, a node-ID
abbrev pub node_option : Rule
node_option = numbered (codes "node") 1 127 []

-- `--strings N` and `--domains N`, bytes of room; `--time N`, ms
abbrev pub strings_option : Rule
strings_option = numbered (codes "strings") 0 65535 (codes "16" ∷ [])

abbrev pub domains_option : Rule
domains_option = numbered (codes "domains") 0 65535 (codes "889" ∷ [])

abbrev pub time_option : Rule
time_option = numbered (codes "time") 0 65535 (codes "1000" ∷ [])

-- a command with the rooms of a dictionary; the same with the time of a device
abbrev pub with_limits : App → App
with_limits app = with_rule (with_rule app strings_option) domains_option

abbrev pub with_rooms : App → App
with_rooms app = with_rule (with_limits app) time_option

-- a command with the options that choose which lines are printed
abbrev pub with_filters : App → App
with_filters app =
    with_rule (with_rule (with_rule (with_rule (with_rule app (valued (codes "of"))) (valued (codes "id"))) (valued (codes "kind")))
    (valued (codes "from"))) (valued (codes "to"))

-- ---- the commands

-- `check SHEET [--node N] [--strings N] [--domains N]`
unfoldable pub check_command : App
check_command =
    with_limits (with_rule (with_rule (new_app (codes "check")) (wanted (codes "SHEET"))) node_option)

-- `lint SHEET|DIR.. [--node N] [--strings N] [--domains N] [--format FORMAT] [--strict] [--all]
-- [--allow NAME].. [--color WHEN]`
unfoldable pub lint_of_sheets : App
lint_of_sheets =
    with_limits (with_rule (with_rule (new_app (codes "lint")) (many_wanted (codes "SHEET"))) node_option)

unfoldable pub lint_command : App
lint_command =
    with_rule (with_rule (with_rule (with_rule (with_rule lint_of_sheets
    (worded (codes "format") (codes "text"))) (flag (codes "strict"))) (flag (codes "all")))
    (repeated (codes "allow"))) (worded (codes "color") (codes "auto"))

-- `decode TRACE [--sheet SHEET] [--node N]`
unfoldable pub decode_command : App
decode_command =
    with_rule (with_rule (with_rule (new_app (codes "decode")) (wanted (codes "TRACE")))
    (valued (codes "sheet"))) node_option

-- `replay SHEET TRACE [--node N] [--strings N] [--domains N] [--time N]`
unfoldable pub replay_command : App
replay_command =
    with_rooms (with_rule (with_rule (with_rule (new_app (codes "replay"))
    (wanted (codes "SHEET"))) (wanted (codes "TRACE"))) node_option)

-- `loop SHEET KEY HEX [--node N] [--mode MODE] [--strings N] [--domains N] [--time N]`
unfoldable pub loop_command : App
loop_command =
    with_rooms (with_rule (with_rule (with_rule (with_rule (with_rule (new_app (codes "loop"))
    (wanted (codes "SHEET"))) (wanted (codes "KEY"))) (wanted (codes "HEX"))) node_option)
    (worded (codes "mode") (codes "plain")))

-- `show SHEET [--node N] [--format FORMAT]`
unfoldable pub show_command : App
show_command =
    with_rule (with_rule (with_rule (new_app (codes "show")) (wanted (codes "SHEET"))) node_option)
    (worded (codes "format") (codes "text"))

-- `adapt SHEET [--leading-zeros octal|decimal] [--force]`
unfoldable pub adapt_command : App
adapt_command =
    with_rule (with_rule (with_rule (new_app (codes "adapt")) (wanted (codes "SHEET")))
    (valued (codes "leading-zeros"))) (flag (codes "force"))

-- `--log FORM`, of `explain`, `convert`, `stats` and `compare`
abbrev pub log_option : Rule
log_option = worded (codes "log") (codes "auto")

-- `--stamps FORM` or `-t FORM`
abbrev pub stamps_option : Rule
stamps_option = lettered (codes "stamps") 116 (codes "relative")

-- `explain TRACE [--sheet SHEET].. [--stamps FORM|-t FORM] [--transfers] [--changes] [--stop]
-- [--color WHEN] [--signal SIGNALS] [--format FORMAT] [--log FORM] [--of NODES] [--id IDS] [--kind KINDS]
-- [--from TIME] [--to TIME]`
unfoldable pub explain_command : App
explain_command =
    with_filters (with_rule (with_rule (with_rule (with_rule (with_rule (with_rule (with_rule (with_rule (with_rule (with_rule (new_app (codes "explain"))
    (wanted (codes "TRACE"))) (repeated (codes "sheet"))) stamps_option) (flag (codes "transfers"))) (flag (codes "changes"))) (flag (codes "stop"))) (worded (codes "color") (codes "auto")))
    (valued (codes "signal"))) (worded (codes "format") (codes "text"))) log_option)

-- `convert LOG [--log FORM]`
unfoldable pub convert_command : App
convert_command =
    with_rule (with_rule (new_app (codes "convert")) (wanted (codes "LOG"))) log_option

-- `stats TRACE [--sheet SHEET].. [--bitrate RATE] [--format FORMAT] [--log FORM]`
unfoldable pub stats_command : App
stats_command =
    with_rule (with_rule (with_rule (with_rule (with_rule (new_app (codes "stats")) (wanted (codes "TRACE")))
    (repeated (codes "sheet"))) (valued (codes "bitrate"))) (worded (codes "format") (codes "text"))) log_option

-- the most ms that an option takes
abbrev pub most_ms : ℕ
most_ms = 4294967295

-- a command with how far times may be off, in ms and percent, how long an answer and a boot-up may
-- take, in ms, and the SDO timeout, in ms, without a default
abbrev pub with_timing : App → App
with_timing app =
    with_rule (with_rule (with_rule (with_rule (with_rule app (numbered (codes "tolerance") 0 most_ms (codes "10" ∷ [])))
    (numbered (codes "drift") 0 100 (codes "1" ∷ []))) (numbered (codes "answer") 0 most_ms (codes "1000" ∷ [])))
    (numbered (codes "boot") 0 most_ms (codes "10000" ∷ []))) (numbered (codes "time") 0 65535 [])

-- a command with `--strings N` and `--domains N`, without a default
abbrev pub with_known_rooms : App → App
with_known_rooms app =
    with_rule (with_rule app (numbered (codes "strings") 0 65535 [])) (numbered (codes "domains") 0 65535 [])

-- `compare SHEET TRACE [--node N] [--interface NAME] [--held KEYS] [--strings N] [--domains N]
-- [--choices] [--learned] [--log FORM] [--format FORMAT] [--tolerance MS] [--drift PERCENT] [--answer MS]
-- [--boot MS] [--time N]`
unfoldable pub compare_command : App
compare_command =
    with_timing (with_rule (with_rule (with_rule (with_rule (with_known_rooms (with_rule (with_rule (with_rule (with_rule (with_rule (new_app (codes "compare"))
    (wanted (codes "SHEET"))) (wanted (codes "TRACE"))) node_option) (valued (codes "interface"))) (valued (codes "held"))))
    (flag (codes "choices"))) (flag (codes "learned"))) log_option) (worded (codes "format") (codes "text")))

-- a command with `--version`
abbrev pub versioned : App → App
versioned app = record app { top = record app.top { has_version = true } }

-- the program's command
unfoldable pub conode_command : App
conode_command =
    with_subcommand (with_subcommand (with_subcommand (with_subcommand (with_subcommand (with_subcommand
    (with_subcommand (with_subcommand (with_subcommand (with_subcommand (with_subcommand (versioned (new_app (codes "conode"))) check_command.top)
    lint_command.top) decode_command.top) replay_command.top) loop_command.top) show_command.top)
    adapt_command.top) explain_command.top) convert_command.top) stats_command.top) compare_command.top

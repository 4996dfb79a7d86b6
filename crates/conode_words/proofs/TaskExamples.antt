-- Command lines, evaluated.
use Rattle.std.proofs.Common.{◌≡◌, ℕ, Bool, List, [], ◌∷◌, Option, Some, None, codes, map, refl, true, false}
use Rattle.clap.specs.Kinds.{or_else}
use Rattle.clap.specs.Takes.{value_passes}
use Rattle.clap.specs.Words.{App, Rule, Shape, Text, fault_of, matches_of, subcommand_of}
use Rattle.clap.specs.declared.error.kind.ErrorKind.{ErrorKind}
use Rattle.clap.specs.declared.error.kind.ErrorKind.TheVariants as kind
use Rattle.conode_words.specs.declared.tasks.Mode.TheVariants.{Plain, Segmented, Block}
use Rattle.conode_words.specs.declared.tasks.DeviceWords.{DeviceWords}
use Rattle.conode_words.specs.declared.tasks.DictionaryWords.{DictionaryWords}
use Rattle.conode_words.specs.declared.tasks.LinesAs.TheVariants as lines
use Rattle.conode_words.specs.declared.tasks.ReportAs.TheVariants as report_form
use Rattle.conode_words.specs.declared.tasks.LogForm.TheVariants as log_form
use Rattle.conode_words.specs.declared.tasks.ShownAs.TheVariants.{Columns, Markdown}
use Rattle.conode_words.specs.declared.tasks.ShownAs.TheVariants as shown_form
use Rattle.conode_words.specs.declared.tasks.LeadingZeros.TheVariants.{Octal, Decimal}
use Rattle.conode_words.specs.declared.tasks.Stamps.TheVariants.{Relative, Absolute, Delta, Date}
use Rattle.conode_words.specs.declared.tasks.Colours.TheVariants.{Auto, Always, Never}
use Rattle.conode_words.specs.declared.tasks.Format.TheVariants.{Json, Sarif, Text as AsText}
use Rattle.conode_words.specs.Commands.{adapt_command, check_command, compare_command, conode_command, convert_command, decode_command, domains_option, explain_command, lint_command, loop_command, node_option, replay_command, show_command, stats_command, strings_option, time_option}
use Rattle.conode_words.specs.Choices.{colours_of, format_of, lines_as_of, log_form_of, mode_of, report_as_of, shown_as, stamps_of, zeros_of}
use Rattle.conode_words.specs.Tasks.{AskedLines, Asked, check, lint, decode, replay, loop_back, show, adapt, explain, convert, stats, compare, asked_in, asked_of, word_fault}
use Rattle.conode_words.proofs.OnLiterals.{words_on_literals}

-- what all words ask for, by the program's command; and those after the name of a subcommand, by that alone, which is computed
-- sooner
abbrev asked : List Text → Option Asked
asked words = asked_of (subcommand_of conode_command (codes "conode" ∷ words))

abbrev asked_after : App → Text → List Text → Option Asked
asked_after command name words = asked_in name (matches_of command (name ∷ words))

-- why those after it are refused
abbrev fault_after : App → Text → List Text → List ErrorKind
fault_after command name words =
    or_else (fault_of command (name ∷ words)) (word_fault (Some (name, matches_of command (name ∷ words))))

abbrev dictionary : Option ℕ → ℕ → ℕ → DictionaryWords
dictionary node strings domains = record { node = node; strings = strings; domains = domains }

abbrev device : Option ℕ → ℕ → ℕ → ℕ → DeviceWords
device node strings domains time = record { dictionary = dictionary node strings domains; time = time }

-- ---- the values of options

-- whether an option takes each of these words
abbrev takes : Rule → List Text → List Bool
takes option = map (value_passes option)

node_ids : takes node_option (codes "0" ∷ codes "1" ∷ codes "127" ∷ codes "128" ∷ codes "x" ∷ []) ≡ false ∷ true ∷ true ∷ false ∷ false ∷ []
unfolding words_on_literals
node_ids = refl

rooms_of_strings : takes strings_option (codes "0" ∷ codes "65535" ∷ codes "65536" ∷ []) ≡ true ∷ true ∷ false ∷ []
unfolding words_on_literals
rooms_of_strings = refl

rooms_of_domains : takes domains_option (codes "0" ∷ codes "65535" ∷ codes "65536" ∷ []) ≡ true ∷ true ∷ false ∷ []
unfolding words_on_literals
rooms_of_domains = refl

times : takes time_option (codes "0" ∷ codes "65535" ∷ codes "65536" ∷ []) ≡ true ∷ true ∷ false ∷ []
unfolding words_on_literals
times = refl

formats_of_lint : map format_of (codes "text" ∷ codes "json" ∷ codes "sarif" ∷ codes "Text" ∷ codes "xml" ∷ []) ≡ Some AsText ∷ Some Json ∷ Some Sarif ∷ None ∷ None ∷ []
unfolding words_on_literals
formats_of_lint = refl

colours_by_word : map colours_of (codes "auto" ∷ codes "always" ∷ codes "never" ∷ codes "red" ∷ []) ≡ Some Auto ∷ Some Always ∷ Some Never ∷ None ∷ []
unfolding words_on_literals
colours_by_word = refl

modes : map mode_of (codes "plain" ∷ codes "segmented" ∷ codes "block" ∷ codes "Block" ∷ []) ≡ Some Plain ∷ Some Segmented ∷ Some Block ∷ None ∷ []
unfolding words_on_literals
modes = refl

forms_of_show : map shown_as (codes "text" ∷ codes "markdown" ∷ codes "json" ∷ codes "html" ∷ []) ≡ Some Columns ∷ Some Markdown ∷ Some shown_form.Json ∷ None ∷ []
unfolding words_on_literals
forms_of_show = refl

stamps_by_word : map stamps_of (codes "relative" ∷ codes "absolute" ∷ codes "delta" ∷ codes "date" ∷ codes "Delta" ∷ [])
    ≡ Some Relative ∷ Some Absolute ∷ Some Delta ∷ Some Date ∷ None ∷ []
unfolding words_on_literals
stamps_by_word = refl

stamps_by_letter : map stamps_of (codes "z" ∷ codes "a" ∷ codes "d" ∷ codes "A" ∷ codes "D" ∷ [])
    ≡ Some Relative ∷ Some Absolute ∷ Some Delta ∷ Some Date ∷ None ∷ []
unfolding words_on_literals
stamps_by_letter = refl

-- ---- the words of each command

check_of_a_sheet : asked_after check_command (codes "check") (codes "a" ∷ []) ≡ Some (check (record { sheet = codes "a"; dictionary = dictionary None 16 889 }))
unfolding words_on_literals
check_of_a_sheet = refl

all_options : asked_after check_command (codes "check") (codes "--node" ∷ codes "127" ∷ codes "a" ∷ codes "--strings=0" ∷ codes "--domains" ∷ codes "65535" ∷ [])
    ≡ Some (check (record { sheet = codes "a"; dictionary = dictionary (Some 127) 0 65535 }))
unfolding words_on_literals
all_options = refl

check_for_node_0 : fault_of check_command (codes "check" ∷ codes "a" ∷ codes "--node" ∷ codes "0" ∷ []) ≡ kind.ValueValidation ∷ []
unfolding words_on_literals
check_for_node_0 = refl

two_nodes : fault_of check_command (codes "check" ∷ codes "a" ∷ codes "--node" ∷ codes "5" ∷ codes "--node" ∷ codes "6" ∷ []) ≡ kind.ArgumentConflict ∷ []
unfolding words_on_literals
two_nodes = refl

check_of_nothing : fault_of check_command (codes "check" ∷ []) ≡ kind.MissingRequiredArgument ∷ []
unfolding words_on_literals
check_of_nothing = refl

check_of_two : fault_of check_command (codes "check" ∷ codes "a" ∷ codes "b" ∷ []) ≡ kind.UnknownArgument ∷ []
unfolding words_on_literals
check_of_two = refl

lint_of_a_sheet : asked_after lint_command (codes "lint") (codes "a" ∷ [])
    ≡ Some (lint (record {
      sheets = codes "a" ∷ [];
      allowed = [];
      dictionary = dictionary None 16 889;
      format = AsText;
      colours = Auto;
      strict = false;
      all = false;
    }))
unfolding words_on_literals
lint_of_a_sheet = refl

lint_with_all_options : asked_after lint_command (codes "lint") (codes "a" ∷ codes "--allow" ∷ codes "x" ∷ codes "--strict" ∷ codes "-" ∷ codes "--node=127" ∷ codes "--format" ∷ codes "json" ∷ codes "--all" ∷ codes "--allow=y" ∷ codes "--color=always" ∷ codes "--strings=1" ∷ codes "--domains=2" ∷ [])
    ≡ Some (lint (record {
      sheets = codes "a" ∷ codes "-" ∷ [];
      allowed = codes "x" ∷ codes "y" ∷ [];
      dictionary = dictionary (Some 127) 1 2;
      format = Json;
      colours = Always;
      strict = true;
      all = true;
    }))
unfolding words_on_literals
lint_with_all_options = refl

lint_in_another_format : fault_after lint_command (codes "lint") (codes "a" ∷ codes "--format" ∷ codes "xml" ∷ []) ≡ kind.InvalidValue ∷ []
unfolding words_on_literals
lint_in_another_format = refl

lint_in_other_colours : fault_after lint_command (codes "lint") (codes "a" ∷ codes "--color" ∷ codes "red" ∷ []) ≡ kind.InvalidValue ∷ []
unfolding words_on_literals
lint_in_other_colours = refl

decode_of_a_trace : asked_after decode_command (codes "decode") (codes "t" ∷ []) ≡ Some (decode (record { trace = codes "t"; sheet = None; node = None }))
unfolding words_on_literals
decode_of_a_trace = refl

decode_with_options : asked_after decode_command (codes "decode") (codes "--node" ∷ codes "5" ∷ codes "t" ∷ codes "--sheet" ∷ codes "s" ∷ []) ≡ Some (decode (record { trace = codes "t"; sheet = Some (codes "s"); node = Some 5 }))
unfolding words_on_literals
decode_with_options = refl

replay_of_a_trace : asked_after replay_command (codes "replay") (codes "s" ∷ codes "-" ∷ codes "--node" ∷ codes "5" ∷ [])
    ≡ Some (replay (record { sheet = codes "s"; trace = codes "-"; device = device (Some 5) 16 889 1000 }))
unfolding words_on_literals
replay_of_a_trace = refl

loop_without_node : asked_after loop_command (codes "loop") (codes "s" ∷ codes "k" ∷ codes "-" ∷ codes "--time" ∷ codes "0" ∷ [])
    ≡ Some (loop_back (record { sheet = codes "s"; key = codes "k"; bytes = codes "-"; mode = Plain; device = device None 16 889 0 }))
unfolding words_on_literals
loop_without_node = refl

loop_with_options : asked_after loop_command (codes "loop") (codes "--mode" ∷ codes "block" ∷ codes "s" ∷ codes "k" ∷ codes "01" ∷ codes "--node=1" ∷ codes "--strings" ∷ codes "1" ∷ codes "--domains" ∷ codes "2" ∷ codes "--time" ∷ codes "3" ∷ [])
    ≡ Some (loop_back (record { sheet = codes "s"; key = codes "k"; bytes = codes "01"; mode = Block; device = device (Some 1) 1 2 3 }))
unfolding words_on_literals
loop_with_options = refl

loop_in_another_mode : fault_after loop_command (codes "loop") (codes "s" ∷ codes "k" ∷ codes "-" ∷ codes "--mode=Block" ∷ []) ≡ kind.InvalidValue ∷ []
unfolding words_on_literals
loop_in_another_mode = refl

show_as_text : fault_after show_command (codes "show") (codes "a" ∷ []) ≡ []
unfolding words_on_literals
show_as_text = refl

show_of_a_sheet : asked_after show_command (codes "show") (codes "a" ∷ []) ≡ Some (show (record { sheet = codes "a"; node = None; shown_as = Columns }))
unfolding words_on_literals
show_of_a_sheet = refl

show_with_options : asked_after show_command (codes "show") (codes "--format" ∷ codes "markdown" ∷ codes "a" ∷ codes "--node" ∷ codes "127" ∷ [])
    ≡ Some (show (record { sheet = codes "a"; node = Some 127; shown_as = Markdown }))
unfolding words_on_literals
show_with_options = refl

show_in_another_format : fault_after show_command (codes "show") (codes "a" ∷ codes "--format" ∷ codes "html" ∷ []) ≡ kind.InvalidValue ∷ []
unfolding words_on_literals
show_in_another_format = refl

adapt_of_a_sheet : asked_after adapt_command (codes "adapt") (codes "a" ∷ []) ≡ Some (adapt (record { sheet = codes "a"; leading_zeros = None; force = false }))
unfolding words_on_literals
adapt_of_a_sheet = refl

adapt_by_force : asked_after adapt_command (codes "adapt") (codes "--leading-zeros=octal" ∷ codes "a" ∷ codes "--force" ∷ [])
    ≡ Some (adapt (record { sheet = codes "a"; leading_zeros = Some Octal; force = true }))
unfolding words_on_literals
adapt_by_force = refl

leading_zeros : map zeros_of (codes "octal" ∷ codes "decimal" ∷ codes "Octal" ∷ codes "8" ∷ []) ≡ Some Octal ∷ Some Decimal ∷ None ∷ None ∷ []
unfolding words_on_literals
leading_zeros = refl

adapt_by_another_base : fault_after adapt_command (codes "adapt") (codes "a" ∷ codes "--leading-zeros" ∷ codes "hex" ∷ []) ≡ kind.InvalidValue ∷ []
unfolding words_on_literals
adapt_by_another_base = refl

adapt_without_sheet : fault_after adapt_command (codes "adapt") [] ≡ kind.MissingRequiredArgument ∷ []
unfolding words_on_literals
adapt_without_sheet = refl

abbrev all_lines : AskedLines
all_lines = record { of = None; id = None; kind = None; from = None; to = None }

explain_of_a_trace : asked_after explain_command (codes "explain") (codes "t" ∷ []) ≡ Some (explain (record { trace = codes "t"; sheets = []; stamps = Relative; transfers = false; changes = false; stop = false; colours = Auto; lines_as = lines.Text; form = log_form.Auto; only = all_lines; signals = None }))
unfolding words_on_literals
explain_of_a_trace = refl

explain_with_options : asked_after explain_command (codes "explain")
    (codes "-t" ∷ codes "A" ∷ codes "-" ∷ codes "--transfers" ∷ codes "--changes" ∷ codes "--stop" ∷ codes "--color=never" ∷ codes "--format=json" ∷ codes "--log" ∷ codes "trc" ∷ codes "--sheet" ∷ codes "5=s" ∷ codes "--sheet=can1:d" ∷ [])
    ≡ Some (explain (record { trace = codes "-"; sheets = codes "5=s" ∷ codes "can1:d" ∷ []; stamps = Date; transfers = true; changes = true; stop = true; colours = Never; lines_as = lines.Json; form = log_form.Trc; only = all_lines; signals = None }))
unfolding words_on_literals
explain_with_options = refl

explain_some_lines : asked_after explain_command (codes "explain") (codes "t" ∷ codes "--of=5" ∷ codes "--id" ∷ codes "185" ∷ codes "--kind" ∷ codes "pdo" ∷ codes "--from" ∷ codes "1" ∷ codes "--to" ∷ codes "2" ∷ [])
    ≡ Some (explain (record {
      trace = codes "t";
      sheets = [];
      stamps = Relative;
      transfers = false;
      changes = false;
      stop = false;
      colours = Auto;
      lines_as = lines.Text;
      form = log_form.Auto;
      only = record { of = Some (codes "5"); id = Some (codes "185"); kind = Some (codes "pdo"); from = Some (codes "1"); to = Some (codes "2") };
      signals = None;
    }))
unfolding words_on_literals
explain_some_lines = refl

explain_in_other_colours : fault_after explain_command (codes "explain") (codes "t" ∷ codes "--color" ∷ codes "red" ∷ []) ≡ kind.InvalidValue ∷ []
unfolding words_on_literals
explain_in_other_colours = refl

explain_signals : asked_after explain_command (codes "explain") (codes "t" ∷ codes "--signal" ∷ codes "5:2001:01" ∷ codes "-ta" ∷ [])
    ≡ Some (explain (record { trace = codes "t"; sheets = []; stamps = Absolute; transfers = false; changes = false; stop = false; colours = Auto; lines_as = lines.Text; form = log_form.Auto; only = all_lines; signals = Some (codes "5:2001:01") }))
unfolding words_on_literals
explain_signals = refl

explain_in_another_format : fault_after explain_command (codes "explain") (codes "t" ∷ codes "--format=xml" ∷ []) ≡ kind.InvalidValue ∷ []
unfolding words_on_literals
explain_in_another_format = refl

formats_of_explain : map lines_as_of (codes "text" ∷ codes "json" ∷ codes "Json" ∷ codes "sarif" ∷ []) ≡ Some lines.Text ∷ Some lines.Json ∷ None ∷ None ∷ []
unfolding words_on_literals
formats_of_explain = refl

explain_in_other_stamps : fault_after explain_command (codes "explain") (codes "t" ∷ codes "--stamps=zero" ∷ []) ≡ kind.InvalidValue ∷ []
unfolding words_on_literals
explain_in_other_stamps = refl

convert_of_a_log : asked_after convert_command (codes "convert") (codes "l" ∷ []) ≡ Some (convert (record { log = codes "l"; form = log_form.Auto }))
unfolding words_on_literals
convert_of_a_log = refl

convert_with_a_form : asked_after convert_command (codes "convert") (codes "--log" ∷ codes "asc" ∷ codes "-" ∷ [])
    ≡ Some (convert (record { log = codes "-"; form = log_form.Asc }))
unfolding words_on_literals
convert_with_a_form = refl

convert_with_another_form : fault_after convert_command (codes "convert") (codes "l" ∷ codes "--log=blf" ∷ []) ≡ kind.InvalidValue ∷ []
unfolding words_on_literals
convert_with_another_form = refl

convert_without_log : fault_after convert_command (codes "convert") [] ≡ kind.MissingRequiredArgument ∷ []
unfolding words_on_literals
convert_without_log = refl

forms_of_logs : map log_form_of (codes "candump" ∷ codes "screen" ∷ codes "screen-delta" ∷ codes "trc" ∷ codes "Auto" ∷ [])
    ≡ Some log_form.Candump ∷ Some log_form.Screen ∷ Some log_form.ScreenDelta ∷ Some log_form.Trc ∷ None ∷ []
unfolding words_on_literals
forms_of_logs = refl

stats_of_a_recording : asked_after stats_command (codes "stats") (codes "t" ∷ [])
    ≡ Some (stats (record { trace = codes "t"; sheets = []; bit_rate = None; lines_as = lines.Text; form = log_form.Auto }))
unfolding words_on_literals
stats_of_a_recording = refl

stats_with_options : asked_after stats_command (codes "stats") (codes "--bitrate" ∷ codes "500k" ∷ codes "-" ∷ codes "--sheet=5=s" ∷ codes "--sheet" ∷ codes "can1:d" ∷ codes "--format=json" ∷ codes "--log" ∷ codes "asc" ∷ [])
    ≡ Some (stats (record { trace = codes "-"; sheets = codes "5=s" ∷ codes "can1:d" ∷ []; bit_rate = Some (codes "500k"); lines_as = lines.Json; form = log_form.Asc }))
unfolding words_on_literals
stats_with_options = refl

stats_in_another_format : fault_after stats_command (codes "stats") (codes "t" ∷ codes "--format=xml" ∷ []) ≡ kind.InvalidValue ∷ []
unfolding words_on_literals
stats_in_another_format = refl

compare_with_a_sheet : asked_after compare_command (codes "compare") (codes "s" ∷ codes "t" ∷ [])
    ≡ Some (compare (record {
      sheet = codes "s";
      trace = codes "t";
      node = None;
      interface = None;
      held = None;
      rooms = record { strings = None; domains = None };
      choices = false;
      learned = false;
      form = log_form.Auto;
      report_as = report_form.Text;
      timing = record { tolerance = 10; drift = 1; answer = 1000; boot = 10000; time = None };
    }))
unfolding words_on_literals
compare_with_a_sheet = refl

compare_with_options : asked_after compare_command (codes "compare") (codes "s" ∷ codes "--node=5" ∷ codes "t" ∷ codes "--interface" ∷ codes "can0" ∷ codes "--log=trc" ∷ codes "--format=text" ∷ codes "--held=2001:00,2010:00" ∷ codes "--strings" ∷ codes "65535" ∷ codes "--domains=0" ∷ codes "--choices" ∷ codes "--learned" ∷ codes "--tolerance" ∷ codes "0" ∷ codes "--drift=100" ∷ codes "--answer=4294967295" ∷ codes "--boot=1" ∷ codes "--time=65535" ∷ [])
    ≡ Some (compare (record {
      sheet = codes "s";
      trace = codes "t";
      node = Some 5;
      interface = Some (codes "can0");
      held = Some (codes "2001:00,2010:00");
      rooms = record { strings = Some 65535; domains = Some 0 };
      choices = true;
      learned = true;
      form = log_form.Trc;
      report_as = report_form.Text;
      timing = record { tolerance = 0; drift = 100; answer = 4294967295; boot = 1; time = Some 65535 };
    }))
unfolding words_on_literals
compare_with_options = refl

-- lines that a document doesn't have, in each document, and each of the two options in one
compare_lines_in_documents : map (λ format. fault_after compare_command (codes "compare") (codes "s" ∷ codes "t" ∷ codes "--choices" ∷ codes "--learned" ∷ codes "--format" ∷ format ∷ [])) (codes "text" ∷ codes "json" ∷ codes "junit" ∷ codes "html" ∷ [])
    ≡ [] ∷ (kind.InvalidValue ∷ []) ∷ (kind.InvalidValue ∷ []) ∷ (kind.InvalidValue ∷ []) ∷ []
unfolding words_on_literals
compare_lines_in_documents = refl

compare_document_of_one : map (λ word. fault_after compare_command (codes "compare") (codes "s" ∷ codes "t" ∷ codes "--format=json" ∷ word)) ((codes "--choices" ∷ []) ∷ (codes "--learned" ∷ []) ∷ [] ∷ [])
    ≡ (kind.InvalidValue ∷ []) ∷ (kind.InvalidValue ∷ []) ∷ [] ∷ []
unfolding words_on_literals
compare_document_of_one = refl

compare_with_too_much_drift : fault_of compare_command (codes "compare" ∷ codes "s" ∷ codes "t" ∷ codes "--drift=101" ∷ []) ≡ kind.ValueValidation ∷ []
unfolding words_on_literals
compare_with_too_much_drift = refl

compare_with_too_much_room : map (λ word. fault_of compare_command (codes "compare" ∷ codes "s" ∷ codes "t" ∷ word ∷ [])) (codes "--strings=65536" ∷ codes "--domains=65536" ∷ codes "--time=65536" ∷ [])
    ≡ (kind.ValueValidation ∷ []) ∷ (kind.ValueValidation ∷ []) ∷ (kind.ValueValidation ∷ []) ∷ []
unfolding words_on_literals
compare_with_too_much_room = refl

formats_of_compare : map report_as_of (codes "text" ∷ codes "json" ∷ codes "junit" ∷ codes "html" ∷ codes "xml" ∷ codes "" ∷ [])
    ≡ Some report_form.Text ∷ Some report_form.Json ∷ Some report_form.JUnit ∷ Some report_form.Html ∷ None ∷ None ∷ []
unfolding words_on_literals
formats_of_compare = refl

-- ---- the program's command

commands_by_name : map (λ (s : Shape). s.name) conode_command.subs ≡ codes "check" ∷ codes "lint" ∷ codes "decode" ∷ codes "replay" ∷ codes "loop" ∷ codes "show" ∷ codes "adapt" ∷ codes "explain" ∷ codes "convert" ∷ codes "stats" ∷ codes "compare" ∷ []
unfolding words_on_literals
commands_by_name = refl

replay_asked : asked (codes "replay" ∷ codes "s" ∷ codes "t" ∷ [])
    ≡ Some (replay (record { sheet = codes "s"; trace = codes "t"; device = device None 16 889 1000 }))
unfolding words_on_literals
replay_asked = refl

-- What the words of a command line ask for.
use Rattle.std.specs.Prelude.{◌^◌, ◌&&◌, ◌||◌, not, true, false, ℕ, Bool, List, [], ◌∷◌, map, codes, Option, Some, None, nat_lt, is_none, option_map, option_and_then, if◌then◌else◌}
use Rattle.std.specs.Option.{option_copied, option_map_or}
use Rattle.std.specs.Str.{bytes_eq}
use Rattle.std.specs.Str.Parse.{digits_value, without_leading_plus}
use Rattle.clap.specs.ValueTests.{is_numeral}
use Rattle.clap.specs.Kinds.{Kinds, or_else}
use Rattle.clap.specs.Words.{Row, Text, all_of, fault_of, first_of, subcommand_of}
use Rattle.clap.specs.declared.error.kind.ErrorKind.TheVariants.{InvalidValue}
use Rattle.conode_words.specs.declared.tasks.Mode.{Mode}
use Rattle.conode_words.specs.Choices.{colours_for, format_for, lines_as_for, log_form_for, mode_for, report_as_for, shown_for, stamps_for, zeros_for}
use Rattle.conode_words.specs.Commands.{conode_command}
use Rattle.conode_words.specs.declared.tasks.DeviceWords.{DeviceWords}
use Rattle.conode_words.specs.declared.tasks.DictionaryWords.{DictionaryWords}
use Rattle.conode_words.specs.declared.tasks.Colours.{Colours}
use Rattle.conode_words.specs.declared.tasks.Format.{Format}
use Rattle.conode_words.specs.declared.tasks.CheckWords.{CheckWords}
use Rattle.conode_words.specs.declared.tasks.LintWords.{LintWords}
use Rattle.conode_words.specs.declared.tasks.DecodeWords.{DecodeWords}
use Rattle.conode_words.specs.declared.tasks.ReplayWords.{ReplayWords}
use Rattle.conode_words.specs.declared.tasks.LoopWords.{LoopWords}
use Rattle.conode_words.specs.declared.tasks.ShowWords.{ShowWords}
use Rattle.conode_words.specs.declared.tasks.AdaptWords.{AdaptWords}
use Rattle.conode_words.specs.declared.tasks.ExplainWords.{ExplainWords}
use Rattle.conode_words.specs.declared.tasks.ConvertWords.{ConvertWords}
use Rattle.conode_words.specs.declared.tasks.StatsWords.{StatsWords}
use Rattle.conode_words.specs.declared.tasks.CompareWords.{CompareWords}
use Rattle.conode_words.specs.declared.tasks.Task.{Task}
use Rattle.conode_words.specs.declared.tasks.Task.TheVariants.{Check, Lint, Decode, Replay, LoopBack, Show, Adapt, Explain, Convert, Stats, Compare}
use Rattle.conode_words.specs.declared.tasks.LeadingZeros.{LeadingZeros}
use Rattle.conode_words.specs.declared.tasks.LinesAs.{LinesAs}
use Rattle.conode_words.specs.declared.tasks.OnlyWords.{OnlyWords}
use Rattle.conode_words.specs.declared.tasks.ReportAs.{ReportAs}
use Rattle.conode_words.specs.declared.tasks.ReportAs.TheVariants as report_form
use Rattle.conode_words.specs.declared.tasks.Stamps.{Stamps}
use Rattle.conode_words.specs.declared.tasks.TimingWords.{TimingWords}
use Rattle.conode_words.specs.declared.tasks.RoomWords.{RoomWords}
use Rattle.conode_words.specs.declared.tasks.LogForm.{LogForm}
use Rattle.conode_words.specs.declared.tasks.ShownAs.{ShownAs}

-- what the words after `check` ask for: texts and numbers
pub record AskedCheck : Type 0 where
  pub sheet : Text
  pub dictionary : DictionaryWords

-- what the words after `lint` ask for
pub record AskedLint : Type 0 where
  pub sheets : List Text
  pub allowed : List Text
  pub dictionary : DictionaryWords
  pub format : Format
  pub colours : Colours
  pub strict : Bool
  pub all : Bool

-- what the words after `decode` ask for
pub record AskedDecode : Type 0 where
  pub trace : Text
  pub sheet : Option Text
  pub node : Option ℕ

-- what the words after `replay` ask for
pub record AskedReplay : Type 0 where
  pub sheet : Text
  pub trace : Text
  pub device : DeviceWords

-- what the words after `loop` ask for
pub record AskedLoop : Type 0 where
  pub sheet : Text
  pub key : Text
  pub bytes : Text
  pub mode : Mode
  pub device : DeviceWords

-- what the words after `show` ask for
pub record AskedShow : Type 0 where
  pub sheet : Text
  pub node : Option ℕ
  pub shown_as : ShownAs

-- what the words after `adapt` ask for
pub record AskedAdapt : Type 0 where
  pub sheet : Text
  pub leading_zeros : Option LeadingZeros
  pub force : Bool

-- which lines are asked for
pub record AskedLines : Type 0 where
  pub of : Option Text
  pub id : Option Text
  pub kind : Option Text
  pub from : Option Text
  pub to : Option Text

-- what the words after `explain` ask for
pub record AskedExplain : Type 0 where
  pub trace : Text
  pub sheets : List Text
  pub stamps : Stamps
  pub transfers : Bool
  pub changes : Bool
  pub stop : Bool
  pub colours : Colours
  pub lines_as : LinesAs
  pub form : LogForm
  pub only : AskedLines
  pub signals : Option Text

-- what the words after `convert` ask for
pub record AskedConvert : Type 0 where
  pub log : Text
  pub form : LogForm

-- what the words after `stats` ask for
pub record AskedStats : Type 0 where
  pub trace : Text
  pub sheets : List Text
  pub bit_rate : Option Text
  pub lines_as : LinesAs
  pub form : LogForm

-- what the words after `compare` ask for
pub record AskedCompare : Type 0 where
  pub sheet : Text
  pub trace : Text
  pub node : Option ℕ
  pub interface : Option Text
  pub held : Option Text
  pub rooms : RoomWords
  pub choices : Bool
  pub learned : Bool
  pub form : LogForm
  pub report_as : ReportAs
  pub timing : TimingWords

-- what the words ask for
pub data Asked : Type 0 where
  check : AskedCheck → Asked
  lint : AskedLint → Asked
  decode : AskedDecode → Asked
  replay : AskedReplay → Asked
  loop_back : AskedLoop → Asked
  show : AskedShow → Asked
  adapt : AskedAdapt → Asked
  explain : AskedExplain → Asked
  convert : AskedConvert → Asked
  stats : AskedStats → Asked
  compare : AskedCompare → Asked

-- which lines words ask for
abbrev pub lines_by : OnlyWords → AskedLines
lines_by words = record {
  of = option_copied words.of;
  id = option_copied words.id;
  kind = option_copied words.kind;
  from = option_copied words.from;
  to = option_copied words.to;
}

-- what the words of a subcommand ask for
abbrev pub check_by : CheckWords → Asked
check_by words = check (record { sheet = words.sheet.now; dictionary = words.dictionary })

abbrev pub lint_by : LintWords → Asked
lint_by words =
    lint (record {
      sheets = map (λ word. word.now) words.sheets.items;
      allowed = map (λ word. word.now) words.allowed.items;
      dictionary = words.dictionary;
      format = words.format;
      colours = words.colours;
      strict = words.strict;
      all = words.all;
    })

abbrev pub decode_by : DecodeWords → Asked
decode_by words =
    decode (record { trace = words.trace.now; sheet = option_copied words.sheet; node = words.node })

abbrev pub replay_by : ReplayWords → Asked
replay_by words =
    replay (record { sheet = words.sheet.now; trace = words.trace.now; device = words.device })

abbrev pub loop_by : LoopWords → Asked
loop_by words =
    loop_back (record {
      sheet = words.sheet.now;
      key = words.key.now;
      bytes = words.bytes.now;
      mode = words.mode;
      device = words.device;
    })

abbrev pub show_by : ShowWords → Asked
show_by words =
    show (record { sheet = words.sheet.now; node = words.node; shown_as = words.shown_as })

abbrev pub adapt_by : AdaptWords → Asked
adapt_by words =
    adapt (record {
      sheet = words.sheet.now;
      leading_zeros = words.leading_zeros;
      force = words.force;
    })

abbrev pub explain_by : ExplainWords → Asked
explain_by words =
    explain (record {
      trace = words.trace.now;
      sheets = map (λ word. word.now) words.sheets.items;
      stamps = words.stamps;
      transfers = words.transfers;
      changes = words.changes;
      stop = words.stop;
      colours = words.colours;
      lines_as = words.lines_as;
      form = words.form;
      only = lines_by words.only;
      signals = option_copied words.signals;
    })

abbrev pub convert_by : ConvertWords → Asked
convert_by words = convert (record { log = words.log.now; form = words.form })

abbrev pub stats_by : StatsWords → Asked
stats_by words =
    stats (record {
      trace = words.trace.now;
      sheets = map (λ word. word.now) words.sheets.items;
      bit_rate = option_copied words.bit_rate;
      lines_as = words.lines_as;
      form = words.form;
    })

abbrev pub compare_by : CompareWords → Asked
compare_by words =
    compare (record {
      sheet = words.sheet.now;
      trace = words.trace.now;
      node = words.node;
      interface = option_copied words.interface;
      held = option_copied words.held;
      rooms = words.rooms;
      choices = words.choices;
      learned = words.learned;
      form = words.form;
      report_as = words.report_as;
      timing = words.timing;
    })

-- what a task asks for
abbrev pub asked_by : Task → Asked
asked_by (Check words) = check_by words
asked_by (Lint words) = lint_by words
asked_by (Decode words) = decode_by words
asked_by (Replay words) = replay_by words
asked_by (LoopBack words) = loop_by words
asked_by (Show words) = show_by words
asked_by (Adapt words) = adapt_by words
asked_by (Explain words) = explain_by words
asked_by (Convert words) = convert_by words
asked_by (Stats words) = stats_by words
asked_by (Compare words) = compare_by words

-- the number that a word is, of so many bits: decimal digits, perhaps after a plus
unfoldable pub number_of_bits : ℕ → Text → Option ℕ
number_of_bits bits word =
    let number = digits_value 10 (without_leading_plus word) in
    if is_numeral (without_leading_plus word) && nat_lt number (2 ^ bits) then Some number else None

-- the number of an option
unfoldable pub number_for : ℕ → Text → List Row → Option ℕ
number_for bits name rows = option_and_then (number_of_bits bits) (first_of name rows)

-- the dictionary that the matches ask for
unfoldable pub asked_dictionary : List Row → Option DictionaryWords
asked_dictionary rows =
    option_and_then (λ strings. option_map (λ domains.
    record { node = number_for 8 (codes "node") rows; strings = strings; domains = domains })
    (number_for 16 (codes "domains") rows)) (number_for 16 (codes "strings") rows)

-- the device that the matches ask for
unfoldable pub asked_device : List Row → Option DeviceWords
asked_device rows =
    option_and_then (λ dictionary. option_map (λ time. record { dictionary = dictionary; time = time })
    (number_for 16 (codes "time") rows)) (asked_dictionary rows)

-- what the matches of `check` ask for
unfoldable pub asked_check : List Row → Option Asked
asked_check rows =
    option_and_then (λ sheet. option_map (λ dictionary.
    check (record { sheet = sheet; dictionary = dictionary }))
    (asked_dictionary rows)) (first_of (codes "SHEET") rows)

-- all words of an option, or of a word that may be repeated
unfoldable pub words_for : Text → List Row → List Text
words_for name rows = option_map_or (λ words. words) (all_of name rows) []

-- whether a flag is used
unfoldable pub is_used : Text → List Row → Bool
is_used name rows = option_map_or (λ word. bytes_eq word (codes "true")) (first_of name rows) false

-- what the matches of `lint` ask for, with its sheets and what it allows
unfoldable pub asked_lint_of : List Text → List Text → List Row → Option Asked
asked_lint_of sheets allowed rows =
    option_and_then (λ dictionary. option_and_then (λ format. option_map (λ colours.
    lint (record {
      sheets = sheets;
      allowed = allowed;
      dictionary = dictionary;
      format = format;
      colours = colours;
      strict = is_used (codes "strict") rows;
      all = is_used (codes "all") rows;
    }))
    (colours_for rows)) (format_for rows)) (asked_dictionary rows)

unfoldable pub asked_lint : List Row → Option Asked
asked_lint rows =
    asked_lint_of (words_for (codes "SHEET") rows) (words_for (codes "allow") rows) rows

-- what the matches of `decode` ask for
unfoldable pub asked_decode : List Row → Option Asked
asked_decode rows =
    option_map (λ trace. decode
    (record { trace = trace; sheet = first_of (codes "sheet") rows; node = number_for 8 (codes "node") rows }))
    (first_of (codes "TRACE") rows)

-- what the matches of `replay` ask for
unfoldable pub asked_replay : List Row → Option Asked
asked_replay rows =
    option_and_then (λ sheet. option_and_then (λ trace. option_map (λ device.
    replay (record { sheet = sheet; trace = trace; device = device }))
    (asked_device rows)) (first_of (codes "TRACE") rows)) (first_of (codes "SHEET") rows)

-- what the matches of `loop` ask for
unfoldable pub asked_loop : List Row → Option Asked
asked_loop rows =
    option_and_then (λ sheet. option_and_then (λ key. option_and_then (λ bytes. option_and_then (λ mode.
    option_map (λ device.
    loop_back (record { sheet = sheet; key = key; bytes = bytes; mode = mode; device = device }))
    (asked_device rows)) (mode_for rows)) (first_of (codes "HEX") rows)) (first_of (codes "KEY") rows))
    (first_of (codes "SHEET") rows)

-- what the matches of `show` ask for
unfoldable pub asked_show : List Row → Option Asked
asked_show rows =
    option_and_then (λ sheet. option_map (λ form.
    show (record { sheet = sheet; node = number_for 8 (codes "node") rows; shown_as = form }))
    (shown_for rows)) (first_of (codes "SHEET") rows)

-- what the matches of `adapt` ask for
unfoldable pub asked_adapt : List Row → Option Asked
asked_adapt rows =
    option_and_then (λ sheet. option_map (λ zeros.
    adapt (record { sheet = sheet; leading_zeros = zeros; force = is_used (codes "force") rows }))
    (zeros_for rows)) (first_of (codes "SHEET") rows)

-- which lines the matches ask for
unfoldable pub asked_lines : List Row → AskedLines
asked_lines rows = record {
  of = first_of (codes "of") rows;
  id = first_of (codes "id") rows;
  kind = first_of (codes "kind") rows;
  from = first_of (codes "from") rows;
  to = first_of (codes "to") rows;
}

-- what the matches of `explain` ask for, with its sheets
unfoldable pub asked_explain_of : List Text → List Row → Option Asked
asked_explain_of sheets rows =
    option_and_then (λ trace. option_and_then (λ stamps. option_and_then (λ colours. option_and_then (λ lines_as. option_map (λ form.
    explain (record {
      trace = trace;
      sheets = sheets;
      stamps = stamps;
      transfers = is_used (codes "transfers") rows;
      changes = is_used (codes "changes") rows;
      stop = is_used (codes "stop") rows;
      colours = colours;
      lines_as = lines_as;
      form = form;
      only = asked_lines rows;
      signals = first_of (codes "signal") rows;
    }))
    (log_form_for rows)) (lines_as_for rows)) (colours_for rows)) (stamps_for rows)) (first_of (codes "TRACE") rows)

unfoldable pub asked_explain : List Row → Option Asked
asked_explain rows = asked_explain_of (words_for (codes "sheet") rows) rows

-- what the matches of `convert` ask for
unfoldable pub asked_convert : List Row → Option Asked
asked_convert rows =
    option_and_then (λ log. option_map (λ form. convert (record { log = log; form = form })) (log_form_for rows))
    (first_of (codes "LOG") rows)

-- what the matches of `stats` ask for, with its sheets
unfoldable pub asked_stats_of : List Text → List Row → Option Asked
asked_stats_of sheets rows =
    option_and_then (λ trace. option_and_then (λ lines_as. option_map (λ form.
    stats (record {
      trace = trace;
      sheets = sheets;
      bit_rate = first_of (codes "bitrate") rows;
      lines_as = lines_as;
      form = form;
    }))
    (log_form_for rows)) (lines_as_for rows)) (first_of (codes "TRACE") rows)

unfoldable pub asked_stats : List Row → Option Asked
asked_stats rows = asked_stats_of (words_for (codes "sheet") rows) rows

-- how far times may be off, by the matches
unfoldable pub asked_timing : List Row → Option TimingWords
asked_timing rows =
    option_and_then (λ tolerance. option_and_then (λ drift. option_and_then (λ answer. option_map (λ boot.
    record { tolerance = tolerance; drift = drift; answer = answer; boot = boot; time = number_for 16 (codes "time") rows })
    (number_for 32 (codes "boot") rows)) (number_for 32 (codes "answer") rows)) (number_for 8 (codes "drift") rows))
    (number_for 32 (codes "tolerance") rows)

-- the rooms that the matches have
unfoldable pub asked_rooms : List Row → RoomWords
asked_rooms rows = record { strings = number_for 16 (codes "strings") rows; domains = number_for 16 (codes "domains") rows }

-- what the matches of `compare` ask for
unfoldable pub asked_compare : List Row → Option Asked
asked_compare rows =
    option_and_then (λ sheet. option_and_then (λ trace. option_and_then (λ form. option_and_then (λ report_as. option_map (λ timing.
    compare (record {
      sheet = sheet;
      trace = trace;
      node = number_for 8 (codes "node") rows;
      interface = first_of (codes "interface") rows;
      held = first_of (codes "held") rows;
      rooms = asked_rooms rows;
      choices = is_used (codes "choices") rows;
      learned = is_used (codes "learned") rows;
      form = form;
      report_as = report_as;
      timing = timing;
    }))
    (asked_timing rows)) (report_as_for rows)) (log_form_for rows)) (first_of (codes "TRACE") rows)) (first_of (codes "SHEET") rows)

-- what the matches of a subcommand other than `lint`, `explain` and `stats` ask for
unfoldable pub asked_other : Text → List Row → Option Asked
asked_other name rows =
    if bytes_eq name (codes "check") then asked_check rows
    else (if bytes_eq name (codes "decode") then asked_decode rows
    else (if bytes_eq name (codes "replay") then asked_replay rows
    else (if bytes_eq name (codes "loop") then asked_loop rows
    else (if bytes_eq name (codes "show") then asked_show rows
    else (if bytes_eq name (codes "adapt") then asked_adapt rows
    else (if bytes_eq name (codes "convert") then asked_convert rows
    else (if bytes_eq name (codes "compare") then asked_compare rows else None)))))))

-- what the matches of a subcommand ask for
unfoldable pub asked_in : Text → List Row → Option Asked
asked_in name rows =
    if bytes_eq name (codes "lint") then asked_lint rows
    else (if bytes_eq name (codes "explain") then asked_explain rows
    else (if bytes_eq name (codes "stats") then asked_stats rows else asked_other name rows))

-- what the matches of the program's command ask for; nothing without a subcommand
unfoldable pub asked_of : Option (Text × List Row) → Option Asked
asked_of matches = option_and_then (λ m. asked_in m.0 m.1) matches

-- whether a word of `lint` is none of the choices: its format, its colours
unfoldable pub is_other_lint : List Row → Bool
is_other_lint rows = is_none (format_for rows) || is_none (colours_for rows)

-- the same for `stats`: its format, the log's form
unfoldable pub is_other_stats : List Row → Bool
is_other_stats rows = is_none (lines_as_for rows) || is_none (log_form_for rows)

-- the same for `explain`: also its stamps and its colours
unfoldable pub is_other_explain : List Row → Bool
is_other_explain rows = (is_none (stamps_for rows) || is_none (colours_for rows)) || is_other_stats rows

-- whether `compare` is asked for lines that only its text has, in a document
abbrev pub is_text : Option ReportAs → Bool
is_text (Some report_form.Text) = true
is_text other = false

unfoldable pub asks_document_for_lines : List Row → Bool
asks_document_for_lines rows =
    not (is_text (report_as_for rows)) && (is_used (codes "choices") rows || is_used (codes "learned") rows)

-- the same for `compare`: its format, the log's form, and lines that only its text has
unfoldable pub is_other_compare : List Row → Bool
is_other_compare rows =
    (is_none (report_as_for rows) || is_none (log_form_for rows)) || asks_document_for_lines rows

-- the same for each subcommand: also the mode of `loop`, the form of `show`, the leading zeros of
-- `adapt`, and the log's form of `convert`
unfoldable pub is_other : Text → List Row → Bool
is_other name rows =
    if bytes_eq name (codes "loop") then is_none (mode_for rows)
    else (if bytes_eq name (codes "lint") then is_other_lint rows
    else (if bytes_eq name (codes "show") then is_none (shown_for rows)
    else (if bytes_eq name (codes "adapt") then is_none (zeros_for rows)
    else (if bytes_eq name (codes "explain") then is_other_explain rows
    else (if bytes_eq name (codes "stats") then is_other_stats rows
    else (if bytes_eq name (codes "convert") then is_none (log_form_for rows)
    else (if bytes_eq name (codes "compare") then is_other_compare rows else false)))))))

unfoldable pub has_other_word : Option (Text × List Row) → Bool
has_other_word matches = option_map_or (λ m. is_other m.0 m.1) matches false

-- why matches are refused for such a word
unfoldable pub word_fault : Option (Text × List Row) → Kinds
word_fault matches = if has_other_word matches then InvalidValue ∷ [] else []

-- why words are refused: by the rules of the command, or for such a word
unfoldable pub task_fault : List Text → Kinds
task_fault words = or_else (fault_of conode_command words) (word_fault (subcommand_of conode_command words))

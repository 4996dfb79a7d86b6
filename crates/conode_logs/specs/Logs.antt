-- What a line of a log says, and what is known of the log after it.
use Rattle.std.specs.Prelude.{ℕ, nat_eq, ◌==◌, Bool, true, false, ◌&&◌, ◌||◌, if◌then◌else◌, List, [], ◌∷◌, drop, Result, Ok, Err, codes, bytes_eq}
use Rattle.std.specs.List.{list_any, starts_with}
use Rattle.std.specs.Option.{option_map_or}
use Rattle.conode_record.specs.declared.bad_line.BadLine.{BadLine}
use Rattle.conode_record.specs.declared.line.RecordLine.{RecordLine}
use Rattle.conode_record.specs.declared.line.RecordLine.TheVariants as record_line
use Rattle.conode_record.specs.Lines.{is_skipped, line_in}
use Rattle.conode_logs.specs.declared.asc.AscForm.{AscForm}
use Rattle.conode_record.specs.declared.bad_log_line.BadLogLine.{BadLogLine}
use Rattle.conode_record.specs.declared.bad_log_line.BadLogLine.TheVariants as bad
use Rattle.conode_record.specs.declared.frame.LogLine.{LogLine}
use Rattle.conode_record.specs.declared.frame.LogLine.TheVariants.{Skipped, AsItIs, Frame}
use Rattle.conode_logs.specs.declared.log.Form.{Form}
use Rattle.conode_logs.specs.declared.log.Form.TheVariants.{Unknown, Candump, Screen, Deltas, Trc, Asc}
use Rattle.conode_logs.specs.declared.log.Log.{Log}
use Rattle.conode_record.specs.declared.numbers.Base.TheVariants.{Hexadecimal}
use Rattle.conode_logs.specs.Asc.{asc_line}
use Rattle.conode_record.specs.BadWords.{of_record}
use Rattle.conode_logs.specs.Screen.{screen_line}
use Rattle.conode_logs.specs.Trc.{is_version, trc_line, version_of}
use Rattle.conode_record.specs.Words.{is_over, word_at}

-- a `.asc` until its header says otherwise
abbrev pub asc_of_old : AscForm
asc_of_old = record { base = Hexadecimal; relative = false }

-- a line without the byte order mark that some editors put in front of the first one
abbrev pub without_mark : List ℕ → List ℕ
without_mark line = if starts_with nat_eq line (0xEF ∷ 0xBB ∷ 0xBF ∷ []) then drop 3 line else line

-- ---- which form a log has, by a line of it

-- a frame as `candump -L` writes it
abbrev pub says_frame : Result RecordLine BadLine → Bool
says_frame (Ok (record_line.Frame frame)) = true
says_frame (Ok record_line.Skipped) = false
says_frame (Err wrong) = false

-- a frame as candump shows it
abbrev pub shows_frame : Result LogLine BadLogLine → Bool
shows_frame (Ok (Frame frame)) = true
shows_frame (Ok Skipped) = false
shows_frame (Ok AsItIs) = false
shows_frame (Err wrong) = false

-- a header of a `.asc`
abbrev pub begins_asc : List ℕ → Bool
begins_asc line =
    option_map_or (λ word. bytes_eq word.0 (codes "date") || bytes_eq word.0 (codes "base")) (word_at line) false

-- the form that this line shows
unfoldable pub form_of : List ℕ → Form
form_of line =
    let text = without_mark line in
    if is_version text then option_map_or (λ columns. Trc columns) (version_of text) Unknown
    else (if begins_asc text then Asc asc_of_old
    else (if says_frame (line_in line) then Candump
    else (if shows_frame (screen_line false 0 text).1 then Screen else Unknown)))

-- ---- what a line says

-- a line as `candump -L` writes it; comments, event lines of this project's traces and empty lines
-- are such lines too
abbrev pub record_line_of : Result RecordLine BadLine → Result LogLine BadLogLine
record_line_of (Ok says) = Ok AsItIs
record_line_of (Err wrong) = Err (of_record wrong)

abbrev pub has_number_sign : List ℕ → Bool
has_number_sign text = list_any (λ byte. byte == 35) text

-- a parenthesis at the front, as of a stamp, and a number sign: only `candump -L` writes both
abbrev pub is_like_record : List ℕ → Bool
is_like_record [] = false
is_like_record (first ∷ rest) = (first == 40) && has_number_sign rest

-- a line that leaves the form unknown; one with a byte order mark is no line of `candump -L`
unfoldable pub unknown_line : List ℕ → Result LogLine BadLogLine
unknown_line line =
    let text = without_mark line in
    if is_version text then Err bad.Version
    else (if is_skipped line then Ok AsItIs
    else (if is_over text || is_skipped text then Ok Skipped
    else (if is_like_record text then record_line_of (line_in line) else Err bad.Unknown)))

-- a log of this form at this time
abbrev pub at_time : Form → ℕ × Result LogLine BadLogLine → Log × Result LogLine BadLogLine
at_time form says = (record { form = form; clock = says.0 }, says.1)

-- what a line says in a log of this form, and the log after it
unfoldable pub says_by : Form → ℕ → List ℕ → Log × Result LogLine BadLogLine
says_by Unknown clock line = (record { form = Unknown; clock = clock }, unknown_line line)
says_by Candump clock line = (record { form = Candump; clock = clock }, record_line_of (line_in line))
says_by Screen clock line = at_time Screen (screen_line false clock (without_mark line))
says_by Deltas clock line = at_time Deltas (screen_line true clock (without_mark line))
says_by (Trc columns) clock line =
    let says = trc_line columns (without_mark line) in (record { form = Trc says.0; clock = clock }, says.1)
says_by (Asc form) clock line = let says = asc_line form clock (without_mark line) in at_time (Asc says.0) says.1

-- the form of a log, or the one that this line shows if it isn't known yet
abbrev pub form_at : Form → List ℕ → Form
form_at Unknown line = form_of line
form_at known line = known

-- what a line of a log says, and the log after it
unfoldable pub says : Log → List ℕ → Log × Result LogLine BadLogLine
says log line = says_by (form_at log.form line) log.clock line

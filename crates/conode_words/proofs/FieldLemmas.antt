-- What is asked for is what the fields say, and the fields say one thing at most.
use Rattle.std.proofs.Common.{◌≡◌, Bool, true, false, List, Option, Some, None, IfSome, IsSomeAnd, codes, refl, sym, ap, subst, ◌∙◌}
use Rattle.std.specs.Prelude.{if◌then◌else◌, option_and_then, option_map}
use Rattle.std.specs.Option.{option_map_or}
use Rattle.std.specs.Str.{bytes_eq}
use Rattle.std.proofs.lemmas.Option.{option_and_then_some}
use Rattle.std.proofs.lemmas.Slice.Eq.{bytes_eq-Decides}
use Rattle.clap.specs.Words.{Row, Text, first_of}
use Rattle.conode_words.specs.declared.tasks.DeviceWords.{DeviceWords}
use Rattle.conode_words.specs.declared.tasks.DictionaryWords.{DictionaryWords}
use Rattle.conode_words.specs.declared.tasks.Task.{Task}
use Rattle.conode_words.specs.declared.tasks.RoomWords.{RoomWords}
use Rattle.conode_words.specs.declared.tasks.TimingWords.{TimingWords}
use Rattle.conode_words.specs.Fields.{AsksFor, GivesDevice, GivesDictionary, GivesRooms, GivesTiming}
use Rattle.conode_words.specs.Choices.{colours_for, colours_of, format_for, format_of, lines_as_for, lines_as_of, log_form_for, log_form_of, mode_for, mode_of, report_as_for, report_as_of, shown_as, shown_for, stamps_for, stamps_of, zeros_for, zeros_of}
use Rattle.conode_words.specs.Tasks.{Asked, AskedAdapt, AskedCheck, AskedCompare, AskedConvert, AskedDecode, AskedExplain, AskedLint, AskedLoop, AskedReplay, AskedShow, AskedStats, adapt, asked_adapt, asked_by, asked_check, asked_compare, asked_convert, asked_decode, asked_device, asked_dictionary, asked_explain, asked_explain_of, asked_in, asked_lint, asked_lint_of, asked_loop, asked_of, asked_other, asked_replay, asked_rooms, asked_show, asked_stats, asked_stats_of, asked_timing, check, compare, convert, decode, explain, lint, loop_back, number_for, number_of_bits, replay, show, stats}

-- a value that is made of another
mapped : {A B P : Type 0} (f : A → B) (o : Option A) (b : B) → option_map f o ≡ Some b → ((a : A) → o ≡ Some a → f a ≡ b → P) → P
mapped f None b e k = absurd cc
mapped f (Some a) b e k = k a refl cc

-- the word of an option, and what it stands for
chosen : {A : Type 0} (choice : Text → Option A) (word : Option Text) (a : A) → option_and_then choice word ≡ Some a → IsSomeAnd word (λ w. choice w ≡ Some a)
chosen choice None a e = absurd cc
chosen choice (Some word) a e = e

choice_is : {A : Type 0} (choice : Text → Option A) (word : Option Text) (a : A) → IsSomeAnd word (λ w. choice w ≡ Some a) → option_and_then choice word ≡ Some a
choice_is choice None a h = absurd h
choice_is choice (Some word) a h = h

-- the word of an option that needn't be used
used_choice : {A : Type 0} (c : Option A) (a : Option A) → option_map (λ x. Some x) c ≡ Some a → Some c ≡ option_map (λ x. Some x) a
used_choice None a e = absurd cc
used_choice (Some x) None e = absurd cc
used_choice (Some x) (Some y) e = e

chosen_if_used : {A : Type 0} (choice : Text → Option A) (word : Option Text) (a : Option A) → option_map_or (λ w. option_map (λ x. Some x) (choice w)) word (Some None) ≡ Some a → option_map choice word ≡ option_map (λ x. Some x) a
chosen_if_used choice None None e = refl
chosen_if_used choice None (Some x) e = absurd cc
chosen_if_used choice (Some word) a e = used_choice (choice word) a e

used_is : {A : Type 0} (c : Option A) (a : Option A) → Some c ≡ option_map (λ x. Some x) a → option_map (λ x. Some x) c ≡ Some a
used_is None None e = absurd cc
used_is None (Some y) e = absurd cc
used_is (Some x) None e = absurd cc
used_is (Some x) (Some y) e = e

choice_if_used : {A : Type 0} (choice : Text → Option A) (word : Option Text) (a : Option A) → option_map choice word ≡ option_map (λ x. Some x) a → option_map_or (λ w. option_map (λ x. Some x) (choice w)) word (Some None) ≡ Some a
choice_if_used choice None None e = refl
choice_if_used choice None (Some x) e = absurd cc
choice_if_used choice (Some word) a e = used_is (choice word) a e

named : (name known : Text) → bytes_eq name known ≡ true → name ≡ known
named name known e = (bytes_eq-Decides name known).0 e

-- ---- what is asked for has its fields

dictionary_fields : (rows : List Row) (d : DictionaryWords) → asked_dictionary rows ≡ Some d → GivesDictionary rows d
unfolding asked_dictionary number_for
dictionary_fields rows d e =
    option_and_then_some _ (number_for 16 (codes "strings") rows) d e (λ strings e0 f0.
    mapped _ (number_for 16 (codes "domains") rows) d f0 (λ domains e1 is.
    subst (GivesDictionary rows) is (record {
      node = refl;
      strings = chosen (number_of_bits 16) (first_of (codes "strings") rows) strings e0;
      domains = chosen (number_of_bits 16) (first_of (codes "domains") rows) domains e1;
    })))

device_fields : (rows : List Row) (d : DeviceWords) → asked_device rows ≡ Some d → GivesDevice rows d
unfolding asked_device number_for
device_fields rows d e =
    option_and_then_some _ (asked_dictionary rows) d e (λ dictionary e0 f0.
    mapped _ (number_for 16 (codes "time") rows) d f0 (λ time e1 is.
    subst (GivesDevice rows) is (record {
      dictionary = dictionary_fields rows dictionary e0;
      time = chosen (number_of_bits 16) (first_of (codes "time") rows) time e1;
    })))

check_fields : (rows : List Row) (a : Asked) → asked_check rows ≡ Some a → AsksFor (codes "check") rows a
unfolding asked_check
check_fields rows a e =
    option_and_then_some _ (first_of (codes "SHEET") rows) a e (λ sheet e0 f0.
    mapped _ (asked_dictionary rows) a f0 (λ dictionary e1 is.
    subst (AsksFor (codes "check") rows) is (refl, e0, dictionary_fields rows dictionary e1)))

lint_fields : (rows : List Row) (a : Asked) → asked_lint rows ≡ Some a → AsksFor (codes "lint") rows a
unfolding asked_lint asked_lint_of format_for colours_for
lint_fields rows a e =
    option_and_then_some _ (asked_dictionary rows) a e (λ dictionary e0 f0.
    option_and_then_some _ (format_for rows) a f0 (λ format e1 f1.
    mapped _ (colours_for rows) a f1 (λ colours e2 is.
    subst (AsksFor (codes "lint") rows) is (
      refl,
      refl,
      refl,
      dictionary_fields rows dictionary e0,
      chosen format_of (first_of (codes "format") rows) format e1,
      chosen colours_of (first_of (codes "color") rows) colours e2,
      refl,
      refl,
    ))))

decode_fields : (rows : List Row) (a : Asked) → asked_decode rows ≡ Some a → AsksFor (codes "decode") rows a
unfolding asked_decode
decode_fields rows a e =
    mapped _ (first_of (codes "TRACE") rows) a e (λ trace e0 is. subst (AsksFor (codes "decode") rows) is (refl, e0, refl, refl))

replay_fields : (rows : List Row) (a : Asked) → asked_replay rows ≡ Some a → AsksFor (codes "replay") rows a
unfolding asked_replay
replay_fields rows a e =
    option_and_then_some _ (first_of (codes "SHEET") rows) a e (λ sheet e0 f0.
    option_and_then_some _ (first_of (codes "TRACE") rows) a f0 (λ trace e1 f1.
    mapped _ (asked_device rows) a f1 (λ device e2 is.
    subst (AsksFor (codes "replay") rows) is (refl, e0, e1, device_fields rows device e2))))

loop_fields : (rows : List Row) (a : Asked) → asked_loop rows ≡ Some a → AsksFor (codes "loop") rows a
unfolding asked_loop mode_for
loop_fields rows a e =
    option_and_then_some _ (first_of (codes "SHEET") rows) a e (λ sheet e0 f0.
    option_and_then_some _ (first_of (codes "KEY") rows) a f0 (λ key e1 f1.
    option_and_then_some _ (first_of (codes "HEX") rows) a f1 (λ bytes e2 f2.
    option_and_then_some _ (mode_for rows) a f2 (λ mode e3 f3.
    mapped _ (asked_device rows) a f3 (λ device e4 is.
    subst (AsksFor (codes "loop") rows) is (refl, e0, e1, e2, chosen mode_of (first_of (codes "mode") rows) mode e3, device_fields rows device e4))))))

show_fields : (rows : List Row) (a : Asked) → asked_show rows ≡ Some a → AsksFor (codes "show") rows a
unfolding asked_show shown_for
show_fields rows a e =
    option_and_then_some _ (first_of (codes "SHEET") rows) a e (λ sheet e0 f0.
    mapped _ (shown_for rows) a f0 (λ form e1 is.
    subst (AsksFor (codes "show") rows) is (refl, e0, refl, chosen shown_as (first_of (codes "format") rows) form e1)))

adapt_fields : (rows : List Row) (a : Asked) → asked_adapt rows ≡ Some a → AsksFor (codes "adapt") rows a
unfolding asked_adapt zeros_for
adapt_fields rows a e =
    option_and_then_some _ (first_of (codes "SHEET") rows) a e (λ sheet e0 f0.
    mapped _ (zeros_for rows) a f0 (λ zeros e1 is.
    subst (AsksFor (codes "adapt") rows) is (refl, e0, chosen_if_used zeros_of (first_of (codes "leading-zeros") rows) zeros e1, refl)))

explain_fields : (rows : List Row) (a : Asked) → asked_explain rows ≡ Some a → AsksFor (codes "explain") rows a
unfolding asked_explain asked_explain_of stamps_for colours_for lines_as_for log_form_for
explain_fields rows a e =
    option_and_then_some _ (first_of (codes "TRACE") rows) a e (λ trace e0 f0.
    option_and_then_some _ (stamps_for rows) a f0 (λ stamps e1 f1.
    option_and_then_some _ (colours_for rows) a f1 (λ colours e2 f2.
    option_and_then_some _ (lines_as_for rows) a f2 (λ lines_as e3 f3.
    mapped _ (log_form_for rows) a f3 (λ form e4 is.
    subst (AsksFor (codes "explain") rows) is (
      refl,
      e0,
      refl,
      chosen stamps_of (first_of (codes "stamps") rows) stamps e1,
      refl,
      refl,
      refl,
      chosen colours_of (first_of (codes "color") rows) colours e2,
      chosen lines_as_of (first_of (codes "format") rows) lines_as e3,
      chosen log_form_of (first_of (codes "log") rows) form e4,
      refl,
      refl,
    ))))))

convert_fields : (rows : List Row) (a : Asked) → asked_convert rows ≡ Some a → AsksFor (codes "convert") rows a
unfolding asked_convert log_form_for
convert_fields rows a e =
    option_and_then_some _ (first_of (codes "LOG") rows) a e (λ log e0 f0.
    mapped _ (log_form_for rows) a f0 (λ form e1 is.
    subst (AsksFor (codes "convert") rows) is (refl, e0, chosen log_form_of (first_of (codes "log") rows) form e1)))

stats_fields : (rows : List Row) (a : Asked) → asked_stats rows ≡ Some a → AsksFor (codes "stats") rows a
unfolding asked_stats asked_stats_of lines_as_for log_form_for
stats_fields rows a e =
    option_and_then_some _ (first_of (codes "TRACE") rows) a e (λ trace e0 f0.
    option_and_then_some _ (lines_as_for rows) a f0 (λ lines_as e1 f1.
    mapped _ (log_form_for rows) a f1 (λ form e2 is.
    subst (AsksFor (codes "stats") rows) is (
      refl,
      e0,
      refl,
      refl,
      chosen lines_as_of (first_of (codes "format") rows) lines_as e1,
      chosen log_form_of (first_of (codes "log") rows) form e2,
    ))))

timing_fields : (rows : List Row) (t : TimingWords) → asked_timing rows ≡ Some t → GivesTiming rows t
unfolding asked_timing number_for
timing_fields rows t e =
    option_and_then_some _ (number_for 32 (codes "tolerance") rows) t e (λ tolerance e0 f0.
    option_and_then_some _ (number_for 8 (codes "drift") rows) t f0 (λ drift e1 f1.
    option_and_then_some _ (number_for 32 (codes "answer") rows) t f1 (λ answer e2 f2.
    mapped _ (number_for 32 (codes "boot") rows) t f2 (λ boot e3 is.
    subst (GivesTiming rows) is (record {
      tolerance = chosen (number_of_bits 32) (first_of (codes "tolerance") rows) tolerance e0;
      drift = chosen (number_of_bits 8) (first_of (codes "drift") rows) drift e1;
      answer = chosen (number_of_bits 32) (first_of (codes "answer") rows) answer e2;
      boot = chosen (number_of_bits 32) (first_of (codes "boot") rows) boot e3;
      time = refl;
    })))))

rooms_fields : (rows : List Row) → GivesRooms rows (asked_rooms rows)
unfolding asked_rooms
rooms_fields rows = record { strings = refl; domains = refl }

compare_fields : (rows : List Row) (a : Asked) → asked_compare rows ≡ Some a → AsksFor (codes "compare") rows a
unfolding asked_compare log_form_for report_as_for
compare_fields rows a e =
    option_and_then_some _ (first_of (codes "SHEET") rows) a e (λ sheet e0 f0.
    option_and_then_some _ (first_of (codes "TRACE") rows) a f0 (λ trace e1 f1.
    option_and_then_some _ (log_form_for rows) a f1 (λ form e2 f2.
    option_and_then_some _ (report_as_for rows) a f2 (λ report_as e3 f3.
    mapped _ (asked_timing rows) a f3 (λ timing e4 is.
    subst (AsksFor (codes "compare") rows) is (
      refl,
      e0,
      e1,
      refl,
      refl,
      refl,
      rooms_fields rows,
      refl,
      refl,
      chosen log_form_of (first_of (codes "log") rows) form e2,
      chosen report_as_of (first_of (codes "format") rows) report_as e3,
      timing_fields rows timing e4,
    ))))))

at_name : (name known : Text) (rows : List Row) (a : Asked) → bytes_eq name known ≡ true → AsksFor known rows a → AsksFor name rows a
at_name name known rows a same h = subst (λ (n : Text). AsksFor n rows a) (sym (named name known same)) h

-- a test that chooses what gives a value
either_way : {P : Type 0} (b : Bool) (x y : Option Asked) (a : Asked) → (if b then x else y) ≡ Some a → (b ≡ true → x ≡ Some a → P) → (b ≡ false → y ≡ Some a → P) → P
either_way true x y a e on_true on_false = on_true refl e
either_way false x y a e on_true on_false = on_false refl e

none_is : (a : Asked) → None ≡ Some a → ⊥
none_is a e = cc

other_fields : (name : Text) (rows : List Row) (a : Asked) → asked_other name rows ≡ Some a → AsksFor name rows a
unfolding asked_other
other_fields name rows a e =
    either_way _ _ _ a e (λ y f. at_name name (codes "check") rows a y (check_fields rows a f)) (λ _ f.
    either_way _ _ _ a f (λ y f. at_name name (codes "decode") rows a y (decode_fields rows a f)) (λ _ f.
    either_way _ _ _ a f (λ y f. at_name name (codes "replay") rows a y (replay_fields rows a f)) (λ _ f.
    either_way _ _ _ a f (λ y f. at_name name (codes "loop") rows a y (loop_fields rows a f)) (λ _ f.
    either_way _ _ _ a f (λ y f. at_name name (codes "show") rows a y (show_fields rows a f)) (λ _ f.
    either_way _ _ _ a f (λ y f. at_name name (codes "adapt") rows a y (adapt_fields rows a f)) (λ _ f.
    either_way _ _ _ a f (λ y f. at_name name (codes "convert") rows a y (convert_fields rows a f)) (λ _ f.
    either_way _ _ _ a f (λ y f. at_name name (codes "compare") rows a y (compare_fields rows a f)) (λ _ f.
    absurd (none_is a f)))))))))

pub fields_of : (name : Text) (rows : List Row) (a : Asked) → asked_in name rows ≡ Some a → AsksFor name rows a
unfolding asked_in
fields_of name rows a e =
    either_way _ _ _ a e (λ y f. at_name name (codes "lint") rows a y (lint_fields rows a f)) (λ _ f.
    either_way _ _ _ a f (λ y f. at_name name (codes "explain") rows a y (explain_fields rows a f)) (λ _ f.
    either_way _ _ _ a f (λ y f. at_name name (codes "stats") rows a y (stats_fields rows a f)) (λ _ f.
    other_fields name rows a f)))

pub fields_in : (matches : Option (Text × List Row)) (asked : Option Asked) (a : Asked) → asked ≡ asked_of matches → asked ≡ Some a → IsSomeAnd matches (λ m. AsksFor m.0 m.1 a)
unfolding asked_of
fields_in None asked a same is = absurd (let none : None ≡ Some a = sym same ∙ is in cc)
fields_in (Some m) asked a same is = fields_of m.0 m.1 a (sym same ∙ is)

pub task_fields : (matches : Option (Text × List Row)) (task : Option Task) → option_map asked_by task ≡ asked_of matches → IfSome task (λ t. IsSomeAnd matches (λ m. AsksFor m.0 m.1 (asked_by t)))
task_fields matches None same = tt
task_fields matches (Some t) same = fields_in matches (Some (asked_by t)) (asked_by t) same refl

-- ---- and they say one thing at most

dictionary_is : (rows : List Row) (d : DictionaryWords) → GivesDictionary rows d → asked_dictionary rows ≡ Some d
unfolding asked_dictionary number_for
dictionary_is rows d h =
    let strings = choice_is (number_of_bits 16) (first_of (codes "strings") rows) d.strings h.strings in
    let domains = choice_is (number_of_bits 16) (first_of (codes "domains") rows) d.domains h.domains in
    rw (strings, domains, ← h.node) refl

device_is : (rows : List Row) (d : DeviceWords) → GivesDevice rows d → asked_device rows ≡ Some d
unfolding asked_device number_for
device_is rows d h =
    let dictionary = dictionary_is rows d.dictionary h.dictionary in
    let time = choice_is (number_of_bits 16) (first_of (codes "time") rows) d.time h.time in
    rw (dictionary, time) refl

-- the matches of each command, by its name
named_check : (rows : List Row) → asked_in (codes "check") rows ≡ asked_check rows
unfolding asked_in asked_other
named_check rows = refl

named_lint : (rows : List Row) → asked_in (codes "lint") rows ≡ asked_lint rows
unfolding asked_in asked_other
named_lint rows = refl

named_decode : (rows : List Row) → asked_in (codes "decode") rows ≡ asked_decode rows
unfolding asked_in asked_other
named_decode rows = refl

named_replay : (rows : List Row) → asked_in (codes "replay") rows ≡ asked_replay rows
unfolding asked_in asked_other
named_replay rows = refl

named_loop : (rows : List Row) → asked_in (codes "loop") rows ≡ asked_loop rows
unfolding asked_in asked_other
named_loop rows = refl

named_show : (rows : List Row) → asked_in (codes "show") rows ≡ asked_show rows
unfolding asked_in asked_other
named_show rows = refl

named_adapt : (rows : List Row) → asked_in (codes "adapt") rows ≡ asked_adapt rows
unfolding asked_in asked_other
named_adapt rows = refl

named_explain : (rows : List Row) → asked_in (codes "explain") rows ≡ asked_explain rows
unfolding asked_in asked_other
named_explain rows = refl

named_convert : (rows : List Row) → asked_in (codes "convert") rows ≡ asked_convert rows
unfolding asked_in asked_other
named_convert rows = refl

named_stats : (rows : List Row) → asked_in (codes "stats") rows ≡ asked_stats rows
unfolding asked_in asked_other
named_stats rows = refl

named_compare : (rows : List Row) → asked_in (codes "compare") rows ≡ asked_compare rows
unfolding asked_in asked_other
named_compare rows = refl

check_is : (rows : List Row) (a : AskedCheck) → AsksFor (codes "check") rows (check a) → asked_check rows ≡ Some (check a)
unfolding asked_check
check_is rows a (name_is, sheet, d) =
    let dictionary = dictionary_is rows a.dictionary d in
    rw (sheet, dictionary) refl

lint_is : (rows : List Row) (a : AskedLint) → AsksFor (codes "lint") rows (lint a) → asked_lint rows ≡ Some (lint a)
unfolding asked_lint asked_lint_of format_for colours_for
lint_is rows a (name_is, sheets, allowed, d, f, c, strict, all) =
    let dictionary = dictionary_is rows a.dictionary d in
    let format = choice_is format_of (first_of (codes "format") rows) a.format f in
    let colours = choice_is colours_of (first_of (codes "color") rows) a.colours c in
    rw (dictionary, format, colours, ← sheets, ← allowed, ← strict, ← all) refl

decode_is : (rows : List Row) (a : AskedDecode) → AsksFor (codes "decode") rows (decode a) → asked_decode rows ≡ Some (decode a)
unfolding asked_decode
decode_is rows a (name_is, trace, sheet, node) =
    rw (trace, ← sheet, ← node) refl

replay_is : (rows : List Row) (a : AskedReplay) → AsksFor (codes "replay") rows (replay a) → asked_replay rows ≡ Some (replay a)
unfolding asked_replay
replay_is rows a (name_is, sheet, trace, d) =
    let device = device_is rows a.device d in
    rw (sheet, trace, device) refl

loop_is : (rows : List Row) (a : AskedLoop) → AsksFor (codes "loop") rows (loop_back a) → asked_loop rows ≡ Some (loop_back a)
unfolding asked_loop mode_for
loop_is rows a (name_is, sheet, key, bytes, m, d) =
    let device = device_is rows a.device d in
    let mode = choice_is mode_of (first_of (codes "mode") rows) a.mode m in
    rw (sheet, key, bytes, mode, device) refl

show_is : (rows : List Row) (a : AskedShow) → AsksFor (codes "show") rows (show a) → asked_show rows ≡ Some (show a)
unfolding asked_show shown_for
show_is rows a (name_is, sheet, node, f) =
    let form = choice_is shown_as (first_of (codes "format") rows) a.shown_as f in
    rw (sheet, form, ← node) refl

adapt_is : (rows : List Row) (a : AskedAdapt) → AsksFor (codes "adapt") rows (adapt a) → asked_adapt rows ≡ Some (adapt a)
unfolding asked_adapt zeros_for
adapt_is rows a (name_is, sheet, z, force) =
    let zeros = choice_if_used zeros_of (first_of (codes "leading-zeros") rows) a.leading_zeros z in
    rw (sheet, zeros, ← force) refl

explain_is : (rows : List Row) (a : AskedExplain) → AsksFor (codes "explain") rows (explain a) → asked_explain rows ≡ Some (explain a)
unfolding asked_explain asked_explain_of stamps_for colours_for lines_as_for log_form_for
explain_is rows a (name_is, trace, sheets, s, transfers, changes, stop, c, l, f, only, signals) =
    let stamps = choice_is stamps_of (first_of (codes "stamps") rows) a.stamps s in
    let colours = choice_is colours_of (first_of (codes "color") rows) a.colours c in
    let lines_as = choice_is lines_as_of (first_of (codes "format") rows) a.lines_as l in
    let form = choice_is log_form_of (first_of (codes "log") rows) a.form f in
    rw (trace, stamps, colours, lines_as, form, ← sheets, ← transfers, ← changes, ← stop, ← only, ← signals) refl

convert_is : (rows : List Row) (a : AskedConvert) → AsksFor (codes "convert") rows (convert a) → asked_convert rows ≡ Some (convert a)
unfolding asked_convert log_form_for
convert_is rows a (name_is, log, f) =
    let form = choice_is log_form_of (first_of (codes "log") rows) a.form f in
    rw (log, form) refl

stats_is : (rows : List Row) (a : AskedStats) → AsksFor (codes "stats") rows (stats a) → asked_stats rows ≡ Some (stats a)
unfolding asked_stats asked_stats_of lines_as_for log_form_for
stats_is rows a (name_is, trace, sheets, rate, l, f) =
    let lines_as = choice_is lines_as_of (first_of (codes "format") rows) a.lines_as l in
    let form = choice_is log_form_of (first_of (codes "log") rows) a.form f in
    rw (trace, lines_as, form, ← sheets, ← rate) refl

timing_is : (rows : List Row) (t : TimingWords) → GivesTiming rows t → asked_timing rows ≡ Some t
unfolding asked_timing number_for
timing_is rows t h =
    let tolerance = choice_is (number_of_bits 32) (first_of (codes "tolerance") rows) t.tolerance h.tolerance in
    let drift = choice_is (number_of_bits 8) (first_of (codes "drift") rows) t.drift h.drift in
    let answer = choice_is (number_of_bits 32) (first_of (codes "answer") rows) t.answer h.answer in
    let boot = choice_is (number_of_bits 32) (first_of (codes "boot") rows) t.boot h.boot in
    rw (tolerance, drift, answer, boot, ← h.time) refl

rooms_is : (rows : List Row) (r : RoomWords) → GivesRooms rows r → asked_rooms rows ≡ r
unfolding asked_rooms
rooms_is rows r h = rw (← h.strings, ← h.domains) refl

compare_is : (rows : List Row) (a : AskedCompare) → AsksFor (codes "compare") rows (compare a) → asked_compare rows ≡ Some (compare a)
unfolding asked_compare log_form_for report_as_for
compare_is rows a (name_is, sheet, trace, node, interface, held, given, choices, learned, f, r, t) =
    let form = choice_is log_form_of (first_of (codes "log") rows) a.form f in
    let report_as = choice_is report_as_of (first_of (codes "format") rows) a.report_as r in
    let timing = timing_is rows a.timing t in
    let rooms = rooms_is rows a.rooms given in
    rw (sheet, trace, form, report_as, timing, rooms, ← node, ← interface, ← held, ← choices, ← learned) refl

pub only_asked : (name : Text) (rows : List Row) (a : Asked) → AsksFor name rows a → asked_in name rows ≡ Some a
only_asked name rows (check a) h = ap (λ (n : Text). asked_in n rows) h.0 ∙ named_check rows ∙ check_is rows a (subst (λ (n : Text). AsksFor n rows (check a)) h.0 h)
only_asked name rows (lint a) h = ap (λ (n : Text). asked_in n rows) h.0 ∙ named_lint rows ∙ lint_is rows a (subst (λ (n : Text). AsksFor n rows (lint a)) h.0 h)
only_asked name rows (decode a) h = ap (λ (n : Text). asked_in n rows) h.0 ∙ named_decode rows ∙ decode_is rows a (subst (λ (n : Text). AsksFor n rows (decode a)) h.0 h)
only_asked name rows (replay a) h = ap (λ (n : Text). asked_in n rows) h.0 ∙ named_replay rows ∙ replay_is rows a (subst (λ (n : Text). AsksFor n rows (replay a)) h.0 h)
only_asked name rows (loop_back a) h = ap (λ (n : Text). asked_in n rows) h.0 ∙ named_loop rows ∙ loop_is rows a (subst (λ (n : Text). AsksFor n rows (loop_back a)) h.0 h)
only_asked name rows (show a) h = ap (λ (n : Text). asked_in n rows) h.0 ∙ named_show rows ∙ show_is rows a (subst (λ (n : Text). AsksFor n rows (show a)) h.0 h)
only_asked name rows (adapt a) h = ap (λ (n : Text). asked_in n rows) h.0 ∙ named_adapt rows ∙ adapt_is rows a (subst (λ (n : Text). AsksFor n rows (adapt a)) h.0 h)
only_asked name rows (explain a) h = ap (λ (n : Text). asked_in n rows) h.0 ∙ named_explain rows ∙ explain_is rows a (subst (λ (n : Text). AsksFor n rows (explain a)) h.0 h)
only_asked name rows (convert a) h = ap (λ (n : Text). asked_in n rows) h.0 ∙ named_convert rows ∙ convert_is rows a (subst (λ (n : Text). AsksFor n rows (convert a)) h.0 h)
only_asked name rows (stats a) h = ap (λ (n : Text). asked_in n rows) h.0 ∙ named_stats rows ∙ stats_is rows a (subst (λ (n : Text). AsksFor n rows (stats a)) h.0 h)
only_asked name rows (compare a) h = ap (λ (n : Text). asked_in n rows) h.0 ∙ named_compare rows ∙ compare_is rows a (subst (λ (n : Text). AsksFor n rows (compare a)) h.0 h)

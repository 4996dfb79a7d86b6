-- How far a log is explained.
use Rattle.std.proofs.Common.{◌≡◌, ℕ, ◌+◌, ◌<◌, ◌≤◌, Bool, false, true, ◌⊎◌, inl, inr, List, [], ◌∷◌, ◌++◌, length, Option, None, Some, IfSome, ltb, refl, sym, ap, ap₂, subst, ◌∙◌, arith, append_assoc}
use Rattle.std.proofs.lemmas.Bool.{eqb-true}
use Rattle.std.specs.Prelude.{◌||◌, ◌&&◌, ◌==◌, if◌then◌else◌, min}
use Rattle.std.specs.List.{flat_map, before_first, after_first}
use Rattle.std.specs.Io.KnownBytes.{Keeps, IsAtEnd}
use Rattle.std.specs.Str.Lines.{lines}
use Rattle.std.proofs.KnownBytes.{Appends-nil, Appends-kept}
use Rattle.std.proofs.lemmas.Bool.Decides.{nat_tests}
use Rattle.co_text.proofs.Tests.{by_test}
use Rattle.co_stream.specs.declared.bounded_lines.Found.TheVariants.{Line, Last, TooLong}
use Rattle.co_stream.specs.Founds.{is_closed, ClosesAlike, Finds}
use Rattle.co_stream.specs.Held.{Held, nothing_held, to_come}
use Rattle.co_stream.specs.Lines.{has_line_feed, GivesLine}
use Rattle.co_stream.specs.Readings.{Gave}
use Rattle.co_stream.proofs.LineLemmas.{cut_at_feed, lines-feed, lines-last}
use Rattle.co_stream.proofs.Readers.{gave_nothing, gave_so, gave_then, of_given, of_known}
use Rattle.conode_explain_cob_ids.specs.Known.{KnownSheet}
use Rattle.conode_io.specs.Written.{WritesLines}
use Rattle.conode_io.proofs.WriteLemmas.{lines_after}
use Rattle.conode_io.specs.TraceTexts.{GaveText}
use Rattle.conode_convert.specs.Converted.{at_start}
use Rattle.conode_logs.specs.declared.log.Log.{Log}
use Rattle.conode_logs.specs.Logs.{says}
use Rattle.conode_explain.specs.declared.progress.Layout.{Layout}
use Rattle.conode_explain.specs.declared.progress.Progress.{Progress}
use Rattle.conode_explain.specs.Explained.{bad_count, bad_from, explained, explained_from, bad_read, faults_in, faults_of, lines_read, log_after, nothing_known, progress_after, said_lines, stops, unfinished_lines}
use Rattle.conode_explain.specs.LogLines.{line_at}
use Rattle.conode_explain.specs.Taking.{Explains, Gives, Takes, lines_left}

-- ---- the lines of frames

-- a line of at most 512 bytes
one_line : (form : Layout) (sheets : List KnownSheet) (log : Log) (so_far : Progress) (line : List ℕ) (more : List (List ℕ)) → length line ≤ 512
    → explained_from form sheets log so_far (line ∷ more)
    ≡ said_lines form sheets so_far (line_at log line) ++ explained_from form sheets (says log line).0 (progress_after form sheets so_far (line_at log line)) more
unfolding explained_from
one_line form sheets log so_far line more few = let short : ltb 512 (length line) ≡ false = grind (arith, nat_tests) in rw short refl

-- a longer one
long_line : (form : Layout) (sheets : List KnownSheet) (log : Log) (so_far : Progress) (line : List ℕ) (more : List (List ℕ)) → 512 < length line
    → explained_from form sheets log so_far (line ∷ more) ≡ explained_from form sheets log so_far more
unfolding explained_from
long_line form sheets log so_far line more many = let long : ltb 512 (length line) ≡ true = grind (arith, nat_tests) in rw long refl

no_line : (form : Layout) (sheets : List KnownSheet) (log : Log) (so_far : Progress) → explained_from form sheets log so_far (lines_read form log (lines [])) ≡ unfinished_lines form sheets so_far
unfolding explained_from lines_read
no_line form sheets log so_far = refl

-- ---- bad lines

-- a text that has no line is empty
no_lines_in : (text : List ℕ) → lines text ≡ [] → text ≡ []
no_lines_in [] none = refl
no_lines_in (byte ∷ bytes) none = by_test (has_line_feed (byte ∷ bytes))
    (λ some. let cut = cut_at_feed (byte ∷ bytes) (before_first (λ b. b == 10) (byte ∷ bytes)) (after_first (λ b. b == 10) (byte ∷ bytes)) some refl refl in
    let first = ap lines cut.0 ∙ lines-feed (before_first (λ b. b == 10) (byte ∷ bytes)) (after_first (λ b. b == 10) (byte ∷ bytes)) cut.1 in absurd cc)
    (λ fails. let first = lines-last (byte ∷ bytes) fails (omega arith) in absurd cc)

-- of the lines that are read so many are bad: all, where none ends it
read_all : (stop : Bool) (count bad : ℕ) → count ≡ bad → (stop ≡ true → bad ≡ 0) → (if stop then min 1 count else count) ≡ bad
read_all false count bad is none = is
read_all true count bad is none = ap (min 1) (is ∙ none refl) ∙ sym (none refl)

-- one, where the first one ends it
read_one : (stop : Bool) (count bad more : ℕ) → count ≡ bad + more → stop ≡ true → bad ≡ 1 → (if stop then min 1 count else count) ≡ bad
read_one false count bad more is on one = absurd cc
read_one true count bad more is on one = let least : min 1 count ≡ bad = omega (arith, is, one) in least

nothing_more : (form : Layout) (sheets : List KnownSheet) (log : Log) (so_far : Progress) → explained_from form sheets log so_far [] ≡ unfinished_lines form sheets so_far
unfolding explained_from
nothing_more form sheets log so_far = refl

no_bad : (log : Log) → bad_count log [] ≡ 0
unfolding bad_from
no_bad log = refl

-- a line before others
more_lines : (closed : Bool) (log : Log) (line : List ℕ) (more : List (List ℕ)) → (more ≡ [] → (closed || ltb 512 (length line)) ≡ true) → bad_from closed log (line ∷ more) ≡ faults_of log line + bad_from closed (log_after log line) more
unfolding bad_from
more_lines closed log line [] counts = rw (counts refl) (omega arith)
more_lines closed log line (next ∷ more) counts = refl

-- a line, where the last line has its line feed before and after it, or in neither
counted : (log : Log) (text rest line : List ℕ) → lines text ≡ line ∷ lines rest → is_closed text ≡ is_closed rest → bad_count log text ≡ faults_of log line + bad_count (log_after log line) rest
counted log text rest line gives alike =
    ap₂ (λ (closed : Bool) (ls : List (List ℕ)). bad_from closed log ls) alike gives
    ∙ more_lines (is_closed rest) log line (lines rest) (λ none. ap (λ (text : List ℕ). is_closed text || ltb 512 (length line)) (no_lines_in rest none))

or_true : (a b : Bool) → b ≡ true → (a || b) ≡ true
or_true true b e = refl
or_true false b e = e

no_bad_from : (closed : Bool) (log : Log) → bad_from closed log [] ≡ 0
unfolding bad_from
no_bad_from closed log = refl

after_long : (log : Log) (line : List ℕ) → 512 < length line → log_after log line ≡ log
after_long log line many = let long : ltb 512 (length line) ≡ true = grind (arith, nat_tests) in rw long refl

after_short : (log : Log) (line : List ℕ) → length line ≤ 512 → log_after log line ≡ (says log line).0
after_short log line few = let short : ltb 512 (length line) ≡ false = grind (arith, nat_tests) in rw short refl

-- a long line at the end
counted_at_end : (log : Log) (text rest line : List ℕ) → lines text ≡ line ∷ lines rest → rest ≡ [] → 512 < length line → bad_count log text ≡ faults_of log line + bad_count log rest
counted_at_end log text rest line gives empty many =
    let long : ltb 512 (length line) ≡ true = grind (arith, nat_tests) in
    let all : bad_count log text ≡ bad_from (is_closed text) log (line ∷ []) = ap (bad_from (is_closed text) log) (gives ∙ ap (λ (left : List ℕ). line ∷ lines left) empty) in
    let none : bad_from (is_closed text) (log_after log line) [] ≡ bad_count log rest = no_bad_from (is_closed text) (log_after log line) ∙ sym (no_bad_from true log) ∙ ap (bad_count log) (sym empty) in
    all ∙ more_lines (is_closed text) log line [] (λ _. or_true (is_closed text) (ltb 512 (length line)) long) ∙ ap (λ (n : ℕ). faults_of log line + n) none

neither : (a b : Bool) → (a || b) ≡ false → (a ≡ false) × (b ≡ false)
neither false b h = (refl, h)
neither true b h = cc

open_end : (byte : ℕ) (bytes : List ℕ) → has_line_feed (byte ∷ bytes) ≡ false → is_closed (byte ∷ bytes) ≡ false
open_end byte [] none = (neither (byte == 10) false none).0
open_end byte (next ∷ more) none = open_end next more (neither (byte == 10) (has_line_feed (next ∷ more)) none).1

cut_off : (log : Log) (line : List ℕ) → length line ≤ 512 → bad_from false log (line ∷ []) ≡ 0
unfolding bad_from
cut_off log line few = let short : ltb 512 (length line) ≡ false = grind (arith, nat_tests) in rw short refl

-- the last line, without its line feed
counted_last : (log next : Log) (text rest line : List ℕ) → lines text ≡ line ∷ lines rest → has_line_feed text ≡ false → length line ≤ 512 → bad_count log text ≡ bad_count next rest
counted_last log next [] rest line gives none few = absurd cc
counted_last log next (byte ∷ bytes) rest line gives none few =
    let last : lines (byte ∷ bytes) ≡ (byte ∷ bytes) ∷ [] = lines-last (byte ∷ bytes) none (omega arith) in
    let left : lines rest ≡ [] = cc in
    let all : bad_count log (byte ∷ bytes) ≡ bad_from false log (line ∷ []) =
    ap₂ (λ (closed : Bool) (ls : List (List ℕ)). bad_from closed log ls) (open_end byte bytes none) (gives ∙ ap (λ (more : List (List ℕ)). line ∷ more) left) in
    all ∙ cut_off log line few ∙ sym (no_bad_from true next) ∙ ap (bad_count next) (sym (no_lines_in rest left))

faults_short : (log : Log) (line : List ℕ) → length line ≤ 512 → faults_of log line ≡ faults_in (line_at log line)
faults_short log line few = let short : ltb 512 (length line) ≡ false = grind (arith, nat_tests) in rw short refl

faults_long : (log : Log) (line : List ℕ) → 512 < length line → faults_of log line ≡ 1
faults_long log line many = let long : ltb 512 (length line) ≡ true = grind (arith, nat_tests) in rw long refl

-- ---- which lines are read

module _ (form : Layout) (log : Log) (line : List ℕ) (more : List (List ℕ)) where
  read_first : lines_read form log (line ∷ more) ≡ line ∷ (if stops form log line then [] else lines_read form (log_after log line) more)
  unfolding lines_read
  read_first = refl

  read_short : length line ≤ 512
      → lines_read form log (line ∷ more) ≡ line ∷ (if form.stop && (faults_in (line_at log line) == 1) then [] else lines_read form (says log line).0 more)
  read_short few =
      read_first
      ∙ ap₂ (λ (n : ℕ) (l : Log). line ∷ (if form.stop && (n == 1) then [] else lines_read form l more)) (faults_short log line few) (after_short log line few)

  read_long : 512 < length line → lines_read form log (line ∷ more) ≡ line ∷ (if form.stop && (1 == 1) then [] else lines_read form log more)
  read_long many =
      read_first
      ∙ ap₂ (λ (n : ℕ) (l : Log). line ∷ (if form.stop && (n == 1) then [] else lines_read form l more)) (faults_long log line many) (after_long log line many)

-- no line is left after the last one
none_read : (stopped : Bool) (form : Layout) (log : Log) (more : List (List ℕ)) → more ≡ [] → (if stopped then [] else lines_read form log more) ≡ lines_read form log more
unfolding lines_read
none_read false form log more none = refl
none_read true form log [] none = refl
none_read true form log (line ∷ more) none = absurd cc

nothing_left : (text rest line : List ℕ) → lines text ≡ line ∷ lines rest → has_line_feed text ≡ false → lines rest ≡ []
nothing_left [] rest line gives none = absurd cc
nothing_left (byte ∷ bytes) rest line gives none =
    let last : lines (byte ∷ bytes) ≡ (byte ∷ bytes) ∷ [] = lines-last (byte ∷ bytes) none (omega arith) in cc

-- ---- what bytes give

module _ (form : Layout) (sheets : List KnownSheet) where
  gives_none : (known : Option (List ℕ)) (log : Log) (so_far : Progress) → Gives form sheets known known log log so_far so_far [] 0 false
  gives_none None log so_far = tt
  gives_none (Some text) log so_far = (refl, omega arith)

  gives_then : (a b c : Option (List ℕ)) (log next left : Log) (first mid last : Progress) (lines more : List (List ℕ)) (bad also : ℕ) (stopped : Bool)
      → Gives form sheets a b log next first mid lines bad false → Gives form sheets b c next left mid last more also stopped
      → Gives form sheets a c log left first last (lines ++ more) (bad + also) stopped
  gives_then None b c log next left first mid last lines more bad also stopped h k = tt
  gives_then (Some xs) None c log next left first mid last lines more bad also stopped h k = absurd h
  gives_then (Some xs) (Some ys) None log next left first mid last lines more bad also stopped h k = absurd k
  gives_then (Some xs) (Some ys) (Some zs) log next left first mid last ls more bad also stopped h k = (
    h.0 ∙ ap (λ (all : List (List ℕ)). ls ++ all) k.0 ∙ sym (append_assoc ls more (explained_from form sheets left last (lines_left stopped form left zs))),
    omega (arith, h.1, k.1),
  )

  module _ (log : Log) (so_far : Progress) (line : List ℕ) where
    -- a line with its line feed
    gives_line : (old new : Option (List ℕ)) → GivesLine old new line → length line ≤ 512 → ClosesAlike old new
        → Gives form sheets old new log (says log line).0 so_far (progress_after form sheets so_far (line_at log line)) (said_lines form sheets so_far (line_at log line)) (faults_in (line_at log line))
        (form.stop && (faults_in (line_at log line) == 1))
    gives_line None new gives few alike = tt
    gives_line (Some xs) None gives few alike = absurd gives
    gives_line (Some xs) (Some ys) gives few alike = (
      ap (λ (ls : List (List ℕ)). explained_from form sheets log so_far (lines_read form log ls)) gives
          ∙ ap (explained_from form sheets log so_far) (read_short form log line (lines ys) few)
          ∙ one_line form sheets log so_far line (lines_left (form.stop && (faults_in (line_at log line) == 1)) form (says log line).0 ys) few,
      counted log xs ys line gives alike ∙ ap₂ (λ (n : ℕ) (l : Log). n + bad_count l ys) (faults_short log line few) (after_short log line few),
    )

    -- the last one, without it
    gives_last : (old new : Option (List ℕ)) (stopped : Bool) → GivesLine old new line → length line ≤ 512 → IfSome old (λ bytes. has_line_feed bytes ≡ false)
        → Gives form sheets old new log (says log line).0 so_far (progress_after form sheets so_far (line_at log line)) (said_lines form sheets so_far (line_at log line)) 0 stopped
    gives_last None new stopped gives few none = tt
    gives_last (Some xs) None stopped gives few none = absurd gives
    gives_last (Some xs) (Some ys) stopped gives few none = (
      ap (λ (ls : List (List ℕ)). explained_from form sheets log so_far (lines_read form log ls)) gives
          ∙ ap (explained_from form sheets log so_far) (read_short form log line (lines ys) few)
          ∙ one_line form sheets log so_far line (lines_left (form.stop && (faults_in (line_at log line) == 1)) form (says log line).0 ys) few
          ∙ ap (λ (ls : List (List ℕ)). said_lines form sheets so_far (line_at log line) ++ explained_from form sheets (says log line).0 (progress_after form sheets so_far (line_at log line)) ls)
          (none_read (form.stop && (faults_in (line_at log line) == 1)) form (says log line).0 (lines ys) (nothing_left xs ys line gives none)
          ∙ sym (none_read stopped form (says log line).0 (lines ys) (nothing_left xs ys line gives none))),
      counted_last log (says log line).0 xs ys line gives none few ∙ omega arith,
    )

    -- one that is too long
    gives_long : (old new : Option (List ℕ)) → GivesLine old new line → 512 < length line → IsAtEnd new ⊎ ClosesAlike old new → Gives form sheets old new log log so_far so_far [] 1 (form.stop && (1 == 1))
    gives_long None new gives many ends = tt
    gives_long (Some xs) None gives many ends = absurd gives
    gives_long (Some xs) (Some ys) gives many (inl empty) = (
      ap (λ (ls : List (List ℕ)). explained_from form sheets log so_far (lines_read form log ls)) gives
          ∙ ap (explained_from form sheets log so_far) (read_long form log line (lines ys) many)
          ∙ long_line form sheets log so_far line (lines_left (form.stop && (1 == 1)) form log ys) many,
      counted_at_end log xs ys line gives empty many ∙ ap (λ (n : ℕ). n + bad_count log ys) (faults_long log line many),
    )
    gives_long (Some xs) (Some ys) gives many (inr alike) = (
      ap (λ (ls : List (List ℕ)). explained_from form sheets log so_far (lines_read form log ls)) gives
          ∙ ap (explained_from form sheets log so_far) (read_long form log line (lines ys) many)
          ∙ long_line form sheets log so_far line (lines_left (form.stop && (1 == 1)) form log ys) many,
      counted log xs ys line gives alike ∙ ap₂ (λ (n : ℕ) (l : Log). n + bad_count l ys) (faults_long log line many) (after_long log line many),
    )

  -- the end
  gives_all : (known rest : Option (List ℕ)) (log : Log) (so_far : Progress) (written : List (List ℕ)) (bad : ℕ)
      → Gives form sheets known rest (at_start form.log) log nothing_known so_far written bad false → (form.stop ≡ true → bad ≡ 0) → IsAtEnd rest
      → IfSome known (λ text. (explained form sheets text ≡ written ++ unfinished_lines form sheets so_far) × (bad_read form text ≡ bad))
  gives_all None rest log so_far written bad h none end = tt
  gives_all (Some text) None log so_far written bad h none end = absurd h
  gives_all (Some text) (Some rest) log so_far written bad h none end = (
    h.0 ∙ ap (λ (bytes : List ℕ). written ++ explained_from form sheets log so_far (lines_read form log (lines bytes))) end
        ∙ ap (λ (ls : List (List ℕ)). written ++ ls) (no_line form sheets log so_far),
    read_all form.stop (bad_count (at_start form.log) text) bad
        (h.1 ∙ ap (λ (bytes : List ℕ). bad + bad_count log bytes) end ∙ ap (λ (n : ℕ). bad + n) (no_bad log) ∙ omega arith) none,
  )

  -- the first bad line, where it ends it
  gives_stopped : (known rest : Option (List ℕ)) (log : Log) (so_far : Progress) (written : List (List ℕ)) (bad : ℕ)
      → Gives form sheets known rest (at_start form.log) log nothing_known so_far written bad true → form.stop ≡ true → bad ≡ 1
      → IfSome known (λ text. (explained form sheets text ≡ written ++ unfinished_lines form sheets so_far) × (bad_read form text ≡ bad))
  gives_stopped None rest log so_far written bad h is one = tt
  gives_stopped (Some text) None log so_far written bad h is one = absurd h
  gives_stopped (Some text) (Some rest) log so_far written bad h is one = (
    h.0 ∙ ap (λ (ls : List (List ℕ)). written ++ ls) (nothing_more form sheets log so_far),
    read_one form.stop (bad_count (at_start form.log) text) bad (bad_count log rest) h.1 is one,
  )

  -- ---- lines taken

  pub takes_none : (held : Held) (known : Option (List ℕ)) (log : Log) (so_far : Progress) (has : Option (List ℕ))
      → Takes form sheets held held known known log log so_far so_far has has 0 false
  takes_none held known log so_far has = record {
    written = [];
    appended = Appends-nil has;
    gives = gave_nothing held.ended known known _ refl (λ bytes. gives_none (to_come held bytes) log so_far);
  }

  -- what is found next
  module _ (held holds : Held) (before after : Option (List ℕ)) (log : Log) (so_far : Progress) (old new : Option (List ℕ)) where
    module _ (line : List ℕ) (past : Log) (next : Progress) (left : past ≡ (says log line).0) (is : next ≡ progress_after form sheets so_far (line_at log line))
        (written : WritesLines old new (said_lines form sheets so_far (line_at log line))) where
      so : (bad : ℕ) (stopped : Bool) → Takes form sheets held holds before after log (says log line).0 so_far (progress_after form sheets so_far (line_at log line)) old new bad stopped
          → Takes form sheets held holds before after log past so_far next old new bad stopped
      so bad stopped h =
          subst (λ (n : Progress). Takes form sheets held holds before after log past so_far n old new bad stopped) (sym is)
          (subst (λ (l : Log). Takes form sheets held holds before after log l so_far (progress_after form sheets so_far (line_at log line)) old new bad stopped) (sym left) h)

      whole_line : Gave held.ended holds.ended before after (λ had has. Finds (to_come held had) (to_come holds has) line Line)
          → Takes form sheets held holds before after log (says log line).0 so_far (progress_after form sheets so_far (line_at log line)) old new (faults_in (line_at log line))
          (form.stop && (faults_in (line_at log line) == 1))
      whole_line found = record {
        written = said_lines form sheets so_far (line_at log line);
        appended = written;
        gives = gave_so held.ended holds.ended before after _ _ found
            (λ had has f. gives_line log so_far line (to_come held had) (to_come holds has) f.0 f.1 f.2);
      }

      pub takes_line : (bad : ℕ) → bad ≡ faults_in (line_at log line)
          → Gave held.ended holds.ended before after (λ had has. Finds (to_come held had) (to_come holds has) line Line)
          → Takes form sheets held holds before after log past so_far next old new bad (form.stop && (bad == 1))
      takes_line bad counts found =
          subst (λ (b : ℕ). Takes form sheets held holds before after log past so_far next old new b (form.stop && (b == 1))) (sym counts)
          (so (faults_in (line_at log line)) (form.stop && (faults_in (line_at log line) == 1)) (whole_line found))

      last_line : Gave held.ended holds.ended before after (λ had has. Finds (to_come held had) (to_come holds has) line Last)
          → Takes form sheets held holds before after log (says log line).0 so_far (progress_after form sheets so_far (line_at log line)) old new 0 (form.stop && (0 == 1))
      last_line found = record {
        written = said_lines form sheets so_far (line_at log line);
        appended = written;
        gives = gave_so held.ended holds.ended before after _ _ found
            (λ had has f. gives_last log so_far line (to_come held had) (to_come holds has) (form.stop && (0 == 1)) f.0 f.1 f.2);
      }

      pub takes_last : Gave held.ended holds.ended before after (λ had has. Finds (to_come held had) (to_come holds has) line Last)
          → Takes form sheets held holds before after log past so_far next old new 0 (form.stop && (0 == 1))
      takes_last found = so 0 (form.stop && (0 == 1)) (last_line found)

    pub takes_long : (line : List ℕ) → Gave held.ended holds.ended before after (λ had has. Finds (to_come held had) (to_come holds has) line TooLong)
        → old ≡ new → Takes form sheets held holds before after log log so_far so_far old new 1 (form.stop && (1 == 1))
    takes_long line found same = record {
      written = [];
      appended = subst (λ (held : Option (List ℕ)). WritesLines old held []) same (Appends-nil old);
      gives = gave_so held.ended holds.ended before after _ _ found (λ had has f. gives_long log so_far f.0 (to_come held had) (to_come holds has) f.1 f.2 f.3);
    }

  module _ (held mid : Held) (before between : Option (List ℕ)) (log past : Log) (first next : Progress) (old has : Option (List ℕ)) (bad : ℕ)
      (h : Takes form sheets held mid before between log past first next old has bad false) where
    -- a flush
    pub takes_flushed : (new : Option (List ℕ)) → Keeps has new → Takes form sheets held mid before between log past first next old new bad false
    takes_flushed new kept = record {
      written = h.written;
      appended = Appends-kept old has new (flat_map (λ line. line) h.written) h.appended kept;
      gives = h.gives;
    }

    -- more lines
    pub takes_more : (holds : Held) (after : Option (List ℕ)) (left : Log) (last : Progress) (new : Option (List ℕ)) (also : ℕ) (stopped : Bool)
        → Takes form sheets mid holds between after past left next last has new also stopped
        → Takes form sheets held holds before after log left first last old new (bad + also) stopped
    takes_more holds after left last new also stopped k = record {
      written = h.written ++ k.written;
      appended = lines_after old has new h.written k.written h.appended k.appended;
      gives = gave_then held.ended mid.ended holds.ended before between after _ _ _ h.gives k.gives
          (λ had middle has p q. gives_then (to_come held had) (to_come mid middle) (to_come holds has) log past left first next last h.written k.written bad also stopped p q);
    }

-- ---- whether a line ends it

pub stops_then : (stop : Bool) (more : ℕ) → (stop && (more == 1)) ≡ true → (stop ≡ true) × (more ≡ 1)
stops_then true more is = (refl, eqb-true more 1 is)
stops_then false more is = absurd cc

pub goes_on : (stop : Bool) (bad more : ℕ) → (stop && (more == 1)) ≡ false → more ≤ 1 → (stop ≡ true → bad ≡ 0) → stop ≡ true → bad + more ≡ 0
goes_on true bad more goes few none is =
    let zero : bad ≡ 0 = none refl in
    let other : more ≡ 0 = grind (arith, nat_tests, goes) in omega arith
goes_on false bad more goes few none is = absurd cc

-- ---- the whole

all_to_come : (known : Option (List ℕ)) → to_come nothing_held known ≡ known
all_to_come None = refl
all_to_come (Some bytes) = refl

explained_if : (form : Layout) (sheets : List KnownSheet) (written : List (List ℕ)) (bad : ℕ) (old new : Option (List ℕ)) (known : Option (List ℕ)) → WritesLines old new written
    → IfSome known (λ text. (explained form sheets text ≡ written) × (bad_read form text ≡ bad)) → IfSome known (Explains form sheets old new bad)
explained_if form sheets written bad old new None appended h = tt
explained_if form sheets written bad old new (Some text) appended h = (subst (WritesLines old new) (sym h.0) appended, sym h.1)

module _ (form : Layout) (sheets : List KnownSheet) (mid holds : Held) (before between after : Option (List ℕ)) (log : Log) (so_far : Progress) (old out new : Option (List ℕ)) (bad : ℕ)
    (h : Takes form sheets nothing_held mid before between (at_start form.log) log nothing_known so_far old out bad false)
    (none : form.stop ≡ true → bad ≡ 0)
    (rest : WritesLines out new (unfinished_lines form sheets so_far))
    (end : Gave mid.ended holds.ended between after (λ had has. IsAtEnd (to_come mid had))) where
  all : Gave false holds.ended before after (λ had has. IfSome had (Explains form sheets old new bad))
  all = gave_then false mid.ended holds.ended before between after _ _ _ h.gives end
      (λ had middle left p q. explained_if form sheets (h.written ++ unfinished_lines form sheets so_far) bad old new had
      (lines_after old out new h.written (unfinished_lines form sheets so_far) h.appended rest)
      (subst (λ (known : Option (List ℕ)). IfSome known (λ text. (explained form sheets text ≡ h.written ++ unfinished_lines form sheets so_far) × (bad_read form text ≡ bad))) (all_to_come had)
      (gives_all form sheets (to_come nothing_held had) (to_come mid middle) log so_far h.written bad p none q)))

  pub explained_known : IfSome before (Explains form sheets old new bad)
  explained_known = of_known false holds.ended before after _ all

  pub explained_any : GaveText before after (Explains form sheets old new bad)
  explained_any = (all.bytes, all.taken, of_given false holds.ended before after _ all)

-- where the first bad line ended it
module _ (form : Layout) (sheets : List KnownSheet) (mid : Held) (before between : Option (List ℕ)) (log : Log) (so_far : Progress) (old out new : Option (List ℕ)) (bad : ℕ)
    (h : Takes form sheets nothing_held mid before between (at_start form.log) log nothing_known so_far old out bad true)
    (is : form.stop ≡ true) (one : bad ≡ 1)
    (rest : WritesLines out new (unfinished_lines form sheets so_far)) where
  up_to_it : Gave false mid.ended before between (λ had has. IfSome had (Explains form sheets old new bad))
  up_to_it = gave_so false mid.ended before between _ _ h.gives
      (λ had has p. explained_if form sheets (h.written ++ unfinished_lines form sheets so_far) bad old new had
      (lines_after old out new h.written (unfinished_lines form sheets so_far) h.appended rest)
      (subst (λ (known : Option (List ℕ)). IfSome known (λ text. (explained form sheets text ≡ h.written ++ unfinished_lines form sheets so_far) × (bad_read form text ≡ bad))) (all_to_come had)
      (gives_stopped form sheets (to_come nothing_held had) (to_come mid has) log so_far h.written bad p is one)))

  pub stopped_known : IfSome before (Explains form sheets old new bad)
  stopped_known = of_known false mid.ended before between _ up_to_it

  pub stopped_any : GaveText before between (Explains form sheets old new bad)
  stopped_any = (up_to_it.bytes, up_to_it.taken, of_given false mid.ended before between _ up_to_it)

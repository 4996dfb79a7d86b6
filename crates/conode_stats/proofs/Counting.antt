-- How far a recording is counted.
use Rattle.std.proofs.Common.{◌≡◌, ℕ, ◌+◌, ◌<◌, ◌≤◌, Bool, false, true, ◌⊎◌, inl, inr, List, [], ◌∷◌, length, Option, None, Some, IfSome, ltb, refl, sym, ap, ap₂, subst, ◌∙◌, arith}
use Rattle.std.specs.Prelude.{◌||◌, ◌==◌}
use Rattle.std.specs.List.{before_first, after_first}
use Rattle.std.specs.Io.KnownBytes.{IsAtEnd}
use Rattle.std.specs.Str.Lines.{lines}
use Rattle.std.proofs.lemmas.Bool.Decides.{nat_tests}
use Rattle.co_text.proofs.Tests.{by_test}
use Rattle.co_stream.specs.declared.bounded_lines.Found.TheVariants.{Line, Last, TooLong}
use Rattle.co_stream.specs.Founds.{is_closed, ClosesAlike, Finds}
use Rattle.co_stream.specs.Held.{Held, nothing_held, to_come}
use Rattle.co_stream.specs.Lines.{has_line_feed, GivesLine}
use Rattle.co_stream.specs.Readings.{Gave}
use Rattle.co_stream.proofs.LineLemmas.{cut_at_feed, lines-feed, lines-last}
use Rattle.co_stream.proofs.Readers.{gave_nothing, gave_so, gave_then, of_given, of_known}
use Rattle.conode_io.specs.TraceTexts.{GaveText}
use Rattle.conode_convert.specs.Converted.{at_start}
use Rattle.conode_logs.specs.declared.log.Form.{Form}
use Rattle.conode_logs.specs.declared.log.Log.{Log}
use Rattle.conode_logs.specs.Logs.{says}
use Rattle.conode_record.specs.declared.line.Record.{Record}
use Rattle.conode_record.specs.declared.line.RecordLine.{RecordLine}
use Rattle.conode_record.specs.declared.line.RecordLine.TheVariants.{Skipped, Frame}
use Rattle.conode_stats_counts.specs.Buses.{Counted, counts_of}
use Rattle.conode_stats_counts.proofs.Counting.{counts_more}
use Rattle.conode_stats.specs.Frames.{bad_count, bad_from, counts_after, faults_in, faults_of, frames_after, frames_from, frames_of, line_at, log_after}
use Rattle.conode_stats.specs.Taking.{CountsText, Gives, Takes}

-- ---- frames

-- a line of at most 512 bytes
one_line : (log : Log) (frames : List Record) (line : List ℕ) (more : List (List ℕ)) → length line ≤ 512
    → frames_from log frames (line ∷ more) ≡ frames_from (says log line).0 (frames_after frames (line_at log line)) more
unfolding frames_from
one_line log frames line more few = let short : ltb 512 (length line) ≡ false = grind (arith, nat_tests) in rw short refl

-- a longer one
long_line : (log : Log) (frames : List Record) (line : List ℕ) (more : List (List ℕ)) → 512 < length line
    → frames_from log frames (line ∷ more) ≡ frames_from log frames more
unfolding frames_from
long_line log frames line more many = let long : ltb 512 (length line) ≡ true = grind (arith, nat_tests) in rw long refl

no_line : (log : Log) (frames : List Record) → frames_from log frames (lines []) ≡ frames
unfolding frames_from
no_line log frames = refl

-- ---- bad lines

-- a text that has no line is empty
no_lines_in : (text : List ℕ) → lines text ≡ [] → text ≡ []
no_lines_in [] none = refl
no_lines_in (byte ∷ bytes) none = by_test (has_line_feed (byte ∷ bytes))
    (λ some. let cut = cut_at_feed (byte ∷ bytes) (before_first (λ b. b == 10) (byte ∷ bytes)) (after_first (λ b. b == 10) (byte ∷ bytes)) some refl refl in
    let first = ap lines cut.0 ∙ lines-feed (before_first (λ b. b == 10) (byte ∷ bytes)) (after_first (λ b. b == 10) (byte ∷ bytes)) cut.1 in absurd cc)
    (λ fails. let first = lines-last (byte ∷ bytes) fails (omega arith) in absurd cc)

no_bad : (log : Log) → bad_count log [] ≡ 0
unfolding bad_from
no_bad log = refl

-- a line before others
more_lines : (closed : Bool) (log : Log) (line : List ℕ) (more : List (List ℕ)) → (more ≡ [] → (closed || ltb 512 (length line)) ≡ true) → bad_from closed log (line ∷ more) ≡ faults_of log line + bad_from closed (log_after log line) more
unfolding bad_from
more_lines closed log line [] counts = rw (counts refl) (omega arith)
more_lines closed log line (next ∷ more) counts = refl

-- a line, where the last line has its line feed before and after it, or in neither
counted : (log : Log) (text rest line : List ℕ) → lines text ≡ line ∷ lines rest → is_closed text ≡ is_closed rest → bad_count log text ≡ faults_of log line + bad_count (log_after log line) rest
counted log text rest line gives alike =
    ap₂ (λ (closed : Bool) (ls : List (List ℕ)). bad_from closed log ls) alike gives
    ∙ more_lines (is_closed rest) log line (lines rest) (λ none. ap (λ (text : List ℕ). is_closed text || ltb 512 (length line)) (no_lines_in rest none))

or_true : (a b : Bool) → b ≡ true → (a || b) ≡ true
or_true true b e = refl
or_true false b e = e

no_bad_from : (closed : Bool) (log : Log) → bad_from closed log [] ≡ 0
unfolding bad_from
no_bad_from closed log = refl

after_long : (log : Log) (line : List ℕ) → 512 < length line → log_after log line ≡ log
after_long log line many = let long : ltb 512 (length line) ≡ true = grind (arith, nat_tests) in rw long refl

after_short : (log : Log) (line : List ℕ) → length line ≤ 512 → log_after log line ≡ (says log line).0
after_short log line few = let short : ltb 512 (length line) ≡ false = grind (arith, nat_tests) in rw short refl

-- a long line at the end
counted_at_end : (log : Log) (text rest line : List ℕ) → lines text ≡ line ∷ lines rest → rest ≡ [] → 512 < length line → bad_count log text ≡ faults_of log line + bad_count log rest
counted_at_end log text rest line gives empty many =
    let long : ltb 512 (length line) ≡ true = grind (arith, nat_tests) in
    let all : bad_count log text ≡ bad_from (is_closed text) log (line ∷ []) = ap (bad_from (is_closed text) log) (gives ∙ ap (λ (left : List ℕ). line ∷ lines left) empty) in
    let none : bad_from (is_closed text) (log_after log line) [] ≡ bad_count log rest = no_bad_from (is_closed text) (log_after log line) ∙ sym (no_bad_from true log) ∙ ap (bad_count log) (sym empty) in
    all ∙ more_lines (is_closed text) log line [] (λ _. or_true (is_closed text) (ltb 512 (length line)) long) ∙ ap (λ (n : ℕ). faults_of log line + n) none

neither : (a b : Bool) → (a || b) ≡ false → (a ≡ false) × (b ≡ false)
neither false b h = (refl, h)
neither true b h = cc

open_end : (byte : ℕ) (bytes : List ℕ) → has_line_feed (byte ∷ bytes) ≡ false → is_closed (byte ∷ bytes) ≡ false
open_end byte [] none = (neither (byte == 10) false none).0
open_end byte (next ∷ more) none = open_end next more (neither (byte == 10) (has_line_feed (next ∷ more)) none).1

cut_off : (log : Log) (line : List ℕ) → length line ≤ 512 → bad_from false log (line ∷ []) ≡ 0
unfolding bad_from
cut_off log line few = let short : ltb 512 (length line) ≡ false = grind (arith, nat_tests) in rw short refl

-- the last line, without its line feed
counted_last : (log next : Log) (text rest line : List ℕ) → lines text ≡ line ∷ lines rest → has_line_feed text ≡ false → length line ≤ 512 → bad_count log text ≡ bad_count next rest
counted_last log next [] rest line gives none few = absurd cc
counted_last log next (byte ∷ bytes) rest line gives none few =
    let last : lines (byte ∷ bytes) ≡ (byte ∷ bytes) ∷ [] = lines-last (byte ∷ bytes) none (omega arith) in
    let left : lines rest ≡ [] = cc in
    let all : bad_count log (byte ∷ bytes) ≡ bad_from false log (line ∷ []) =
    ap₂ (λ (closed : Bool) (ls : List (List ℕ)). bad_from closed log ls) (open_end byte bytes none) (gives ∙ ap (λ (more : List (List ℕ)). line ∷ more) left) in
    all ∙ cut_off log line few ∙ sym (no_bad_from true next) ∙ ap (bad_count next) (sym (no_lines_in rest left))

faults_short : (log : Log) (line : List ℕ) → length line ≤ 512 → faults_of log line ≡ faults_in (line_at log line)
faults_short log line few = let short : ltb 512 (length line) ≡ false = grind (arith, nat_tests) in rw short refl

faults_long : (log : Log) (line : List ℕ) → 512 < length line → faults_of log line ≡ 1
faults_long log line many = let long : ltb 512 (length line) ≡ true = grind (arith, nat_tests) in rw long refl

-- ---- what bytes give

gives_none : (known : Option (List ℕ)) (log : Log) (frames : List Record) → Gives known known log log frames frames 0
gives_none None log frames = tt
gives_none (Some text) log frames = (refl, omega arith)

gives_then : (a b c : Option (List ℕ)) (log next left : Log) (first mid last : List Record) (bad also : ℕ)
    → Gives a b log next first mid bad → Gives b c next left mid last also → Gives a c log left first last (bad + also)
gives_then None b c log next left first mid last bad also h k = tt
gives_then (Some xs) None c log next left first mid last bad also h k = absurd h
gives_then (Some xs) (Some ys) None log next left first mid last bad also h k = absurd k
gives_then (Some xs) (Some ys) (Some zs) log next left first mid last bad also h k = (h.0 ∙ k.0, omega (arith, h.1, k.1))

module _ (log : Log) (frames : List Record) (line : List ℕ) where
  -- a line with its line feed
  gives_line : (old new : Option (List ℕ)) → GivesLine old new line → length line ≤ 512 → ClosesAlike old new
      → Gives old new log (says log line).0 frames (frames_after frames (line_at log line)) (faults_in (line_at log line))
  gives_line None new gives few alike = tt
  gives_line (Some xs) None gives few alike = absurd gives
  gives_line (Some xs) (Some ys) gives few alike = (
    ap (frames_from log frames) gives ∙ one_line log frames line (lines ys) few,
    counted log xs ys line gives alike ∙ ap₂ (λ (n : ℕ) (l : Log). n + bad_count l ys) (faults_short log line few) (after_short log line few),
  )

  -- the last one, without it
  gives_last : (old new : Option (List ℕ)) → GivesLine old new line → length line ≤ 512 → IfSome old (λ bytes. has_line_feed bytes ≡ false)
      → Gives old new log (says log line).0 frames (frames_after frames (line_at log line)) 0
  gives_last None new gives few none = tt
  gives_last (Some xs) None gives few none = absurd gives
  gives_last (Some xs) (Some ys) gives few none = (
    ap (frames_from log frames) gives ∙ one_line log frames line (lines ys) few,
    counted_last log (says log line).0 xs ys line gives none few ∙ omega arith,
  )

  -- one that is too long
  gives_long : (old new : Option (List ℕ)) → GivesLine old new line → 512 < length line → IsAtEnd new ⊎ ClosesAlike old new → Gives old new log log frames frames 1
  gives_long None new gives many ends = tt
  gives_long (Some xs) None gives many ends = absurd gives
  gives_long (Some xs) (Some ys) gives many (inl empty) = (
    ap (frames_from log frames) gives ∙ long_line log frames line (lines ys) many,
    counted_at_end log xs ys line gives empty many ∙ ap (λ (n : ℕ). n + bad_count log ys) (faults_long log line many),
  )
  gives_long (Some xs) (Some ys) gives many (inr alike) = (
    ap (frames_from log frames) gives ∙ long_line log frames line (lines ys) many,
    counted log xs ys line gives alike ∙ ap₂ (λ (n : ℕ) (l : Log). n + bad_count l ys) (faults_long log line many) (after_long log line many),
  )

-- the end
gives_all : (form : Form) (known rest : Option (List ℕ)) (log : Log) (frames : List Record) (bad : ℕ)
    → Gives known rest (at_start form) log [] frames bad → IsAtEnd rest
    → IfSome known (λ text. (frames_of form text ≡ frames) × (bad_count (at_start form) text ≡ bad))
gives_all form None rest log frames bad h end = tt
gives_all form (Some text) None log frames bad h end = absurd h
gives_all form (Some text) (Some rest) log frames bad h end = (
  h.0 ∙ ap (λ (bytes : List ℕ). frames_from log frames (lines bytes)) end ∙ no_line log frames,
  h.1 ∙ ap (λ (bytes : List ℕ). bad + bad_count log bytes) end ∙ ap (λ (n : ℕ). bad + n) (no_bad log) ∙ omega arith,
)

-- ---- lines taken

-- what is counted of a line is one frame more at most
after_line : (frames : List Record) (said : Option RecordLine) → counts_after (counts_of frames) said ≡ counts_of (frames_after frames said)
after_line frames None = refl
after_line frames (Some Skipped) = refl
after_line frames (Some (Frame frame)) = counts_more frames frame

pub stands_after : (old new : Counted) (frames : List Record) (said : Option RecordLine) → new ≡ counts_after old said → old ≡ counts_of frames → new ≡ counts_of (frames_after frames said)
stands_after old new frames said is was = is ∙ ap (λ (c : Counted). counts_after c said) was ∙ after_line frames said

pub takes_none : (held : Held) (known : Option (List ℕ)) (log : Log) → Takes held held known known log log [] (counts_of []) 0
takes_none held known log = record {
  frames = [];
  stands = refl;
  gives = gave_nothing held.ended known known _ refl (λ bytes. gives_none (to_come held bytes) log []);
}

-- what is found next
module _ (held holds : Held) (before after : Option (List ℕ)) (log : Log) (frames : List Record) (counts : Counted) where
  module _ (line : List ℕ) (then : Log) (left : then ≡ (says log line).0) (stands : counts ≡ counts_of (frames_after frames (line_at log line))) where
    so : (bad : ℕ) → Takes held holds before after log (says log line).0 frames counts bad → Takes held holds before after log then frames counts bad
    so bad h = subst (λ (l : Log). Takes held holds before after log l frames counts bad) (sym left) h

    whole_line : Gave held.ended holds.ended before after (λ had has. Finds (to_come held had) (to_come holds has) line Line)
        → Takes held holds before after log (says log line).0 frames counts (faults_in (line_at log line))
    whole_line found = record {
      frames = frames_after frames (line_at log line);
      stands = stands;
      gives = gave_so held.ended holds.ended before after _ _ found
          (λ had has f. gives_line log frames line (to_come held had) (to_come holds has) f.0 f.1 f.2);
    }

    pub takes_line : (bad : ℕ) → bad ≡ faults_in (line_at log line)
        → Gave held.ended holds.ended before after (λ had has. Finds (to_come held had) (to_come holds has) line Line)
        → Takes held holds before after log then frames counts bad
    takes_line bad are found =
        subst (λ (b : ℕ). Takes held holds before after log then frames counts b) (sym are)
        (so (faults_in (line_at log line)) (whole_line found))

    last_line : Gave held.ended holds.ended before after (λ had has. Finds (to_come held had) (to_come holds has) line Last)
        → Takes held holds before after log (says log line).0 frames counts 0
    last_line found = record {
      frames = frames_after frames (line_at log line);
      stands = stands;
      gives = gave_so held.ended holds.ended before after _ _ found
          (λ had has f. gives_last log frames line (to_come held had) (to_come holds has) f.0 f.1 f.2);
    }

    pub takes_last : Gave held.ended holds.ended before after (λ had has. Finds (to_come held had) (to_come holds has) line Last)
        → Takes held holds before after log then frames counts 0
    takes_last found = so 0 (last_line found)

  pub takes_long : (line : List ℕ) → Gave held.ended holds.ended before after (λ had has. Finds (to_come held had) (to_come holds has) line TooLong)
      → counts ≡ counts_of frames → Takes held holds before after log log frames counts 1
  takes_long line found stands = record {
    frames = frames;
    stands = stands;
    gives = gave_so held.ended holds.ended before after _ _ found (λ had has f. gives_long log frames f.0 (to_come held had) (to_come holds has) f.1 f.2 f.3);
  }

module _ (held mid : Held) (before between : Option (List ℕ)) (log then : Log) (first : List Record) (was : Counted) (bad : ℕ)
    (h : Takes held mid before between log then first was bad) where
  -- more lines
  pub takes_more : (holds : Held) (after : Option (List ℕ)) (left : Log) (counts : Counted) (also : ℕ)
      → ((frames : List Record) → was ≡ counts_of frames → Takes mid holds between after then left frames counts also)
      → Takes held holds before after log left first counts (bad + also)
  takes_more holds after left counts also more =
      let k = more h.frames h.stands in
      record {
        frames = k.frames;
        stands = k.stands;
        gives = gave_then held.ended mid.ended holds.ended before between after _ _ _ h.gives k.gives
            (λ had middle has p q. gives_then (to_come held had) (to_come mid middle) (to_come holds has) log then left first h.frames k.frames bad also p q);
      }

-- ---- the whole

all_to_come : (known : Option (List ℕ)) → to_come nothing_held known ≡ known
all_to_come None = refl
all_to_come (Some bytes) = refl

counts_if : (form : Form) (frames : List Record) (counts : Counted) (bad : ℕ) (known : Option (List ℕ)) → counts ≡ counts_of frames
    → IfSome known (λ text. (frames_of form text ≡ frames) × (bad_count (at_start form) text ≡ bad)) → IfSome known (CountsText form counts bad)
counts_if form frames counts bad None stands h = tt
counts_if form frames counts bad (Some text) stands h = (stands ∙ ap counts_of (sym h.0), sym h.1)

module _ (form : Form) (mid holds : Held) (before between after : Option (List ℕ)) (log : Log) (counts : Counted) (bad : ℕ)
    (h : Takes nothing_held mid before between (at_start form) log [] counts bad)
    (end : Gave mid.ended holds.ended between after (λ had has. IsAtEnd (to_come mid had))) where
  all : Gave false holds.ended before after (λ had has. IfSome had (CountsText form counts bad))
  all = gave_then false mid.ended holds.ended before between after _ _ _ h.gives end
      (λ had middle left p q. counts_if form h.frames counts bad had h.stands
      (subst (λ (known : Option (List ℕ)). IfSome known (λ text. (frames_of form text ≡ h.frames) × (bad_count (at_start form) text ≡ bad))) (all_to_come had)
      (gives_all form (to_come nothing_held had) (to_come mid middle) log h.frames bad p q)))

  pub counts_known : IfSome before (CountsText form counts bad)
  counts_known = of_known false holds.ended before after _ all

  pub counts_any : GaveText before after (CountsText form counts bad)
  counts_any = (all.bytes, all.taken, of_given false holds.ended before after _ all)

-- What a writer holds where decoding stopped and said why.
use Rattle.std.proofs.Common.{◌≡◌, ℕ, List, [], Option, None, Some, IfSome, Result, Ok, Err, inl, inr, ⊎_elim, ap, subst}
use Rattle.std.specs.Prelude.{◌⊎◌, IfErr, OnOk}
use Rattle.std.specs.List.{flat_map}
use Rattle.std.specs.Io.KnownBytes.{Appends, Keeps}
use Rattle.std.proofs.KnownBytes.{Appends-kept}
use Rattle.conode_io.specs.declared.fault.CmdFault.{CmdFault}
use Rattle.conode_io.specs.declared.fault.CmdFault.TheVariants.{Read, Write, BadLine, Memory, NeverEnds}
use Rattle.conode_io.specs.Endings.{stopped_line, SomeStopped, WritesStopped}
use Rattle.conode_io.specs.Written.{WritesFrontOrLines, WritesLines, WritesSome}
use Rattle.conode_io.proofs.StoppedLemmas.{some_stopped, stopped_after}
use Rattle.conode_io.specs.TraceTexts.{FailsWithinLine, GaveText, trace_in}
use Rattle.co_sheet_changes.specs.Names.{Names}
use Rattle.conode_decode.specs.DecodedTraces.{Decoded, DecodesAll, lines_of, trace_lines}

-- ---- how decoding ended, by its result

first : (known : Option (List ℕ)) (P Q : List ℕ → Type 0) → IfSome known (λ text. P text × Q text) → IfSome known P
first None P Q h = tt
first (Some text) P Q h = h.0

second : (known : Option (List ℕ)) (P Q : List ℕ → Type 0) → IfSome known (λ text. P text × Q text) → IfSome known Q
second None P Q h = tt
second (Some text) P Q h = h.1

module _ (names : Names) (known rest old mid : Option (List ℕ)) where
  pub good_whole : (outcome : Result (Unit {0}) CmdFault) → Decoded names known rest old mid outcome → OnOk outcome (IfSome known (λ text. (trace_in text).bad ≡ None))
  good_whole (Ok done) h = first known (λ text. (trace_in text).bad ≡ None) (λ text. WritesLines old mid (trace_lines names text)) h
  good_whole (Err fault) h = tt

  pub bad_line_named : (outcome : Result (Unit {0}) CmdFault) (number : ℕ) → outcome ≡ Err (BadLine number) → Decoded names known rest old mid outcome → IfSome known (λ text. (trace_in text).bad ≡ Some number)
  bad_line_named outcome number is h =
      first known (λ text. (trace_in text).bad ≡ Some number) (λ text. WritesLines old mid (trace_lines names text)) (subst (λ (r : Result (Unit {0}) CmdFault). Decoded names known rest old mid r) is h)

  pub lines_before : (outcome : Result (Unit {0}) CmdFault) (number : ℕ) → outcome ≡ Err (BadLine number) → Decoded names known rest old mid outcome → IfSome known (λ text. WritesLines old mid (trace_lines names text))
  lines_before outcome number is h = second known _ (λ text. WritesLines old mid (trace_lines names text)) (subst (λ (r : Result (Unit {0}) CmdFault). Decoded names known rest old mid r) is h)

  pub lines_made : (outcome : Result (Unit {0}) CmdFault) → outcome ≡ Err Memory → Decoded names known rest old mid outcome → IfSome known (λ text. WritesSome old mid (trace_lines names text))
  lines_made outcome is h = subst (λ (r : Result (Unit {0}) CmdFault). Decoded names known rest old mid r) is h

  pub lines_written : (outcome : Result (Unit {0}) CmdFault) → outcome ≡ Err Write → Decoded names known rest old mid outcome → IfSome known (λ text. WritesFrontOrLines old mid (trace_lines names text))
  lines_written outcome is h = subst (λ (r : Result (Unit {0}) CmdFault). Decoded names known rest old mid r) is h

  pub lines_whole : (outcome : Result (Unit {0}) CmdFault) → Decoded names known rest old mid outcome → OnOk outcome (IfSome known (λ text. WritesLines old mid (trace_lines names text)))
  lines_whole (Ok done) h = second known _ (λ text. WritesLines old mid (trace_lines names text)) h
  lines_whole (Err fault) h = tt

  pub lines_within : (outcome : Result (Unit {0}) CmdFault) → Decoded names known rest old mid outcome
      → IfErr outcome (λ own. (own ≡ Read) ⊎ (own ≡ NeverEnds) → FailsWithinLine known rest (λ taken. WritesLines old mid (lines_of names taken)))
  lines_within (Ok done) h = tt
  lines_within (Err Read) h = λ which. h
  lines_within (Err NeverEnds) h = λ which. h
  lines_within (Err Write) h = λ which. ⊎_elim (λ e. absurd cc) (λ e. absurd cc) which
  lines_within (Err Memory) h = λ which. ⊎_elim (λ e. absurd cc) (λ e. absurd cc) which
  lines_within (Err (BadLine number)) h = λ which. ⊎_elim (λ e. absurd cc) (λ e. absurd cc) which

-- ---- its line follows what was written

module _ (old mid kept new : Option (List ℕ)) (fault : CmdFault) (flushed : Keeps mid kept) (last : Appends kept new (stopped_line fault)) where
  pub some_known_stopped : (lines : List ℕ → List (List ℕ)) (known : Option (List ℕ)) → IfSome known (λ text. WritesSome old mid (lines text)) → IfSome known (λ text. SomeStopped old new (lines text) fault)
  some_known_stopped lines None some = tt
  some_known_stopped lines (Some text) some = some_stopped old mid kept new (lines text) fault some flushed last

  pub within_line_stopped : (of : List (List ℕ) → List (List ℕ)) (known rest : Option (List ℕ)) → FailsWithinLine known rest (λ taken. WritesLines old mid (of taken)) → FailsWithinLine known rest (λ taken. WritesStopped old new (of taken) fault)
  within_line_stopped of None rest h = tt
  within_line_stopped of (Some text) None h = absurd h
  within_line_stopped of (Some text) (Some bytes) (came, written) = (came, stopped_after old mid kept new (of came.taken) fault written flushed last)

-- ---- the writer failed

module _ (old mid new : Option (List ℕ)) (kept : Keeps mid new) where
  still_front_or_lines : (lines : List (List ℕ)) → WritesFrontOrLines old mid lines → WritesFrontOrLines old new lines
  still_front_or_lines lines (inl (front, is, written)) = inl (front, is, Appends-kept old mid new front written kept)
  still_front_or_lines lines (inr written) = inr (Appends-kept old mid new (flat_map (λ line. line) lines) written kept)

  known_front_or_lines : (lines : List ℕ → List (List ℕ)) (known : Option (List ℕ)) → IfSome known (λ text. WritesFrontOrLines old mid (lines text)) → IfSome known (λ text. WritesFrontOrLines old new (lines text))
  known_front_or_lines lines None h = tt
  known_front_or_lines lines (Some text) h = still_front_or_lines (lines text) h

  known_lines : (lines : List ℕ → List (List ℕ)) (known : Option (List ℕ)) → IfSome known (λ text. WritesLines old mid (lines text)) → IfSome known (λ text. WritesFrontOrLines old new (lines text))
  known_lines lines None h = tt
  known_lines lines (Some text) h = still_front_or_lines (lines text) (inr h)

  -- while it decoded, or as the last of it was to go out
  pub writer_failed : (lines : List ℕ → List (List ℕ)) (known : Option (List ℕ)) (outcome : Result (Unit {0}) CmdFault) (fault : CmdFault) → (outcome ≡ Err Write → IfSome known (λ text. WritesFrontOrLines old mid (lines text)))
      → OnOk outcome (IfSome known (λ text. WritesLines old mid (lines text))) → IfErr outcome (λ own. ◌≡◌ {A = Result (Unit {0}) CmdFault} (Err fault) (Err own)) → fault ≡ Write → IfSome known (λ text. WritesFrontOrLines old new (lines text))
  writer_failed lines known (Ok done) fault front whole own is = known_lines lines known whole
  writer_failed lines known (Err e) fault front whole own is =
      let same : e ≡ Write = cc in
      known_front_or_lines lines known (front (ap (λ (f : CmdFault). Err f) same))

-- what holds at a fault of the reader, at this one
pub at_own : (outcome : Result (Unit {0}) CmdFault) (fault : CmdFault) (known rest old mid : Option (List ℕ)) (of : List (List ℕ) → List (List ℕ)) → outcome ≡ Err fault
    → IfErr outcome (λ own. (own ≡ Read) ⊎ (own ≡ NeverEnds) → FailsWithinLine known rest (λ taken. WritesLines old mid (of taken))) → (fault ≡ Read) ⊎ (fault ≡ NeverEnds)
    → FailsWithinLine known rest (λ taken. WritesLines old mid (of taken))
at_own outcome fault known rest old mid of is h which =
    subst (λ (r : Result (Unit {0}) CmdFault). IfErr r (λ own. (own ≡ Read) ⊎ (own ≡ NeverEnds) → FailsWithinLine known rest (λ taken. WritesLines old mid (of taken)))) is h which

-- a fault of the reader is not one of the writer
pub reader_is_other : (fault : CmdFault) → (fault ≡ Read) ⊎ (fault ≡ NeverEnds) → fault ≡ Write → ⊥
reader_is_other fault (inl is) write = absurd cc
reader_is_other fault (inr is) write = absurd cc

-- ---- all is decoded

module _ (names : Names) (before after old mid new : Option (List ℕ)) where
  pub all_decoded : (outcome : Result (Unit {0}) CmdFault) (done : Unit {0}) → outcome ≡ Ok done
      → GaveText before after (λ text. Decoded names (Some text) (Some []) old mid outcome) → Keeps mid new
      → GaveText before after (DecodesAll names old new)
  all_decoded (Ok _) done is (text, taken, h) kept =
      (text, taken, (h.0, Appends-kept old mid new (flat_map (λ (line : List ℕ). line) (trace_lines names text)) h.1 kept))
  all_decoded (Err fault) done is given kept = cc

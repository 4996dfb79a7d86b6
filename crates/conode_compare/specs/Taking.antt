-- How far a recording is compared.
use Rattle.std.specs.Prelude.{◌≡◌, ℕ, List, ◌++◌, Option, Some, None, ⊤}
use Rattle.std.specs.Io.KnownBytes.{IsAtEnd}
use Rattle.std.specs.Str.Lines.{lines}
use Rattle.co_stream.specs.Founds.{is_closed}
use Rattle.co_stream.specs.Held.{Held, nothing_held, to_come}
use Rattle.co_stream.specs.Readings.{Gave}
use Rattle.conode_explain.specs.LogLines.{good}
use Rattle.conode_io.specs.Written.{WritesLines}
use Rattle.conode_logs.specs.declared.log.Form.{Form}
use Rattle.conode_record.specs.declared.bad_log_line.BadLogLine.{BadLogLine}
use Rattle.conode_record.specs.declared.line.RecordLine.{RecordLine}
use Rattle.conode_record.specs.Lines.{line_in}
use Rattle.conode_compare_report.specs.Views.{Kept}
use Rattle.conode_compare.specs.declared.comparing.Comparing.{Comparing}
use Rattle.conode_compare.specs.Compared.{Comparison, SoFar, compared, compared_from, comparing_after, so_far_after}

-- what a line of a log says, where a line as `candump -L` writes it was set for it, or it is bad
abbrev pub record_set : List ℕ → Option BadLogLine → Option RecordLine
record_set text None = good (line_in text)
record_set text (Some bad) = None

-- known bytes give these lines, then those of the bytes that are left
abbrev pub Gives : Comparison → Option (List ℕ) → Option (List ℕ) → ℕ → ℕ → SoFar → SoFar → List (List ℕ) → Type 0
Gives c None left number next first last written = ⊤
Gives c (Some text) None number next first last written = ⊥
Gives c (Some text) (Some rest) number next first last written =
    (compared_from c (is_closed text) number first (lines text) ≡ written ++ compared_from c (is_closed rest) next last (lines rest))
    × (so_far_after c (is_closed text) first (lines text) ≡ so_far_after c (is_closed rest) last (lines rest))

-- Lines were taken, from one number to another: a writer has those of their differences. `held` and
-- `holds` are what is held of the reader before and after, `before` and `after` what is known of
-- its bytes, `old` and `new` the writer's.
pub record Takes (c : Comparison) (held holds : Held) (before after : Option (List ℕ)) (number next : ℕ) (first last : SoFar) (old new : Option (List ℕ)) : Type 0 where
  pub written : List (List ℕ)
  pub appended : WritesLines old new written
  pub gives : Gave held.ended holds.ended before after
      (λ had has. Gives c (to_come held had) (to_come holds has) number next first last written)

-- All lines of a reader of which nothing was held were taken: these, and then no line is left.
pub record TakesAll (c : Comparison) (before after : Option (List ℕ)) (first last : SoFar) (old new : Option (List ℕ)) : Type 0 where
  pub holds : Held
  pub left : Held
  pub between : Option (List ℕ)
  pub next : ℕ
  pub taken : Takes c nothing_held holds before between 1 next first last old new
  pub end : Gave holds.ended left.ended between after (λ had has. IsAtEnd (to_come holds had))

-- all of a text is compared, and this is known at its end
abbrev pub Compares : Comparison → Form → Option Kept → Option (List ℕ) → Option (List ℕ) → Comparing → List ℕ → Type 0
Compares c form report old new comparing text =
    WritesLines old new (compared c form report text) × (comparing ≡ comparing_after c form report text)

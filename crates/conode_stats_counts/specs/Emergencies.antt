-- EMCY messages of a bus (CiA 301, 7.2.7), by the pre-defined connection set (7.3.3). They are
-- counted by node and error code, as SDO transfers that failed are by node and reason.
use Rattle.std.specs.Prelude.{ℕ, ◌+◌, ◌-◌, nat_lt, ◌&&◌, if◌then◌else◌, List, [], ◌∷◌, Option, Some, None}
use Rattle.conode_record.specs.declared.content.Content.{Content}
use Rattle.conode_record.specs.declared.content.Content.TheVariants.{Data}
use Rattle.conode_record.specs.declared.fields.Identifier.{Identifier}
use Rattle.conode_record.specs.declared.fields.Identifier.TheVariants.{Base}
use Rattle.conode_record.specs.declared.line.Record.{Record}
use Rattle.conode_stats_counts.specs.declared.failure.Failure.{Failure}
use Rattle.conode_stats_counts.specs.declared.failure.FailureRow.{FailureRow}
use Rattle.conode_stats_counts.specs.declared.failure.Reason.{Reason}
use Rattle.conode_stats_counts.specs.declared.failure.Reason.TheVariants.{Code, NoCode}
use Rattle.conode_stats_counts.specs.Failures.{cause_of, failure_as, failure_row, failures_with, more_left_out, most_failures, rows_with, same_cause}
use Rattle.conode_stats_counts.specs.Gaps.{counted}
use Rattle.conode_stats_counts.specs.Groups.{grouped, left_out}
use Rattle.conode_stats_counts.specs.ShownTimes.{first_word}

abbrev pub coded : Option ℕ → Reason
coded None = NoCode
coded (Some code) = Code code

-- the error code is the first two bytes
abbrev pub emergency_in : ℕ → List ℕ → ℕ → Option Failure
emergency_in id bytes micros =
    if nat_lt 0x80 id && nat_lt id 0x100
    then Some (failure_as (id - 0x80) micros (coded (first_word bytes)))
    else None

abbrev pub emergency_as : Identifier → Content → ℕ → Option Failure
emergency_as (Base id) (Data bytes) micros = emergency_in id bytes micros
emergency_as _ _ micros = None

unfoldable pub emergency_of : Record → Option Failure
emergency_of frame = emergency_as frame.id frame.content frame.micros

-- the emergencies in frames, the newest first
unfoldable pub emergencies_of : List Record → List Failure
emergencies_of [] = []
emergencies_of (frame ∷ older) = failures_with (emergency_of frame) (emergencies_of older)

-- ---- the whole

pub record Emergent : Type 0 where
  pub rows : List FailureRow
  pub left_out : ℕ

-- the rows, in the order in which their nodes and codes came first, and how many messages have none
unfoldable pub emergent_of : List Record → Emergent
emergent_of frames = record {
  rows = grouped same_cause cause_of most_failures failure_row (emergencies_of frames);
  left_out = counted (left_out same_cause cause_of most_failures (emergencies_of frames));
}

-- ---- one frame more, as it is counted

unfoldable pub emergent_with : Emergent → Record → Emergent
emergent_with emergent frame = record {
  rows = rows_with (emergency_of frame) emergent.rows;
  left_out = counted (emergent.left_out + more_left_out (emergency_of frame) emergent.rows);
}

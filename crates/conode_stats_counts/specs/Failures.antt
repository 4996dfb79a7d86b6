-- SDO transfers that failed, on the default channels of the nodes of a bus (CiA 301, 7.2.4.3).
use Rattle.std.specs.Prelude.{ℕ, ◌+◌, ◌==◌, ◌&&◌, Bool, true, false, if◌then◌else◌, List, [], ◌∷◌, Option, Some, None, length}
use Rattle.co_frame.specs.FrameContent.{FrameContent}
use Rattle.conode_explain_transfers.specs.declared.told.Told.{Told}
use Rattle.conode_explain_transfers.specs.declared.track.Track.{Track}
use Rattle.conode_explain_transfers.specs.Tellings.{telling}
use Rattle.conode_explain_transfers.specs.Tracks.{Telling}
use Rattle.conode_explain_transfers.specs.declared.ended.Ended.{Ended}
use Rattle.conode_explain_transfers.specs.declared.ended.Ending.{Ending}
use Rattle.conode_explain_transfers.specs.declared.ended.Ending.TheVariants.{Aborted, Unanswered, Repeated, SizeDiffers, CrcDiffers}
use Rattle.conode_record.specs.declared.content.Content.{Content}
use Rattle.conode_record.specs.declared.content.Content.TheVariants.{Data}
use Rattle.conode_record.specs.declared.fields.Identifier.{Identifier}
use Rattle.conode_record.specs.declared.fields.Identifier.TheVariants.{Base}
use Rattle.conode_record.specs.declared.line.Record.{Record}
use Rattle.conode_stats_counts.specs.declared.failure.Cause.{Cause}
use Rattle.conode_stats_counts.specs.declared.failure.Failure.{Failure}
use Rattle.conode_stats_counts.specs.declared.failure.FailureRow.{FailureRow}
use Rattle.conode_stats_counts.specs.declared.failure.Reason.{Reason}
use Rattle.conode_stats_counts.specs.declared.failure.Reason.TheVariants.{Code, NoCode, OtherSize, WrongCrc}
use Rattle.conode_stats_counts.specs.Gaps.{counted}
use Rattle.conode_stats_counts.specs.Groups.{grouped, group_with, left_out, no_room}

-- ---- the channels

-- a data frame with an identifier of 11 bits
abbrev pub plain : Identifier → Content → Option FrameContent
plain (Base id) (Data bytes) = Some (record { id = id; bytes = bytes })
plain _ _ = None

abbrev pub telling_in : List Track → List ℕ → ℕ → Option FrameContent → Telling
telling_in tracks interface micros None = record { told = None; tracks = tracks }
telling_in tracks interface micros (Some content) = telling tracks interface micros content

-- what the channels say of a frame, and the channels after it
unfoldable pub telling_of : List Track → Record → Telling
telling_of tracks frame = telling_in tracks frame.interface frame.micros (plain frame.id frame.content)

-- the channels after frames, the newest first
unfoldable pub channels_of : List Record → List Track
channels_of [] = []
channels_of (frame ∷ older) = (telling_of (channels_of older) frame).tracks

-- ---- failures

-- of a node, at a stamp
abbrev pub failure_as : ℕ → ℕ → Reason → Failure
failure_as node micros reason = record { cause = record { node = node; reason = reason }; micros = micros }

-- a transfer with a node that ended at a stamp: one that was aborted failed, one whose client began
-- another while it awaited an answer, and one that was confirmed, but with another number of bytes
-- than indicated, or with a CRC that isn't that of its bytes
abbrev pub failure_by : ℕ → ℕ → Ending → Option Failure
failure_by node micros (Aborted side code) = Some (failure_as node micros (Code code.0))
failure_by node micros Unanswered = Some (failure_as node micros NoCode)
failure_by node micros Repeated = Some (failure_as node micros NoCode)
failure_by node micros (SizeDiffers indicated) = Some (failure_as node micros OtherSize)
failure_by node micros (CrcDiffers came computed) = Some (failure_as node micros WrongCrc)
failure_by node micros _ = None

abbrev pub failure_in : ℕ → Option Ended → Option Failure
failure_in node None = None
failure_in node (Some ended) = failure_by node ended.end ended.ending

abbrev pub failure_of : Option Told → Option Failure
failure_of None = None
failure_of (Some told) = failure_in told.node told.ended

abbrev pub failures_with : Option Failure → List Failure → List Failure
failures_with None older = older
failures_with (Some failure) older = failure ∷ older

-- the failures in frames, the newest first
unfoldable pub failures_of : List Record → List Failure
failures_of [] = []
failures_of (frame ∷ older) = failures_with (failure_of (telling_of (channels_of older) frame).told) (failures_of older)

-- ---- by node and reason

abbrev pub same_reason : Reason → Reason → Bool
same_reason (Code a) (Code b) = a == b
same_reason NoCode NoCode = true
same_reason OtherSize OtherSize = true
same_reason WrongCrc WrongCrc = true
same_reason _ _ = false

abbrev pub same_cause : Cause → Cause → Bool
same_cause a b = (a.node == b.node) && same_reason a.reason b.reason

abbrev pub cause_of : Failure → Cause
cause_of failure = failure.cause

-- the stamp of the newest, 0 where there is none
abbrev pub newest_failure : List Failure → ℕ
newest_failure [] = 0
newest_failure (failure ∷ older) = failure.micros

-- the stamp of the first, 0 where there is none
unfoldable pub first_failure : List Failure → ℕ
first_failure [] = 0
first_failure (failure ∷ []) = failure.micros
first_failure (failure ∷ before ∷ older) = first_failure (before ∷ older)

-- the row of a cause with these failures
abbrev pub failure_row : Cause → List Failure → FailureRow
failure_row cause failures = record {
  cause = cause;
  count = counted (length failures);
  first = first_failure failures;
  last = newest_failure failures;
}

-- how many nodes and reasons of a bus have a row
abbrev pub most_failures : ℕ
most_failures = 256

-- the rows, in the order in which their nodes and reasons came first
unfoldable pub failure_rows : List Record → List FailureRow
failure_rows frames = grouped same_cause cause_of most_failures failure_row (failures_of frames)

-- how many failures have no row
unfoldable pub failures_left_out : List Record → ℕ
failures_left_out frames = counted (left_out same_cause cause_of most_failures (failures_of frames))

-- ---- the whole

pub record Transferred : Type 0 where
  pub channels : List Track
  pub rows : List FailureRow
  pub left_out : ℕ

unfoldable pub transfers_of : List Record → Transferred
transfers_of frames =
    record { channels = channels_of frames; rows = failure_rows frames; left_out = failures_left_out frames }

-- ---- one frame more, as it is counted

abbrev pub is_failure : Cause → FailureRow → Bool
is_failure cause row = same_cause row.cause cause

abbrev pub failure_added : ℕ → FailureRow → FailureRow
failure_added micros row = record row {
  count = counted (row.count + 1);
  first = if row.count == 0 then micros else row.first;
  last = micros;
}

abbrev pub new_failure : Cause → FailureRow
new_failure cause = failure_row cause []

abbrev pub rows_with : Option Failure → List FailureRow → List FailureRow
rows_with None rows = rows
rows_with (Some failure) rows =
    group_with (is_failure failure.cause) (failure_added failure.micros) (new_failure failure.cause) most_failures rows

-- 1 for a failure without a row
abbrev pub more_left_out : Option Failure → List FailureRow → ℕ
more_left_out None rows = 0
more_left_out (Some failure) rows = no_room (is_failure failure.cause) most_failures rows

unfoldable pub transfers_with : Transferred → Record → Transferred
transfers_with transfers frame =
    let telling = telling_of transfers.channels frame in
    record {
      channels = telling.tracks;
      rows = rows_with (failure_of telling.told) transfers.rows;
      left_out = counted (transfers.left_out + more_left_out (failure_of telling.told) transfers.rows);
    }

-- The lines of SDO transfers and EMCY messages, evaluated.
use Rattle.std.proofs.Common.{◌≡◌, Some, None, refl}
use Rattle.std.specs.Prelude.{codes}
use Rattle.std.specs.Fmt.{digits}
use Rattle.co_text.specs.Printed.{digits_text}
use Rattle.conode_explain_transfers.specs.declared.ended.Ended.{Ended}
use Rattle.conode_stats_counts.specs.declared.failure.FailureRow.{FailureRow}
use Rattle.conode_stats_counts.specs.declared.failure.Reason.{Reason}
use Rattle.conode_stats_counts.specs.declared.failure.Reason.TheVariants.{Code, NoCode, OtherSize, WrongCrc}
use Rattle.conode_stats_text.specs.declared.finding.Finding.TheVariants.{Open}
use Rattle.conode_stats_text.specs.Cells.{seconds}
use Rattle.conode_stats_text.specs.FailureLines.{counted_line, emergency_line, failure_line, open_line}
use Rattle.conode_stats_text.specs.Findings.{open_finding}
use Rattle.conode_stats_text.specs.StatsLines.{node_front}
use Rattle.conode_stats_text.proofs.NodeExamples.{ended_at}

abbrev row : Reason → FailureRow
row reason = record { cause = record { node = 5; reason = reason }; count = 12; first = 1000250; last = 3001000 }

-- ---- lines

aborted : failure_line (codes "can0") (row (Code 0x06020000)) ≡ codes "  can0: node 5 SDO transfers aborted with 06020000h: 12, the first at 1.000250, the last at 3.001000\n"
unfolding failure_line counted_line node_front seconds digits_text digits
aborted = refl

unanswered : failure_line (codes "can0") (row NoCode) ≡ codes "  can0: node 5 SDO transfers without an answer: 12, the first at 1.000250, the last at 3.001000\n"
unfolding failure_line counted_line node_front seconds digits_text digits
unanswered = refl

other_size : failure_line (codes "can0") (row OtherSize)
    ≡ codes "  can0: node 5 SDO transfers confirmed, but with another size than indicated: 12, the first at 1.000250, the last at 3.001000\n"
unfolding failure_line counted_line node_front seconds digits_text digits
other_size = refl

wrong_crc : failure_line (codes "can0") (row WrongCrc)
    ≡ codes "  can0: node 5 SDO transfers confirmed, but with a wrong CRC: 12, the first at 1.000250, the last at 3.001000\n"
unfolding failure_line counted_line node_front seconds digits_text digits
wrong_crc = refl

emergency : emergency_line (codes "can0") (row (Code 0x8110)) ≡ codes "  can0: node 5 EMCY 8110h: 12, the first at 1.000250, the last at 3.001000\n"
unfolding emergency_line counted_line node_front seconds digits_text digits
emergency = refl

reset_error : emergency_line (codes "can0") (row (Code 0)) ≡ codes "  can0: node 5 EMCY 0000h: 12, the first at 1.000250, the last at 3.001000\n"
unfolding emergency_line counted_line node_front seconds digits_text digits
reset_error = refl

short_message : emergency_line (codes "can0") (row NoCode) ≡ codes "  can0: node 5 EMCY messages without a code: 12, the first at 1.000250, the last at 3.001000\n"
unfolding emergency_line counted_line node_front seconds digits_text digits
short_message = refl

-- one alone, or several with one stamp
single : emergency_line (codes "can0") (record (row (Code 0x8110)) { count = 2; first = 3001000 }) ≡ codes "  can0: node 5 EMCY 8110h: 2, at 3.001000\n"
unfolding emergency_line counted_line node_front seconds digits_text digits
single = refl

-- ---- a transfer of 1018:01 that is open, its last frame at 2 s

module _ (transfer : Ended) where
  abbrev waiting : Ended
  waiting = record transfer { key = record { index = 0x1018; sub = 1 }; newest = 2000000 }

  for_a_second : open_finding (ended_at 3000000) (Some waiting) ≡ None
  for_a_second = refl

  for_longer : open_finding (ended_at 3000001) (Some waiting) ≡ Some (Open (record { index = 0x1018; sub = 1 }) 2000000)
  for_longer = refl

waiting_line : open_line (codes "can0") 7 (record { index = 0x1018; sub = 1 }) 2000000
    ≡ codes "  can0: node 7 SDO transfer of 1018:01 without a frame since 2.000000\n"
unfolding open_line node_front seconds digits_text digits
waiting_line = refl

-- The lines of the page about SDO transfers that failed, or are open, and about EMCY messages.
use Rattle.std.specs.Prelude.{ℕ, ◌%◌, ◌==◌, Bool, nat_lt, if◌then◌else◌, List, [], ◌∷◌, codes, decimal}
use Rattle.std.specs.List.{concat}
use Rattle.co_text.specs.Printed.{digits_text}
use Rattle.co_value.specs.declared.key.Key.{Key}
use Rattle.co_value.specs.KeyTexts.{key_text}
use Rattle.conode_explain_transfers.specs.declared.ended.Ended.{Ended}
use Rattle.conode_stats_counts.specs.declared.failure.FailureRow.{FailureRow}
use Rattle.conode_stats_counts.specs.declared.failure.Reason.{Reason}
use Rattle.conode_stats_counts.specs.declared.failure.Reason.TheVariants.{Code, NoCode, OtherSize, WrongCrc}
use Rattle.conode_stats_counts.specs.declared.tally.Tally.{Tally}
use Rattle.conode_stats_counts.specs.Tallies.{elapsed}
use Rattle.conode_stats_text.specs.Cells.{seconds}
use Rattle.conode_stats_text.specs.StatsLines.{node_front}

-- how often something of a node came, in these words with a code
abbrev pub counted_front : List ℕ → FailureRow → List ℕ → List ℕ → List ℕ → List (List ℕ) → List (List ℕ)
counted_front interface row front code after more =
    node_front interface row.cause.node ∷ front ∷ code ∷ after ∷ decimal row.count ∷ more

-- the same, and when: the stamps of the first and of the last, or the only one
unfoldable pub counted_line : List ℕ → FailureRow → List ℕ → List ℕ → List ℕ → List ℕ
counted_line interface row front code after =
    if row.first == row.last
    then concat (counted_front interface row front code after (codes ", at " ∷ seconds row.last ∷ codes "\n" ∷ []))
    else concat (counted_front interface row front code after (codes ", the first at " ∷ seconds row.first
    ∷ codes ", the last at " ∷ seconds row.last ∷ codes "\n" ∷ []))

-- transfers that failed, and why
abbrev pub failure_by : List ℕ → FailureRow → Reason → List ℕ
failure_by interface row (Code code) =
    counted_line interface row (codes " SDO transfers aborted with ") (digits_text 16 8 code) (codes "h: ")
failure_by interface row NoCode = counted_line interface row (codes " SDO transfers without an answer") [] (codes ": ")
failure_by interface row OtherSize =
    counted_line interface row (codes " SDO transfers confirmed, but with another size than indicated") [] (codes ": ")
failure_by interface row WrongCrc =
    counted_line interface row (codes " SDO transfers confirmed, but with a wrong CRC") [] (codes ": ")

unfoldable pub failure_line : List ℕ → FailureRow → List ℕ
failure_line interface row = failure_by interface row row.cause.reason

-- EMCY messages by error code
abbrev pub emergency_by : List ℕ → FailureRow → Reason → List ℕ
emergency_by interface row (Code code) = counted_line interface row (codes " EMCY ") (digits_text 16 4 (code % 65536)) (codes "h: ")
emergency_by interface row _ = counted_line interface row (codes " EMCY messages without a code") [] (codes ": ")

unfoldable pub emergency_line : List ℕ → FailureRow → List ℕ
emergency_line interface row = emergency_by interface row row.cause.reason

-- a transfer of an entry that is open at the end, with the stamp of its newest frame
unfoldable pub open_line : List ℕ → ℕ → Key → ℕ → List ℕ
open_line interface node key stamp =
    concat (node_front interface node ∷ codes " SDO transfer of " ∷ key_text key ∷ codes " without a frame since " ∷ seconds stamp
    ∷ codes "\n" ∷ [])

-- whether it had no frame for more than a second, by the tally of the bus
abbrev pub is_waiting : Tally → Ended → Bool
is_waiting all transfer = nat_lt 1000000 (elapsed all transfer.newest)

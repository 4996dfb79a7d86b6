use Rattle.std.proofs.Common.{ℕ, List, [], ◌≡◌, refl}
use Rattle.std.specs.Prelude.{codes}
use Rattle.conode_stats_counts.specs.declared.failure.FailureRow.{FailureRow}
use Rattle.conode_stats_counts.specs.declared.failure.Reason.{Reason}
use Rattle.conode_stats_counts.specs.declared.failure.Reason.TheVariants.{Code, NoCode, OtherSize, WrongCrc}
use Rattle.conode_stats_text.specs.FailureLines.{counted_line, emergency_by, emergency_line}
use Rattle.conode_stats_text.proofs.wrong.push_emergency.Goals as goal

-- the line of another reason than a code
without_code : (interface : List ℕ) (row : FailureRow) (reason : Reason) → ((code : ℕ) → reason ≡ Code code → ⊥)
    → emergency_by interface row reason ≡ counted_line interface row (codes " EMCY messages without a code") [] (codes ": ")
without_code interface row (Code code) other = absurd (other code refl)
without_code interface row NoCode other = refl
without_code interface row OtherSize other = refl
without_code interface row WrongCrc other = refl

pub returns-in-Code : goal.returns-in-Code
returns-in-Code c = unfold emergency_line in rw c.in-Code.is c.push_counted.ensures

pub returns-in_default : goal.returns-in_default
returns-in_default c =
    unfold emergency_line in
    rw (without_code c.args.interface.now c.args.row.now c.args.row.now.cause.reason c.in_default.not-Code) c.push_counted-in_default.ensures

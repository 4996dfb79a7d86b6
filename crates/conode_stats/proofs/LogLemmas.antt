-- A line of a log of which it is known that it is as `candump -L` writes it.
use Rattle.std.proofs.Common.{◌≡◌, ℕ, List, Result, Ok, Err, refl, ap}
use Rattle.conode_logs.specs.declared.log.Form.{Form}
use Rattle.conode_logs.specs.declared.log.Form.TheVariants.{Candump}
use Rattle.conode_logs.specs.declared.log.Log.{Log}
use Rattle.conode_logs.specs.Logs.{form_at, record_line_of, says, says_by}
use Rattle.conode_record.specs.declared.bad_line.BadLine.{BadLine}
use Rattle.conode_record.specs.declared.line.RecordLine.{RecordLine}
use Rattle.conode_record.specs.Lines.{line_in}
use Rattle.conode_stats.specs.Frames.{good, line_at, record_in}

same : (line : List ℕ) (read : Result RecordLine BadLine) → line_in line ≡ read → record_in line (record_line_of read) ≡ good read
same line (Ok r) is = rw is refl
same line (Err bad) is = refl

said : (log : Log) (line : List ℕ) → log.form ≡ Candump
    → says log line ≡ (record { form = Candump; clock = log.clock }, record_line_of (line_in line))
unfolding says says_by
said log line is = ap (λ (form : Form). says_by (form_at form line) log.clock line) is

pub candump_line : (log : Log) (line : List ℕ) → log.form ≡ Candump → line_at log line ≡ good (line_in line)
unfolding line_at
candump_line log line is = rw (said log line is) (same line (line_in line) refl)

pub candump_log : (log : Log) (line : List ℕ) → log.form ≡ Candump → log ≡ (says log line).0
candump_log log line is = rw (said log line is) (ap (λ (form : Form). record { form = form; clock = log.clock }) is)

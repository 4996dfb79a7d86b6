-- A line as `candump -L` writes it that is empty says nothing.
use Rattle.std.proofs.Common.{◌≡◌, [], Some, refl}
use Rattle.conode_explain.specs.LogLines.{good}
use Rattle.conode_record.specs.declared.line.RecordLine.TheVariants.{Skipped}
use Rattle.conode_record.specs.Lines.{line_in}

pub empty_line : good (line_in []) ≡ Some Skipped
unfolding line_in
empty_line = refl

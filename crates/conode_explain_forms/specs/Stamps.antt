-- Stamps in a table of values: as `explain` has them, without blanks.
use Rattle.std.specs.Prelude.{ℕ, ◌-◌, ◌/◌, ◌%◌, nat_le, if◌then◌else◌, List, ◌++◌, codes, decimal}
use Rattle.conode_explain_text.specs.declared.so_far.Times.{Times}
use Rattle.conode_explain_text.specs.declared.stamps.StampForm.{StampForm}
use Rattle.conode_explain_text.specs.declared.stamps.StampForm.TheVariants.{Relative, Absolute, Delta, Date as AsDate}
use Rattle.conode_explain_text.specs.Stamps.{micros_text, moment_text}

-- microseconds as seconds with six digits after the point
unfoldable pub seconds_text : ℕ → List ℕ
seconds_text micros = decimal (micros / 1000000) ++ codes "." ++ micros_text (micros % 1000000)

-- the time from one stamp to another, below 0 where the other is the earlier one
abbrev pub between_text : ℕ → ℕ → List ℕ
between_text from to = if nat_le from to then seconds_text (to - from) else codes "-" ++ seconds_text (from - to)

-- the stamp of a frame
abbrev pub stamp_field : StampForm → Times → List ℕ
stamp_field Relative times = between_text times.first times.now
stamp_field Absolute times = seconds_text times.now
stamp_field Delta times = between_text times.before times.now
stamp_field AsDate times = moment_text times.now

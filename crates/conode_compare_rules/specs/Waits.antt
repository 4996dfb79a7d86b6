-- Frames that may have waited until the device could send again. CiA 301 counts an inhibit time (7.5.2.18, 7.5.2.37) from when
-- a device has a frame sent, so after one that waited for a bus that couldn't be used the next one may come soon. A
-- recording shows such a moment by an error frame.
use Rattle.std.specs.Prelude.{ℕ, nat_lt, Bool, true, false, not, ◌&&◌, if◌then◌else◌, Option, Some, None, is_some}
use Rattle.std.specs.Option.{option_map_or}
use Rattle.conode_compare_rules.specs.declared.progress.Progress.{Progress}
use Rattle.conode_compare_nmt.specs.declared.leaving.Leaving.{Leaving}
use Rattle.conode_compare_nmt.specs.declared.leaving.Leaving.TheVariants.{Nothing, Awaited, Shown}
use Rattle.conode_compare_nmt.specs.declared.limits.Limits.{Limits}
use Rattle.conode_compare_nmt.specs.declared.limits.Subject.{Subject}
use Rattle.conode_compare_nmt.specs.declared.nmt.Nmt.{Nmt}
use Rattle.conode_compare_transfers.specs.Times.{is_past}

-- The first frame that shows that the device isn't stopped shows that it sends: it may have waited, and what comes within the
-- tolerance after it.
abbrev pub is_among_first : Limits → Leaving → ℕ → Bool
is_among_first limits Nothing free = false
is_among_first limits Awaited free = true
is_among_first limits (Shown micros) free = not (is_past micros limits.tolerance free)

-- So it is after an error frame, and where the recording begins anew, unless a command came since.
abbrev pub sends_first : Limits → Nmt → ℕ → Bool
sends_first limits nmt free = not (is_some nmt.commanded) && is_among_first limits nmt.leaving free

-- a frame of the device may have waited so, by when the bus was free before it
abbrev pub was_held_up : Subject → Progress → ℕ → Bool
was_held_up subject progress free = sends_first subject.limits progress.nmt free

-- ---- since when times count

abbrev pub first_shown : Leaving → Option ℕ
first_shown (Shown micros) = Some micros
first_shown leaving = None

abbrev pub later : ℕ → Option ℕ → ℕ
later stamp None = stamp
later stamp (Some other) = if nat_lt stamp other then other else stamp

-- The newest command came, with which a device may begin its times anew; where none did, the recording began, or the
-- device's first frame since.
abbrev pub counts_since : Progress → ℕ
counts_since progress = option_map_or (λ c. c.micros) progress.nmt.commanded (later progress.started (first_shown progress.nmt.leaving))

-- The exit status.
use Rattle.std.specs.Prelude.{ℕ, nat_lt, Bool, ◌&&◌, ◌||◌, if◌then◌else◌}
use Rattle.conode_lint.specs.declared.report.Counts.{Counts}

-- 2 if a file couldn't be read; else 1 with an error, or if strict with a warning; else 0
abbrev pub lint_status : Counts → Bool → ℕ
lint_status counts strict =
    if nat_lt 0 counts.unread then 2
    else (if nat_lt 0 counts.errors || (strict && nat_lt 0 counts.warnings) then 1 else 0)

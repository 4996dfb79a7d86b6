-- What numbered checks find first: the first that finds anything, and there the smallest line.
use Rattle.std.specs.Prelude.{ℕ, ◌+◌, Bool, ◌&&◌, ◌||◌, ◌==◌, nat_lt, if◌then◌else◌, List, [], ◌∷◌, Option, Some, None, option_map, Result, Ok, Err}
use Rattle.std.specs.Option.{option_or}
use Rattle.co_sheet_rows.specs.declared.fault.SheetFault.{SheetFault}
use Rattle.co_sheet.specs.declared.checks.findings.Finding.{Finding}
use Rattle.co_sheet.specs.Accepted.{least_fault}

-- a fault, as what the check of a number finds
abbrev pub found_by : ℕ → SheetFault → Finding
found_by check fault = record { check = check; fault = fault }

-- of checks that are numbered from a first one on, what the first that finds anything finds
abbrev pub first_finding : {X : Type 0} → ℕ → List (X → List SheetFault) → X → Option Finding
first_finding number [] x = None
first_finding number (check ∷ more) x =
    option_or (option_map (found_by number) (least_fault (check x)))
    (first_finding (number + 1) more x)

-- an earlier check comes first, and of the same check the smaller line
abbrev pub is_before : Finding → Finding → Bool
is_before f g = nat_lt f.check g.check || ((f.check == g.check) && nat_lt f.fault.line g.fault.line)

-- of two findings the one that comes first
abbrev pub sooner : Option Finding → Option Finding → Option Finding
sooner None g = g
sooner (Some f) None = Some f
sooner (Some f) (Some g) = Some (if is_before g f then g else f)

-- the one of all that comes first
abbrev pub soonest : {X : Type 0} → (X → Option Finding) → List X → Option Finding
soonest found [] = None
soonest found (x ∷ xs) = sooner (found x) (soonest found xs)

-- what is read, or its fault as the finding of a check
abbrev pub checked : {X : Type 0} → ℕ → Result X SheetFault → Result X Finding
checked check (Ok x) = Ok x
checked check (Err fault) = Err (found_by check fault)

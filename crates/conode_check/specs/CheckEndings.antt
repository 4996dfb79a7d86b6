-- How the check of a text ends.
use Rattle.std.specs.Prelude.{
  ◌≡◌,
  ◌⊎◌,
  ◌<◌,
  ℕ,
  Bool,
  true,
  false,
  List,
  [],
  ◌∷◌,
  ◌++◌,
  length,
  take,
  Option,
  Result,
  Ok,
  Err,
  codes,
}
use Rattle.conode_io.specs.declared.ending.Ending.{Ending}
use Rattle.conode_io.specs.declared.ending.Ending.TheVariants.{Said, Unsaid}
use Rattle.conode_io.specs.declared.fault.CmdFault.TheVariants.{Write, Memory}
use Rattle.conode_io.specs.Written.{WritesLines}
use Rattle.co_dict_build.specs.Capacities.{Limits}
use Rattle.conode_check.specs.SheetTexts.{checked_lines, is_good}

-- the line that says that memory ran out
abbrev pub memory_line : List ℕ
memory_line = codes "fault 20 Memory line 0" ++ 10 ∷ []

-- a writer's bytes have grown by some of these lines, from the first on but not all, and by that
-- line
abbrev pub SomeThenMemory : Option (List ℕ) → Option (List ℕ) → List (List ℕ) → Type 0
SomeThenMemory old new lines =
    (number : ℕ) × (number < length lines) × WritesLines old new (take number lines ++ memory_line ∷ [])

-- out of memory, or the output can't be written; said or not
abbrev pub IsCheckEnding : Ending → Type 0
IsCheckEnding ending =
    ((ending ≡ Said Memory) ⊎ (ending ≡ Unsaid Memory)) ⊎ ((ending ≡ Said Write) ⊎ (ending ≡ Unsaid Write))

-- the exit status: 0 if the text is good and all is written, else 1
abbrev pub checked_status : Result Bool Ending → ℕ
checked_status (Ok true) = 0
checked_status (Ok false) = 1
checked_status (Err ending) = 1

-- a text without a fault as a sheet, and without one of its build, is checked, and all is written of it
abbrev pub ChecksGood : Option ℕ → Limits → Option (List ℕ) → Option (List ℕ) → List ℕ → Type 0
ChecksGood node limits old new text = (is_good text node limits ≡ true) × WritesLines old new (checked_lines text node limits)

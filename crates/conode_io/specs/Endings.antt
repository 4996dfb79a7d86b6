-- How a command ended.
use Rattle.std.specs.Prelude.{ℕ, ◌<◌, List, [], ◌∷◌, ◌++◌, length, take, Option}
use Rattle.conode_io.specs.declared.ending.Ending.{Ending}
use Rattle.conode_io.specs.declared.ending.Ending.TheVariants.{Whole, Said, Unsaid}
use Rattle.conode_io.specs.declared.fault.CmdFault.{CmdFault}
use Rattle.conode_io.specs.declared.message.Message.TheVariants.{Stopped}
use Rattle.conode_io.specs.Messages.{message_line}
use Rattle.conode_io.specs.Written.{WritesLines}

-- the exit status
abbrev pub ending_status : Ending → ℕ
ending_status Whole = 0
ending_status (Said fault) = 1
ending_status (Unsaid fault) = 1

-- the line that says why a command stopped
abbrev pub stopped_line : CmdFault → List ℕ
stopped_line fault = message_line (Stopped fault)

-- a writer's bytes have grown by these lines, and by the line that says why the command stopped
abbrev pub WritesStopped : Option (List ℕ) → Option (List ℕ) → List (List ℕ) → CmdFault → Type 0
WritesStopped old new lines fault = WritesLines old new (lines ++ stopped_line fault ∷ [])

-- the same for some of these lines, from the first on, but not all
abbrev pub SomeStopped : Option (List ℕ) → Option (List ℕ) → List (List ℕ) → CmdFault → Type 0
SomeStopped old new lines fault =
    (number : ℕ) × (number < length lines) × WritesStopped old new (take number lines) fault

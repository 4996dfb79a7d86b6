-- What a command comes to whose status is 0, by the text of a data sheet.
use Rattle.std.specs.Prelude.{ℕ, List, [], Option, IsSomeAnd}
use Rattle.std.specs.Option.{option_or}
use Rattle.co_sheet.specs.Content.{IsSheet, SheetContent}
use Rattle.co_node.specs.declared.config.Config.{Config}
use Rattle.co_node.specs.Nodes.{built_constants, planned}
use Rattle.co_node_model.specs.Moments.{Constants}
use Rattle.conode_device.specs.Runs.{ReplaysAll}

-- This text is a data sheet, and Does holds of the device of it with this configuration, at the given
-- node-ID, or else the sheet's own.
abbrev pub OfSheet : List ℕ → Option ℕ → Config → (Constants → Type 0) → Type 0
OfSheet text node config Does =
    (content : SheetContent) × IsSheet text content
    × IsSomeAnd (option_or node content.node_id) (λ id. Does (built_constants (planned content id config) config.time))

-- it has replayed a whole trace without a bad line, and all lines are written
abbrev pub ReplaysTrace : Option (List ℕ) → Option (List ℕ) → Constants → Type 0
ReplaysTrace old new k = (trace : List ℕ) × ReplaysAll k [] old new trace

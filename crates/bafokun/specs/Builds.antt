-- A device that is built for C, or the fault.
use Rattle.std.specs.Prelude.{◌≡◌, ℕ, List, [], length, Option, Some, None, option_map}
use Rattle.std.specs.Box.{boxed_slice_items}
use Rattle.co_sheet_rows.specs.declared.fault.SheetFault.{SheetFault}
use Rattle.co_sheet.specs.Accepted.{IsAnswered, first_fault}
use Rattle.co_sheet.specs.Content.{SheetContent, IsSheet, IsWhole}
use Rattle.co_dict.specs.Places.{key_at}
use Rattle.co_dict.specs.Stores.{IsGreatestCapacity}
use Rattle.co_dict_build.specs.declared.build_fault.BuildFault.{BuildFault}
use Rattle.co_dict_build.specs.declared.build_fault.BuildFault.TheVariants.{Memory}
use Rattle.co_dict_build.specs.BuildFaults.{IsBuildFault, build_fault}
use Rattle.co_dict_build.specs.Built.{Plan, plan_of, built_description}
use Rattle.co_dict_build.specs.Capacities.{Limits}
use Rattle.co_node.specs.declared.node.Node.{Node}
use Rattle.co_node.specs.Nodes.{Stands, node_constants}
use Rattle.bafokun.specs.declared.build.Settings.{Settings}
use Rattle.bafokun.specs.declared.build.Fault.{Fault}
use Rattle.bafokun.specs.Faults.{device_fault, sheet_fault}
use Rattle.bafokun.specs.Changes.{no_changes}
use Rattle.bafokun.specs.Ending.{no_error}
use Rattle.bafokun.specs.Happened.{no_events}
use Rattle.bafokun.specs.declared.held.Held.{Held}
use Rattle.bafokun.specs.declared.handle.Handle.{Handle}
use Rattle.co_sheet_changes.specs.Originals.{original_at}
use Rattle.co_dict_table.specs.Entries.{EntryContent, contents_of_rows, entry_at}

-- the capacities of strings and of domains; no entry has one of its own
abbrev pub limits_for : Settings → Limits
limits_for settings = record { strings = settings.strings; domains = settings.domains; own = [] }

-- the plan of a dictionary by a data sheet, a node-ID and settings
abbrev pub plan_for : ℕ → Settings → SheetContent → Plan
plan_for node settings sheet = plan_of node (limits_for settings) sheet

-- ---- both outcomes

-- this node was built from this sheet, and has had no input
pub record IsNodeOf (node : ℕ) (settings : Settings) (sheet : SheetContent) (made : Node) : Type 0 where
  pub accepted : build_fault (plan_for node settings sheet) ≡ None
  pub stands : (greatest : ℕ)
      → IsGreatestCapacity (built_description (plan_for node settings sheet)).rows greatest
      → Stands (node_constants (plan_for node settings sheet) greatest settings.time) made []

-- a node is held with this entry table and these changes, nothing happened to it, and no error is
-- known
pub record IsHeld (made : Node) (table : List EntryContent) (bits : List ℕ) (held : Held) : Type 0 where
  pub node : held.node ≡ made
  pub entries : held.entries ≡ table
  pub changes : boxed_slice_items held.changes ≡ bits
  pub events : held.events ≡ no_events
  pub ending : held.ending ≡ no_error

-- this device was built from this sheet; it has the entry table of the sheet, with these original
-- types by section lines, and the number of an entry is its place in the dictionary; there is a bit
-- for each entry, and none of them is set; nothing happened, and no error is known
pub record IsHeldOf (originals : ℕ → Option (List ℕ)) (node : ℕ) (settings : Settings) (sheet : SheetContent) (held : Held) : Type 0 where
  pub is_built : IsNodeOf node settings sheet held.node
  pub entries : held.entries ≡ contents_of_rows originals (limits_for settings) sheet.rows
  pub numbered : (number : ℕ) → key_at (built_description (plan_for node settings sheet)) number
      ≡ option_map (λ e. e.facts.key) (entry_at held.entries number)
  pub changes : boxed_slice_items held.changes ≡ no_changes (length held.entries)
  pub events : held.events ≡ no_events
  pub ending : held.ending ≡ no_error

-- this device was built from a text
pub record IsBuilt (text : List ℕ) (node : ℕ) (settings : Settings) (held : Held) : Type 0 where
  pub sheet : SheetContent
  pub is_sheet : IsSheet text sheet
  pub is_whole : IsWhole text sheet
  pub is_held : IsHeldOf (original_at text) node settings sheet held

-- the content of a place was built from a text
abbrev pub IsFilled : List ℕ → ℕ → Settings → Option Held → Type 0
IsFilled text node settings None = ⊥
IsFilled text node settings (Some held) = IsBuilt text node settings held

-- a place has a device that was built from a text
abbrev pub IsPlaced : List ℕ → ℕ → Settings → Handle → Type 0
IsPlaced text node settings place = IsFilled text node settings place.seal.value

-- no device was built of a plan: it has a fault, or memory ran out
pub data IsUnbuilt (plan : Plan) (fault : Fault) : Type 0 where
  ByFault : (f : BuildFault) → IsBuildFault plan f → fault ≡ device_fault f → IsUnbuilt plan fault
  ByMemory : fault ≡ device_fault Memory → IsUnbuilt plan fault

-- no device was built of a text: the text or the device of its sheet has a fault, or memory ran out
pub data IsRefused (text : List ℕ) (node : ℕ) (settings : Settings) (fault : Fault) : Type 0 where
  OfText : (f : SheetFault) → IsAnswered (first_fault text) f → fault ≡ sheet_fault f
      → IsRefused text node settings fault
  OfDevice : (sheet : SheetContent) → IsSheet text sheet → (f : BuildFault)
      → IsBuildFault (plan_for node settings sheet) f → fault ≡ device_fault f → IsRefused text node settings fault
  OfMemory : fault ≡ device_fault Memory → IsRefused text node settings fault

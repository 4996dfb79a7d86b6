-- A device made from a data sheet.
use Rattle.std.specs.Prelude.{ℕ}
use Rattle.std.specs.Box.{boxed_slice_items}
use Rattle.co_dict.specs.Rows.{Contents}
use Rattle.co_dict.specs.Stores.{Description, greatest_capacity}
use Rattle.co_sheet.specs.Content.{SheetContent}
use Rattle.co_dict_image.specs.declared.image_store.ImageStore.{ImageStore}
use Rattle.co_dict_image.specs.Slots.{entries_in}
use Rattle.co_dict_build.specs.Built.{Plan, plan_of, built_description, built_contents}
use Rattle.co_dict_build.specs.Capacities.{limits_view}
use Rattle.co_dict_build.specs.ListedEntries.{description_in, contents_in}
use Rattle.co_node_model.specs.Inputs.{Inputs}
use Rattle.co_node_model.specs.Moments.{Constants}
use Rattle.co_node_device.specs.Built.{constants_of}
use Rattle.co_node_device.specs.NodeStanding.{NodeStands}
use Rattle.co_node.specs.declared.config.Config.{Config}
use Rattle.co_node.specs.declared.node.Node.{Node}

-- the plan of a dictionary by a data sheet, a node-ID and a configuration
abbrev pub planned : SheetContent → ℕ → Config → Plan
planned sheet node config = plan_of node (limits_view config.limits) sheet

-- what never changes of the device of a plan, by the greatest capacity of its entries, in bytes,
-- and the SDO timeout in ms
abbrev pub node_constants : Plan → ℕ → ℕ → Constants
node_constants plan greatest time = constants_of (built_description plan) (built_contents plan) greatest time

-- what never changes of the device of a plan, with this SDO timeout in ms
abbrev pub built_constants : Plan → ℕ → Constants
built_constants plan time = node_constants plan (greatest_capacity (built_description plan)) time

-- the description and the contents of its dictionary
abbrev pub description_of : ImageStore → Description
description_of store = description_in store.node_id store.dummies (entries_in (boxed_slice_items store.values) (boxed_slice_items store.initial) (boxed_slice_items store.slots))

abbrev pub entries_of : ImageStore → Contents
entries_of store = contents_in (entries_in (boxed_slice_items store.values) (boxed_slice_items store.initial) (boxed_slice_items store.slots))

-- this device is in the state after these inputs, newest first
abbrev pub Stands : Constants → Node → Inputs → Type 0
Stands k node inputs =
    NodeStands k (description_of node.device.store) (entries_of node.device.store) node.device.parts inputs

-- The entries of a device that stands are those of a dictionary.
use Rattle.std.proofs.Common.{subst}
use Rattle.co_dict.specs.Stores.{Description, IsDictionary}
use Rattle.co_dict_build.specs.LawfulLists.{lawful_list}
use Rattle.co_dict_image.specs.LawfulImages.{are_entries}
use Rattle.co_dict_image.specs.Slots.{entries_in}
use Rattle.co_dict_image.specs.declared.image_store.ImageStore.{ImageStore}
use Rattle.co_node_model.specs.Inputs.{Inputs}
use Rattle.co_node_model.specs.Moments.{Constants}
use Rattle.co_node_model.specs.Device.{contents_of}
use Rattle.co_node.specs.declared.node.Node.{Node}
use Rattle.co_node.specs.Nodes.{Stands, description_of, entries_of}

of_store : (store : ImageStore) → IsDictionary (description_of store) (entries_of store)
of_store store = lawful_list store.node_id store.dummies (entries_in store.values.items.items store.initial.items.items store.slots.items.items)
    (are_entries store.values.items.items store.initial.items.items store.slots.items.items store.lined store.same store.bytes store.initial_bytes)
    store.first_node store.last_node store.six

pub stand_on : (k : Constants) (node : Node) (before : Inputs) → Stands k node before → IsDictionary k.description (contents_of k before)
stand_on k node before stands =
    subst (IsDictionary k.description) stands.contents
    (subst (λ (d : Description). IsDictionary d (entries_of node.device.store)) stands.description (of_store node.device.store))

-- The entries up to one have been reset; how many there are, the node-ID and the dummies are as they were.
use Rattle.std.proofs.Common.{◌≡◌, length}
use Rattle.co_dict_build.proofs.Changes.{AreResetUpTo}
use Rattle.co_dict_image.specs.Images.{entries_of}
use Rattle.co_dict_image.proofs.image_store.ImageStoreObjectStore.reset.Given as goal

abbrev pub invariant-loop-at : goal.invariant-loop-at
invariant-loop-at l =
    record {
      up_to : AreResetUpTo l.area (entries_of l.fn.self) (entries_of l.self) l.at;
      node : l.self.node_id ≡ l.fn.self.node_id;
      dummies : l.self.dummies ≡ l.fn.self.dummies;
      slots : length l.self.slots.items.items ≡ length l.fn.self.slots.items.items;
    }

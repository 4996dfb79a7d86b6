-- The entries of an image, and what setting one makes of them.
use Rattle.std.specs.Prelude.{ℕ, List}
use Rattle.std.specs.Box.{boxed_slice_items}
use Rattle.std.specs.List.{slice_index_or, slice_set}
use Rattle.co_dict_build.specs.ListedEntries.{ListedEntry}
use Rattle.co_dict_image.specs.declared.image_store.ImageStore.{ImageStore}
use Rattle.co_dict_image.specs.Slots.{entries_in}

-- the entries of an image
abbrev pub entries_of : ImageStore → List ListedEntry
entries_of store = entries_in (boxed_slice_items store.values) (boxed_slice_items store.initial) (boxed_slice_items store.slots)

-- the entries, of which the one at a place has other bytes
abbrev pub filled_at : List ListedEntry → ℕ → ListedEntry → List ℕ → List ListedEntry
filled_at entries at d bytes = slice_set entries at (record (slice_index_or entries at d) { bytes = bytes })

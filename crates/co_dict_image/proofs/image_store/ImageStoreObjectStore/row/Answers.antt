use Rattle.std.proofs.Common.{Some, ap, ◌∙◌}
use Rattle.co_dict_build.proofs.Places.{part_at-place, part_at-no_place}
use Rattle.co_dict_image.specs.Slots.{entry_in}
use Rattle.co_dict_image.specs.Images.{entries_of}
use Rattle.co_dict_image.proofs.Entries.{number_is_place}
use Rattle.co_dict_image.proofs.Puts.{entry_at_slot}
use Rattle.co_dict_image.proofs.image_store.ImageStoreObjectStore.row.Goals as goal

pub returns-in_err-at : goal.returns-in_err-at
returns-in_err-at c =
    let s = c.args.self.now in
    c.from_residual.ensures ∙ part_at-no_place (λ e. e.row) (entries_of s) c.args.key (c.in_err-at.ensures ∙ number_is_place s.values.items.items s.initial.items.items s.slots.items.items c.args.key)

pub returns : goal.returns
returns c =
    let s = c.args.self.now in
    let slot = c.index.result.now in
    ap (λ v. Some v.row) (entry_at_slot s.values.items.items s.initial.items.items s.slots.items.items c.in_ok-at.at slot c.index.ensures)
    ∙ part_at-place (λ e. e.row) (entries_of s) c.args.key c.in_ok-at.at (entry_in s.values.items.items s.initial.items.items slot) (c.in_ok-at.ensures ∙ number_is_place s.values.items.items s.initial.items.items s.slots.items.items c.args.key)

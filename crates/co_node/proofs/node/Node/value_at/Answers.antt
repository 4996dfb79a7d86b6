use Rattle.std.proofs.Common.{ap, ◌∙◌}
use Rattle.std.specs.Option.{option_and_then}
use Rattle.co_dict.specs.Rows.{Contents}
use Rattle.co_dict.specs.Places.{bytes_at}
use Rattle.co_dict_image.specs.declared.image_store.ImageStore.{ImageStore}
use Rattle.co_node.specs.Nodes.{description_of, entries_of}
use Rattle.co_node.proofs.node.Node.value_at.Goals as goal

pub returns-in-Some : goal.returns-in-Some
returns-in-Some c = λ k before stands.
    c.bytes_at.ensures
    ∙ ap (λ (store : ImageStore). bytes_at (description_of store) (entries_of store) c.in-Some.place) c.store.ensures
    ∙ ap (option_and_then (entries_of c.args.self.now.device.store)) c.in-Some.ensures
    ∙ ap (λ (entries : Contents). entries c.args.key) stands.contents

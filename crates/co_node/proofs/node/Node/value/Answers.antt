use Rattle.std.proofs.Common.{ap, ◌∙◌}
use Rattle.co_dict.specs.Rows.{Contents}
use Rattle.co_dict_image.specs.declared.image_store.ImageStore.{ImageStore}
use Rattle.co_node.specs.Nodes.{entries_of}
use Rattle.co_node.proofs.node.Node.value.Goals as goal

pub returns : goal.returns
returns c = λ k before stands.
    c.bytes.ensures
    ∙ ap (λ (store : ImageStore). entries_of store c.args.key) c.store.ensures
    ∙ ap (λ (entries : Contents). entries c.args.key) stands.contents

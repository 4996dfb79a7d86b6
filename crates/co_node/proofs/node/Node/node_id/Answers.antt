use Rattle.std.proofs.Common.{ap, ◌∙◌}
use Rattle.co_dict.specs.Stores.{Description}
use Rattle.co_dict_image.specs.declared.image_store.ImageStore.{ImageStore}
use Rattle.co_node.specs.Nodes.{description_of}
use Rattle.co_node.proofs.node.Node.node_id.Goals as goal

pub returns : goal.returns
returns c = λ k before stands.
    c.node_id.ensures.node
    ∙ ap (λ (store : ImageStore). (description_of store).node) c.store.ensures
    ∙ ap (λ (d : Description). d.node) stands.description

use Rattle.std.proofs.Common.{◌≡◌, ap, ◌∙◌}
use Rattle.co_sdo.specs.Events.{number_for}
use Rattle.co_node_model.specs.Addresses.{address_of}
use Rattle.co_node_model.specs.Moments.{channels, contents_at}
use Rattle.co_node_model.specs.Sdo.{channel_logs}
use Rattle.co_node_device.proofs.addresses.find_address.Goals as goal

pub returns : goal.returns
returns c = λ k history d stand table.
    let number : c.channel_for-channel.result ≡ number_for (channels k) c.args.frame.now.id =
    c.channel_for-channel.ensures.number d (channels k) (channel_logs history) stand
    ∙ ap (λ id. number_for (channels k) id) c.id-id.ensures.id in
    c.address_of.ensures (contents_at k history) (c.is_sync.ensures _ table) (c.rpdo_for.ensures _ table)
    ∙ ap (λ q. address_of q (contents_at k history) c.id-id.result) number
    ∙ ap (λ id. address_of (number_for (channels k) c.args.frame.now.id) (contents_at k history) id) c.id-id.ensures.id

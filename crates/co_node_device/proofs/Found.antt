-- The addressee of a frame is found, whatever came before.
use Rattle.std.proofs.Common.{◌≡◌, ℕ, subst}
use Rattle.co_dict.specs.Rows.{Contents}
use Rattle.co_dict.specs.Stores.{Description}
use Rattle.co_sdo.specs.Banks.{BankStands}
use Rattle.co_node_device.specs.AddressTables.{IsTableOf}
use Rattle.co_node_model.specs.Inputs.{Inputs}
use Rattle.co_node_model.specs.declared.address.Address.{Address}
use Rattle.co_node_model.specs.Moments.{Constants, History, channels, contents_at}
use Rattle.co_node_model.specs.Sdo.{channel_logs}
use Rattle.co_node_model.specs.Addresses.{address_at}
use Rattle.co_node_model.specs.Device.{moments}
use Rattle.co_node_device.specs.declared.parts.Parts.{Parts}
use Rattle.co_node_device.specs.NodeStanding.{NodeStands}

pub found : {d : Description} {entries : Contents} {parts : Parts} (id : ℕ) (address : Address)
    → ((k : Constants) (history : History) (d : Description) → BankStands d (channels k) parts.bank (channel_logs history)
    → IsTableOf (contents_at k history) parts.addresses → address ≡ address_at k history id)
    → (k : Constants) (inputs : Inputs) → NodeStands k d entries parts inputs → address ≡ address_at k (moments k inputs) id
found {d} {entries} {parts} id address is k inputs ns = is k (moments k inputs) d ns.channels
    (subst (λ (e : Contents). IsTableOf e parts.addresses) ns.contents ns.addresses)

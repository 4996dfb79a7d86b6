-- A device of a plan, by its dictionary.
use Rattle.std.proofs.Common.{◌≡◌, ℕ, [], sym, ap, ◌∙◌, subst}
use Rattle.co_value.specs.declared.key.Key.{Key}
use Rattle.co_dict.specs.Rows.{Contents}
use Rattle.co_dict.specs.Stores.{Description, IsGreatestCapacity, greatest_capacity}
use Rattle.co_dict.proofs.GreatestCapacity.{one_greatest}
use Rattle.co_dict_build.specs.Built.{Plan, built_description, built_contents}
use Rattle.co_node_model.specs.Moments.{Constants}
use Rattle.co_node_device.specs.declared.parts.Parts.{Parts}
use Rattle.co_node_device.specs.Built.{constants_of}
use Rattle.co_node_device.specs.NodeStanding.{NodeStands}
use Rattle.co_node.specs.Nodes.{built_constants, node_constants}
use Rattle.co_node.proofs.Greatest.{is_greatest}

-- what the entries of a dictionary that a plan makes are, they are by the plan
pub starts_by_plan : (plan : Plan) (d : Description) (contents : Contents) (key : Key)
    → d ≡ built_description plan → contents ≡ built_contents plan → contents key ≡ d.initial key
    → built_contents plan key ≡ (built_description plan).initial key
starts_by_plan plan d contents key made filled same =
    ap (λ (c : Contents). c key) (sym filled) ∙ same ∙ ap (λ (d : Description). d.initial key) made

-- what stands by a dictionary that a plan makes stands by the plan
pub stands_by_plan : (plan : Plan) (d : Description) (contents : Contents) (time : ℕ) (now : Description) (entries : Contents) (parts : Parts)
    → d ≡ built_description plan → contents ≡ built_contents plan → NodeStands (constants_of d contents (greatest_capacity d) time) now entries parts []
    → NodeStands (built_constants plan time) now entries parts []
stands_by_plan plan d contents time now entries parts made filled stands =
    subst (λ (k : Constants). NodeStands k now entries parts [])
    (ap (λ (d : Description). constants_of d contents (greatest_capacity d) time) made
    ∙ ap (λ (c : Contents). constants_of (built_description plan) c (greatest_capacity (built_description plan)) time) filled)
    stands

-- and by each number that is the greatest capacity
pub stands_by_greatest : (plan : Plan) (greatest time : ℕ) (now : Description) (entries : Contents) (parts : Parts)
    → IsGreatestCapacity (built_description plan).rows greatest → NodeStands (built_constants plan time) now entries parts []
    → NodeStands (node_constants plan greatest time) now entries parts []
stands_by_greatest plan greatest time now entries parts asked stands =
    subst (λ (n : ℕ). NodeStands (node_constants plan n time) now entries parts [])
    (one_greatest (built_description plan).rows _ greatest (is_greatest plan) asked) stands

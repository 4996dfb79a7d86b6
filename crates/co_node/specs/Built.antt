-- A device built from a data sheet.
use Rattle.std.specs.Prelude.{◌≡◌, None}
use Rattle.co_dict_build.specs.Built.{Plan, built_contents, built_description}
use Rattle.co_dict_build.specs.BuildFaults.{build_fault}
use Rattle.co_node_model.specs.Moments.{Constants}

-- the constants of a device built from a data sheet without a fault: the description and the first
-- contents of its dictionary
pub record IsBuilt (plan : Plan) (k : Constants) : Type 0 where
  pub faultless : build_fault plan ≡ None
  pub description : k.description ≡ built_description plan
  pub start : k.start ≡ built_contents plan

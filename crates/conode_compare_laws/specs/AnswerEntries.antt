-- What the laws about the data of answers ask of a device's entries.
use Rattle.std.specs.Prelude.{List, [], ◌∷◌}
use Rattle.co_dict.specs.Stores.{IsDictionary}
use Rattle.co_node_model.specs.Device.{contents_of}
use Rattle.co_node_model.specs.Inputs.{Inputs}
use Rattle.co_node_model.specs.Moments.{Constants}
use Rattle.conode_compare_laws.specs.Recordings.{Stamped}

-- before each of these inputs, which come after those before, the entries are those of a dictionary,
-- as each store ensures: their bytes fit them
abbrev pub AllAreHeld : Constants → Inputs → List Stamped → Type 0
AllAreHeld k before [] = Unit {0}
AllAreHeld k before (s ∷ later) = IsDictionary k.description (contents_of k before) × AllAreHeld k (s.input ∷ before) later

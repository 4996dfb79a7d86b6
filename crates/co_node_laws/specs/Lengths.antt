-- The conditions under which no input sends more frames than its bound.
use Rattle.std.specs.Prelude.{[], ◌∷◌}
use Rattle.co_dict.specs.Stores.{IsDictionary}
use Rattle.co_node_model.specs.Inputs.{InputView, Inputs}
use Rattle.co_node_model.specs.Moments.{Constants}
use Rattle.co_node_model.specs.Device.{contents_of}

-- the entries at the end of one more input are those of a dictionary
pub record HasParts (k : Constants) (inputs : Inputs) (input : InputView) : Type 0 where
  pub dictionary : IsDictionary k.description (contents_of k (input ∷ inputs))

-- the entries were those of a dictionary when the device was built, and at the end of each input
abbrev pub AllDictionaries : Constants → Inputs → Type 0
AllDictionaries k [] = IsDictionary k.description k.start
AllDictionaries k (input ∷ inputs) = IsDictionary k.description (contents_of k (input ∷ inputs)) × AllDictionaries k inputs

-- That the premise on a device's parts can be met: a device without entries, computed from the definitions.
use Rattle.std.proofs.Common.{false, [], None, refl, arith}
use Rattle.co_dict.specs.Stores.{IsFilled, IsDescription}
use Rattle.co_node_model.specs.Inputs.{Ticked}
use Rattle.co_node_model.specs.Moments.{Constants}
use Rattle.co_node_model.proofs.ExampleNode.{start, searches}
use Rattle.co_node_laws.specs.Lengths.{HasParts}

abbrev empty : Constants
empty = record {
  description = record { node = 5; rows = λ key. None; initial = λ key. None; dummies = λ index. false; keys = [] };
  start = λ key. None;
  greatest = 0;
  time = 0;
}

is_filled : IsFilled (λ key. None) (λ key. None)
is_filled = record { present = λ key. refl; fitting = λ key row bytes e f. absurd (cc); bytes = λ key bytes e. absurd (cc) }

is_description : IsDescription empty.description
is_description = record {
  first_node = omega arith;
  last_node = omega arith;
  finite = λ key. refl;
  width = λ key row width e f. absurd (cc);
  fixed = λ key row t e f. absurd (cc);
  key = λ key row e. absurd (cc);
  from_1000 = λ key row e. absurd (cc);
  capacity = λ key row e. absurd (cc);
  limits = λ key row e. absurd (cc);
  dummies = λ index e. absurd (cc);
}

at_tick : HasParts empty [] Ticked
unfolding searches
at_tick = record { dictionary = record { description = is_description; initially = is_filled; filled = is_filled } }

at_start : HasParts empty [] start
unfolding searches
at_start = record { dictionary = record { description = is_description; initially = is_filled; filled = is_filled } }

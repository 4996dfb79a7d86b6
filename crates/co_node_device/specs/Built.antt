-- What never changes of a device that is built.
use Rattle.std.specs.Prelude.{ℕ}
use Rattle.co_dict.specs.Rows.{Contents}
use Rattle.co_dict.specs.Stores.{Description}
use Rattle.co_node_model.specs.Moments.{Constants}

-- by its dictionary, the greatest capacity of an entry, and the SDO timeout in ms
abbrev pub constants_of : Description → Contents → ℕ → ℕ → Constants
constants_of d contents greatest time = record { description = d; start = contents; greatest = greatest; time = time }

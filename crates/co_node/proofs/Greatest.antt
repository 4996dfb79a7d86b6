-- The greatest capacity of the entries that a plan makes: none has more, and one has as much, if there is any.
use Rattle.co_dict.specs.Stores.{IsGreatestCapacity, greatest_capacity}
use Rattle.co_dict.proofs.GreatestCapacity.{greatest_at}
use Rattle.co_dict_build.specs.Built.{Plan, built, built_description}
use Rattle.co_dict_build.specs.LawfulLists.{list_has}
use Rattle.co_dict_build.specs.ListedEntries.{keys_in, rows_in}

pub is_greatest : (plan : Plan) → IsGreatestCapacity (built_description plan).rows (greatest_capacity (built_description plan))
is_greatest plan = greatest_at (rows_in (built plan)) (keys_in (built plan)) (list_has (built plan))

-- The value fits its entry.
use Rattle.std.proofs.Common.{◌∙◌}
use Rattle.co_sdo.proofs.StoreLemmas.{bytes_fit}
use Rattle.co_sdo.proofs.refusals.readable_value.Goals as goal

pub returns-clause-few : goal.returns-clause-few
returns-clause-few g c = bytes_fit _ _ _ _ c.store_laws.ensures (c.in-Some.ensures ∙ c.place_laws.ensures.bytes c.args.key c.in_ok-place.place c.in_ok-place.ensures.place)

use Rattle.std.proofs.Common.{sym, ◌∙◌}
use Rattle.co_sdo.proofs.channels.receiver_byte.Goals as goal

pub returns-in-Some : goal.returns-in-Some
returns-in-Some c = sym c.in-Some.is ∙ c.receiver_place.ensures

pub returns-in-None : goal.returns-in-None
returns-in-None c = sym c.in-None.is ∙ c.receiver_place.ensures

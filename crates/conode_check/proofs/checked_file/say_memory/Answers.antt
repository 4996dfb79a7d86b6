use Rattle.std.specs.Fmt.{digits}
use Rattle.conode_check.proofs.checked_file.say_memory.Goals as goal

pub returns-in-Ok-clause-said : goal.returns-in-Ok-clause-said
unfolding digits
returns-in-Ok-clause-said g c said = c.in-Ok.ensures

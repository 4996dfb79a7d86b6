use Rattle.std.proofs.Common.{refl}
use Rattle.std.specs.Fmt.{digits}
use Rattle.conode_show.proofs.shown_file.large_reason.Goals as goal

pub returns-in-None : goal.returns-in-None
unfolding digits
returns-in-None c = rw c.in-None.is refl

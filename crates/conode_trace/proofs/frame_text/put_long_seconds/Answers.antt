use Rattle.std.proofs.Common.{rules}
use Rattle.conode_trace.proofs.TenDigits.{seconds_text-long}
use Rattle.conode_trace.proofs.frame_text.put_long_seconds.Goals as goal

pub returns-clause-items : goal.returns-clause-items
returns-clause-items c = rw (seconds_text-long c.args.seconds c.requires.long) (search rules)

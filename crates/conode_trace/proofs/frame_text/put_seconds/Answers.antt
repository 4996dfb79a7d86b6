use Rattle.std.proofs.Common.{append_assoc, rules, arith}
use Rattle.conode_trace.proofs.TenDigits.{seconds_text-ten}
use Rattle.conode_trace.proofs.frame_text.put_seconds.Goals as goal

pub returns-clause-items : goal.returns-clause-items
returns-clause-items c = rw (seconds_text-ten c.args.seconds (omega arith)) (search (rules, append_assoc))

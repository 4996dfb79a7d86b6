use Rattle.std.proofs.Common.{sym}
use Rattle.co_text.proofs.Pairs.{read_more}
use Rattle.conode_record.proofs.content.FdBytes.bytes.Goals as goal

pub loop-byte-preserved : goal.loop-byte-preserved
loop-byte-preserved c = rw c.push.ensures.items (read_more c.self.inside.text.now c.loop-byte.bytes.items c.loop-byte.rest.now c.in-Some.byte c.in-Some.after.now c.loop-byte.invariant (sym c.in-Some.ensures.exact))

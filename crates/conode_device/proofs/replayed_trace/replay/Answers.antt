use Rattle.conode_device.specs.Runs.{HasEnded}
use Rattle.conode_device.proofs.Ends.{bad_line_named, not_made, not_written, until_bad, whole_ended, whole_good, within_line}
use Rattle.conode_device.proofs.replayed_trace.replay.Goals as goal

pub returns-clause-good : goal.returns-clause-good
returns-clause-good g c = whole_good (λ k before. HasEnded k before (g.W.Write.contents c.args.writer.now) (g.W.Write.contents c.replay_from.new.writer) c.replay_from.new.node) c.args.node.now c.replay_from.new.node (g.R.Read.remaining c.args.reader.now) (g.R.Read.remaining c.replay_from.new.reader) (g.W.Write.contents c.args.writer.now) (g.W.Write.contents c.replay_from.new.writer) c.replay_from.result c.replay_from.ensures.known

pub returns-clause-ended : goal.returns-clause-ended
returns-clause-ended g c = whole_ended (λ k before. HasEnded k before (g.W.Write.contents c.args.writer.now) (g.W.Write.contents c.replay_from.new.writer) c.replay_from.new.node) c.args.node.now c.replay_from.new.node (g.R.Read.remaining c.args.reader.now) (g.R.Read.remaining c.replay_from.new.reader) (g.W.Write.contents c.args.writer.now) (g.W.Write.contents c.replay_from.new.writer) c.replay_from.result c.replay_from.ensures.known

pub returns-clause-bad_line : goal.returns-clause-bad_line
returns-clause-bad_line g c number said = bad_line_named (λ k before. HasEnded k before (g.W.Write.contents c.args.writer.now) (g.W.Write.contents c.replay_from.new.writer) c.replay_from.new.node) c.args.node.now c.replay_from.new.node (g.R.Read.remaining c.args.reader.now) (g.R.Read.remaining c.replay_from.new.reader) (g.W.Write.contents c.args.writer.now) (g.W.Write.contents c.replay_from.new.writer) c.replay_from.result number said c.replay_from.ensures.known

pub returns-clause-until_bad : goal.returns-clause-until_bad
returns-clause-until_bad g c number said = until_bad (λ k before. HasEnded k before (g.W.Write.contents c.args.writer.now) (g.W.Write.contents c.replay_from.new.writer) c.replay_from.new.node) c.args.node.now c.replay_from.new.node (g.R.Read.remaining c.args.reader.now) (g.R.Read.remaining c.replay_from.new.reader) (g.W.Write.contents c.args.writer.now) (g.W.Write.contents c.replay_from.new.writer) c.replay_from.result number said c.replay_from.ensures.known

pub returns-clause-unread : goal.returns-clause-unread
returns-clause-unread g c = within_line (λ k before. HasEnded k before (g.W.Write.contents c.args.writer.now) (g.W.Write.contents c.replay_from.new.writer) c.replay_from.new.node) c.args.node.now c.replay_from.new.node (g.R.Read.remaining c.args.reader.now) (g.R.Read.remaining c.replay_from.new.reader) (g.W.Write.contents c.args.writer.now) (g.W.Write.contents c.replay_from.new.writer) c.replay_from.result c.replay_from.ensures.known

pub returns-clause-write : goal.returns-clause-write
returns-clause-write g c said = not_written (λ k before. HasEnded k before (g.W.Write.contents c.args.writer.now) (g.W.Write.contents c.replay_from.new.writer) c.replay_from.new.node) c.args.node.now c.replay_from.new.node (g.R.Read.remaining c.args.reader.now) (g.R.Read.remaining c.replay_from.new.reader) (g.W.Write.contents c.args.writer.now) (g.W.Write.contents c.replay_from.new.writer) c.replay_from.result said c.replay_from.ensures.known

pub returns-clause-memory : goal.returns-clause-memory
returns-clause-memory g c said = not_made (λ k before. HasEnded k before (g.W.Write.contents c.args.writer.now) (g.W.Write.contents c.replay_from.new.writer) c.replay_from.new.node) c.args.node.now c.replay_from.new.node (g.R.Read.remaining c.args.reader.now) (g.R.Read.remaining c.replay_from.new.reader) (g.W.Write.contents c.args.writer.now) (g.W.Write.contents c.replay_from.new.writer) c.replay_from.result said c.replay_from.ensures.known

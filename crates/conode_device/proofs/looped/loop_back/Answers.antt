use Rattle.co_node_model.specs.Loop.{download_of, first_ends}
use Rattle.conode_device.proofs.Completed.{is_complete}
use Rattle.conode_device.proofs.Writings.{looped_memory, looped_node, looped_state, looped_text, looped_write}
use Rattle.conode_device.proofs.looped.loop_back.Goals as goal

pub returns-clause-state : goal.returns-clause-state
returns-clause-state g c = λ k before stands.
    looped_state (download_of k c.args.key c.args.bytes.now c.args.mode) (first_ends (download_of k c.args.key c.args.bytes.now c.args.mode) before) c.loop_download.new.node (g.W.Write.contents c.args.writer.now) (g.W.Write.contents c.loop_download.new.writer) c.loop_download.result (c.loop_download.ensures.looped k before stands).ended

pub returns-clause-text : goal.returns-clause-text
returns-clause-text g c = λ k before stands.
    looped_text (download_of k c.args.key c.args.bytes.now c.args.mode) (first_ends (download_of k c.args.key c.args.bytes.now c.args.mode) before) c.loop_download.new.node (g.W.Write.contents c.args.writer.now) (g.W.Write.contents c.loop_download.new.writer) c.loop_download.result (c.loop_download.ensures.looped k before stands).ended

pub returns-clause-node : goal.returns-clause-node
returns-clause-node g c = λ k before stands.
    looped_node (download_of k c.args.key c.args.bytes.now c.args.mode) (first_ends (download_of k c.args.key c.args.bytes.now c.args.mode) before) c.loop_download.new.node (g.W.Write.contents c.args.writer.now) (g.W.Write.contents c.loop_download.new.writer) c.loop_download.result (c.loop_download.ensures.looped k before stands).ended

pub returns-clause-write : goal.returns-clause-write
returns-clause-write g c = λ k before stands said.
    looped_write (download_of k c.args.key c.args.bytes.now c.args.mode) (first_ends (download_of k c.args.key c.args.bytes.now c.args.mode) before) c.loop_download.new.node (g.W.Write.contents c.args.writer.now) (g.W.Write.contents c.loop_download.new.writer) c.loop_download.result (c.loop_download.ensures.looped k before stands).ended said

pub returns-clause-memory : goal.returns-clause-memory
returns-clause-memory g c = λ k before stands said.
    looped_memory (download_of k c.args.key c.args.bytes.now c.args.mode) (first_ends (download_of k c.args.key c.args.bytes.now c.args.mode) before) c.loop_download.new.node (g.W.Write.contents c.args.writer.now) (g.W.Write.contents c.loop_download.new.writer) c.loop_download.result (c.loop_download.ensures.looped k before stands).ended said

pub returns-clause-some : goal.returns-clause-some
returns-clause-some g c = λ k before stands. (c.loop_download.ensures.looped k before stands).some

pub returns-clause-done : goal.returns-clause-done
returns-clause-done g c = λ k before stands permitted.
    is_complete c.loop_download.result k before c.args.key c.args.bytes.now c.args.mode (returns-clause-state g c k before stands)
    (c.permitted_download_completes.ensures k c.args.node.now before c.args.key c.args.bytes.now c.args.mode stands permitted c.requires)

use Rattle.std.proofs.Common.{◌≡◌, [], ◌∷◌, ◌++◌, Err, subst, ◌∙◌}
use Rattle.std.proofs.lemmas.Result.{err_from_is_err_and}
use Rattle.conode_io.specs.declared.fault.CmdFault.TheVariants.{Write, Memory}
use Rattle.conode_io.specs.Written.{WritesFront, WritesLines}
use Rattle.conode_io.proofs.WriteLemmas.{front_of_more, front_after_lines, lines_after}
use Rattle.conode_device.specs.Printed.{WritesFirst, frame_lines}
use Rattle.conode_device.proofs.Exchanges.{exchange_ends, exchange_lines, oldest}
use Rattle.conode_device.proofs.LoopLines.{first_all}
use Rattle.conode_device.proofs.Writings.{exchange_stands, round_failed}
use Rattle.conode_device.proofs.rounds.exchange.Goals as goal

pub returns-in_err-write_frames-clause-made : goal.returns-in_err-write_frames-clause-made
returns-in_err-write_frames-clause-made g c = λ l e st.
    let waits = oldest c.args.waiting.now.items e.waiting c.remove-request.new.self.items c.remove-request.result st.same_waiting c.requires c.remove-request.ensures.value c.remove-request.ensures.by_index.2 in
    let lines = exchange_lines l e c.remove-request.result c.remove-request.new.self.items c.take_frame.new.outbox.items waits (c.take_frame.ensures.frames l.node e.inputs st.node_stands) in
    let passed = err_from_is_err_and c.from_residual.result c.from_residual.ensures.1 in
    let is : c.from_residual.result ≡ Err Write = cc (passed.1, passed.2, c.in_err-write_frames.ensures.fault) in
    round_failed l e c.take_frame.new.self c.args.client.now c.remove-request.new.self.items (g.W.Write.contents c.args.writer.now) (g.W.Write.contents c.write_frames.new.writer) c.from_residual.result Write
    is (exchange_stands l e c.take_frame.new.self c.remove-request.result c.remove-request.new.self.items waits (c.take_frame.ensures.stands l.node e.inputs st.node_stands))
    (subst (WritesFront (g.W.Write.contents c.args.writer.now) (g.W.Write.contents c.write_frames.new.writer)) lines
    (front_of_more (g.W.Write.contents c.args.writer.now) (g.W.Write.contents c.write_frames.new.writer) (frame_lines (c.remove-request.result ∷ [])) (frame_lines c.take_frame.new.outbox.items) c.in_err-write_frames.ensures.front))

pub returns-in_err-write_frames-2-clause-made : goal.returns-in_err-write_frames-2-clause-made
returns-in_err-write_frames-2-clause-made g c = λ l e st.
    let waits = oldest c.args.waiting.now.items e.waiting c.remove-request.new.self.items c.remove-request.result st.same_waiting c.requires c.remove-request.ensures.value c.remove-request.ensures.by_index.2 in
    let lines = exchange_lines l e c.remove-request.result c.remove-request.new.self.items c.deref.result.now waits (c.deref.ensures.0 ∙ c.take_frame.ensures.frames l.node e.inputs st.node_stands) in
    let passed = err_from_is_err_and c.from_residual-in_err-write_frames-2.result c.from_residual-in_err-write_frames-2.ensures.1 in
    let is : c.from_residual-in_err-write_frames-2.result ≡ Err Write = cc (passed.1, passed.2, c.in_err-write_frames-2.ensures.fault) in
    round_failed l e c.take_frame.new.self c.args.client.now c.remove-request.new.self.items (g.W.Write.contents c.args.writer.now) (g.W.Write.contents c.write_frames-2.new.writer) c.from_residual-in_err-write_frames-2.result Write
    is (exchange_stands l e c.take_frame.new.self c.remove-request.result c.remove-request.new.self.items waits (c.take_frame.ensures.stands l.node e.inputs st.node_stands))
    (subst (WritesFront (g.W.Write.contents c.args.writer.now) (g.W.Write.contents c.write_frames-2.new.writer)) lines
    (front_after_lines (g.W.Write.contents c.args.writer.now) (g.W.Write.contents c.write_frames.new.writer) (g.W.Write.contents c.write_frames-2.new.writer) (frame_lines (c.remove-request.result ∷ [])) (frame_lines c.deref.result.now) c.in_ok-write_frames.ensures.ok c.in_err-write_frames-2.ensures.front))

pub returns-in_err-take_frames-clause-made : goal.returns-in_err-take_frames-clause-made
returns-in_err-take_frames-clause-made g c = λ l e st.
    let waits = oldest c.args.waiting.now.items e.waiting c.remove-request.new.self.items c.remove-request.result st.same_waiting c.requires c.remove-request.ensures.value c.remove-request.ensures.by_index.2 in
    let lines = exchange_lines l e c.remove-request.result c.remove-request.new.self.items c.deref.result.now waits (c.deref.ensures.0 ∙ c.take_frame.ensures.frames l.node e.inputs st.node_stands) in
    let passed = err_from_is_err_and c.from_residual-in_err-take_frames.result c.from_residual-in_err-take_frames.ensures.1 in
    let is : c.from_residual-in_err-take_frames.result ≡ Err Memory = cc (passed.1, passed.2) in
    round_failed l e c.take_frame.new.self c.take_frames.new.client c.take_frames.new.waiting.items (g.W.Write.contents c.args.writer.now) (g.W.Write.contents c.write_frames-2.new.writer) c.from_residual-in_err-take_frames.result Memory
    is (exchange_stands l e c.take_frame.new.self c.remove-request.result c.remove-request.new.self.items waits (c.take_frame.ensures.stands l.node e.inputs st.node_stands))
    (subst (WritesFirst (g.W.Write.contents c.args.writer.now) (g.W.Write.contents c.write_frames-2.new.writer)) lines
    (first_all (g.W.Write.contents c.args.writer.now) (g.W.Write.contents c.write_frames-2.new.writer) (frame_lines (c.remove-request.result ∷ []) ++ frame_lines c.deref.result.now)
    (lines_after (g.W.Write.contents c.args.writer.now) (g.W.Write.contents c.write_frames.new.writer) (g.W.Write.contents c.write_frames-2.new.writer) (frame_lines (c.remove-request.result ∷ [])) (frame_lines c.deref.result.now) c.in_ok-write_frames.ensures.ok c.in_ok-write_frames-2.ensures.ok)))

pub returns-clause-made : goal.returns-clause-made
returns-clause-made g c = λ l e st.
    let waits = oldest c.args.waiting.now.items e.waiting c.remove-request.new.self.items c.remove-request.result st.same_waiting c.requires c.remove-request.ensures.value c.remove-request.ensures.by_index.2 in
    let gives = c.take_frame.ensures.frames l.node e.inputs st.node_stands in
    let stands = c.take_frame.ensures.stands l.node e.inputs st.node_stands in
    let lines = exchange_lines l e c.remove-request.result c.remove-request.new.self.items c.deref.result.now waits (c.deref.ensures.0 ∙ gives) in
    record {
      node_stands = exchange_stands l e c.take_frame.new.self c.remove-request.result c.remove-request.new.self.items waits stands;
      written = subst (WritesLines (g.W.Write.contents c.args.writer.now) (g.W.Write.contents c.write_frames-2.new.writer)) lines
          (lines_after (g.W.Write.contents c.args.writer.now) (g.W.Write.contents c.write_frames.new.writer) (g.W.Write.contents c.write_frames-2.new.writer) (frame_lines (c.remove-request.result ∷ [])) (frame_lines c.deref.result.now) c.in_ok-write_frames.ensures.ok c.in_ok-write_frames-2.ensures.ok);
      ends =
          exchange_ends l e c.remove-request.result c.remove-request.new.self.items c.deref-2.result.now c.args.waiting.now.items c.take_frames.new.waiting.items c.args.node.now c.take_frame.new.self c.args.client.now c.take_frames.new.client
          st waits (c.deref-2.ensures.0 ∙ gives) stands
          (c.in_ok-take_frames.ensures.stands l.call e.events st.client_stands) (c.in_ok-take_frames.ensures.asked l.call e.events st.client_stands) c.take_frames.ensures.request c.take_frames.ensures.answer;
    }

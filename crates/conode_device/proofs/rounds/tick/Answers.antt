use Rattle.std.proofs.Common.{◌≡◌, ◌∷◌, Err, sym, subst, ◌∙◌}
use Rattle.std.proofs.lemmas.Result.{err_from_is_err_and}
use Rattle.conode_io.specs.declared.fault.CmdFault.TheVariants.{Write, Memory}
use Rattle.conode_io.specs.Written.{WritesFront, WritesLines}
use Rattle.co_sdo_client.specs.Calls.{Ticked}
use Rattle.conode_device.specs.Printed.{WritesFirst, frame_lines}
use Rattle.conode_device.proofs.Exchanges.{tick_ends, tick_lines}
use Rattle.conode_device.proofs.LoopLines.{first_all}
use Rattle.conode_device.proofs.Writings.{round_failed, tick_stands}
use Rattle.conode_device.proofs.rounds.tick.Goals as goal

pub returns-in_err-write_frames-clause-made : goal.returns-in_err-write_frames-clause-made
returns-in_err-write_frames-clause-made g c = λ l e st.
    let waits = sym st.same_waiting ∙ c.requires in
    let lines = tick_lines l e c.deref.result.now waits (c.deref.ensures.0 ∙ c.tick.ensures.frames l.node e.inputs st.node_stands) in
    let passed = err_from_is_err_and c.from_residual.result c.from_residual.ensures.1 in
    let is : c.from_residual.result ≡ Err Write = cc (passed.1, passed.2, c.in_err-write_frames.ensures.fault) in
    round_failed l e c.tick.new.self c.args.client.now c.args.waiting.now.items (g.W.Write.contents c.args.writer.now) (g.W.Write.contents c.write_frames.new.writer) c.from_residual.result Write
    is (tick_stands l e c.tick.new.self waits (c.tick.ensures.stands l.node e.inputs st.node_stands))
    (subst (WritesFront (g.W.Write.contents c.args.writer.now) (g.W.Write.contents c.write_frames.new.writer)) lines c.in_err-write_frames.ensures.front)

pub returns-in_err-take_tick-clause-made : goal.returns-in_err-take_tick-clause-made
returns-in_err-take_tick-clause-made g c = λ l e st.
    let waits = sym st.same_waiting ∙ c.requires in
    let lines = tick_lines l e c.deref.result.now waits (c.deref.ensures.0 ∙ c.tick.ensures.frames l.node e.inputs st.node_stands) in
    let passed = err_from_is_err_and c.from_residual-in_err-take_tick.result c.from_residual-in_err-take_tick.ensures.1 in
    let is : c.from_residual-in_err-take_tick.result ≡ Err Memory = cc (passed.1, passed.2) in
    round_failed l e c.tick.new.self c.take_tick.new.client c.take_tick.new.waiting.items (g.W.Write.contents c.args.writer.now) (g.W.Write.contents c.write_frames.new.writer) c.from_residual-in_err-take_tick.result Memory
    is (tick_stands l e c.tick.new.self waits (c.tick.ensures.stands l.node e.inputs st.node_stands))
    (subst (WritesFirst (g.W.Write.contents c.args.writer.now) (g.W.Write.contents c.write_frames.new.writer)) lines
    (first_all (g.W.Write.contents c.args.writer.now) (g.W.Write.contents c.write_frames.new.writer) (frame_lines c.deref.result.now) c.in_ok-write_frames.ensures.ok))

pub returns-in_err-take_frames-clause-made : goal.returns-in_err-take_frames-clause-made
returns-in_err-take_frames-clause-made g c = λ l e st.
    let waits = sym st.same_waiting ∙ c.requires in
    let lines = tick_lines l e c.deref.result.now waits (c.deref.ensures.0 ∙ c.tick.ensures.frames l.node e.inputs st.node_stands) in
    let passed = err_from_is_err_and c.from_residual-in_err-take_frames.result c.from_residual-in_err-take_frames.ensures.1 in
    let is : c.from_residual-in_err-take_frames.result ≡ Err Memory = cc (passed.1, passed.2) in
    round_failed l e c.tick.new.self c.take_frames.new.client c.take_frames.new.waiting.items (g.W.Write.contents c.args.writer.now) (g.W.Write.contents c.write_frames.new.writer) c.from_residual-in_err-take_frames.result Memory
    is (tick_stands l e c.tick.new.self waits (c.tick.ensures.stands l.node e.inputs st.node_stands))
    (subst (WritesFirst (g.W.Write.contents c.args.writer.now) (g.W.Write.contents c.write_frames.new.writer)) lines
    (first_all (g.W.Write.contents c.args.writer.now) (g.W.Write.contents c.write_frames.new.writer) (frame_lines c.deref.result.now) c.in_ok-write_frames.ensures.ok))

pub returns-clause-made : goal.returns-clause-made
returns-clause-made g c = λ l e st.
    let waits = sym st.same_waiting ∙ c.requires in
    let gives = c.tick.ensures.frames l.node e.inputs st.node_stands in
    let stands = c.tick.ensures.stands l.node e.inputs st.node_stands in
    let lines = tick_lines l e c.deref.result.now waits (c.deref.ensures.0 ∙ gives) in
    record {
      node_stands = tick_stands l e c.tick.new.self waits stands;
      written = subst (WritesLines (g.W.Write.contents c.args.writer.now) (g.W.Write.contents c.write_frames.new.writer)) lines c.in_ok-write_frames.ensures.ok;
      ends =
          tick_ends l e c.deref-2.result.now c.args.waiting.now.items c.take_tick.new.waiting.items c.take_frames.new.waiting.items c.args.node.now c.tick.new.self c.args.client.now c.take_tick.new.client c.take_frames.new.client
          st waits (c.deref-2.ensures.0 ∙ gives) stands
          (c.in_ok-take_tick.ensures.asked l.call e.events st.client_stands) c.take_tick.ensures.request c.take_tick.ensures.answer
          (c.in_ok-take_frames.ensures.stands l.call (Ticked ∷ e.events) (c.in_ok-take_tick.ensures.stands l.call e.events st.client_stands))
          (c.in_ok-take_frames.ensures.asked l.call (Ticked ∷ e.events) (c.in_ok-take_tick.ensures.stands l.call e.events st.client_stands))
          c.take_frames.ensures.request c.take_frames.ensures.answer;
    }

use Rattle.std.proofs.Common.{◌≡◌, ◌∷◌, ◌++◌, map, ◌∙◌, rules}
use Rattle.conode_trace.specs.Printed.{frame_line}
use Rattle.conode_trace.specs.Traces.{tick}
use Rattle.co_node_model.specs.Inputs.{Ticked}
use Rattle.conode_device.specs.Lines.{input_lines, refused_lines}
use Rattle.conode_device.proofs.Inputs.{after_by, input_same}
use Rattle.conode_device.proofs.input.tick.Goals as goal

pub returns-clause-written : goal.returns-clause-written
returns-clause-written g c =
    let same : c.as_slice.result.now ≡ c.tick.new.outbox.items = search rules in
    after_by (g.W.Write.contents c.args.writer.now) (g.W.Write.contents c.print_input.new.writer) c.args.node.now
    (refused_lines c.args.number c.last_app.result ++ map (frame_line c.args.ms) c.as_slice.result.now)
    (λ k before. input_lines k before (record { line = c.args.number; ms = c.args.ms; input = tick }))
    (λ k before stands. input_same k before (record { line = c.args.number; ms = c.args.ms; input = tick }) c.last_app.result c.as_slice.result.now
    (c.last_app.ensures k (Ticked ∷ before) (c.tick.ensures.stands k before stands)) (same ∙ c.tick.ensures.frames k before stands))
    c.print_input.result c.print_input.ensures

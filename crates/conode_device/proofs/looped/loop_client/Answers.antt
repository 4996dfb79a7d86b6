use Rattle.std.proofs.Common.{rules, ◌≡◌, Err, ap, ◌∙◌}
use Rattle.std.proofs.lemmas.Result.{err_from_is_err_and}
use Rattle.conode_io.specs.declared.fault.CmdFault.TheVariants.{Write, Memory}
use Rattle.co_node_model.specs.Loop.{rounds, state_at}
use Rattle.conode_device.specs.Printed.{last_line}
use Rattle.conode_device.proofs.Writings.{last_line_fails, last_line_made, last_of, no_last_line, rounds_broke}
use Rattle.conode_device.proofs.looped.loop_client.Goals as goal

pub returns-in_err-all_rounds-clause-looped : goal.returns-in_err-all_rounds-clause-looped
returns-in_err-all_rounds-clause-looped g c = λ l e st.
    let passed = err_from_is_err_and c.from_residual.result c.from_residual.ensures.1 in
    let is : c.from_residual.result ≡ Err c.in_err-all_rounds.field-0.0 = cc (passed.1, passed.2) in
    rounds_broke l e c.all_rounds.new.node c.all_rounds.new.client c.all_rounds.new.waiting.items (g.W.Write.contents c.args.writer.now) (g.W.Write.contents c.all_rounds.new.writer) c.from_residual.result c.in_err-all_rounds.field-0.0 is (c.in_err-all_rounds.ensures.made l e st)

pub returns-in_err-set_last_line-clause-looped : goal.returns-in_err-set_last_line-clause-looped
returns-in_err-set_last_line-clause-looped g c = λ l e st.
    let passed = err_from_is_err_and c.from_residual-in_err-set_last_line.result c.from_residual-in_err-set_last_line.ensures.1 in
    let is : c.from_residual-in_err-set_last_line.result ≡ Err Memory = cc (passed.1, passed.2) in
    no_last_line l e c.all_rounds.new.node c.all_rounds.new.client c.all_rounds.new.waiting.items (g.W.Write.contents c.args.writer.now) (g.W.Write.contents c.all_rounds.new.writer) c.from_residual-in_err-set_last_line.result tt is (c.in_ok-all_rounds.ensures.made l e st)

pub returns-in_err-hand_over-clause-looped : goal.returns-in_err-hand_over-clause-looped
returns-in_err-hand_over-clause-looped g c = λ l e st.
    let passed = err_from_is_err_and c.from_residual-in_err-hand_over.result c.from_residual-in_err-hand_over.ensures.1 in
    let is : c.from_residual-in_err-hand_over.result ≡ Err Write = cc (passed.1, passed.2, c.in_err-hand_over.ensures.fault) in
    let rounds_made = c.in_ok-all_rounds.ensures.made l e st in
    let made : c.as_bytes.result.now ≡ last_line c.state-state.result c.sent.result = search rules in
    let state = c.state-state.ensures.state l.call (rounds 20000 l e).events rounds_made.ends.client_stands in
    let line : c.as_bytes.result.now ≡ last_of l e =
    made ∙ ap (λ s. last_line s c.sent.result) state
    ∙ ap (last_line (state_at l (rounds 20000 l e))) (c.sent.ensures.sent l.call (rounds 20000 l e).events rounds_made.ends.client_stands) in
    last_line_fails l e c.all_rounds.new.node c.all_rounds.new.client c.all_rounds.new.waiting.items (g.W.Write.contents c.args.writer.now) (g.W.Write.contents c.all_rounds.new.writer) (g.W.Write.contents c.hand_over.new.writer) c.from_residual-in_err-hand_over.result tt c.as_bytes.result.now is line rounds_made c.in_err-hand_over.ensures.front

pub returns-clause-looped : goal.returns-clause-looped
returns-clause-looped g c = λ l e st.
    let rounds_made = c.in_ok-all_rounds.ensures.made l e st in
    let made : c.as_bytes.result.now ≡ last_line c.state-state.result c.sent.result = search rules in
    let state = c.state-state.ensures.state l.call (rounds 20000 l e).events rounds_made.ends.client_stands in
    let line : c.as_bytes.result.now ≡ last_of l e =
    made ∙ ap (λ s. last_line s c.sent.result) state
    ∙ ap (last_line (state_at l (rounds 20000 l e))) (c.sent.ensures.sent l.call (rounds 20000 l e).events rounds_made.ends.client_stands) in
    last_line_made l e c.all_rounds.new.node c.all_rounds.new.client c.all_rounds.new.waiting.items (g.W.Write.contents c.args.writer.now) (g.W.Write.contents c.all_rounds.new.writer) (g.W.Write.contents c.hand_over.new.writer) c.state-state.result tt c.as_bytes.result.now state line rounds_made c.in_ok-hand_over.ensures.ok

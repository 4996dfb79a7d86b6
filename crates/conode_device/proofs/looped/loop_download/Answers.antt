use Rattle.std.proofs.Common.{rules, ◌≡◌, ◌+◌, ℕ, Err, ap, ◌∙◌}
use Rattle.std.proofs.lemmas.Result.{err_from_is_err_and}
use Rattle.conode_io.specs.declared.fault.CmdFault.TheVariants.{Memory}
use Rattle.co_node_model.specs.Loop.{download_of, first_ends, request_id, response_id}
use Rattle.conode_device.specs.Standing.{EndsStand}
use Rattle.conode_device.proofs.AllRounds.{has_begun}
use Rattle.conode_device.proofs.Writings.{not_begun}
use Rattle.conode_device.proofs.looped.loop_download.Goals as goal

pub returns-in_err-extend_from_slice-clause-looped : goal.returns-in_err-extend_from_slice-clause-looped
returns-in_err-extend_from_slice-clause-looped g c = λ k before stands.
    let passed = err_from_is_err_and c.from_residual.result c.from_residual.ensures.1 in
    let is : c.from_residual.result ≡ Err Memory = cc (passed.1, passed.2) in
    not_begun (download_of k c.args.key c.args.bytes.now c.args.mode) before c.args.node.now (g.W.Write.contents c.args.writer.now) c.from_residual.result is stands

pub returns-clause-looped : goal.returns-clause-looped
returns-clause-looped g c = λ k before stands.
    let l = download_of k c.args.key c.args.bytes.now c.args.mode in
    let node : c.from-node_id.result ≡ k.description.node = c.from-node_id.ensures ∙ c.node_id.ensures k before stands in
    let request : 0x600 + c.from-node_id.result ≡ request_id l = ap (λ (n : ℕ). 0x600 + n) node in
    let response : 0x580 + c.from-node_id.result ≡ response_id l = ap (λ (n : ℕ). 0x580 + n) node in
    let st : EndsStand l (first_ends l before) c.args.node.now c.begin.new.self c.extend_from_slice.new.self.items =
    has_begun l before c.args.node.now c.begin.new.self c.download-client.result.request c.new-sent.result.items c.begin.new.outbox.items c.extend_from_slice.new.self.items stands
    (c.begin.ensures.begun l.call c.download-client.ensures.ready)
    (c.begin.ensures.ids.0 ∙ c.download-client.ensures.request ∙ request) (c.begin.ensures.ids.1 ∙ c.download-client.ensures.answer ∙ response) (c.download-client.ensures.request ∙ request)
    (search rules) (c.begin.ensures.messages l.call c.download-client.ensures.ready) (search rules) in
    c.loop_client.ensures.looped l (first_ends l before) st

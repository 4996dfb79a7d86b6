use Rattle.std.proofs.Common.{◌≡◌, ◌≤◌, None, length, slice_get, arith}
use Rattle.std.proofs.lemmas.Grind.{common_steps}
use Rattle.std.proofs.lemmas.Option.{slice_get_past}
use Rattle.conode_stats_text.proofs.Listed.{nothing}
use Rattle.conode_stats_text.proofs.found.push_node_wrong.Goals as goal

pub returns-in_default : goal.returns-in_default
returns-in_default c =
    let past : length c.nodes.result.now ≤ c.args.number = grind (arith, common_steps) in
    let absent : slice_get c.args.bus.now.nodes c.args.number ≡ None =
    slice_get_past c.args.bus.now.nodes c.args.number (rw c.nodes.ensures at past) in
    rw absent (nothing _ _)

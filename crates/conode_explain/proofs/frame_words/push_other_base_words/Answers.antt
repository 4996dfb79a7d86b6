use Rattle.std.proofs.Common.{◌≡◌, [], sym, ◌∙◌, arith}
use Rattle.conode_record.specs.declared.fields.Identifier.TheVariants.{Base}
use Rattle.conode_explain_cob_ids.specs.Buses.{bus_view}
use Rattle.conode_explain.specs.Nodes.{last_at}
use Rattle.conode_explain.proofs.AssumedLemmas.{bare_sync, none_there}
use Rattle.conode_explain.proofs.frame_words.push_other_base_words.Goals as goal

pub returns-in-empty : goal.returns-in-empty
returns-in-empty c =
    let none : c.args.claims.now ≡ [] = none_there c.args.claims.now (omega (arith, c.in-empty.len_below)) in
    let same = bare_sync (bus_view c.args.bus) c.args.named (last_at c.args.nodes.now (Base c.args.id) c.args.frame.now) c.args.id c.args.bytes.now (sym c.is_bare_sync.ensures ∙ c.if-is_bare_sync.true) in
    rw (none, ← same) c.push_sync.ensures

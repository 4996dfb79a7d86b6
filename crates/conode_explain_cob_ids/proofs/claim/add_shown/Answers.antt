use Rattle.std.proofs.Common.{refl, rules, ◌∙◌}
use Rattle.std.specs.List.{filter_map}
use Rattle.std.specs.Option.{option_to_list}
use Rattle.conode_explain_cob_ids.specs.Buses.{bus_view}
use Rattle.conode_explain_cob_ids.specs.Claims.{shown_claim}
use Rattle.conode_explain_cob_ids.proofs.Pieces.{all_made, found_first, one_more}
use Rattle.conode_explain_cob_ids.proofs.claim.add_shown.Goals as goal

pub loop-pdo-preserved : goal.loop-pdo-preserved
loop-pdo-preserved c =
    let of = shown_claim (bus_view c.args.bus) c.args.range c.args.id in
    one_more (filter_map of) (λ pdo. option_to_list (of pdo)) (λ pdo pdos. found_first (of pdo) (filter_map of pdos))
    c.shown-pdos.result.now c.loop-pdo.pdo-index c.pdo-item.result c.loop-pdo.claims.items c.add_claim.new.claims.items _ c.loop-pdo-test.true
    (search rules) c.loop-pdo.invariant

pub returns : goal.returns
returns c =
    all_made (filter_map (shown_claim (bus_view c.args.bus) c.args.range c.args.id)) refl c.shown-pdos.result.now c.loop-pdo.pdo-index c.loop-pdo.claims.items _ c.loop-pdo-test.false
    c.loop-pdo.invariant ∙ search rules

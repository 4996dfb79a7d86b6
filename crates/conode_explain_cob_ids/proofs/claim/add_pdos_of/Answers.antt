use Rattle.std.proofs.Common.{refl, map, rules, ◌∙◌}
use Rattle.std.specs.List.{filter_map}
use Rattle.std.specs.Option.{option_to_list}
use Rattle.co_sheet_changes.specs.Names.{names_view}
use Rattle.conode_explain_cob_ids.specs.Buses.{bus_view}
use Rattle.conode_explain_cob_ids.specs.Claims.{sheet_claim}
use Rattle.conode_explain_cob_ids.specs.Known.{known_view}
use Rattle.conode_explain_cob_ids.proofs.Pieces.{all_made, found_first, one_more}
use Rattle.conode_explain_cob_ids.proofs.claim.add_pdos_of.Goals as goal

pub loop-pdo-preserved : goal.loop-pdo-preserved
loop-pdo-preserved c =
    let of = sheet_claim (bus_view c.args.bus) (map known_view c.args.earlier.now) (names_view c.args.sheet.now.names).only c.args.range c.args.id in
    one_more (filter_map of) (λ pdo. option_to_list (of pdo)) (λ pdo pdos. found_first (of pdo) (filter_map of pdos))
    c.as_slice-pdos.result.now c.loop-pdo.pdo-index c.pdo-item.result c.loop-pdo.claims.items c.add_claim.new.claims.items _ c.loop-pdo-test.true
    (search rules) c.loop-pdo.invariant

pub returns : goal.returns
returns c =
    let of = sheet_claim (bus_view c.args.bus) (map known_view c.args.earlier.now) (names_view c.args.sheet.now.names).only c.args.range c.args.id in
    all_made (filter_map of) refl c.as_slice-pdos.result.now c.loop-pdo.pdo-index c.loop-pdo.claims.items _ c.loop-pdo-test.false c.loop-pdo.invariant ∙ search rules

-- The PDOs of one sheet after another.
use Rattle.std.proofs.Common.{◌++◌, [], map, arith, rules}
use Rattle.conode_explain_cob_ids.specs.Buses.{bus_view}
use Rattle.conode_explain_cob_ids.specs.Claims.{sheets_claims}
use Rattle.conode_explain_cob_ids.specs.Known.{known_view}
use Rattle.conode_explain_cob_ids.proofs.Claims.{all_there, one_more}
use Rattle.conode_explain_cob_ids.proofs.claim.add_sheets.Goals as goal

pub loop-place-preserved : goal.loop-place-preserved
loop-place-preserved c =
    let bus = bus_view c.args.bus in
    let sheets = c.args.bus.sheets.now in
    let all = c.args.claims.now.items ++ sheets_claims bus c.args.range c.args.id [] (map known_view sheets) in
    one_more bus c.args.range c.args.id sheets c.loop-place.place c.index-sheets-place.result c.loop-place.claims.items c.add_sheet.new.claims.items all
    (omega arith) (search rules) c.loop-place.invariant

pub returns : goal.returns
returns c =
    let bus = bus_view c.args.bus in
    let sheets = c.args.bus.sheets.now in
    let all = c.args.claims.now.items ++ sheets_claims bus c.args.range c.args.id [] (map known_view sheets) in
    all_there bus c.args.range c.args.id sheets c.loop-place.place c.loop-place.claims.items all (omega arith) c.loop-place.invariant

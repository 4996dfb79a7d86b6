use Rattle.std.proofs.Common.{List, refl, map}
use Rattle.co_sheet_rows.specs.declared.entry.EntryRow.{EntryRow}
use Rattle.co_dict_build.specs.declared.build_fault.BuildFault.TheVariants.{BadMapping}
use Rattle.co_dict_faults.specs.AllBuildFaults.{bad_mappings, is_mapping_found}
use Rattle.co_dict_faults.proofs.PieceLemmas.{faults-turn, pieces-end}
use Rattle.co_dict_faults.proofs.parameters.add_mappings.Goals as goal

pub loop-row-preserved : goal.loop-row-preserved
loop-row-preserved g c =
    let outside = c.args.outside.now in
    let d = g.S.ObjectStore.description c.args.store.now in
    let contents = g.S.ObjectStore.contents c.args.store.now in
    let found = λ (rows : List EntryRow). bad_mappings outside d contents (map (λ row. row.key) rows) in
    faults-turn found (λ row. is_mapping_found outside d contents row.key) (λ row. BadMapping row.key) (λ row. found) (λ row rows. refl) c.args.rows.now c.loop-row.row-index _ _
    c.loop-row.faults.items c.add_if.new.faults.items _ c.loop-row-test.true c.is_mapping_found-is_found.ensures.value c.in-Ok.ensures c.loop-row.invariant

pub returns : goal.returns
returns g c =
    let d = g.S.ObjectStore.description c.args.store.now in
    let contents = g.S.ObjectStore.contents c.args.store.now in
    pieces-end (λ rows. bad_mappings c.args.outside.now d contents (map (λ row. row.key) rows)) refl c.args.rows.now c.loop-row.row-index _ _ c.loop-row-test.false c.loop-row.invariant

use Rattle.std.proofs.Common.{Some, not, ◌&&◌, refl, map}
use Rattle.co_dict_build.specs.declared.build_fault.BuildFault.TheVariants.{PdoPair}
use Rattle.co_dict_build.specs.BuildFaults.{is_unpaired}
use Rattle.co_dict_faults.specs.AllBuildFaults.{is_index, unpaired_past}
use Rattle.co_dict_faults.proofs.PieceLemmas.{faults-turn, pieces-end}
use Rattle.co_dict_faults.proofs.parameters.add_lone_objects.Goals as goal

pub loop-row-preserved : goal.loop-row-preserved
loop-row-preserved g c =
    let entries = (g.S.ObjectStore.description c.args.store.now).rows in
    let last = c.loop-row.last in
    faults-turn (λ rows. unpaired_past entries last (map (λ row. row.key) rows)) (λ row. not (is_index last row.key.index) && is_unpaired entries row.key.index) (λ row. PdoPair row.key.index)
    (λ row rows. unpaired_past entries (Some row.key.index) (map (λ row. row.key) rows)) (λ row rows. refl) c.args.rows.now c.loop-row.row-index _ _
    c.loop-row.faults.items c.add_if.new.faults.items _ c.loop-row-test.true c.is_lone-is_lone.ensures c.in-Ok.ensures c.loop-row.invariant

pub returns : goal.returns
returns g c =
    let entries = (g.S.ObjectStore.description c.args.store.now).rows in
    pieces-end (λ rows. unpaired_past entries c.loop-row.last (map (λ row. row.key) rows)) refl c.args.rows.now c.loop-row.row-index _ _ c.loop-row-test.false c.loop-row.invariant

use Rattle.std.proofs.Common.{◌≡◌, List, ◌∙◌, sym, subst}
use Rattle.co_dict.specs.declared.side.Side.TheVariants.{Rpdo}
use Rattle.co_dict.specs.Rows.{Contents}
use Rattle.co_dict.specs.Stores.{Description}
use Rattle.co_pdo_compiled.specs.declared.part.Part.{Part}
use Rattle.co_node_device.specs.MappingTables.{IsMappingTable}
use Rattle.co_node_device.proofs.Taken.{data_more, data_queue, set_more}
use Rattle.co_node_device.proofs.rpdos.take_all_data.Goals as goal

-- on the dictionary of the call, or on the same one
of_same : {d e : Description} {contents : Contents} {table : List (List Part)} → d ≡ e → IsMappingTable Rpdo d contents table → IsMappingTable Rpdo e contents table
of_same {d} {e} {contents} {table} same t = subst (λ (x : Description). IsMappingTable Rpdo x contents table) same t

pub loop-rpdo-preserved : goal.loop-rpdo-preserved
loop-rpdo-preserved g c =
    let before = c.loop-rpdo.invariant in
    let d = g.S.ObjectStore.description c.args.store.now in
    let old = g.S.ObjectStore.contents c.args.store.now in
    let i = c.loop-rpdo.rpdo-index in
    record {
      description = c.take_data.ensures.description ∙ before.description;
      contents = λ table. data_more d _ c.args.rpdos.now i c.rpdo-item.result old _ c.loop-rpdo-test.true c.rpdo-item.is before.description (before.contents table) _
          (c.take_data.ensures.contents (of_same (sym before.description) (before.table table)));
      table = λ table. of_same before.description (c.take_data.ensures.table (of_same (sym before.description) (before.table table)));
      emergencies = λ queued table h. data_queue d _ c.args.rpdos.now i c.rpdo-item.result old _ c.loop-rpdo-test.true c.rpdo-item.is before.description (before.contents table) _ queued
          (c.take_data.ensures.emergencies _ (of_same (sym before.description) (before.table table)) (before.emergencies queued table h));
      changes = λ table. set_more d _ c.args.rpdos.now i c.rpdo-item.result old _ c.loop-rpdo-test.true c.rpdo-item.is before.description (before.contents table) c.args.changes.now _ _
          (before.changes table) (c.take_data.ensures.changes (of_same (sym before.description) (before.table table)));
    }

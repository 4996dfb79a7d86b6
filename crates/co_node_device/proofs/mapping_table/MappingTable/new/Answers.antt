use Rattle.std.proofs.Common.{ℕ, ◌∙◌, subst, arith}
use Rattle.co_pdo.specs.Mappings.{mapping_of}
use Rattle.co_pdo_compiled.specs.CompiledMappings.{IsCompiledForm}
use Rattle.co_node_device.proofs.Tables.{each_pushed}
use Rattle.co_node_device.proofs.mapping_table.MappingTable.new.Goals as goal

pub loop-k-preserved : goal.loop-k-preserved
loop-k-preserved g c =
    let i = c.loop-k.invariant in
    let d = g.S.ObjectStore.description c.args.store.now in
    record {
      room = c.push_reserved.ensures.capacity ∙ i.room;
      count = omega (arith, c.push_reserved.ensures.len, i.count);
      forms = each_pushed (λ k parts. IsCompiledForm d (mapping_of c.args.side d (g.S.ObjectStore.contents c.args.store.now) k) parts)
          c.loop-k.pdos.items _ c.loop-k.k c.of.result c.push_reserved.ensures.items i.count
          (subst (λ (n : ℕ). IsCompiledForm d (mapping_of c.args.side d (g.S.ObjectStore.contents c.args.store.now) n) c.of.result) c.of-number.ensures c.of.ensures) i.forms;
    }

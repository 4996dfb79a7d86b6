use Rattle.std.proofs.Common.{ℕ, subst, arith}
use Rattle.co_pdo.specs.Mappings.{mapping_of}
use Rattle.co_pdo_compiled.specs.CompiledMappings.{IsCompiledForm}
use Rattle.co_node_device.proofs.Tables.{each_set}
use Rattle.co_node_device.proofs.mapping_table.compile_all.Goals as goal

pub loop-k-preserved : goal.loop-k-preserved
loop-k-preserved g c = let d = g.S.ObjectStore.description c.args.store.now in
    each_set (λ k parts. IsCompiledForm d (mapping_of c.args.side d (g.S.ObjectStore.contents c.args.store.now) k) parts)
    c.loop-k.pdos c.loop-k.k c.of.result (omega arith)
    (subst (λ (n : ℕ). IsCompiledForm d (mapping_of c.args.side d (g.S.ObjectStore.contents c.args.store.now) n) c.of.result) c.of-number.ensures c.of.ensures) c.loop-k.invariant

pub returns : goal.returns
returns g c = λ k parts lt. c.loop-k.invariant k parts (omega arith)

use Rattle.std.proofs.Common.{ap, ◌∙◌}
use Rattle.std.specs.Box.{boxed_slice_items}
use Rattle.bafokun.specs.declared.held.Held.{Held}
use Rattle.bafokun.specs.Builds.{ByMemory}
use Rattle.bafokun.proofs.build.boxed.Goals as goal

pub returns-in-Ok-clause-ok : goal.returns-in-Ok-clause-ok
returns-in-Ok-clause-ok c = record {
  node = ap (λ (h : Held). h.node) c.in-Ok.ensures.ok;
  entries = ap (λ (h : Held). h.entries) c.in-Ok.ensures.ok;
  changes = ap (λ (h : Held). boxed_slice_items h.changes) c.in-Ok.ensures.ok;
  events = ap (λ (h : Held). h.events) c.in-Ok.ensures.ok ∙ c.none.ensures;
  ending = ap (λ (h : Held). h.ending) c.in-Ok.ensures.ok ∙ c.no_error.ensures;
}

pub returns-clause-err : goal.returns-clause-err
returns-clause-err c = λ plan. ByMemory c.of_build.ensures

pub returns-in-Ok-clause-err : goal.returns-in-Ok-clause-err
returns-in-Ok-clause-err c = λ plan. tt

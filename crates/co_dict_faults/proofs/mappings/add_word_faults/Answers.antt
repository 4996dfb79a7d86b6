use Rattle.std.proofs.Common.{◌+◌, ◌++◌, min, arith, ap, ◌∙◌}
use Rattle.co_dict_faults.specs.MappingReasons.{fault_list, sub_reason}
use Rattle.co_dict_faults.proofs.MappingLemmas.{sub_added, subs_end}
use Rattle.co_dict_faults.proofs.mappings.add_word_faults.Goals as goal

pub loop-earlier-preserved : goal.loop-earlier-preserved
loop-earlier-preserved g c =
    let d = g.S.ObjectStore.description c.args.store.now in
    let contents = g.S.ObjectStore.contents c.args.store.now in
    let sub = c.loop-earlier.earlier + 1 in
    sub_added (λ sub. fault_list c.args.index sub (sub_reason c.args.side d contents c.args.index sub)) c.loop-earlier.faults.items _ _
    c.loop-earlier.earlier (min c.args.count 64) (omega (arith, c.loop-earlier-test.true, c.min-earlier-end.ensures))
    (c.in-Ok.ensures ∙ ap (λ reason. c.loop-earlier.faults.items ++ fault_list c.args.index sub reason) c.sub_reason-reason.ensures)
    c.loop-earlier.invariant

pub returns : goal.returns
returns g c =
    let d = g.S.ObjectStore.description c.args.store.now in
    let contents = g.S.ObjectStore.contents c.args.store.now in
    subs_end (λ sub. fault_list c.args.index sub (sub_reason c.args.side d contents c.args.index sub)) c.loop-earlier.faults.items _
    c.loop-earlier.earlier (min c.args.count 64) (omega (arith, c.loop-earlier-test.false, c.min-earlier-end.ensures))
    c.loop-earlier.invariant

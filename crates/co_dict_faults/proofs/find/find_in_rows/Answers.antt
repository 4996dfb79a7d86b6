use Rattle.std.proofs.Common.{◌≡◌, ℕ, ◌≤◌, ◌++◌, [], true, map, refl, sym, ap, ◌∙◌, arith}
use Rattle.std.proofs.lemmas.Result.{IfOk-weaker}
use Rattle.std.proofs.lemmas.Bool.Decides.{nat_tests}
use Rattle.co_sheet.specs.SheetViews.{row_view}
use Rattle.co_dict_build.specs.declared.build_fault.BuildFault.TheVariants.{ValueRange, TooMany}
use Rattle.co_dict_build.specs.Built.{plan_in}
use Rattle.co_dict_build.specs.BuildFaults.{is_node, is_too_many}
use Rattle.co_dict_build.specs.Capacities.{limits_view, capacity_of}
use Rattle.std.specs.Prelude.{sum_by}
use Rattle.co_dict_faults.specs.AllBuildFaults.{list_if, parameter_faults}
use Rattle.co_dict_faults.proofs.FoundLemmas.{all_found, words_found}
use Rattle.co_dict_faults.proofs.RowLemmas.{view_length}
use Rattle.co_dict_faults.proofs.find.find_in_rows.Goals as goal

in_range : (n : ℕ) → 1 ≤ n → n ≤ 127 → is_node n ≡ true
in_range n first last = grind (arith, nat_tests)

pub returns-clause-faults : goal.returns-clause-faults
returns-clause-faults g c =
    let plan = plan_in c.args.node_id c.args.limits.now c.args.rows.now c.args.dummies in
    let node = in_range c.args.node_id c.if-node_id-lt1.false c.if-node_id-gt127.false in
    let d = g.S.ObjectStore.description c.in-Ok-sound_store.value in
    let contents = g.S.ObjectStore.contents c.in-Ok-sound_store.value in
    let outside = c.as_slice.result.now in
    let before = map ValueRange outside ++ parameter_faults outside d contents in
    IfOk-weaker c.found_in.result _ _ (λ found h. all_found plan outside d contents [] (map ValueRange outside) before found.faults.items node
    (c.as_slice.ensures.value ∙ c.in-Ok-sums_outside.ensures) (c.in-Ok-sound_store.ensures.description c.args.limits.now) (c.in-Ok-sound_store.ensures.contents c.args.limits.now)
    refl refl refl
    (h ∙ ap (λ b. before ++ list_if b TooMany) (c.is_too_many.ensures ∙ ap (λ n. is_too_many n (sum_by (capacity_of (limits_view c.args.limits.now)) (map row_view c.args.rows.now))) (sym (view_length c.args.rows.now)))))
    c.found_in.ensures.faults

pub returns-clause-mappings : goal.returns-clause-mappings
returns-clause-mappings g c =
    let plan = plan_in c.args.node_id c.args.limits.now c.args.rows.now c.args.dummies in
    let node = in_range c.args.node_id c.if-node_id-lt1.false c.if-node_id-gt127.false in
    let d = g.S.ObjectStore.description c.in-Ok-sound_store.value in
    let contents = g.S.ObjectStore.contents c.in-Ok-sound_store.value in
    let keys = map (λ row. row.key) c.args.rows.now in
    IfOk-weaker c.found_in.result _ _ (λ found h. words_found plan c.as_slice.result.now d contents keys found.mappings.items node
    (c.as_slice.ensures.value ∙ c.in-Ok-sums_outside.ensures) (c.in-Ok-sound_store.ensures.description c.args.limits.now) (c.in-Ok-sound_store.ensures.contents c.args.limits.now) c.in-Ok-sound_store.ensures.keys h)
    c.found_in.ensures.mappings

use Rattle.std.proofs.Common.{refl, map}
use Rattle.co_dict_faults.specs.AllBuildFaults.{words_at_fault, words_of_mapping}
use Rattle.co_dict_faults.proofs.PieceLemmas.{pieces-turn, pieces-end}
use Rattle.co_dict_faults.proofs.parameters.add_words_at_fault.Goals as goal

pub loop-row-preserved : goal.loop-row-preserved
loop-row-preserved g c =
    let outside = c.args.outside.now in
    let d = g.S.ObjectStore.description c.args.store.now in
    let contents = g.S.ObjectStore.contents c.args.store.now in
    let before = c.loop-row.words.items in
    pieces-turn (λ rows. words_at_fault outside d contents (map (λ row. row.key) rows)) (λ row. words_of_mapping outside d contents row.key) (λ row rows. refl) c.args.rows.now c.loop-row.row-index _ before c.add_words_of_mapping.new.words.items _ c.loop-row-test.true
    c.in-Ok.ensures c.loop-row.invariant

pub returns : goal.returns
returns g c =
    let d = g.S.ObjectStore.description c.args.store.now in
    let contents = g.S.ObjectStore.contents c.args.store.now in
    pieces-end (λ rows. words_at_fault c.args.outside.now d contents (map (λ row. row.key) rows)) refl c.args.rows.now c.loop-row.row-index _ _ c.loop-row-test.false c.loop-row.invariant

use Rattle.std.proofs.Common.{◌≤◌, sym, ap, ◌∙◌, arith}
use Rattle.co_dict.specs.MappingCounts.{counted_words}
use Rattle.co_pdo.specs.Mappings.{mapped_by, all_there}
use Rattle.co_pdo.proofs.Words.{count_few, words_there, pushed, passed, room}
use Rattle.co_pdo.proofs.mapping.read_words.Goals as goal
use Rattle.co_pdo.proofs.mapping.read_words.Goals.{in-Some, in_default}

pub mapping_word-word-requires-clause-last : goal.mapping_word-word-requires-clause-last
mapping_word-word-requires-clause-last g c =
    let few : c.args.count ≤ 64 = count_few _ (g.S.ObjectStore.description c.args.store.now) (g.S.ObjectStore.contents c.args.store.now) c.args.index c.args.count c.requires.count in
    omega arith

pub push-requires : goal.push-requires
push-requires g c = (
  omega arith,
  room c.args.side (g.S.ObjectStore.description c.args.store.now) (g.S.ObjectStore.contents c.args.store.now) c.args.index c.args.count c.loop-earlier.earlier c.loop-earlier.entries.items c.in-Some.mapped
      c.loop-earlier.invariant.more c.requires.count c.loop-earlier-test.true (c.in-Some.ensures.value ∙ ap (mapped_by c.args.side (g.S.ObjectStore.description c.args.store.now)) c.mapping_word-word.ensures) c.in-Some.ensures.width,
)

pub loop-earlier-preserved : goal.loop-earlier-preserved
loop-earlier-preserved g c =
    let d = g.S.ObjectStore.description c.args.store.now in
    let contents = g.S.ObjectStore.contents c.args.store.now in
    elim c.match-by_word.branch [
      | in-Some w ↦ record {
        more = pushed c.args.side d contents c.args.index c.loop-earlier.earlier c.loop-earlier.entries.items _ w.in-Some.mapped c.loop-earlier.invariant.more (ap (λ v. v.items) w.entries-is ∙ w.push.ensures.items)
            (w.in-Some.ensures.value ∙ ap (mapped_by c.args.side d) c.mapping_word-word.ensures) w.in-Some.ensures.width;
      }
      | in_default w ↦ rw w.entries-is (record {
        more = passed c.args.side d contents c.args.index c.loop-earlier.earlier c.loop-earlier.entries.items c.loop-earlier.invariant.more (sym w.in_default.is ∙ c.by_word.ensures.value ∙ ap (mapped_by c.args.side d) c.mapping_word-word.ensures);
      })
    ]

pub returns-clause-there : goal.returns-clause-there
returns-clause-there g c =
    let d = g.S.ObjectStore.description c.args.store.now in
    ap (all_there d.rows) c.loop-earlier.invariant.more.mapping ∙ words_there c.args.side d (counted_words (g.S.ObjectStore.contents c.args.store.now) c.args.index c.loop-earlier.earlier)

use Rattle.std.proofs.Common.{◌≡◌, ◌-◌, arith}
use Rattle.co_dict.specs.Rows.{number_at}
use Rattle.co_dict.specs.ConsumerHeartbeats.{consumer_key}
use Rattle.co_node_device.proofs.Words.{words_more, words_all}
use Rattle.co_node_device.proofs.heartbeats.consumer_words.Goals as goal

pub loop-sub-preserved : goal.loop-sub-preserved
loop-sub-preserved g c =
    let before = c.loop-sub.invariant in record {
      count = omega (arith, c.push.ensures.len, before.count, c.loop-sub.auto.sub);
      words = words_more (λ sub. number_at (g.S.ObjectStore.contents c.args.store.now) (consumer_key sub)) c.loop-sub.sub c.number_u32.result c.loop-sub.words.items c.push.new.self.items c.loop-sub.auto.sub before.words c.number_u32.ensures c.push.ensures.items;
    }

pub returns : goal.returns
returns g c =
    let all : c.loop-sub.sub - 1 ≡ 127 = omega (arith, c.loop-sub.auto.sub, c.loop-sub.auto.sub-end, c.loop-sub-test.false) in
    words_all (g.S.ObjectStore.contents c.args.store.now) (c.loop-sub.sub - 1) _ all c.loop-sub.invariant.words

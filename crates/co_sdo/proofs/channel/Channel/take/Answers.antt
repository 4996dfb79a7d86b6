-- What one frame does, over every log that the channel stands after.
use Rattle.std.proofs.Common.{◌≡◌, true, length, arith}
use Rattle.std.proofs.lemmas.Bool.Decides.{nat_tests}
use Rattle.co_sdo.specs.Log.{is_request_on}
use Rattle.co_sdo.proofs.TakeLemmas.{set_is, stands_next}
use Rattle.co_sdo.proofs.channel.Channel.take.Goals as goal

pub returns-clause-stands : goal.returns-clause-stands
returns-clause-stands g c = λ log s.
    let on : is_request_on c.args.self.now.request c.args.frame.now ≡ true = grind (arith, nat_tests) in
    let eight : length c.args.frame.now.bytes ≡ 8 = grind (arith, nat_tests) in
    rw on (stands_next _ _ _ _ log c.args.frame.now.bytes s c.store_laws.ensures eight (c.step.ensures.channel s.room))

pub returns-clause-key : goal.returns-clause-key
returns-clause-key g c = λ log s.
    let on : is_request_on c.args.self.now.request c.args.frame.now ≡ true = grind (arith, nat_tests) in
    rw (on, set_is (g.S.ObjectStore.description c.args.store.now) (g.S.ObjectStore.contents c.args.store.now) log c.args.frame.now.bytes s.under_way, ← s.current) (c.step.ensures.key s.room)

pub returns-clause-contents : goal.returns-clause-contents
returns-clause-contents g c = λ log s.
    let on : is_request_on c.args.self.now.request c.args.frame.now ≡ true = grind (arith, nat_tests) in
    rw (on, set_is (g.S.ObjectStore.description c.args.store.now) (g.S.ObjectStore.contents c.args.store.now) log c.args.frame.now.bytes s.under_way, ← s.current) (c.step.ensures.contents s.room)

use Rattle.std.proofs.Common.{◌≡◌, ℕ, [], subst, arith}
use Rattle.co_sdo.specs.Channels.{channels_below}
use Rattle.co_sdo.specs.Banks.{BankStands}
use Rattle.co_sdo.proofs.Numbers.{none_below}
use Rattle.co_sdo.proofs.channels.existing_channels.Goals as goal

pub loop-number-init : goal.loop-number-init
loop-number-init g c = none_below (g.S.ObjectStore.description c.args.store.now) (g.S.ObjectStore.contents c.args.store.now) c.args.greatest c.args.time c.new-bank.result.items c.new-bank.ensures.items

pub returns : goal.returns
returns g c =
    let args = c.before.before.before.args in
    let d = g.S.ObjectStore.description args.store.now in
    let last : c.loop-number.number ≡ 128 = omega (arith, c.loop-number-test.false, c.loop-number.auto.number-end) in
    subst (λ (n : ℕ). BankStands d (channels_below n d (g.S.ObjectStore.contents args.store.now) args.greatest args.time) c.loop-number.bank.items (λ n. [])) last c.loop-number.invariant

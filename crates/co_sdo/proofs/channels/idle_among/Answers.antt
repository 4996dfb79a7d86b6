use Rattle.std.proofs.Common.{◌<◌, length, sym, ◌∙◌, subst, arith}
use Rattle.std.proofs.lemmas.List.{get_or_default}
use Rattle.co_sdo.specs.Opened.{NotOverFor}
use Rattle.co_sdo.specs.Standing.{Stands}
use Rattle.co_sdo.specs.declared.channels.NumberedChannel.{NumberedChannel}
use Rattle.co_sdo.proofs.BankIdles.{one_more}
use Rattle.co_sdo.proofs.channels.idle_among.Goals as goal

pub loop-numbered-preserved : goal.loop-numbered-preserved
loop-numbered-preserved c = λ d channels logs n stands le.
    let bank = c.args.bank.now in
    let i = c.loop-numbered.numbered-index in
    let it : NumberedChannel = c.numbered-item.result in
    let lt : i < length bank = omega arith in
    one_more n i bank logs (c.loop-numbered.invariant d channels logs n stands (omega (arith, le, c.min-least.ensures)))
    (λ e. subst (λ (x : NumberedChannel). NotOverFor x.channel.time n (logs x.number)) (c.numbered-item.is ∙ get_or_default bank i it e lt)
    (c.idle-idle.ensures d _ n (subst (λ (x : NumberedChannel). Stands d x.channel (logs x.number)) (sym c.numbered-item.is) (stands.each i it lt)) (omega (arith, le, c.min-least.ensures))))

pub returns : goal.returns
returns c = λ d channels logs n stands le j e lt. c.loop-numbered.invariant d channels logs n stands le j e (omega (arith, lt, c.loop-numbered-test.false))

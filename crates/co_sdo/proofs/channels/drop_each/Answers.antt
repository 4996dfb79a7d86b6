use Rattle.std.proofs.Common.{◌<◌, length, get_or, refl, ap, ◌∙◌, arith}
use Rattle.co_sdo.specs.Log.{Dropped}
use Rattle.co_sdo.specs.Standing.{Standing}
use Rattle.co_sdo.specs.declared.channels.NumberedChannel.{NumberedChannel}
use Rattle.co_sdo.specs.Banks.{settings_of}
use Rattle.co_sdo.proofs.Changes.{settings_set, rest_set, done_set, done_all}
use Rattle.co_sdo.proofs.channels.drop_each.Goals as goal

pub loop-numbered-preserved : goal.loop-numbered-preserved
loop-numbered-preserved c =
    let before = c.loop-numbered.invariant in
    let bank = c.loop-numbered.bank in
    let i = c.loop-numbered.numbered-index in
    let lt : i < length bank = omega arith in
    let old : NumberedChannel = get_or bank i c.numbered-item.result in
    let new : NumberedChannel = record { number = old.number; channel = c.drop_transfer.new.self } in
    record {
      settings = settings_set bank i new c.numbered-item.result (ap (λ (ch : Standing). settings_of (record { number = old.number; channel = ch })) c.drop_transfer.ensures.same) ∙ before.settings;
      rest = rest_set c.args.bank.now bank i new before.rest;
      done = λ d channels logs all. done_set d Dropped channels c.args.bank.now bank i c.numbered-item.result new lt c.loop-numbered.auto.bank before.rest refl (c.drop_transfer.ensures.stands d)
          logs all (before.done d channels logs all);
    }

pub returns-clause-stands : goal.returns-clause-stands
returns-clause-stands c = λ d channels logs all. done_all d Dropped channels c.args.bank.now c.loop-numbered.bank c.loop-numbered.numbered-index logs (omega arith) c.loop-numbered.invariant.settings all
    (c.loop-numbered.invariant.done d channels logs all)

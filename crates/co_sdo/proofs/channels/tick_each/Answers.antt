use Rattle.std.proofs.Common.{◌<◌, length, get_or, refl, sym, ap, ◌∙◌, arith}
use Rattle.co_sdo.specs.Log.{Ticked}
use Rattle.co_sdo.specs.Standing.{Standing, is_expired}
use Rattle.co_sdo.specs.declared.channels.NumberedChannel.{NumberedChannel}
use Rattle.co_sdo.specs.Banks.{settings_of}
use Rattle.co_sdo.proofs.Changes.{settings_set, rest_set, done_set, done_all, quiet_set, none_passes, or_false}
use Rattle.co_sdo.proofs.channels.tick_each.Goals as goal

pub loop-numbered-preserved : goal.loop-numbered-preserved
loop-numbered-preserved c =
    let before = c.loop-numbered.invariant in
    let bank = c.loop-numbered.bank in
    let i = c.loop-numbered.numbered-index in
    let lt : i < length bank = omega arith in
    let old : NumberedChannel = get_or bank i c.numbered-item.result in
    let new : NumberedChannel = record { number = old.number; channel = c.tick.new.self } in
    record {
      settings = settings_set bank i new c.numbered-item.result (ap (λ (ch : Standing). settings_of (record { number = old.number; channel = ch })) c.tick.ensures.same) ∙ before.settings;
      rest = rest_set c.args.bank.now bank i new before.rest;
      done = λ d channels logs all. done_set d Ticked channels c.args.bank.now bank i c.numbered-item.result new lt c.loop-numbered.auto.bank before.rest refl (c.tick.ensures.stands d)
          logs all (before.done d channels logs all);
      quiet = λ none. quiet_set (λ e. is_expired e.channel) bank i new lt (sym c.expired-is_over.ensures.shown ∙ (or_false c.loop-numbered.is_over c.expired-is_over.result none).1) (before.quiet (or_false c.loop-numbered.is_over c.expired-is_over.result none).0);
    }

pub returns-clause-none : goal.returns-clause-none
returns-clause-none c = λ none. none_passes (λ e. is_expired e.channel) c.loop-numbered.bank c.loop-numbered.numbered-index (omega arith) (c.loop-numbered.invariant.quiet none)

pub returns-clause-stands : goal.returns-clause-stands
returns-clause-stands c = λ d channels logs all. done_all d Ticked channels c.args.bank.now c.loop-numbered.bank c.loop-numbered.numbered-index logs (omega arith) c.loop-numbered.invariant.settings all
    (c.loop-numbered.invariant.done d channels logs all)

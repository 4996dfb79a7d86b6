use Rattle.std.proofs.Common.{List, ◌∙◌, refl, sym, ap, subst, arith}
use Rattle.co_sdo.specs.Log.{Ticked}
use Rattle.co_sdo.specs.declared.channels.NumberedChannel.{NumberedChannel}
use Rattle.co_sdo.specs.Channels.{ChannelSettings}
use Rattle.co_sdo.specs.Banks.{BankStands, IsBank, all_settings}
use Rattle.co_sdo.specs.Events.{logs_after, time_out_of, with_each}
use Rattle.co_sdo.proofs.Changes.{all_written}
use Rattle.co_sdo.proofs.Outcomes.{which_none, abort_none, gave_up_none}
use Rattle.co_sdo.proofs.bank.Bank.tick.Goals as goal

pub invariant_of-self : goal.invariant_of-self
invariant_of-self c =
    subst (λ (s : List ChannelSettings). IsBank c.self.inside.places.items.items s)
    (sym (ap all_settings (all_written _ c.tick_each.new.bank _ (omega (arith, c.deref_mut.ensures.len, c.tick_each.auto.bank))) ∙ c.tick_each.ensures.settings ∙ ap all_settings c.deref_mut.ensures.value)) c.self.invariant

pub returns-then-tick_each-clause-settings : goal.returns-then-tick_each-clause-settings
returns-then-tick_each-clause-settings c =
    c.time_out_lowest.ensures.settings
    ∙ ap all_settings (all_written _ c.tick_each.new.bank _ (omega (arith, c.deref_mut.ensures.len, c.tick_each.auto.bank)))
    ∙ c.tick_each.ensures.settings ∙ ap all_settings (c.deref_mut.ensures.value ∙ c.self.view_is)

pub returns-then-tick_each-clause-which : goal.returns-then-tick_each-clause-which
returns-then-tick_each-clause-which c = λ d channels logs all.
    c.time_out_lowest.ensures.which d channels (with_each Ticked logs)
    (subst (λ (v : List NumberedChannel). BankStands d channels v (with_each Ticked logs)) (sym (all_written _ c.tick_each.new.bank _ (omega (arith, c.deref_mut.ensures.len, c.tick_each.auto.bank))))
    (c.tick_each.ensures.stands d channels logs (subst (λ (v : List NumberedChannel). BankStands d channels v logs) (sym (c.deref_mut.ensures.value ∙ c.self.view_is)) all)))

pub returns-then-tick_each-clause-responses : goal.returns-then-tick_each-clause-responses
returns-then-tick_each-clause-responses c = λ d channels logs all.
    c.time_out_lowest.ensures.responses d channels (with_each Ticked logs)
    (subst (λ (v : List NumberedChannel). BankStands d channels v (with_each Ticked logs)) (sym (all_written _ c.tick_each.new.bank _ (omega (arith, c.deref_mut.ensures.len, c.tick_each.auto.bank))))
    (c.tick_each.ensures.stands d channels logs (subst (λ (v : List NumberedChannel). BankStands d channels v logs) (sym (c.deref_mut.ensures.value ∙ c.self.view_is)) all)))

pub returns-then-tick_each-clause-stands : goal.returns-then-tick_each-clause-stands
returns-then-tick_each-clause-stands c = λ d channels logs all.
    c.time_out_lowest.ensures.stands d channels (with_each Ticked logs)
    (subst (λ (v : List NumberedChannel). BankStands d channels v (with_each Ticked logs)) (sym (all_written _ c.tick_each.new.bank _ (omega (arith, c.deref_mut.ensures.len, c.tick_each.auto.bank))))
    (c.tick_each.ensures.stands d channels logs (subst (λ (v : List NumberedChannel). BankStands d channels v logs) (sym (c.deref_mut.ensures.value ∙ c.self.view_is)) all)))

pub returns-else-tick_each-clause-settings : goal.returns-else-tick_each-clause-settings
returns-else-tick_each-clause-settings c =
    ap all_settings (all_written _ c.tick_each.new.bank _ (omega (arith, c.deref_mut.ensures.len, c.tick_each.auto.bank)))
    ∙ c.tick_each.ensures.settings ∙ ap all_settings (c.deref_mut.ensures.value ∙ c.self.view_is)

pub returns-else-tick_each-clause-which : goal.returns-else-tick_each-clause-which
returns-else-tick_each-clause-which c = λ d channels logs all.
    which_none d channels c.tick_each.new.bank c.tick_each.new.bank refl (with_each Ticked logs) (c.tick_each.ensures.stands d channels logs (subst (λ (v : List NumberedChannel). BankStands d channels v logs) (sym (c.deref_mut.ensures.value ∙ c.self.view_is)) all)) (c.tick_each.ensures.none c.if-tick_each.false)

pub returns-else-tick_each-clause-responses : goal.returns-else-tick_each-clause-responses
returns-else-tick_each-clause-responses c = λ d channels logs all.
    abort_none d channels c.tick_each.new.bank c.tick_each.new.bank refl (with_each Ticked logs) (c.tick_each.ensures.stands d channels logs (subst (λ (v : List NumberedChannel). BankStands d channels v logs) (sym (c.deref_mut.ensures.value ∙ c.self.view_is)) all)) (c.tick_each.ensures.none c.if-tick_each.false) _

pub returns-else-tick_each-clause-stands : goal.returns-else-tick_each-clause-stands
returns-else-tick_each-clause-stands c = λ d channels logs all.
    subst (λ (v : List NumberedChannel). BankStands d channels v (logs_after (time_out_of channels (with_each Ticked logs)) (with_each Ticked logs))) (sym (all_written _ c.tick_each.new.bank _ (omega (arith, c.deref_mut.ensures.len, c.tick_each.auto.bank))))
    (gave_up_none d channels c.tick_each.new.bank c.tick_each.new.bank refl (with_each Ticked logs) (c.tick_each.ensures.stands d channels logs (subst (λ (v : List NumberedChannel). BankStands d channels v logs) (sym (c.deref_mut.ensures.value ∙ c.self.view_is)) all)) (c.tick_each.ensures.none c.if-tick_each.false))

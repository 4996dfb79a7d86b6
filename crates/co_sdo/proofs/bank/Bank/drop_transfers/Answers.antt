use Rattle.std.proofs.Common.{List, ◌∙◌, sym, ap, subst, arith}
use Rattle.co_sdo.specs.Log.{Dropped}
use Rattle.co_sdo.specs.declared.channels.NumberedChannel.{NumberedChannel}
use Rattle.co_sdo.specs.Channels.{ChannelSettings}
use Rattle.co_sdo.specs.Banks.{BankStands, IsBank, all_settings}
use Rattle.co_sdo.specs.Events.{with_each}
use Rattle.co_sdo.proofs.Changes.{all_written}
use Rattle.co_sdo.proofs.bank.Bank.drop_transfers.Goals as goal

pub invariant_of-self : goal.invariant_of-self
invariant_of-self c =
    subst (λ (s : List ChannelSettings). IsBank c.self.inside.places.items.items s)
    (sym (ap all_settings (all_written _ c.drop_each.new.bank _ (omega (arith, c.deref_mut.ensures.len, c.drop_each.auto.bank))) ∙ c.drop_each.ensures.settings ∙ ap all_settings c.deref_mut.ensures.value)) c.self.invariant

pub returns-clause-settings : goal.returns-clause-settings
returns-clause-settings c =
    ap all_settings (all_written _ c.drop_each.new.bank _ (omega (arith, c.deref_mut.ensures.len, c.drop_each.auto.bank)))
    ∙ c.drop_each.ensures.settings ∙ ap all_settings (c.deref_mut.ensures.value ∙ c.self.view_is)

pub returns-clause-stands : goal.returns-clause-stands
returns-clause-stands c = λ d channels logs all.
    subst (λ (v : List NumberedChannel). BankStands d channels v (with_each Dropped logs)) (sym (all_written _ c.drop_each.new.bank _ (omega (arith, c.deref_mut.ensures.len, c.drop_each.auto.bank))))
    (c.drop_each.ensures.stands d channels logs (subst (λ (v : List NumberedChannel). BankStands d channels v logs) (sym (c.deref_mut.ensures.value ∙ c.self.view_is)) all))

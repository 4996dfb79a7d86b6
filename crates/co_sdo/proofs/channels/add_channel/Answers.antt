use Rattle.std.proofs.Common.{◌≡◌, [], ◌∷◌, ◌++◌, List, sym, refl, ap, ◌∙◌, subst}
use Rattle.co_sdo.specs.Standing.{Standing}
use Rattle.co_sdo.specs.declared.channels.NumberedChannel.{NumberedChannel}
use Rattle.co_sdo.specs.Channels.{ChannelSettings, settings_for, channels_below}
use Rattle.co_sdo.specs.Banks.{BankStands, settings_of}
use Rattle.co_sdo.proofs.Changes.{pushed}
use Rattle.co_sdo.proofs.Numbers.{channels_with, channels_without}
use Rattle.co_sdo.proofs.channels.add_channel.Goals as goal

pub returns-in_ok-push : goal.returns-in_ok-push
returns-in_ok-push g c = λ stands.
    let d = g.S.ObjectStore.description c.args.store.now in
    let k = g.S.ObjectStore.contents c.args.store.now in
    let before : List ChannelSettings = channels_below c.args.number d k c.args.greatest c.args.time in
    let made : ChannelSettings = settings_for d k c.args.greatest c.args.time c.args.number in
    let new : NumberedChannel = record { number = c.args.number; channel = c.in_ok-channel.channel } in
    let settings : settings_of new ≡ made =
    ap (λ (channel : Standing). settings_of (record { number = c.args.number; channel = channel })) c.in_ok-channel.ensures.given ∙ rw (c.in-Some.ensures.request, c.in-Some.ensures.answer) refl in
    subst (λ (channels : List ChannelSettings). BankStands d channels c.push.new.self.items (λ n. [])) (sym (channels_with c.args.number d k c.args.greatest c.args.time (sym c.in-Some.ensures.exists)))
    (subst (λ (bank : List NumberedChannel). BankStands d (before ++ made ∷ []) bank (λ n. [])) (sym {A = List NumberedChannel} c.in_ok-push.ensures.items)
    (subst (λ (s : ChannelSettings). BankStands d (before ++ s ∷ []) (c.args.bank.now.items ++ new ∷ []) (λ n. [])) settings (pushed d before c.args.bank.now.items new stands (c.in_ok-channel.ensures.stands d))))

pub returns-in_default : goal.returns-in_default
returns-in_default g c = λ stands.
    let d = g.S.ObjectStore.description c.args.store.now in
    subst (λ (channels : List ChannelSettings). BankStands d channels c.args.bank.now.items (λ n. []))
    (sym (channels_without c.args.number d (g.S.ObjectStore.contents c.args.store.now) c.args.greatest c.args.time (sym c.in_default.ensures.exists))) stands

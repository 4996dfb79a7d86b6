use Rattle.std.proofs.Common.{◌≡◌, List, length, ◌∙◌, sym, subst, ap, arith}
use Rattle.std.proofs.lemmas.List.{length-map}
use Rattle.co_sdo.specs.Channels.{ChannelSettings, AreInOrder, HaveRoom, channels_of}
use Rattle.co_sdo.specs.Banks.{all_settings, places_below}
use Rattle.co_sdo.proofs.Numbers.{channels_in_order, channels_have_room}
use Rattle.co_sdo.proofs.bank.Bank.new.Goals as goal

pub places_by_id-requires : goal.places_by_id-requires
places_by_id-requires g c =
    let same : length (all_settings c.deref.result.now) ≡ length (channels_of (g.S.ObjectStore.description c.args.store.now) (g.S.ObjectStore.contents c.args.store.now) c.args.greatest c.args.time) = ap length (ap all_settings c.deref.ensures.value ∙ c.in_ok-channels.ensures.settings) in
    let len : length (all_settings c.deref.result.now) ≡ length c.deref.result.now = simp length-map in
    let order = channels_in_order (g.S.ObjectStore.description c.args.store.now) (g.S.ObjectStore.contents c.args.store.now) c.args.greatest c.args.time in
    omega (arith, same, len, order.few)

pub invariant_of-result : goal.invariant_of-result
invariant_of-result g c = record {
  order = subst (λ (s : List ChannelSettings). AreInOrder s) (sym (ap all_settings c.into_boxed_slice.ensures.items ∙ c.in_ok-channels.ensures.settings))
      (channels_in_order (g.S.ObjectStore.description c.args.store.now) (g.S.ObjectStore.contents c.args.store.now) c.args.greatest c.args.time);
  places = c.into_boxed_slice-2.ensures.items ∙ c.in_ok-places.ensures ∙ ap (λ bank. places_below 2048 (all_settings bank)) (c.deref.ensures.value ∙ sym c.into_boxed_slice.ensures.items);
}

pub returns-clause-room : goal.returns-clause-room
returns-clause-room g c = λ rows bounded.
    subst (λ (s : List ChannelSettings). HaveRoom rows s) (sym (ap all_settings c.into_boxed_slice.ensures.items ∙ c.in_ok-channels.ensures.settings))
    (channels_have_room (g.S.ObjectStore.description c.args.store.now) (g.S.ObjectStore.contents c.args.store.now) c.args.greatest c.args.time rows bounded)

use Rattle.std.proofs.Common.{◌≡◌, Some, None, eqb, get_or, sym, ap, ◌∙◌, subst, arith}
use Rattle.std.specs.Prelude.{position, ◌<◌, length}
use Rattle.std.proofs.lemmas.List.{length-map}
use Rattle.co_sdo.specs.Channels.{ChannelSettings}
use Rattle.co_sdo.specs.Banks.{all_settings, settings_of}
use Rattle.co_sdo.proofs.Outcomes.{number_found, number_none}
use Rattle.co_sdo.proofs.Places.{place_at, settings_at, table_length, within}
use Rattle.co_sdo.proofs.Searches.{place_within}
use Rattle.co_sdo.proofs.bank.Bank.channel_for.Goals as goal

pub index-requires : goal.index-requires
index-requires c = omega (arith, table_length c.self.inside.places.items.items 2048 (all_settings c.self.inside.channels.items.items) c.self.invariant.places, c.from.ensures, c.requires)

pub index-requires-in-Some : goal.index-requires-in-Some
index-requires-in-Some c =
    let at : position (λ e. eqb e.channel.request c.args.id) c.self.inside.channels.items.items ≡ Some c.from-in-Some.result =
    place_at c.self.inside.places.items.items 2048 c.self.inside.channels.items.items c.args.id c.index.result.now c.self.invariant.places c.requires (c.index.ensures ∙ ap (λ n. get_or c.self.inside.places.items.items n c.index.result.now) c.from.ensures) ∙ c.in-Some.is ∙ ap (λ n. Some n) (sym c.from-in-Some.ensures) in
    omega (arith, place_within (λ e. eqb e.channel.request c.args.id) c.self.inside.channels.items.items c.from-in-Some.result at)

pub returns-in-Some-clause-number : goal.returns-in-Some-clause-number
returns-in-Some-clause-number c = λ d channels logs all.
    let at : position (λ e. eqb e.channel.request c.args.id) c.self.inside.channels.items.items ≡ Some c.from-in-Some.result =
    place_at c.self.inside.places.items.items 2048 c.self.inside.channels.items.items c.args.id c.index.result.now c.self.invariant.places c.requires (c.index.ensures ∙ ap (λ n. get_or c.self.inside.places.items.items n c.index.result.now) c.from.ensures) ∙ c.in-Some.is ∙ ap (λ n. Some n) (sym c.from-in-Some.ensures) in
    number_found d channels c.args.self.now c.self.inside.channels.items.items c.self.view_is logs all c.args.id c.from-in-Some.result c.index-in-Some.result.now at c.index-in-Some.ensures

pub returns-in-None-clause-number : goal.returns-in-None-clause-number
returns-in-None-clause-number c = λ d channels logs all.
    let at : position (λ e. eqb e.channel.request c.args.id) c.self.inside.channels.items.items ≡ None =
    place_at c.self.inside.places.items.items 2048 c.self.inside.channels.items.items c.args.id c.index.result.now c.self.invariant.places c.requires (c.index.ensures ∙ ap (λ n. get_or c.self.inside.places.items.items n c.index.result.now) c.from.ensures) ∙ c.in-None.is in
    number_none d channels c.args.self.now c.self.inside.channels.items.items c.self.view_is logs all c.args.id at

pub returns-in-Some-clause-below : goal.returns-in-Some-clause-below
returns-in-Some-clause-below c =
    let at : position (λ e. eqb e.channel.request c.args.id) c.self.inside.channels.items.items ≡ Some c.from-in-Some.result =
    place_at c.self.inside.places.items.items 2048 c.self.inside.channels.items.items c.args.id c.index.result.now c.self.invariant.places c.requires (c.index.ensures ∙ ap (λ n. get_or c.self.inside.places.items.items n c.index.result.now) c.from.ensures) ∙ c.in-Some.is ∙ ap (λ n. Some n) (sym c.from-in-Some.ensures) in
    let lt : c.from-in-Some.result < length c.self.inside.channels.items.items = within (λ e. eqb e.channel.request c.args.id) c.self.inside.channels.items.items c.from-in-Some.result c.index-in-Some.result.now at in
    subst (λ (s : ChannelSettings). s.number < 128) (settings_at c.self.inside.channels.items.items c.from-in-Some.result c.index-in-Some.result.now (settings_of c.index-in-Some.result.now) lt c.index-in-Some.ensures)
    (c.self.invariant.order.below c.from-in-Some.result (settings_of c.index-in-Some.result.now) (simp length-map lt))

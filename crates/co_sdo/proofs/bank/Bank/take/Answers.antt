use Rattle.std.proofs.Common.{◌≡◌, Some, None, eqb, get_or, sym, ap, ◌∙◌, arith}
use Rattle.std.specs.Prelude.{position}
use Rattle.co_sdo.specs.Standing.{Standing}
use Rattle.co_sdo.specs.Banks.{all_settings, settings_of}
use Rattle.co_sdo.proofs.Places.{bank_kept, place_at, room_at, settings_kept, table_length, within}
use Rattle.co_sdo.proofs.Outcomes.{responses_found, key_found, contents_found, stands_found, responses_none, key_none, contents_none, stands_none}
use Rattle.co_sdo.proofs.Searches.{place_within}
use Rattle.co_sdo.proofs.bank.Bank.take.Goals as goal

pub index-requires : goal.index-requires
index-requires g c = omega (arith, table_length c.self.inside.places.items.items 2048 (all_settings c.self.inside.channels.items.items) c.self.invariant.places, c.from.ensures, c.id.ensures.id, c.id.ensures.small)

pub index_mut-receiver-requires : goal.index_mut-receiver-requires
index_mut-receiver-requires g c =
    let at : position (λ e. eqb e.channel.request c.args.frame.now.id) c.self.inside.channels.items.items ≡ Some c.from-in-Some.result =
    place_at c.self.inside.places.items.items 2048 c.self.inside.channels.items.items c.args.frame.now.id c.index.result.now c.self.invariant.places (omega (arith, c.id.ensures.id, c.id.ensures.small)) (c.index.ensures ∙ ap (λ n. get_or c.self.inside.places.items.items n c.index.result.now) (c.from.ensures ∙ c.id.ensures.id)) ∙ c.in-Some.is ∙ ap (λ n. Some n) (sym c.from-in-Some.ensures) in
    omega (arith, place_within (λ e. eqb e.channel.request c.args.frame.now.id) c.self.inside.channels.items.items c.from-in-Some.result at)

pub take-requires-clause-greatest : goal.take-requires-clause-greatest
take-requires-clause-greatest g c =
    let at : position (λ e. eqb e.channel.request c.args.frame.now.id) c.self.inside.channels.items.items ≡ Some c.from-in-Some.result =
    place_at c.self.inside.places.items.items 2048 c.self.inside.channels.items.items c.args.frame.now.id c.index.result.now c.self.invariant.places (omega (arith, c.id.ensures.id, c.id.ensures.small)) (c.index.ensures ∙ ap (λ n. get_or c.self.inside.places.items.items n c.index.result.now) (c.from.ensures ∙ c.id.ensures.id)) ∙ c.in-Some.is ∙ ap (λ n. Some n) (sym c.from-in-Some.ensures) in
    room_at (g.S.ObjectStore.description c.args.store.now).rows c.args.self.now c.self.inside.channels.items.items c.from-in-Some.result c.index_mut-receiver.result.now c.self.view_is c.requires.room
    (within (λ e. eqb e.channel.request c.args.frame.now.id) c.self.inside.channels.items.items c.from-in-Some.result c.index_mut-receiver.result.now at) c.index_mut-receiver.ensures.value

pub invariant_of-self : goal.invariant_of-self
invariant_of-self g c = bank_kept c.self.inside.places.items.items c.self.inside.channels.items.items c.from-in-Some.result c.index_mut-receiver.result.now _ c.index_mut-receiver.ensures.value (ap (λ (ch : Standing). settings_of (record { number = c.index_mut-receiver.result.now.number; channel = ch })) c.take.ensures.same) c.self.invariant

pub returns-in-Some-clause-settings : goal.returns-in-Some-clause-settings
returns-in-Some-clause-settings g c = settings_kept c.args.self.now c.self.inside.channels.items.items c.from-in-Some.result c.index_mut-receiver.result.now _ c.self.view_is c.index_mut-receiver.ensures.value (ap (λ (ch : Standing). settings_of (record { number = c.index_mut-receiver.result.now.number; channel = ch })) c.take.ensures.same)

pub returns-in-Some-clause-responses : goal.returns-in-Some-clause-responses
returns-in-Some-clause-responses g c = λ channels logs all.
    let at : position (λ e. eqb e.channel.request c.args.frame.now.id) c.self.inside.channels.items.items ≡ Some c.from-in-Some.result =
    place_at c.self.inside.places.items.items 2048 c.self.inside.channels.items.items c.args.frame.now.id c.index.result.now c.self.invariant.places (omega (arith, c.id.ensures.id, c.id.ensures.small)) (c.index.ensures ∙ ap (λ n. get_or c.self.inside.places.items.items n c.index.result.now) (c.from.ensures ∙ c.id.ensures.id)) ∙ c.in-Some.is ∙ ap (λ n. Some n) (sym c.from-in-Some.ensures) in
    responses_found (g.S.ObjectStore.description c.args.store.now) channels c.args.self.now c.self.inside.channels.items.items c.self.view_is logs all (g.S.ObjectStore.contents c.args.store.now) c.args.frame.now c.from-in-Some.result c.index_mut-receiver.result.now at c.index_mut-receiver.ensures.value _ _ c.take.ensures.answers

pub returns-in-Some-clause-key : goal.returns-in-Some-clause-key
returns-in-Some-clause-key g c = λ channels logs all.
    let at : position (λ e. eqb e.channel.request c.args.frame.now.id) c.self.inside.channels.items.items ≡ Some c.from-in-Some.result =
    place_at c.self.inside.places.items.items 2048 c.self.inside.channels.items.items c.args.frame.now.id c.index.result.now c.self.invariant.places (omega (arith, c.id.ensures.id, c.id.ensures.small)) (c.index.ensures ∙ ap (λ n. get_or c.self.inside.places.items.items n c.index.result.now) (c.from.ensures ∙ c.id.ensures.id)) ∙ c.in-Some.is ∙ ap (λ n. Some n) (sym c.from-in-Some.ensures) in
    key_found (g.S.ObjectStore.description c.args.store.now) channels c.args.self.now c.self.inside.channels.items.items c.self.view_is logs all (g.S.ObjectStore.contents c.args.store.now) c.args.frame.now c.from-in-Some.result c.index_mut-receiver.result.now at c.index_mut-receiver.ensures.value _ c.take.ensures.key

pub returns-in-Some-clause-contents : goal.returns-in-Some-clause-contents
returns-in-Some-clause-contents g c = λ channels logs all.
    let at : position (λ e. eqb e.channel.request c.args.frame.now.id) c.self.inside.channels.items.items ≡ Some c.from-in-Some.result =
    place_at c.self.inside.places.items.items 2048 c.self.inside.channels.items.items c.args.frame.now.id c.index.result.now c.self.invariant.places (omega (arith, c.id.ensures.id, c.id.ensures.small)) (c.index.ensures ∙ ap (λ n. get_or c.self.inside.places.items.items n c.index.result.now) (c.from.ensures ∙ c.id.ensures.id)) ∙ c.in-Some.is ∙ ap (λ n. Some n) (sym c.from-in-Some.ensures) in
    contents_found (g.S.ObjectStore.description c.args.store.now) channels c.args.self.now c.self.inside.channels.items.items c.self.view_is logs all (g.S.ObjectStore.contents c.args.store.now) c.args.frame.now c.from-in-Some.result c.index_mut-receiver.result.now at c.index_mut-receiver.ensures.value _ c.take.ensures.contents

pub returns-in-Some-clause-stands : goal.returns-in-Some-clause-stands
returns-in-Some-clause-stands g c = λ channels logs all.
    let at : position (λ e. eqb e.channel.request c.args.frame.now.id) c.self.inside.channels.items.items ≡ Some c.from-in-Some.result =
    place_at c.self.inside.places.items.items 2048 c.self.inside.channels.items.items c.args.frame.now.id c.index.result.now c.self.invariant.places (omega (arith, c.id.ensures.id, c.id.ensures.small)) (c.index.ensures ∙ ap (λ n. get_or c.self.inside.places.items.items n c.index.result.now) (c.from.ensures ∙ c.id.ensures.id)) ∙ c.in-Some.is ∙ ap (λ n. Some n) (sym c.from-in-Some.ensures) in
    stands_found (g.S.ObjectStore.description c.args.store.now) channels c.args.self.now c.self.inside.channels.items.items c.self.view_is logs all (g.S.ObjectStore.contents c.args.store.now) c.args.frame.now c.from-in-Some.result c.index_mut-receiver.result.now at c.index_mut-receiver.ensures.value (record { number = c.index_mut-receiver.result.now.number; channel = c.take.new.self }) c.self.invariant.order
    (ap (λ (ch : Standing). settings_of (record { number = c.index_mut-receiver.result.now.number; channel = ch })) c.take.ensures.same) c.take.ensures.stands

pub returns-in-None-clause-responses : goal.returns-in-None-clause-responses
returns-in-None-clause-responses g c = λ channels logs all.
    let at : position (λ e. eqb e.channel.request c.args.frame.now.id) c.self.inside.channels.items.items ≡ None =
    place_at c.self.inside.places.items.items 2048 c.self.inside.channels.items.items c.args.frame.now.id c.index.result.now c.self.invariant.places (omega (arith, c.id.ensures.id, c.id.ensures.small)) (c.index.ensures ∙ ap (λ n. get_or c.self.inside.places.items.items n c.index.result.now) (c.from.ensures ∙ c.id.ensures.id)) ∙ c.in-None.is in
    responses_none (g.S.ObjectStore.description c.args.store.now) channels c.args.self.now c.self.inside.channels.items.items c.self.view_is logs all (g.S.ObjectStore.contents c.args.store.now) c.args.frame.now at _

pub returns-in-None-clause-key : goal.returns-in-None-clause-key
returns-in-None-clause-key g c = λ channels logs all.
    let at : position (λ e. eqb e.channel.request c.args.frame.now.id) c.self.inside.channels.items.items ≡ None =
    place_at c.self.inside.places.items.items 2048 c.self.inside.channels.items.items c.args.frame.now.id c.index.result.now c.self.invariant.places (omega (arith, c.id.ensures.id, c.id.ensures.small)) (c.index.ensures ∙ ap (λ n. get_or c.self.inside.places.items.items n c.index.result.now) (c.from.ensures ∙ c.id.ensures.id)) ∙ c.in-None.is in
    key_none (g.S.ObjectStore.description c.args.store.now) channels c.args.self.now c.self.inside.channels.items.items c.self.view_is logs all (g.S.ObjectStore.contents c.args.store.now) c.args.frame.now at

pub returns-in-None-clause-contents : goal.returns-in-None-clause-contents
returns-in-None-clause-contents g c = λ channels logs all.
    let at : position (λ e. eqb e.channel.request c.args.frame.now.id) c.self.inside.channels.items.items ≡ None =
    place_at c.self.inside.places.items.items 2048 c.self.inside.channels.items.items c.args.frame.now.id c.index.result.now c.self.invariant.places (omega (arith, c.id.ensures.id, c.id.ensures.small)) (c.index.ensures ∙ ap (λ n. get_or c.self.inside.places.items.items n c.index.result.now) (c.from.ensures ∙ c.id.ensures.id)) ∙ c.in-None.is in
    contents_none (g.S.ObjectStore.description c.args.store.now) channels c.args.self.now c.self.inside.channels.items.items c.self.view_is logs all (g.S.ObjectStore.contents c.args.store.now) c.args.frame.now at

pub returns-in-None-clause-stands : goal.returns-in-None-clause-stands
returns-in-None-clause-stands g c = λ channels logs all.
    let at : position (λ e. eqb e.channel.request c.args.frame.now.id) c.self.inside.channels.items.items ≡ None =
    place_at c.self.inside.places.items.items 2048 c.self.inside.channels.items.items c.args.frame.now.id c.index.result.now c.self.invariant.places (omega (arith, c.id.ensures.id, c.id.ensures.small)) (c.index.ensures ∙ ap (λ n. get_or c.self.inside.places.items.items n c.index.result.now) (c.from.ensures ∙ c.id.ensures.id)) ∙ c.in-None.is in
    stands_none (g.S.ObjectStore.description c.args.store.now) channels c.args.self.now c.self.inside.channels.items.items c.self.view_is logs all (g.S.ObjectStore.contents c.args.store.now) c.args.frame.now at

use Rattle.std.proofs.Common.{◌≡◌, Some, None, sym, ap, ◌∙◌}
use Rattle.std.specs.Prelude.{position}
use Rattle.co_sdo.specs.Standing.{Standing, is_expired}
use Rattle.co_sdo.specs.Banks.{settings_of}
use Rattle.co_sdo.proofs.Places.{bank_kept, passes, settings_kept}
use Rattle.co_sdo.proofs.Outcomes.{which_found, abort_found, gave_up_found, which_none, abort_none, gave_up_none}
use Rattle.co_sdo.proofs.bank.Bank.time_out_lowest.Goals as goal

pub time_out-requires-clause-expired : goal.time_out-requires-clause-expired
time_out-requires-clause-expired c =
    let at : position (λ e. is_expired e.channel) c.self.inside.channels.items.items ≡ Some c.in-Some.place = ap (position (λ e. is_expired e.channel)) (sym c.deref.ensures.value) ∙ sym c.in-Some.ensures in
    passes (λ e. is_expired e.channel) c.self.inside.channels.items.items c.in-Some.place c.index_mut-expired.result.now at c.index_mut-expired.ensures.value

pub invariant_of-self : goal.invariant_of-self
invariant_of-self c = bank_kept c.self.inside.places.items.items c.self.inside.channels.items.items c.in-Some.place c.index_mut-expired.result.now _ c.index_mut-expired.ensures.value (ap (λ (ch : Standing). settings_of (record { number = c.index_mut-expired.result.now.number; channel = ch })) c.time_out.ensures.same) c.self.invariant

pub returns-in-Some-clause-settings : goal.returns-in-Some-clause-settings
returns-in-Some-clause-settings c = settings_kept c.args.self.now c.self.inside.channels.items.items c.in-Some.place c.index_mut-expired.result.now _ c.self.view_is c.index_mut-expired.ensures.value (ap (λ (ch : Standing). settings_of (record { number = c.index_mut-expired.result.now.number; channel = ch })) c.time_out.ensures.same)

pub returns-in-Some-clause-which : goal.returns-in-Some-clause-which
returns-in-Some-clause-which c = λ d channels logs all.
    let at : position (λ e. is_expired e.channel) c.self.inside.channels.items.items ≡ Some c.in-Some.place = ap (position (λ e. is_expired e.channel)) (sym c.deref.ensures.value) ∙ sym c.in-Some.ensures in
    which_found d channels c.args.self.now c.self.inside.channels.items.items c.self.view_is logs all c.in-Some.place c.index_mut-expired.result.now at c.index_mut-expired.ensures.value

pub returns-in-Some-clause-responses : goal.returns-in-Some-clause-responses
returns-in-Some-clause-responses c = λ d channels logs all.
    let at : position (λ e. is_expired e.channel) c.self.inside.channels.items.items ≡ Some c.in-Some.place = ap (position (λ e. is_expired e.channel)) (sym c.deref.ensures.value) ∙ sym c.in-Some.ensures in
    abort_found d channels c.args.self.now c.self.inside.channels.items.items c.self.view_is logs all c.in-Some.place c.index_mut-expired.result.now at c.index_mut-expired.ensures.value _ _ (c.time_out.ensures.answers d)

pub returns-in-Some-clause-stands : goal.returns-in-Some-clause-stands
returns-in-Some-clause-stands c = λ d channels logs all.
    let at : position (λ e. is_expired e.channel) c.self.inside.channels.items.items ≡ Some c.in-Some.place = ap (position (λ e. is_expired e.channel)) (sym c.deref.ensures.value) ∙ sym c.in-Some.ensures in
    gave_up_found d channels c.args.self.now c.self.inside.channels.items.items c.self.view_is logs all c.in-Some.place c.index_mut-expired.result.now at c.index_mut-expired.ensures.value (record { number = c.index_mut-expired.result.now.number; channel = c.time_out.new.self }) c.self.invariant.order
    (ap (λ (ch : Standing). settings_of (record { number = c.index_mut-expired.result.now.number; channel = ch })) c.time_out.ensures.same) (c.time_out.ensures.stands d)

pub returns-in-None-clause-which : goal.returns-in-None-clause-which
returns-in-None-clause-which c = λ d channels logs all.
    let at : position (λ e. is_expired e.channel) c.self.inside.channels.items.items ≡ None = ap (position (λ e. is_expired e.channel)) (sym c.deref.ensures.value) ∙ sym c.in-None.ensures in
    which_none d channels c.args.self.now c.self.inside.channels.items.items c.self.view_is logs all at

pub returns-in-None-clause-responses : goal.returns-in-None-clause-responses
returns-in-None-clause-responses c = λ d channels logs all.
    let at : position (λ e. is_expired e.channel) c.self.inside.channels.items.items ≡ None = ap (position (λ e. is_expired e.channel)) (sym c.deref.ensures.value) ∙ sym c.in-None.ensures in
    abort_none d channels c.args.self.now c.self.inside.channels.items.items c.self.view_is logs all at _

pub returns-in-None-clause-stands : goal.returns-in-None-clause-stands
returns-in-None-clause-stands c = λ d channels logs all.
    let at : position (λ e. is_expired e.channel) c.self.inside.channels.items.items ≡ None = ap (position (λ e. is_expired e.channel)) (sym c.deref.ensures.value) ∙ sym c.in-None.ensures in
    gave_up_none d channels c.args.self.now c.self.inside.channels.items.items c.self.view_is logs all at

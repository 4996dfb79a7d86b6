use Rattle.std.proofs.Common.{◌≡◌, Some, None, eqb, sym, ap, ◌∙◌}
use Rattle.std.specs.Prelude.{position}
use Rattle.co_sdo.specs.Standing.{room_after}
use Rattle.co_sdo.proofs.Outcomes.{held_found, held_none, room_found}
use Rattle.co_sdo.proofs.bank.Bank.held.Goals as goal

pub returns-in-Some-clause-held : goal.returns-in-Some-clause-held
returns-in-Some-clause-held c = λ d channels logs all.
    let at : position (λ e. eqb e.number c.args.number) c.self.inside.channels.items.items ≡ Some c.in-Some.place = ap (position (λ e. eqb e.number c.args.number)) (sym c.deref.ensures.value) ∙ sym c.in-Some.ensures in
    held_found d channels c.args.self.now c.self.inside.channels.items.items c.self.view_is logs all c.args.number c.in-Some.place c.index.result.now at c.index.ensures c.held.result (c.held.ensures.held d)

pub returns-in-Some-clause-room : goal.returns-in-Some-clause-room
returns-in-Some-clause-room c = λ d channels logs all.
    let at : position (λ e. eqb e.number c.args.number) c.self.inside.channels.items.items ≡ Some c.in-Some.place = ap (position (λ e. eqb e.number c.args.number)) (sym c.deref.ensures.value) ∙ sym c.in-Some.ensures in
    room_found d channels c.args.self.now c.self.inside.channels.items.items c.self.view_is logs all c.args.number c.in-Some.place c.index.result.now at c.index.ensures (room_after d.rows) c.held.result (c.held.ensures.room d)

pub returns-in-None-clause-held : goal.returns-in-None-clause-held
returns-in-None-clause-held c = λ d channels logs all.
    let at : position (λ e. eqb e.number c.args.number) c.self.inside.channels.items.items ≡ None = ap (position (λ e. eqb e.number c.args.number)) (sym c.deref.ensures.value) ∙ sym c.in-None.ensures in
    held_none d channels c.args.self.now c.self.inside.channels.items.items c.self.view_is logs all c.args.number at

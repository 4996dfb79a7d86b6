use Rattle.std.proofs.Common.{◌≡◌, Option, Some, sym, ap, ◌∙◌, subst}
use Rattle.bafokun.specs.declared.held.Held.{Held}
use Rattle.bafokun.specs.Bus.{GivesBus, bus_input}
use Rattle.bafokun.specs.Devices.{HasStood}
use Rattle.bafokun.specs.Ending.{ending_in}
use Rattle.bafokun.specs.Happened.{and_bus, events_of}
use Rattle.bafokun.proofs.GivenBus.{given_bus}
use Rattle.bafokun.proofs.Added.{events_given}
use Rattle.bafokun.proofs.inputs.bafokun_bus.Goals as goal

pub returns-in-Some-clause-gives : goal.returns-in-Some-clause-gives
returns-in-Some-clause-gives c = λ k before stands.
    let there : Held = c.deref_mut.result.now in
    let is_there : Some there ≡ c.args.node.now.seal.value = ap Some c.deref_mut.ensures.value ∙ c.in-Some.ensures.taken in
    let stood = subst (λ (o : Option Held). HasStood k o before) (sym is_there) stands in
    subst (λ (o : Option Held). GivesBus k before (bus_input k before (ending_in o) c.args.change) c.give.new.self
    c.args.frames.now c.give.new.frames c.give.result)
    is_there
    (given_bus k before (bus_input k before there.ending c.args.change) c.bus.new.self c.give.new.self
    c.args.frames.now c.give.new.frames c.give.result (c.bus.ensures.gave k before stood) c.give.ensures.back c.give.ensures.put c.give.ensures.count)

pub returns-in-Some-clause-events : goal.returns-in-Some-clause-events
returns-in-Some-clause-events c = λ k before stands.
    let there : Held = c.deref_mut.result.now in
    let is_there : Some there ≡ c.args.node.now.seal.value = ap Some c.deref_mut.ensures.value ∙ c.in-Some.ensures.taken in
    let stood = subst (λ (o : Option Held). HasStood k o before) (sym is_there) stands in
    subst (λ (o : Option Held). events_of c.give.new.self
    ≡ and_bus k before (bus_input k before (ending_in o) c.args.change) (events_of c.args.node.now))
    is_there
    (events_given _ there c.bus.new.self c.give.new.self (and_bus k before (bus_input k before there.ending c.args.change))
    is_there c.give.ensures.back (c.bus.ensures.events k before stood))

use Rattle.std.proofs.Common.{◌≡◌, Option, Some, sym, ap, ◌∙◌, subst}
use Rattle.co_node_model.specs.Inputs.{Applied, Written}
use Rattle.bafokun.specs.declared.held.Held.{Held}
use Rattle.bafokun.specs.Devices.{Gives, HasStood, entries_in}
use Rattle.bafokun.specs.Ending.{by_input, ending_of}
use Rattle.bafokun.specs.Entries.{key_named}
use Rattle.bafokun.specs.Happened.{and_input, events_of}
use Rattle.bafokun.proofs.GivenBus.{given_bus}
use Rattle.bafokun.proofs.Added.{ending_given, events_given}
use Rattle.bafokun.proofs.handle.Handle.write.Goals as goal

pub returns-in-Some-clause-gives : goal.returns-in-Some-clause-gives
returns-in-Some-clause-gives c = λ k before stands.
    let there : Held = c.deref_mut.result.now in
    let is_there : Some there ≡ c.args.self.now.seal.value = ap Some c.deref_mut.ensures.value ∙ c.in-Some.ensures.taken in
    let stood = subst (λ (o : Option Held). HasStood k o before) (sym is_there) stands in
    subst (λ (o : Option Held). Gives k before (Applied (Written (key_named (entries_in o) c.args.name) c.args.bytes.now)) c.give.new.self
    c.args.frames.now c.give.new.frames c.give.result)
    is_there
    (given_bus k before (Some (Applied (Written (key_named there.entries c.args.name) c.args.bytes.now))) c.write.new.self c.give.new.self
    c.args.frames.now c.give.new.frames c.give.result (c.write.ensures.gave k before stood) c.give.ensures.back c.give.ensures.put c.give.ensures.count)

pub returns-in-Some-clause-events : goal.returns-in-Some-clause-events
returns-in-Some-clause-events c = λ k before stands.
    let there : Held = c.deref_mut.result.now in
    let is_there : Some there ≡ c.args.self.now.seal.value = ap Some c.deref_mut.ensures.value ∙ c.in-Some.ensures.taken in
    let stood = subst (λ (o : Option Held). HasStood k o before) (sym is_there) stands in
    subst (λ (o : Option Held). events_of c.give.new.self
    ≡ and_input k before (Applied (Written (key_named (entries_in o) c.args.name) c.args.bytes.now)) (events_of c.args.self.now))
    is_there
    (events_given _ there c.write.new.self c.give.new.self (and_input k before (Applied (Written (key_named there.entries c.args.name) c.args.bytes.now)))
    is_there c.give.ensures.back (c.write.ensures.events k before stood))

pub returns-in-Some-clause-ending : goal.returns-in-Some-clause-ending
returns-in-Some-clause-ending c = λ k before stands.
    let there : Held = c.deref_mut.result.now in
    let is_there : Some there ≡ c.args.self.now.seal.value = ap Some c.deref_mut.ensures.value ∙ c.in-Some.ensures.taken in
    let stood = subst (λ (o : Option Held). HasStood k o before) (sym is_there) stands in
    subst (λ (o : Option Held). ending_of c.give.new.self
    ≡ by_input k before (Applied (Written (key_named (entries_in o) c.args.name) c.args.bytes.now)) (ending_of c.args.self.now))
    is_there
    (ending_given _ there c.write.new.self c.give.new.self (by_input k before (Applied (Written (key_named there.entries c.args.name) c.args.bytes.now)))
    is_there c.give.ensures.back (c.write.ensures.ending k before stood))

use Rattle.std.proofs.Common.{◌≡◌, Option, Some, sym, subst}
use Rattle.std.specs.Box.{boxed_slice_items}
use Rattle.co_node_model.specs.Inputs.{Framed}
use Rattle.bafokun.specs.declared.held.Held.{Held}
use Rattle.bafokun.specs.Changes.{and_set, changes_in}
use Rattle.bafokun.specs.Devices.{HasStood, entries_in}
use Rattle.bafokun.proofs.handle.Handle.take_frame.Goals as goal

pub returns-clause-changes : goal.returns-clause-changes
returns-clause-changes c = λ k before stands.
    let there : Held = c.held_mut-held.result.now in
    let is_there : Some there ≡ c.args.self.now.seal.value = sym c.held_mut-held.ensures.value in
    let stood = subst (λ (o : Option Held). HasStood k o before) (sym is_there) stands in
    subst (λ (o : Option Held). boxed_slice_items c.take_frame.new.self.changes ≡ and_set k before (Framed c.args.frame.now) (entries_in o) (changes_in o))
    is_there (c.take_frame.ensures.changes k before stood)

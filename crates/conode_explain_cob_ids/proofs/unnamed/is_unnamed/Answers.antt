use Rattle.conode_explain_cob_ids.specs.Buses.{bus_view}
use Rattle.conode_explain_cob_ids.proofs.NothingNamed.{no_claims, not_moved, serves_none, was_not}
use Rattle.conode_explain_cob_ids.proofs.unnamed.is_unnamed.Goals as goal

pub returns-clause-claims : goal.returns-clause-claims
returns-clause-claims c = λ yes.
    no_claims (bus_view c.args.bus) c.args.id (c.sheets_may_name.ensures.pdos (was_not c.sheets_may_name.result yes)) cc

pub returns-clause-service : goal.returns-clause-service
returns-clause-service c = λ yes.
    serves_none (bus_view c.args.bus) c.args.id (c.sheets_may_name.ensures.services (was_not c.sheets_may_name.result yes)) cc

pub returns-clause-moved : goal.returns-clause-moved
returns-clause-moved c = λ yes.
    not_moved c.args.bus.entries.now c.args.bus.interface.now c.args.id cc

use Rattle.conode_explain_cob_ids.specs.Buses.{bus_view}
use Rattle.conode_explain_cob_ids.specs.Known.{known_view}
use Rattle.conode_explain_cob_ids.proofs.NamedIds.{no_service}
use Rattle.conode_explain_cob_ids.proofs.service_ids.service_on.Goals as goal

pub returns-then-not-may_name : goal.returns-then-not-may_name
returns-then-not-may_name c =
    no_service (bus_view c.args.bus) c.args.id (known_view c.args.sheet.now) (c.may_name.ensures.service c.if-not-may_name.true)

use Rattle.conode_explain_cob_ids.specs.Buses.{bus_view}
use Rattle.conode_explain_cob_ids.proofs.NoClaims.{none_added}
use Rattle.conode_explain_cob_ids.proofs.claim.add_both.Goals as goal

pub returns-then-not-may_be_claimed : goal.returns-then-not-may_be_claimed
returns-then-not-may_be_claimed c =
    none_added (bus_view c.args.bus) c.args.id c.args.claims.now.items (c.may_be_claimed.ensures c.if-not-may_be_claimed.true)

use Rattle.std.proofs.Common.{refl}
use Rattle.co_node.specs.Nodes.{planned}
use Rattle.co_node.proofs.Builds.{stands_by_greatest, stands_by_plan, starts_by_plan}
use Rattle.co_node.proofs.Greatest.{is_greatest}
use Rattle.co_node.proofs.node.Node.build.Goals as goal

pub returns-in-Ok-clause-begins : goal.returns-in-Ok-clause-begins
returns-in-Ok-clause-begins c =
    stands_by_plan (planned c.args.sheet.now c.args.node_id c.args.config.now) _ _ c.args.config.now.time _ _ _
    c.in_ok-store.ensures.description c.in_ok-store.ensures.contents c.in-Ok.ensures.stands

pub returns-in-Ok-clause-stands : goal.returns-in-Ok-clause-stands
returns-in-Ok-clause-stands c = λ greatest asked.
    stands_by_greatest (planned c.args.sheet.now c.args.node_id c.args.config.now) greatest c.args.config.now.time _ _ _
    asked (returns-in-Ok-clause-begins c)

pub returns-in-Ok-clause-start : goal.returns-in-Ok-clause-start
returns-in-Ok-clause-start c = λ key.
    starts_by_plan (planned c.args.sheet.now c.args.node_id c.args.config.now) _ _ key c.in_ok-store.ensures.description
    c.in_ok-store.ensures.contents (c.in_ok-store.ensures.initial key)

pub returns-in-Ok-clause-built : goal.returns-in-Ok-clause-built
returns-in-Ok-clause-built c = record { faultless = c.in_ok-store.ensures.ok; description = refl; start = refl }

pub returns-in_err-store-clause-greatest : goal.returns-in_err-store-clause-greatest
returns-in_err-store-clause-greatest c = is_greatest (planned c.args.sheet.now c.args.node_id c.args.config.now)

pub returns-in-Ok-clause-greatest : goal.returns-in-Ok-clause-greatest
returns-in-Ok-clause-greatest c = is_greatest (planned c.args.sheet.now c.args.node_id c.args.config.now)

pub returns-in-Err-clause-greatest : goal.returns-in-Err-clause-greatest
returns-in-Err-clause-greatest c = is_greatest (planned c.args.sheet.now c.args.node_id c.args.config.now)

-- Each row is ready, since no sum is out of range; the keys are those of the rows.
use Rattle.std.proofs.Common.{rules, ◌≡◌, None, map, ap, ◌∙◌}
use Rattle.co_sheet.specs.SheetViews.{row_view}
use Rattle.co_dict.specs.Stores.{Description}
use Rattle.co_dict_build.specs.Capacities.{limits_view}
use Rattle.co_dict_build.specs.Built.{plan_in}
use Rattle.co_dict_build.specs.BuildFaults.{value_out_of_range}
use Rattle.co_dict_build.proofs.Plans.{all_ready, keys_built, begins_initially}
use Rattle.co_dict_build.proofs.build.build_rows.Goals as goal

pub from_rows-requires-clause-ready : goal.from_rows-requires-clause-ready
from_rows-requires-clause-ready g c =
    let none : value_out_of_range c.args.node_id (map row_view c.args.rows.now) ≡ None = search rules in
    all_ready c.args.node_id c.args.rows.now c.if-node_id-gt127.false c.requires.sheet none

pub parameter_fault-requires : goal.parameter_fault-requires
parameter_fault-requires g c =
    ap (λ (d : Description). d.keys) c.in-Ok-from_rows.ensures.description ∙ keys_built c.args.node_id (limits_view c.args.limits.now) c.args.rows.now

pub parameter_fault_of-requires-clause-ready : goal.parameter_fault_of-requires-clause-ready
parameter_fault_of-requires-clause-ready g c =
    let none : value_out_of_range c.args.node_id (map row_view c.args.rows.now) ≡ None = search rules in
    all_ready c.args.node_id c.args.rows.now c.if-node_id-gt127.false c.requires.sheet none

pub returns-in-None-clause-initial : goal.returns-in-None-clause-initial
returns-in-None-clause-initial g c =
    begins_initially (plan_in c.args.node_id c.args.limits.now c.args.rows.now c.args.dummies) _ _ c.in-Ok-from_rows.ensures.description c.in-Ok-from_rows.ensures.contents

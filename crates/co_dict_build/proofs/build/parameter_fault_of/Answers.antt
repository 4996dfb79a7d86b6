-- The faults of the parameters don't depend on the limits.
use Rattle.std.proofs.Common.{[], map, ap, ◌∙◌}
use Rattle.co_sheet.specs.SheetViews.{row_view}
use Rattle.co_dict.specs.Stores.{Description}
use Rattle.co_dict_build.specs.Capacities.{Limits, limits_view}
use Rattle.co_dict_build.proofs.Plans.{keys_built}
use Rattle.co_dict_build.proofs.Roomless.{same_faults}
use Rattle.co_dict_build.proofs.build.parameter_fault_of.Goals as goal

abbrev no_room : Limits
no_room = record { strings = 0; domains = 0; own = [] }

pub parameter_fault-requires : goal.parameter_fault-requires
parameter_fault-requires g c =
    ap (λ (d : Description). d.keys) c.in_ok-store.ensures.description ∙ keys_built c.args.node_id no_room c.args.rows.now

pub returns : goal.returns
returns g c = λ limits.
    same_faults c.args.node_id no_room (limits_view limits) (map row_view c.args.rows.now) c.args.dummies _ _ c.parameter_fault.result
    c.in_ok-store.ensures.description c.in_ok-store.ensures.contents c.parameter_fault.ensures

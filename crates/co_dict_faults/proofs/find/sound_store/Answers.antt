use Rattle.std.proofs.Common.{map, ap, ◌∙◌}
use Rattle.co_sheet.specs.SheetViews.{row_view}
use Rattle.co_dict.specs.Stores.{Description}
use Rattle.co_dict_build.proofs.Plans.{keys_built}
use Rattle.co_dict_faults.specs.SoundPlans.{no_room}
use Rattle.co_dict_faults.proofs.RowLemmas.{rows_ready, same_keys, sound_increase}
use Rattle.co_dict_faults.proofs.find.sound_store.Goals as goal

pub from_rows-requires-clause-ready : goal.from_rows-requires-clause-ready
from_rows-requires-clause-ready g c =
    rows_ready c.args.node_id c.args.rows.now c.as_slice.result.now c.requires.last_node c.requires.sheet
    (ap (map row_view) c.as_slice.ensures.value ∙ c.in-Ok.ensures)

pub from_rows-requires-clause-increase : goal.from_rows-requires-clause-increase
from_rows-requires-clause-increase g c =
    sound_increase c.args.node_id c.args.rows.now c.as_slice.result.now
    (ap (map row_view) c.as_slice.ensures.value ∙ c.in-Ok.ensures) c.requires.increase

pub returns-clause-keys : goal.returns-clause-keys
returns-clause-keys g c =
    ap (λ (d : Description). d.keys) c.in-Ok-from_rows.ensures.description
    ∙ keys_built c.args.node_id no_room c.as_slice.result.now
    ∙ same_keys c.args.node_id c.args.rows.now c.as_slice.result.now (ap (map row_view) c.as_slice.ensures.value ∙ c.in-Ok.ensures)

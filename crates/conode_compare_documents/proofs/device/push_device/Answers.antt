-- One part after another.
use Rattle.conode_compare_report.proofs.Places.{rows_counted}
use Rattle.conode_compare_documents.specs.Device.{device}
use Rattle.conode_json.proofs.Appending.{both}
use Rattle.conode_compare_documents.proofs.device.push_device.Goals as goal

pub returns : goal.returns
unfolding device
returns c = rw (← c.report.view_is, ← c.report-inside.view_is) (both (rw (← rows_counted c.args.about.now.rows.now) at c.push_rows.ensures) c.push_stamps.ensures)

use Rattle.co_node_device.proofs.Tables.{forms_kept}
use Rattle.co_node_device.proofs.mapping_table.mappings_stay.Goals as goal

pub returns : goal.returns
returns c = λ side d before now table agree t. record {
  forms = forms_kept side d before now table (c.mapping_by_words.ensures side d before now) t.few agree t.forms;
  covers = t.covers;
  few = t.few;
}

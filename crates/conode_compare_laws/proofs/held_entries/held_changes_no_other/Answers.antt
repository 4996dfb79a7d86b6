use Rattle.conode_compare_laws.proofs.RpdoDifferences.{all_pick, all_read, laws_pick, same, same_read}
use Rattle.conode_compare_laws.specs.RpdoDifferences.{all_besides_held}
use Rattle.conode_compare_laws.proofs.held_entries.held_changes_no_other.Goals as goal

pub returns : goal.returns
returns c = record {
  picked = λ these subject rows recorded picks. same_read these picks subject rows recorded;
  read = λ these subject rows frames recorded picks. all_read these picks subject rows frames recorded;
  laws = laws_pick;
  others = same all_besides_held all_pick;
}

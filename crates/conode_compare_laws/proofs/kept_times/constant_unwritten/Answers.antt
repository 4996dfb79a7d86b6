use Rattle.std.proofs.Common.{[]}
use Rattle.conode_compare_laws.proofs.PeriodsKept.{all_seen, all_unwritten}
use Rattle.conode_compare_laws.proofs.SheetTimes.{constant_held}
use Rattle.conode_compare_laws.proofs.kept_times.constant_unwritten.Goals as goal

pub returns : goal.returns
returns c = record {
  seen = λ plan k clients key inputs built constant. all_seen c.set_is_permitted.ensures k key (constant_held plan k built key constant) clients inputs [];
  first = λ plan k key inputs built constant. all_unwritten c.set_is_permitted.ensures k key (constant_held plan k built key constant) inputs [];
}

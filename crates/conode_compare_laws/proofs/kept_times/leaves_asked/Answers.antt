use Rattle.std.proofs.Common.{[]}
use Rattle.conode_compare_laws.proofs.AlwaysFitted.{built_types}
use Rattle.conode_compare_laws.proofs.PeriodsKept.{all_ask, all_word}
use Rattle.conode_compare_laws.proofs.kept_times.leaves_asked.Goals as goal

pub returns : goal.returns
returns c = record {
  period = λ plan k inputs built lawful. all_ask k (built_types plan k built lawful) (λ all. (c.stays_apart.ensures k all (c.begins_apart.ensures plan k built)).sync) inputs [];
  inhibit = λ plan k inhibit inputs built lawful has. all_word k (built_types plan k built lawful) (λ all. (c.stays_apart.ensures k all (c.begins_apart.ensures plan k built)).sync) inhibit inputs [] has;
}

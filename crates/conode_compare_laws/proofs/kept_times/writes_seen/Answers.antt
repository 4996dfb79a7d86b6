use Rattle.std.proofs.Common.{[]}
use Rattle.conode_compare_laws.proofs.AnswerDevice.{numbered}
use Rattle.conode_compare_laws.proofs.OtherWriters.{all_seen}
use Rattle.conode_compare_laws.proofs.kept_times.writes_seen.Goals as goal

pub returns : goal.returns
returns c = λ plan k clients key inputs built off others. all_seen k clients key (numbered k (c.begins_other.ensures plan k built).channels (c.begins_aside.ensures plan k built).channels) inputs [] off others

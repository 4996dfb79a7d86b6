use Rattle.co_value.proofs.Bytes.{has_way_back, has_bytes}
use Rattle.co_value.proofs.value.way_back.Goals as goal

pub returns-clause-back : goal.returns-clause-back
returns-clause-back c = has_way_back

pub returns-clause-bytes : goal.returns-clause-bytes
returns-clause-bytes c = has_bytes

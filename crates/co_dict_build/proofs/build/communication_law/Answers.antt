use Rattle.co_dict_build.proofs.PairLaws.{has_cob_id}
use Rattle.co_dict_build.proofs.build.communication_law.Goals as goal

pub returns : goal.returns
returns c = has_cob_id

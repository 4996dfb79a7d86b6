use Rattle.co_dict_faults.proofs.FirstLemmas.{first_is_answered}
use Rattle.co_dict_faults.proofs.EachLemmas.{each_is_one}
use Rattle.co_dict_faults.proofs.OrderLemmas.{all_increase}
use Rattle.co_dict_faults.proofs.laws.all_build_faults.Goals as goal

pub returns-clause-first : goal.returns-clause-first
returns-clause-first c = first_is_answered

pub returns-clause-each : goal.returns-clause-each
returns-clause-each c = each_is_one

pub returns-clause-increase : goal.returns-clause-increase
returns-clause-increase c = all_increase

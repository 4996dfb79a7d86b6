use Rattle.co_dict.proofs.WriteLemmas.{by_sdo, by_application}
use Rattle.co_dict.proofs.write_laws.own_rule_law.Goals as goal

pub returns-clause-by_sdo : goal.returns-clause-by_sdo
returns-clause-by_sdo c = by_sdo

pub returns-clause-by_application : goal.returns-clause-by_application
returns-clause-by_application c = by_application

use Rattle.std.proofs.Common.{[]}
use Rattle.conode_compare_laws.proofs.AnswerSending.{all_send_other}
use Rattle.conode_compare_laws.proofs.AnswerWords.{stay}
use Rattle.conode_compare_laws.proofs.answer_laws.sends_other.Goals as goal

pub returns : goal.returns
returns c = λ k inputs begins. all_send_other k inputs [] begins.first_node begins.last_node (λ all. stay (record {
  by_sdo = c.own_rule_law.ensures.by_sdo;
  by_application = c.own_rule_law.ensures.by_application;
  inhibit_time = c.invalid_pdo_law.ensures.inhibit_time;
  mapping = c.invalid_pdo_law.ensures.mapping;
  permitted = c.set_is_permitted.ensures;
  by_rpdo = c.written_from_2000.ensures;
}) k all begins)

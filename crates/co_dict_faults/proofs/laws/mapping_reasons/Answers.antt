use Rattle.std.proofs.Common.{sym, ◌∙◌}
use Rattle.co_dict_faults.proofs.ReasonLemmas.{reason_of_word, refusal_of_word}
use Rattle.co_dict_faults.proofs.ReasonCounts.{reasons_of_count, reasons_of_mapping}
use Rattle.co_dict_faults.proofs.laws.mapping_reasons.Goals as goal

pub returns-clause-word : goal.returns-clause-word
returns-clause-word c = λ side d word. reason_of_word side d word ∙ sym (refusal_of_word side d word)

pub returns-clause-count : goal.returns-clause-count
returns-clause-count c = reasons_of_count

pub returns-clause-mapping : goal.returns-clause-mapping
returns-clause-mapping c = reasons_of_mapping

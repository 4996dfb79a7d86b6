use Rattle.conode_explain_filter.specs.declared.option.FilterOption.TheVariants.{Of, Id, Kind, From}
use Rattle.conode_explain_filter.proofs.Faults.{fault_of}
use Rattle.conode_explain_filter.proofs.filter.Filter.add.Goals as goal

pub returns-in-Err-clause-err : goal.returns-in-Err-clause-err
returns-in-Err-clause-err c = fault_of c.args.words.now Of c.in-Err.fault c.in-Err.ensures.err

pub returns-in-Err-add_asked-clause-err : goal.returns-in-Err-add_asked-clause-err
returns-in-Err-add_asked-clause-err c = fault_of c.args.words.now Id c.in-Err-add_asked.fault c.in-Err-add_asked.ensures.err

pub returns-in-Err-add_asked-2-clause-err : goal.returns-in-Err-add_asked-2-clause-err
returns-in-Err-add_asked-2-clause-err c = fault_of c.args.words.now Kind c.in-Err-add_asked-2.fault c.in-Err-add_asked-2.ensures.err

pub returns-in-Err-add_asked-3-clause-err : goal.returns-in-Err-add_asked-3-clause-err
returns-in-Err-add_asked-3-clause-err c = fault_of c.args.words.now From c.in-Err-add_asked-3.fault c.in-Err-add_asked-3.ensures.err

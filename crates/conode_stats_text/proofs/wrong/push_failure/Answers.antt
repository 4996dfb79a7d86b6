use Rattle.conode_stats_text.specs.FailureLines.{failure_line}
use Rattle.conode_stats_text.proofs.wrong.push_failure.Goals as goal

pub returns-in-Code : goal.returns-in-Code
returns-in-Code c = unfold failure_line in rw c.in-Code.is c.push_counted.ensures

pub returns-in-NoCode : goal.returns-in-NoCode
returns-in-NoCode c = unfold failure_line in rw c.in-NoCode.is c.push_counted-in-NoCode.ensures

pub returns-in-OtherSize : goal.returns-in-OtherSize
returns-in-OtherSize c = unfold failure_line in rw c.in-OtherSize.is c.push_counted-in-OtherSize.ensures

pub returns-in-WrongCrc : goal.returns-in-WrongCrc
returns-in-WrongCrc c = unfold failure_line in rw c.in-WrongCrc.is c.push_counted-in-WrongCrc.ensures

use Rattle.co_sdo_laws.proofs.Permits.{at_once}
use Rattle.co_sdo_laws.proofs.Transfers.{expedited, lawful, is_done, is_over, rests}
use Rattle.co_sdo_laws.proofs.undisturbed.expedited_download.Goals as goal

pub returns : goal.returns
returns c = record {
  turns = λ s events u t. (expedited s events u t).turns events u.calm;
  entry = λ s events u t done. ((expedited s events u t).kind.ends events u.calm done).leaves;
  frames = λ s events u t done. ((expedited s events u t).kind.ends events u.calm done).sends;
  over = λ s events u t small. is_over s (expedited s events u t).kind (lawful s events u (at_once s.call.mode s.call.job t).sends small) events u.calm;
  ends = λ s events u t. is_done s _ (expedited s events u t).kind events u.calm;
  rests = λ s events u t. rests s _ (expedited s events u t).kind events u.calm;
}

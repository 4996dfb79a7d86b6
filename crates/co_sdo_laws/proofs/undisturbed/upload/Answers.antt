use Rattle.std.proofs.Common.{refl}
use Rattle.co_sdo_laws.proofs.Transfers.{uploaded, is_done, is_over, rests}
use Rattle.co_sdo_laws.proofs.undisturbed.upload.Goals as goal

pub returns : goal.returns
returns c = record {
  turns = λ s events u t room. (uploaded s events u t room).turns events u.calm;
  value = λ s events u t room done. ((uploaded s events u t room).kind.ends events u.calm done).gives;
  contents = λ s events u t room. (uploaded s events u t room).same refl events u.calm;
  frames = λ s events u t room done. ((uploaded s events u t room).kind.ends events u.calm done).sends;
  over = λ s events u t room. is_over s (uploaded s events u t room).kind u.dictionary events u.calm;
  ends = λ s events u t room. is_done s _ (uploaded s events u t room).kind events u.calm;
  rests = λ s events u t room. rests s _ (uploaded s events u t room).kind events u.calm;
}

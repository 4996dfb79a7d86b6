use Rattle.co_sdo_laws.proofs.Permits.{in_blocks}
use Rattle.co_sdo_laws.proofs.Transfers.{sent_in_blocks, lawful, is_done, is_over, rests}
use Rattle.co_sdo_laws.proofs.undisturbed.block_download.Goals as goal

pub returns : goal.returns
returns c = record {
  blocks = λ s events u t. (sent_in_blocks s events u t).goes events u.calm;
  entry = λ s events u t done. ((sent_in_blocks s events u t).ends events u.calm done).leaves;
  frames = λ s events u t done. ((sent_in_blocks s events u t).ends events u.calm done).sends;
  over = λ s events u t small. is_over s (sent_in_blocks s events u t) (lawful s events u (in_blocks s.call.mode s.call.job t).sends small) events u.calm;
  ends = λ s events u t. is_done s _ (sent_in_blocks s events u t) events u.calm;
  rests = λ s events u t. rests s _ (sent_in_blocks s events u t) events u.calm;
}

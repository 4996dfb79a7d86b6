use Rattle.co_sdo_laws.proofs.Transfers.{block_upload_sets_nothing, fetched_in_blocks, is_done, is_over, rests}
use Rattle.co_sdo_laws.proofs.undisturbed.block_upload.Goals as goal

pub returns : goal.returns
returns c = record {
  blocks = λ s events u t room. (fetched_in_blocks s events u t room).goes events u.calm;
  value = λ s events u t room done. ((fetched_in_blocks s events u t room).ends events u.calm done).gives;
  contents = block_upload_sets_nothing;
  frames = λ s events u t room done. ((fetched_in_blocks s events u t room).ends events u.calm done).sends;
  over = λ s events u t room. is_over s (fetched_in_blocks s events u t room) u.dictionary events u.calm;
  ends = λ s events u t room. is_done s _ (fetched_in_blocks s events u t room) events u.calm;
  rests = λ s events u t room. rests s _ (fetched_in_blocks s events u t room) events u.calm;
}

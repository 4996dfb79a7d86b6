use Rattle.conode_compare.proofs.AllFrames.{all_named, all_of_first, lines_are, picked_are, tally_is, whole_are}
use Rattle.conode_compare.proofs.frames.compares_frames.Goals as goal

pub returns : goal.returns
returns c = record {
  lines = lines_are;
  tally = tally_is;
  found = picked_are;
  whole = whole_are;
  named = all_named;
  first = all_of_first;
}

-- One after another.
use Rattle.conode_compare_documents.specs.Picture.{across, across_text}
use Rattle.conode_json.proofs.Appending.{both}
use Rattle.conode_compare_documents.proofs.Enumerated.{last_one, next_one}
use Rattle.conode_compare_documents.proofs.picture.push_across_text.Goals as goal

pub loop-at-init : goal.loop-at-init
loop-at-init c = λ end rest. rest

pub loop-at-preserved : goal.loop-at-preserved
loop-at-preserved c = next_one across c.args.bins.now c.loop-at.at _ c.loop-at-test.true c.loop-at.invariant c.push_across.ensures

pub returns : goal.returns
unfolding across_text
returns c = both (last_one across c.args.bins.now c.loop-at.at c.loop-at-test.false c.loop-at.invariant) c.put_words.ensures

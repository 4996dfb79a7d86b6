use Rattle.conode_compare_laws.proofs.UploadInputs.{no_transfer_differences}
use Rattle.conode_compare_laws.proofs.answer_laws.no_transfer_differences.Goals as goal

pub returns : goal.returns
returns c = λ k subject rows inputs is bytes blocks answers apart aside other.
    no_transfer_differences k subject rows inputs is answers bytes blocks (c.sends_other.ensures k inputs other) (λ all. (c.stays_apart.ensures k all apart).sync) other.channels aside.channels

-- The bytes of an entry whose type is fixed are as many as the type is wide.
use Rattle.std.proofs.Common.{◌≡◌, Some, length, sym, arith}
use Rattle.co_dict.proofs.StoreLemmas.{fixed_length}
use Rattle.co_pdo.proofs.places.bytes_of_width.Goals as goal

pub returns-else-bytes-width-clause-bytes : goal.returns-else-bytes-width-clause-bytes
returns-else-bytes-width-clause-bytes g c = λ key t fixed wide at.
    let held : g.S.ObjectStore.contents c.args.store.now key ≡ Some c.in_ok-bytes.bytes.now = sym (c.in_ok-bytes.ensures key at) in
    let same : length c.in_ok-bytes.bytes.now ≡ c.args.width = fixed_length _ _ c.store_laws.ensures key t c.args.width c.in_ok-bytes.bytes.now fixed wide held in
    absurd (omega arith)

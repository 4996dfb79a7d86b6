-- What the two words say is what the client downloads.
use Rattle.std.proofs.Common.{◌≡◌, ℕ, List, [], Some, ap, sym, ◌∙◌}
use Rattle.co_value.specs.KeyTexts.{key_in}
use Rattle.co_value.specs.declared.key.Key.{Key}
use Rattle.conode_device.specs.Files.{OfSheet}
use Rattle.conode_device.specs.Standing.{EndsDone}
use Rattle.conode_device.specs.Words.{bytes_in}
use Rattle.conode_device.proofs.LoopStatuses.{of_words}
use Rattle.conode_device.proofs.loop_file.loop_files.Goals as goal

pub returns-in-Ok-Some-clause-done : goal.returns-in-Ok-Some-clause-done
returns-in-Ok-Some-clause-done g c = λ zero.
    let old = g.O.Write.contents c.args.out.now in
    let new = g.O.Write.contents c.loop_path.new.out in
    let key_is : key_in c.args.key.now ≡ Some c.in-Some.key = cc in
    let bytes_are : bytes_in c.args.hex.now ≡ Some c.as_slice.result.now = sym (rw c.in-Ok-Some.field-0-is at c.in-Ok-Some.ensures.spelled) ∙ ap Some (sym c.as_slice.ensures.value) in
    of_words (λ (at : Key) (bytes : List ℕ). (text : List ℕ) × OfSheet text c.args.node c.args.config.now (λ k. EndsDone k [] at bytes c.args.mode old new))
    (key_in c.args.key.now) (bytes_in c.args.hex.now) c.in-Some.key c.as_slice.result.now key_is bytes_are (c.loop_path.ensures.done zero)

-- The keys of the slots so far.
use Rattle.std.proofs.Common.{◌≡◌, take}
use Rattle.co_dict_image.specs.Slots.{keys_of}
use Rattle.co_dict_image.proofs.key_numbers.KeyNumbers.of.Given as goal

abbrev pub invariant-loop-slot : goal.invariant-loop-slot
invariant-loop-slot l = l.keys.keys ≡ keys_of (take l.slot-index l.slots)

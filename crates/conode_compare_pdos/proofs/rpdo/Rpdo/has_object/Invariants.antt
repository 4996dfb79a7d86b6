use Rattle.std.proofs.Common.{◌≡◌, drop}
use Rattle.std.specs.List.{list_any}
use Rattle.conode_compare_pdos.specs.Rpdos.{is_object_of}
use Rattle.conode_compare_pdos.proofs.rpdo.Rpdo.has_object.Given as goal

-- none of those so far is
abbrev pub invariant-loop-word : goal.invariant-loop-word
invariant-loop-word l = list_any (is_object_of l.key) (drop l.word-index l.self.objects) ≡ list_any (is_object_of l.key) l.self.objects

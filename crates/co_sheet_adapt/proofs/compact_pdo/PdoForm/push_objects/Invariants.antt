use Rattle.std.proofs.Common.{◌≡◌, ◌++◌, take}
use Rattle.std.specs.List.{flat_map}
use Rattle.co_sheet_adapt.specs.CompactPdo.{object_text}
use Rattle.co_sheet_adapt.proofs.compact_pdo.PdoForm.push_objects.Given as goal

-- those so far
abbrev pub invariant-loop-index : goal.invariant-loop-index
invariant-loop-index l = l.text.items ≡ l.fn.text.items ++ flat_map (object_text l.self.bits) (take l.index-index l.self.absent.items)

use Rattle.std.proofs.Common.{◌≡◌, ◌++◌, ◌+◌, ◌-◌, min}
use Rattle.std.specs.Prelude.{flat_map}
use Rattle.std.specs.List.{range_with_len}
use Rattle.co_dict_faults.specs.MappingReasons.{fault_list, sub_reason, word_faults}
use Rattle.co_dict_faults.proofs.mappings.add_word_faults.Given as goal

-- those so far, and after them those of the words left
abbrev pub invariant-loop-earlier : goal.invariant-loop-earlier
invariant-loop-earlier g l =
    let d = g.S.ObjectStore.description l.store in
    let contents = g.S.ObjectStore.contents l.store in
    l.faults.items
    ++ flat_map (λ sub. fault_list l.index sub (sub_reason l.side d contents l.index sub))
    (range_with_len (l.earlier + 1) (min l.count 64 - l.earlier))
    ≡ word_faults l.side d contents l.index l.count

use Rattle.std.proofs.Common.{◌≡◌, ◌≤◌, ◌*◌, ◌+◌, min}
use Rattle.co_dict.specs.MappingCounts.{counted_words, total_width}
use Rattle.co_dict.proofs.CountLemmas.{words_left}
use Rattle.co_dict_faults.proofs.mappings.total_width.Given as goal

-- the width so far and that of the words left are the whole
abbrev pub invariant-loop-earlier : goal.invariant-loop-earlier
invariant-loop-earlier g l =
    let d = g.S.ObjectStore.description l.store in
    let contents = g.S.ObjectStore.contents l.store in
    let count = min l.count 64 in
    record {
      whole : l.total + total_width l.side d (words_left contents l.index count l.earlier)
          ≡ total_width l.side d (counted_words contents l.index count);
      small : l.total ≤ 8 * l.earlier;
      few : l.earlier ≤ count;
    }

use Rattle.std.proofs.Common.{◌≡◌, ◌≤◌, ◌+◌, ◌*◌}
use Rattle.std.specs.Prelude.{is_none}
use Rattle.std.specs.List.{list_any}
use Rattle.co_dict.specs.MappingWords.{word_width}
use Rattle.co_dict.specs.MappingCounts.{counted_words, total_width}
use Rattle.co_dict.proofs.CountLemmas.{words_left}
use Rattle.co_dict.proofs.pdo_rules.check_count.Given as goal

-- no word so far is one that can't be mapped; what they map together and what the others map is what all of them do
abbrev pub invariant-loop-earlier : goal.invariant-loop-earlier
invariant-loop-earlier g l =
    let d = g.S.ObjectStore.description l.store in
    let contents = g.S.ObjectStore.contents l.store in
    let left = words_left contents l.index l.count l.earlier in
    let words = counted_words contents l.index l.count in
    record {
      passed : list_any (λ word. is_none (word_width l.side d word)) words ≡ list_any (λ word. is_none (word_width l.side d word)) left;
      total : l.total + total_width l.side d left ≡ total_width l.side d words;
      few : l.total ≤ 8 * l.earlier;
    }

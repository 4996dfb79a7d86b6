use Rattle.co_pdo.proofs.Words.{More}
use Rattle.co_pdo.proofs.mapping.read_words.Given as goal

-- what the words so far map is there
abbrev pub invariant-loop-earlier : goal.invariant-loop-earlier
invariant-loop-earlier g l = record {
  more : More l.side (g.S.ObjectStore.description l.store) (g.S.ObjectStore.contents l.store) l.index l.earlier l.entries.items;
}

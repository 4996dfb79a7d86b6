use Rattle.std.proofs.Common.{◌≡◌, ◌+◌, drop}
use Rattle.conode_explain_pdo.specs.EntryBits.{place_from}
use Rattle.conode_explain_pdo.specs.Mappings.{total_bits}
use Rattle.conode_explain_pdo.proofs.entry_bits.place_of.Given as goal

-- it is none of those so far; and the bits so far with those of the rest
abbrev pub invariant-loop-word : goal.invariant-loop-word
invariant-loop-word l =
    record {
      place : place_from l.key l.offset (drop l.word-index l.words) ≡ place_from l.key 0 l.words;
      bits : l.offset + total_bits (drop l.word-index l.words) ≡ total_bits l.words;
    }

use Rattle.std.proofs.Common.{◌≡◌, ◌-◌, length}
use Rattle.conode_record.proofs.Bytes.{Reads}
use Rattle.conode_record.proofs.parts.bytes_at.Given as goal

abbrev pub invariant-loop-at : goal.invariant-loop-at
invariant-loop-at l =
    record {
      read : Reads l.base l.count l.text l.bytes (l.count - l.at) l.rest;
      many : length l.bytes ≡ l.at;
    }

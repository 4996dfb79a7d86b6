use Rattle.std.proofs.Common.{◌≡◌, drop}
use Rattle.std.specs.List.{list_any}
use Rattle.conode_explain_entries.specs.Tables.{is_of}
use Rattle.conode_explain_entries.proofs.entries.Entries.contains.Given as goal

-- it is none of those so far
abbrev pub invariant-loop-pdo : goal.invariant-loop-pdo
invariant-loop-pdo l =
    list_any (is_of l.interface l.node l.index) (drop l.pdo-index l.pdos) ≡ list_any (is_of l.interface l.node l.index) l.pdos

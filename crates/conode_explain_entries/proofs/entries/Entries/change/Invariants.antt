use Rattle.std.proofs.Common.{◌≡◌, ◌++◌, map, take, drop}
use Rattle.conode_explain_entries.specs.Tables.{pdo_with}
use Rattle.conode_explain_entries.proofs.entries.Entries.change.Given as goal

-- those so far are changed, and with the rest changed all are
abbrev pub invariant-loop-pdo : goal.invariant-loop-pdo
invariant-loop-pdo l =
    take l.pdo-index l.pdo-items ++ map (pdo_with l.interface l.node l.event) (drop l.pdo-index l.pdo-items)
    ≡ map (pdo_with l.interface l.node l.event) l.fn.self

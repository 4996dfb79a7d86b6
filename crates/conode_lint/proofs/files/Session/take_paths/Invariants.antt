use Rattle.conode_lint.specs.Sessions.{TakesAll}
use Rattle.conode_lint.proofs.files.Session.take_paths.Given as goal

-- any number of things were taken so far
abbrev pub invariant-loop-path : goal.invariant-loop-path
invariant-loop-path g l =
    TakesAll l.options l.fn.self (g.O.Write.contents l.fn.out) l.self (g.O.Write.contents l.out)

use Rattle.std.proofs.Common.{◌≡◌, ◌++◌, replicate}
use Rattle.conode_show_text.proofs.layout.push_blanks.Given as goal

abbrev pub invariant-loop-blank : goal.invariant-loop-blank
invariant-loop-blank l = l.line.items ≡ l.fn.line.items ++ replicate l._blank 32

use Rattle.std.proofs.Common.{◌≡◌, ◌++◌, map, length}
use Rattle.conode_lint.specs.Allowed.{words_between}
use Rattle.conode_lint.proofs.allowed.add_words.Given as goal

-- those so far, and after them those of the rest
abbrev pub invariant-loop-part : goal.invariant-loop-part
invariant-loop-part l =
    map (λ name. name.now) l.names.items ++ words_between l.rest
    ≡ map (λ name. name.now) l.fn.names.items ++ words_between l.text

abbrev pub decreases-loop-part : goal.decreases-loop-part
decreases-loop-part l = length l.rest

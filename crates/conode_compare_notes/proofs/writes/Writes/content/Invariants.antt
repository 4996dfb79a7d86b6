use Rattle.std.proofs.Common.{◌≡◌, drop}
use Rattle.conode_compare_notes.specs.WrittenContents.{content_of}
use Rattle.conode_compare_notes.proofs.writes.Writes.content.Given as goal

-- it is none of those so far
abbrev pub invariant-loop-wrote : goal.invariant-loop-wrote
invariant-loop-wrote l = content_of (drop l.wrote-index l.all) l.key ≡ content_of l.all l.key

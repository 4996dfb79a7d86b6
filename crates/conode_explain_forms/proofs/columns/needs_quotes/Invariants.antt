use Rattle.std.proofs.Common.{◌≡◌, drop}
use Rattle.conode_explain_forms.specs.Lines.{needs_quotes}
use Rattle.conode_explain_forms.proofs.columns.needs_quotes.Given as goal

-- none of those so far is one
abbrev pub invariant-loop-byte : goal.invariant-loop-byte
invariant-loop-byte l = needs_quotes (drop l.byte-index l.field) ≡ needs_quotes l.field

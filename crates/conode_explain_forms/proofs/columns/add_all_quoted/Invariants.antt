use Rattle.std.proofs.Common.{◌≡◌, ◌++◌, drop}
use Rattle.std.specs.List.{flat_map}
use Rattle.conode_explain_forms.specs.Lines.{quoted_byte}
use Rattle.conode_explain_forms.proofs.columns.add_all_quoted.Given as goal

-- those so far, and after them those of the rest
abbrev pub invariant-loop-byte : goal.invariant-loop-byte
invariant-loop-byte l =
    l.line.items ++ flat_map quoted_byte (drop l.byte-index l.field) ≡ l.fn.line.items ++ flat_map quoted_byte l.field

use Rattle.std.proofs.Common.{◌≡◌, ◌≤◌, length, take}
use Rattle.std.specs.Prelude.{filter}
use Rattle.conode_show_text.specs.Layout.{begins_character}
use Rattle.conode_show_text.proofs.layout.columns.Given as goal

-- those so far
abbrev pub invariant-loop-byte : goal.invariant-loop-byte
invariant-loop-byte l = record {
  counted : l.count ≡ length (filter begins_character (take l.byte-index l.text));
  few : l.count ≤ l.byte-index;
}

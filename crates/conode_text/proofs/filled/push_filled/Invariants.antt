-- What is written, and what the rest gives, is what all give.
use Rattle.std.proofs.Common.{◌≡◌, ◌++◌, length}
use Rattle.std.specs.Prelude.{map, string_bytes}
use denote.Shadow.{shadow}
use denote.Text.{Utf8}
use Rattle.conode_text.specs.Filled.{filled}
use Rattle.conode_text.proofs.filled.push_filled.Given as goal

abbrev pub invariant-loop-front : goal.invariant-loop-front
invariant-loop-front g l = record {
  text : shadow (Utf8 l.rest);
  written : string_bytes l.text ++ filled l.rest (map g.V.HasText.text_of l.values) ≡ string_bytes l.fn.text ++ filled l.words (map g.V.HasText.text_of l.initial.values);
}

abbrev pub decreases-loop-front : goal.decreases-loop-front
decreases-loop-front g l = length l.rest

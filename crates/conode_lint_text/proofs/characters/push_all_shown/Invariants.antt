use Rattle.std.proofs.Common.{◌≡◌, ◌++◌, take}
use Rattle.std.specs.Prelude.{string_bytes}
use Rattle.conode_lint_text.specs.Characters.{shown_all}
use Rattle.conode_lint_text.proofs.characters.push_all_shown.Given as goal

abbrev pub invariant-loop-character : goal.invariant-loop-character
invariant-loop-character l = string_bytes l.text ≡ string_bytes l.fn.text ++ shown_all (take l.character-index l.characters)

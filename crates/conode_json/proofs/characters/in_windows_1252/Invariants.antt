use Rattle.std.proofs.Common.{◌≡◌, map, take}
use Rattle.conode_json.specs.Characters.{windows_1252}
use Rattle.conode_json.proofs.characters.in_windows_1252.Given as goal

abbrev pub invariant-loop-byte : goal.invariant-loop-byte
invariant-loop-byte l = l.characters.items ≡ map windows_1252 (take l.byte-index l.line)

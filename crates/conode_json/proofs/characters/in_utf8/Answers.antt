use Rattle.std.proofs.Common.{rules}
use Rattle.std.proofs.lemmas.Str.{chars_from_encodes}
use Rattle.conode_json.proofs.characters.in_utf8.Goals as goal

pub returns : goal.returns
returns c = search (rules, chars_from_encodes)

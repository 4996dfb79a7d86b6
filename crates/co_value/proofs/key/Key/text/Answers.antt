use Rattle.std.proofs.Common.{◌≡◌, rules, arith, append_assoc}
use Rattle.co_value.specs.KeyTexts.{key_text}
use Rattle.co_value.proofs.KeyLemmas.{key_read}
use Rattle.co_value.proofs.key.Key.text.Goals as goal

pub returns-clause-read : goal.returns-clause-read
returns-clause-read c =
    let text : c.push_str-2.new.self.bytes ≡ key_text c.args.self = search (rules, append_assoc) in
    rw text (key_read c.args.self (omega arith) (omega arith))

use Rattle.std.proofs.Common.{◌≡◌, true, sym, ◌∙◌}
use Rattle.std.specs.Prelude.{string_bytes}
use Rattle.conode_explain.specs.AbortWords.{is_abort}
use Rattle.conode_explain.proofs.AbortLemmas.{abort_said}
use Rattle.conode_explain.proofs.abort_words.push_abort_words.Goals as goal

pub returns : goal.returns
returns c =
    let abort : is_abort c.args.frame.now ≡ true = sym c.is_abort.ensures ∙ c.if-not-is_abort.false in
    let old = string_bytes c.args.said.now in
    let between = string_bytes c.push_in_brackets.new.said in
    let bytes = c.bytes-bytes.result.now in
    rw (← abort_said c.args.frame.now old between c.words_of.result.now bytes c.read_u32.result abort c.bytes-bytes.ensures.bytes c.read_u32.ensures c.words_of.ensures c.in-Ok.ensures)
    c.push_first_byte.ensures

use Rattle.std.proofs.Common.{◌≡◌, ◌==◌, false, arith}
use Rattle.std.proofs.lemmas.Bool.Decides.{nat_tests}
use Rattle.conode_json.specs.Members.{array_begin, flag_member, object_begin, text_member}
use Rattle.conode_text.proofs.Appending.{nothing}
use Rattle.conode_lint_text.specs.SarifForm.{left_out}
use Rattle.conode_lint_text.proofs.sarif_form.put_left_out.Goals as goal

pub returns-then-more-eq0 : goal.returns-then-more-eq0
unfolding left_out
returns-then-more-eq0 c = rw c.if-more-eq0.true (nothing _)

pub returns : goal.returns
unfolding left_out array_begin flag_member object_begin text_member
returns c =
    let no : (c.args.more == 0) ≡ false = grind (arith, nat_tests) in
    rw no c.put.ensures

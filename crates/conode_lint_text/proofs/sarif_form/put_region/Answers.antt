use Rattle.std.proofs.Common.{◌≡◌, ◌==◌, false, arith}
use Rattle.std.proofs.lemmas.Bool.Decides.{nat_tests}
use Rattle.std.proofs.lemmas.List.{append-nil}
use Rattle.conode_json.specs.Members.{count_member, object_begin, text_member}
use Rattle.conode_text.proofs.Appending.{both, nothing}
use Rattle.conode_lint_text.specs.SarifForm.{line_members, region_members}
use Rattle.conode_lint_text.proofs.sarif_form.put_region.Goals as goal

pub returns-then-finding-eq0 : goal.returns-then-finding-eq0
unfolding region_members
returns-then-finding-eq0 c = rw c.if-finding-eq0.true (nothing _)

pub returns : goal.returns
unfolding region_members object_begin count_member text_member
returns c =
    let no : (c.args.finding.now.line == 0) ≡ false = grind (arith, nat_tests) in
    let line = rw (append-nil (line_members c.args.finding.now)) at c.put-2.ensures in
    rw no (both c.put.ensures line)

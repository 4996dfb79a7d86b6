use Rattle.std.proofs.Common.{take}
use Rattle.std.specs.List.{flat_map}
use Rattle.conode_text.specs.Appended.{Appended}
use Rattle.conode_lint_text.specs.SarifForm.{result_tokens}
use Rattle.conode_lint_text.proofs.sarif_form.put_results.Given as goal

abbrev pub invariant-loop-finding : goal.invariant-loop-finding
invariant-loop-finding l = Appended l.initial.document (flat_map (result_tokens l.uri) (take l.finding-index l.findings)) l.document

use Rattle.std.proofs.Common.{◌≡◌, ◌++◌, take}
use Rattle.std.specs.Prelude.{string_bytes}
use Rattle.std.specs.List.{flat_map}
use Rattle.conode_lint_text.specs.TextForm.{finding_lines}
use Rattle.conode_lint.proofs.report.push_findings.Given as goal

abbrev pub invariant-loop-finding : goal.invariant-loop-finding
invariant-loop-finding l =
    string_bytes l.text ≡ string_bytes l.fn.text ++ flat_map (finding_lines l.colours l.file) (take l.finding-index l.findings)

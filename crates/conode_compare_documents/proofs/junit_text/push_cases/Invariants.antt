use Rattle.std.proofs.Common.{take}
use Rattle.std.specs.List.{flat_map}
use Rattle.conode_json.specs.Appended.{Appended}
use Rattle.conode_compare_documents.specs.JunitCases.{case_markup}
use Rattle.conode_compare_documents.proofs.junit_text.push_cases.Given as goal

abbrev pub invariant-loop-counted : goal.invariant-loop-counted
invariant-loop-counted l = Appended l.fn.suite (flat_map (case_markup l.recording l.noted) (take l.counted-index l.kinds)) l.suite

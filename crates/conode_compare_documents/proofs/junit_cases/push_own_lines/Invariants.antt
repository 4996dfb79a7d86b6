use Rattle.std.proofs.Common.{◌≡◌, ◌≤◌, filter, length, min, take}
use Rattle.std.specs.List.{flat_map}
use Rattle.conode_json.specs.Appended.{Appended}
use Rattle.conode_compare_documents.specs.JunitCases.{is_of_kind, line_markup}
use Rattle.conode_compare_documents.proofs.junit_cases.push_own_lines.Given as goal

abbrev pub invariant-loop-one : goal.invariant-loop-one
invariant-loop-one l = record {
  lines : Appended l.fn.suite (flat_map (line_markup l.recording) (take 100 (filter (is_of_kind l.kind) (take l.one-index l.noted)))) l.suite;
  count : l.count ≡ min (length (filter (is_of_kind l.kind) (take l.one-index l.noted))) 100;
  bound : l.count ≤ 100;
}

use Rattle.std.specs.Prelude.{string_bytes}
use Rattle.std.proofs.lemmas.Result.{on_ok_weaker}
use Rattle.conode_check.proofs.CheckLemmas.{sheet_joined}
use Rattle.conode_check.proofs.sheet_text.push_sheet.Goals as goal

pub returns : goal.returns
returns c =
    on_ok_weaker c.push_any_build_fault.result
    (sheet_joined c.args.sheet.now c.args.own c.args.fault c.notes.result.now (string_bytes c.args.text.now) (string_bytes c.push_summary.new.text) (string_bytes c.push_notes.new.text) (string_bytes c.push_node.new.text) (string_bytes c.push_any_build_fault.new.text)
    c.in_ok-push_summary.ensures c.notes.ensures c.in_ok-push_notes.ensures c.in_ok-push_node.ensures) c.push_any_build_fault.ensures

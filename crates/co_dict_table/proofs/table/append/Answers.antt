use Rattle.std.proofs.Common.{refl, length, ◌∙◌}
use Rattle.co_dict_table.specs.declared.table.Line.{Line}
use Rattle.co_dict_table.proofs.Appended.{table_appended, within_appended}
use Rattle.co_dict_table.proofs.table.append.Goals as goal

pub returns-clause-entries : goal.returns-clause-entries
returns-clause-entries c =
    let line : Line = record { facts = c.args.facts; size = length c.args.name.now; start = c.len-start.result } in
    table_appended c.args.names.now.items c.args.name.now _ c.args.lines.now.items _ line _
    c.in_ok-extend_from_slice.ensures.items c.in_ok-push.ensures.items c.requires (c.len-start.ensures ∙ c.args.names.now.ok.0) refl refl

pub returns-clause-within : goal.returns-clause-within
returns-clause-within c =
    within_appended c.args.names.now.items c.args.name.now _ c.args.lines.now.items _ _
    c.in_ok-extend_from_slice.ensures.items c.in_ok-push.ensures.items c.requires (c.len-start.ensures ∙ c.args.names.now.ok.0) refl

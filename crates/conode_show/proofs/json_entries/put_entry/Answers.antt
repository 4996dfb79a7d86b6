use Rattle.std.proofs.Common.{[], ◌∷◌}
use Rattle.std.specs.Prelude.{codes}
use Rattle.json.specs.Token.{end_object}
use Rattle.co_sheet_text.specs.Sections.{property_at}
use Rattle.co_sheet_text.specs.Views.{section_view}
use Rattle.conode_json.specs.Members.{flag_member}
use Rattle.conode_show_text.specs.Entries.{is_mappable}
use Rattle.conode_show_text.specs.Values.{type_of}
use Rattle.conode_show.specs.JsonForm.{entry_begin, entry_tokens, limit_member, value_member}
use Rattle.conode_show.proofs.Grouped.{entry_grouped}
use Rattle.conode_show.proofs.json_entries.put_entry.Goals as goal

pub returns : goal.returns
unfolding entry_tokens
returns c =
    let section = section_view c.args.section.now in
    let t = type_of section in
    entry_grouped (entry_begin c.args.key section) (value_member (codes "default") c.args.node t (property_at (codes "DefaultValue") section))
    (value_member (codes "value") c.args.node t (property_at (codes "ParameterValue") section))
    (limit_member (codes "low") t (property_at (codes "LowLimit") section)) (limit_member (codes "high") t (property_at (codes "HighLimit") section))
    (flag_member (codes "mappable") (is_mappable section)) (end_object ∷ []) c.begin_entry.ensures (rw c.is_mappable.ensures at c.put.ensures)

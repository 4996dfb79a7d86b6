use Rattle.co_dict_table.proofs.table.entry_of_line.Goals as goal

pub name_of-requires : goal.name_of-requires
name_of-requires c = c.requires c.args.number _ c.if-number-lines.false

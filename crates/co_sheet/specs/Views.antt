-- What a value says, without where its bytes lie in memory.
use Rattle.co_sheet_rows.specs.declared.entry.Preset.{Preset}
use Rattle.co_sheet_rows.specs.declared.entry.Preset.TheVariants.{Absent, Number, NodeId, Text, Pairs}
use Rattle.co_sheet.specs.Limits.{Default, absent, number, node_id, text, pairs}

-- a default
abbrev pub default_view : Preset → Default
default_view Absent = absent
default_view (Number value) = number value
default_view (NodeId n) = node_id n
default_view (Text bytes) = text bytes.now
default_view (Pairs digits) = pairs digits.now

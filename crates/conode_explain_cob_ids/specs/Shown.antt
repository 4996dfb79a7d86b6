-- What a recording shows besides device types (1000h; CiA 301, 7.5.2.1), which name no identifier.
use Rattle.std.specs.Prelude.{◌==◌, Bool, not, List}
use Rattle.std.specs.List.{list_any}
use Rattle.co_profile.specs.Indices.{device_type}
use Rattle.conode_explain_entries.specs.declared.entries.ShownPdo.{ShownPdo}

abbrev pub is_more : ShownPdo → Bool
is_more shown = not (shown.index == device_type)

abbrev pub shows_more : List ShownPdo → Bool
shows_more entries = list_any is_more entries

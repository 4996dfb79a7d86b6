use Rattle.std.proofs.Common.{◌≡◌, ◌++◌, drop, map}
use Rattle.std.specs.List.{filter_map}
use Rattle.co_sheet.specs.SheetViews.{row_view}
use Rattle.conode_explain_forms.specs.Places.{channel_of}
use Rattle.conode_explain_forms.proofs.places.add_rows.Given as goal

-- those so far, and after them those of the rest
abbrev pub invariant-loop-row : goal.invariant-loop-row
invariant-loop-row l =
    l.channels.items ++ filter_map (channel_of l.only) (map row_view (drop l.row-index l.rows))
    ≡ l.fn.channels.items ++ filter_map (channel_of l.only) (map row_view l.rows)

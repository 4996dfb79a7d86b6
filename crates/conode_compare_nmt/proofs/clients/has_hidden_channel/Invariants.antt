use Rattle.std.proofs.Common.{◌≡◌, drop, map}
use Rattle.std.specs.List.{list_any}
use Rattle.co_sheet.specs.SheetViews.{row_view}
use Rattle.conode_compare_nmt.specs.OtherClients.{has_hidden_channel, is_hidden}
use Rattle.conode_compare_nmt.proofs.clients.has_hidden_channel.Given as goal

-- none of those so far is one
abbrev pub invariant-loop-row : goal.invariant-loop-row
invariant-loop-row l = list_any (is_hidden (map row_view l.rows) l.node) (map row_view (drop l.row-index l.rows)) ≡ has_hidden_channel (map row_view l.rows) l.node

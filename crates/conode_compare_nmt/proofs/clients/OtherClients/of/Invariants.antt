use Rattle.std.proofs.Common.{◌≡◌, drop, map}
use Rattle.co_sheet.specs.SheetViews.{row_view}
use Rattle.conode_compare_nmt.specs.OtherClients.{clients_from, clients_of}
use Rattle.conode_compare_nmt.proofs.clients.OtherClients.of.Given as goal

-- those so far, and then the later ones
abbrev pub invariant-loop-row : goal.invariant-loop-row
invariant-loop-row l =
    clients_from (map row_view l.rows) l.node l.clients (map row_view (drop l.row-index l.rows)) ≡ clients_of (map row_view l.rows) l.node

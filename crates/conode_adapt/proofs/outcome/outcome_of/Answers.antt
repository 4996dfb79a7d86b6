use Rattle.std.proofs.Common.{refl, ap, sym, ◌∙◌, map}
use Rattle.co_sheet_changes.specs.Pieces.{piece_view}
use Rattle.co_sheet_changes.specs.Requested.{has_changes}
use Rattle.conode_adapt.specs.Written.{orders_view}
use Rattle.conode_adapt.proofs.WrittenLemmas.{accepted_sheet, changes_same, forced_pieces_same, forced_same, read_pieces_same, read_same, sheet_same, stays_same}
use Rattle.conode_adapt.proofs.outcome.outcome_of.Goals as goal

pub returns-clause-sheet : goal.returns-clause-sheet
returns-clause-sheet c =
    let orders = orders_view c.args.orders in
    let read = read_same orders c.args.text.now _ _ c.zeros_request.ensures c.in_ok-read.ensures.text in
    let forced = forced_same orders c.args.text.now _ _ _ c.force_request.ensures (c.as_slice.ensures.value ∙ read) c.in_ok-forced.ensures.text in
    c.in_ok-outcome.ensures.sheet
    ∙ sheet_same c.args.version.now c.args.name.now orders c.args.text.now _ _ _ refl (c.as_slice-2.ensures.value ∙ forced) c.in_ok-adapted.ensures.text

pub returns-clause-accepted : goal.returns-clause-accepted
returns-clause-accepted c =
    accepted_sheet _ _ _ (sym c.in_ok-outcome.ensures.sheet ∙ returns-clause-sheet c) (c.in_ok-outcome.ensures.accepted ∙ c.in_ok-adapted.ensures.accepted)

pub returns-clause-changes : goal.returns-clause-changes
returns-clause-changes c =
    let orders = orders_view c.args.orders in
    let text = c.args.text.now in
    let read = c.as_slice.ensures.value ∙ read_same orders text _ _ c.zeros_request.ensures c.in_ok-read.ensures.text in
    let forced = c.as_slice-2.ensures.value ∙ forced_same orders text _ _ _ c.force_request.ensures read c.in_ok-forced.ensures.text in
    let stays = stays_same c.as_slice-2.result.now _ c.in_ok-adapted.adapted.stays c.in_ok-read.read.has_changes c.in_ok-forced.forced.has_changes
    (map piece_view c.in_ok-read.read.pieces.items) (map piece_view c.in_ok-forced.forced.pieces.items) refl c.in_ok-adapted.ensures.stays
    (c.in_ok-read.ensures.changes ∙ ap has_changes (sym c.in_ok-read.ensures.pieces)) (c.in_ok-forced.ensures.changes ∙ ap has_changes (sym c.in_ok-forced.ensures.pieces)) in
    c.in_ok-outcome.ensures.changes
    ∙ changes_same c.args.name.now orders text c.as_slice-2.result.now _ (map piece_view c.in_ok-read.read.pieces.items) (map piece_view c.in_ok-forced.forced.pieces.items)
    (map piece_view c.in_ok-adapted.adapted.pieces.items) forced (read_pieces_same orders text _ _ c.zeros_request.ensures c.in_ok-read.ensures.pieces)
    (forced_pieces_same orders text _ _ _ c.force_request.ensures read c.in_ok-forced.ensures.pieces) stays c.in_ok-adapted.ensures.pieces

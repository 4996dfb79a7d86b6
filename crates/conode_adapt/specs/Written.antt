-- What is written when a text is adapted.
use Rattle.std.specs.Prelude.{ℕ, Bool, ◌&&◌, not, List, ◌++◌, codes, is_none, Option, option_map}
use Rattle.std.specs.List.{flat_map}
use Rattle.std.specs.Option.{option_copied}
use Rattle.co_sheet.specs.Accepted.{first_fault}
use Rattle.co_sheet_changes.specs.Pieces.{Piece}
use Rattle.co_sheet_changes.specs.declared.request.LeadingZeros.{LeadingZeros}
use Rattle.co_sheet_changes.specs.Requested.{Request, read_zeros, force_with, has_changes, requested_pieces, requested_text}
use Rattle.co_sheet_adapt.specs.Adapted.{adapted_text, pieces_in}
use Rattle.conode_adapt.specs.declared.orders.Orders.{Orders as CodeOrders}
use Rattle.conode_adapt.specs.Listing.{mark_line, ends_line, last_line, piece_line}

-- what is asked for beyond the rules: how a leading zero is read, and with `force` the mappings at
-- fault
pub record Orders : Type 0 where
  pub leading_zeros : Option LeadingZeros
  pub force : Option (List ℕ)

abbrev pub orders_view : CodeOrders → Orders
orders_view o = record { leading_zeros = o.leading_zeros; force = option_copied o.force }

abbrev pub zeros_request : Orders → Option Request
zeros_request orders = option_map read_zeros orders.leading_zeros

abbrev pub force_request : Orders → Option Request
force_request orders = option_map force_with orders.force

-- a text with its leading zeros read, and then with its forced changes
unfoldable pub read_text : Orders → List ℕ → List ℕ
read_text orders text = requested_text (zeros_request orders) text

unfoldable pub read_pieces : Orders → List ℕ → List Piece
read_pieces orders text = requested_pieces (zeros_request orders) text

unfoldable pub forced_text : Orders → List ℕ → List ℕ
forced_text orders text = requested_text (force_request orders) (read_text orders text)

unfoldable pub forced_pieces : Orders → List ℕ → List Piece
forced_pieces orders text = requested_pieces (force_request orders) (read_text orders text)

-- the program that adapts it, and the name of its source
abbrev pub by_line : List ℕ → List ℕ → List ℕ
by_line version name = codes "conode " ++ version ++ codes " from " ++ name

-- the sheet that is written: the forced text, adapted by the rules
unfoldable pub sheet_of : List ℕ → List ℕ → Orders → List ℕ → List ℕ
sheet_of version name orders text = adapted_text (by_line version name) (forced_text orders text)

-- the lines about its changes
unfoldable pub changes_in : List ℕ → List ℕ → Bool → List Piece → List Piece → List Piece → List ℕ
changes_in name text stays read forced pieces =
    mark_line name text ++ ends_line stays name text ++ last_line stays name text
    ++ flat_map (piece_line name) read ++ flat_map (piece_line name) forced ++ flat_map (piece_line name) pieces

-- whether a text stays as it is: it is accepted, and nothing was changed on request
abbrev pub stays_in : Bool → List Piece → List Piece → Bool
stays_in is_accepted read forced = is_accepted && not (has_changes read) && not (has_changes forced)

unfoldable pub changes_of : List ℕ → Orders → List ℕ → List ℕ
changes_of name orders text =
    let sheet = forced_text orders text in
    let read = read_pieces orders text in
    let forced = forced_pieces orders text in
    changes_in name text (stays_in (is_none (first_fault sheet)) read forced) read forced (pieces_in sheet)

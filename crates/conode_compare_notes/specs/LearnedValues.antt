-- The values that a recording shows of the entries of a data sheet.
use Rattle.std.specs.Prelude.{ℕ, Bool, true, false, ◌&&◌, ◌||◌, if◌then◌else◌, List, [], ◌∷◌, ◌++◌, slice_set, find, position, Option, Some, None, option_map, option_and_then}
use Rattle.co_sheet.specs.Content.{Row}
use Rattle.co_value.specs.declared.key.Key.{Key}
use Rattle.co_value.specs.Keys.{same_key}
use Rattle.co_value.specs.Types.{width_of}
use Rattle.co_sheet_changes.specs.Names.{row_at}
use Rattle.conode_explain_transfers.specs.declared.ended.Ended.{Ended}
use Rattle.conode_explain_transfers.specs.declared.kinds.Direction.{Direction}
use Rattle.conode_explain_transfers.specs.declared.kinds.Direction.TheVariants.{Upload, Download}
use Rattle.conode_compare_values.specs.HeldNumbers.{is_done}
use Rattle.conode_compare_transfers.specs.declared.dialogue.Exchange.{Exchange}
use Rattle.conode_compare_values.specs.SheetValues.{shown_number}
use Rattle.conode_compare_notes.specs.declared.learned.Shown.{Shown}

-- ---- what a transfer shows

abbrev pub is_upload : Direction → Bool
is_upload Upload = true
is_upload Download = false

-- it is done; an acknowledge may be one to an earlier request
abbrev pub is_shown : Bool → Ended → Bool
is_shown certain ended = is_done ended.ending && (certain || is_upload ended.direction)

-- of a number; of an upload that doesn't show how many of its bytes count, the first do
abbrev pub shown_of : List Row → Ended → Option Shown
shown_of rows ended =
    option_and_then (λ row. option_and_then (λ width. option_map (λ n. record { key = ended.key; number = n })
    (shown_number width ended.first.items)) (width_of row.data_type)) (row_at rows ended.key)

abbrev pub shown_by : List Row → Bool → Ended → Option Shown
shown_by rows certain ended = if is_shown certain ended then shown_of rows ended else None

-- by a frame of the SDO channel
unfoldable pub shown_in : List Row → Option Exchange → Option Shown
shown_in rows exchange = option_and_then (λ e. option_and_then (shown_by rows e.certain) e.heard.ended) exchange

-- ---- what is kept: of each entry the newest

abbrev pub place_of : List Shown → Key → Option ℕ
place_of all key = position (λ shown. same_key shown.key key) all

abbrev pub kept_at : Option ℕ → List Shown → Shown → List Shown
kept_at (Some place) all shown = slice_set all place shown
kept_at None all shown = all ++ shown ∷ []

abbrev pub kept : List Shown → Option Shown → List Shown
kept all None = all
kept all (Some shown) = kept_at (place_of all shown.key) all shown

unfoldable pub learned_with : List Row → List Shown → Option Exchange → List Shown
learned_with rows all exchange = kept all (shown_in rows exchange)

abbrev pub number_of : List Shown → Key → Option ℕ
number_of all key = option_map (λ shown. shown.number) (find (λ shown. same_key shown.key key) all)

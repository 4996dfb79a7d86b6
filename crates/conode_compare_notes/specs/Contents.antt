-- What transfers write and show, of entries whose next upload is compared with it.
use Rattle.std.specs.Prelude.{ℕ, ◌+◌, ◌*◌, ◌%◌, ◌==◌, Bool, true, false, not, ◌&&◌, if◌then◌else◌, List, [], ◌∷◌, Option, Some, None, option_map, option_and_then}
use Rattle.co_sheet.specs.Content.{Row}
use Rattle.co_value.specs.declared.key.Key.{Key}
use Rattle.co_value.specs.Types.{width_of}
use Rattle.conode_explain_transfers.specs.declared.ended.Ended.{Ended}
use Rattle.conode_explain_transfers.specs.declared.kinds.Protocol.{Protocol}
use Rattle.conode_explain_transfers.specs.declared.kinds.Protocol.TheVariants.{Segmented, Block}
use Rattle.conode_compare_values.specs.SheetValues.{shown_number}
use Rattle.conode_compare_values.specs.HeldNumbers.{number_written}
use Rattle.conode_compare_values.specs.HeldWords.{held_width}
use Rattle.conode_compare_notes.specs.declared.contents.Content.{Content}
use Rattle.conode_compare_notes.specs.declared.contents.Content.TheVariants.{Number, Bytes}
use Rattle.conode_compare_notes.specs.declared.warning.Warning.{Warning}
use Rattle.conode_compare_notes.specs.declared.warning.Warning.TheVariants.{Changed, ChangedBytes}

-- a checksum, modulo the largest prime below 2 ^ 32
unfoldable pub mixed : ℕ → ℕ → ℕ
mixed sum byte = (sum * 257 + byte) % 4294967291

abbrev pub checksum_from : ℕ → List ℕ → ℕ
checksum_from sum [] = sum
checksum_from sum (byte ∷ bytes) = checksum_from (mixed sum byte) bytes

-- It is known how many bytes of a transfer count. A last segment with n = 0 has seven bytes, of which
-- some may not; of one in a single frame its size may not be indicated.
abbrev pub is_exact : Protocol → ℕ → Bool
is_exact Block count = true
is_exact Segmented count = not (count % 7 == 0)
is_exact protocol count = false

-- of an entry whose values are no numbers
abbrev pub bytes_in : Ended → Option Content
bytes_in ended = if is_exact ended.protocol ended.bytes then Some (Bytes ended.bytes (checksum_from 0 ended.first.items)) else None

-- what an upload that is done shows; of a number that doesn't show how many bytes count, the first do
abbrev pub number_shown : Row → Ended → Option Content
number_shown row ended =
    option_and_then (λ width. option_map (λ n. Number n) (shown_number width ended.first.items)) (held_width row.data_type)

abbrev pub shown_by : Row → Ended → Option ℕ → Option Content
shown_by row ended (Some width) = number_shown row ended
shown_by row ended None = bytes_in ended

abbrev pub shown_content : Row → Ended → Option Content
shown_content row ended = shown_by row ended (width_of row.data_type)

-- what a download that is done wrote; a number has as many bytes as its type
abbrev pub number_written_in : Row → Ended → Option Content
number_written_in row ended =
    option_and_then (λ width. option_map (λ n. Number n) (number_written width ended.first.items)) (held_width row.data_type)

abbrev pub written_by : Row → Ended → Option ℕ → Option Content
written_by row ended (Some width) = number_written_in row ended
written_by row ended None = bytes_in ended

abbrev pub written_content : Row → Ended → Option Content
written_content row ended = written_by row ended (width_of row.data_type)

-- `changed-after-write`: another number, or as many other bytes
abbrev pub content_warning : Key → Content → Content → Option Warning
content_warning key (Number shown) (Number written) =
    if shown == written then None else Some (Changed (record { key = key; shown = shown; written = written }))
content_warning key (Bytes count shown) (Bytes length written) =
    if (count == length) && not (shown == written) then Some (ChangedBytes key) else None
content_warning key shown written = None

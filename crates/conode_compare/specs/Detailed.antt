-- What the line of a difference says that the difference doesn't have.
use Rattle.std.specs.Prelude.{ℕ, ℤ, pos, ◌==◌, Bool, true, false, if◌then◌else◌, List, [], length, take, Option, unwrap_or}
use Rattle.std.specs.Option.{option_map_or}
use Rattle.co_sheet.specs.Content.{Row}
use Rattle.co_sheet_changes.specs.Names.{row_at}
use Rattle.co_value.specs.declared.data_type.DataType.{DataType}
use Rattle.co_value.specs.Numbers.{number_of}
use Rattle.co_value.specs.Types.{width_of}
use Rattle.conode_compare_nmt.specs.declared.finding.Finding.{Finding}
use Rattle.conode_compare_nmt.specs.declared.finding.Finding.TheVariants.{Value}
use Rattle.conode_compare_text.specs.declared.details.Passed.{Passed}
use Rattle.conode_compare_text.specs.Beside.{nothing_passed}
use Rattle.conode_compare_transfers.specs.declared.dialogue.Exchange.{Exchange}
use Rattle.conode_compare_values.specs.declared.mismatch.Mismatch.TheVariants.{AboveLimit, BelowLimit}

-- the initiate request right before a frame asks to write
abbrev pub asks_to_write : Option Exchange → Bool
asks_to_write exchange = option_map_or (λ e. option_map_or (λ asked. asked.writes) e.asked false) exchange false

-- the first bytes of the transfer that ended with a frame
abbrev pub first_bytes : Option Exchange → List ℕ
first_bytes exchange = option_map_or (λ e. option_map_or (λ ended. ended.first.items) e.heard.ended []) exchange []

-- The number of a type that was written: as many of the bytes count as the type has. In one frame there are four
-- where their number isn't indicated.
abbrev pub number_in : DataType → List ℕ → ℤ
number_in t bytes =
    let counted = take (unwrap_or (width_of t) 0) bytes in
    if option_map_or (λ width. width == length counted) (width_of t) false then number_of t counted else pos 0

abbrev pub passed_by : Row → Bool → List ℕ → Passed
passed_by row above bytes = record {
  number = number_in row.data_type bytes;
  limit = unwrap_or (if above then row.high else row.low) (pos 0);
}

-- a number that was written with these bytes, and the limit that it is above, or below
abbrev pub passed_at : List Row → List ℕ → Finding → Passed
passed_at rows bytes (Value (AboveLimit key)) = option_map_or (λ row. passed_by row true bytes) (row_at rows key) nothing_passed
passed_at rows bytes (Value (BelowLimit key)) = option_map_or (λ row. passed_by row false bytes) (row_at rows key) nothing_passed
passed_at rows bytes finding = nothing_passed

-- What a text becomes on request, line by line: each line becomes one line.
use Rattle.std.specs.Prelude.{ℕ, Bool, true, false, if◌then◌else◌, List, [], ◌∷◌, ◌++◌, map, flat_map, Option, option_and_then}
use Rattle.std.specs.List.{list_any}
use Rattle.std.specs.Option.{option_map_or}
use Rattle.co_sheet_text.specs.Text.{Line, lines_of}
use Rattle.co_sheet_changes.specs.Groups.{Group, property_in, before_sections, groups_of}
use Rattle.co_sheet_changes.specs.Pieces.{Mended, Piece, changed, kept_piece, piece_of, written}
use Rattle.co_sheet_changes.specs.declared.request.LeadingZeros.{LeadingZeros}
use Rattle.co_sheet_changes.specs.declared.request.Request.{Request as CodeRequest}
use Rattle.co_sheet_changes.specs.declared.request.Request.TheVariants as asked
use Rattle.co_sheet_changes.specs.declared.requested.Facts.{Facts}
use Rattle.co_sheet_changes.specs.ZeroNames.{has_numbers, zero_change}
use Rattle.co_sheet_changes.specs.Extended.{has_extended_low}
use Rattle.co_sheet_changes.specs.Forced.{limited_type, forced_change}

-- to read leading zeros in a base; to force, with the mappings that are at fault
pub data Request : Type 0 where
  read_zeros : LeadingZeros → Request
  force_with : List ℕ → Request

abbrev pub request_view : CodeRequest → Request
request_view (asked.LeadingZeros zeros) = read_zeros zeros
request_view (asked.Force mappings) = force_with mappings.now

-- what the changes of a section's lines depend on
abbrev pub numbers_of : Request → Group → Bool
numbers_of (read_zeros zeros) g = has_numbers zeros g
numbers_of (force_with mappings) g = false

abbrev pub facts_of : Request → Group → Facts
facts_of request g = record {
  kind = g.kind;
  numbers = numbers_of request g;
  data_type = limited_type g;
  has_extended_low = has_extended_low g;
}

abbrev pub change_in : Request → Facts → List ℕ → List ℕ → Option Mended
change_in (read_zeros zeros) facts name value =
    zero_change zeros facts.kind facts.numbers name value
change_in (force_with mappings) facts name value =
    forced_change mappings facts.kind facts.has_extended_low facts.data_type name value

abbrev pub line_piece : Request → Facts → Line → Piece
line_piece request facts line =
    piece_of line
    (option_and_then (λ given. change_in request facts given.name given.value) (property_in line))

abbrev pub group_pieces : Request → Group → List Piece
group_pieces request g = kept_piece g.head ∷ map (line_piece request (facts_of request g)) g.body

abbrev pub pieces_on : Request → List Line → List Piece
pieces_on request lines =
    map kept_piece (before_sections lines) ++ flat_map (group_pieces request) (groups_of lines)

-- none where nothing is requested
abbrev pub requested_pieces : Option Request → List ℕ → List Piece
requested_pieces request text = option_map_or (λ r. pieces_on r (lines_of text)) request []

abbrev pub is_changed : Piece → Bool
is_changed (changed change) = true
is_changed piece = false

abbrev pub has_changes : List Piece → Bool
has_changes pieces = list_any is_changed pieces

-- a text of which no line is changed stays as it is
abbrev pub text_with : List Piece → List ℕ → List ℕ
text_with pieces text = if has_changes pieces then flat_map written pieces else text

abbrev pub requested_text : Option Request → List ℕ → List ℕ
requested_text request text = text_with (requested_pieces request text) text

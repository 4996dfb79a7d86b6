-- The lines of a table of values: a comma between two fields, which are quoted as RFC 4180 has it.
use Rattle.std.specs.Prelude.{ℕ, ◌==◌, Bool, ◌||◌, if◌then◌else◌, List, [], ◌∷◌, ◌++◌, codes, decimal, find, Option, Some, None, is_none, is_some, unwrap_or}
use Rattle.std.specs.List.{flat_map, list_any}
use Rattle.std.specs.Option.{option_map_or}
use Rattle.co_value.specs.KeyTexts.{key_text}
use Rattle.co_sheet.specs.Content.{Row}
use Rattle.co_sheet_changes.specs.Names.{entry_of, shown_name}
use Rattle.conode_explain_cob_ids.specs.Known.{KnownSheet, names_for}
use Rattle.conode_explain_text.specs.Said.{is_control, shown}
use Rattle.conode_explain_text.specs.declared.so_far.Times.{Times}
use Rattle.conode_explain_text.specs.declared.stamps.StampForm.{StampForm}
use Rattle.conode_explain_forms.specs.declared.signal.Signal.{Signal}
use Rattle.conode_explain_forms.specs.Stamps.{stamp_field}

-- ---- the line of a frame

-- the field of a signal after a comma: its value, if the frame has one
abbrev pub after_comma : (Signal → Option (List ℕ)) → Signal → List ℕ
after_comma value signal = codes "," ++ unwrap_or (value signal) []

-- the stamp, the field of each signal, and a line feed
unfoldable pub signal_line : StampForm → Times → (Signal → Option (List ℕ)) → List Signal → List ℕ
signal_line form times value signals = stamp_field form times ++ flat_map (after_comma value) signals ++ codes "\n"

-- the frame has a value of one of them
abbrev pub has_one : (Signal → Option (List ℕ)) → List Signal → Bool
has_one value signals = list_any (λ signal. is_some (value signal)) signals

-- ---- the first line

-- a byte within quotes: a quote is doubled
unfoldable pub quoted_byte : ℕ → List ℕ
quoted_byte byte = if byte == 0x22 then 0x22 ∷ 0x22 ∷ [] else byte ∷ []

-- a quote, a comma or a control character
abbrev pub needs_quotes : List ℕ → Bool
needs_quotes field = list_any (λ b. ((b == 0x22) || (b == 0x2C)) || is_control b) field

-- control characters and the like are shown as in the other lines
abbrev pub csv_field : List ℕ → List ℕ
csv_field field =
    if needs_quotes field then 0x22 ∷ [] ++ flat_map quoted_byte (shown field) ++ 0x22 ∷ [] else shown field

-- the entry of a signal in the sheet that counts for its node on an interface
abbrev pub row_on : List KnownSheet → Signal → List ℕ → Option Row
row_on sheets signal interface = entry_of (names_for sheets interface signal.node) signal.node signal.key

-- the interface of a sheet; one that is for each is for the one without a name
abbrev pub interface_of : KnownSheet → List ℕ
interface_of sheet = unwrap_or sheet.interface []

-- on the first of the interfaces of these sheets on which it has one
unfoldable pub first_row : List KnownSheet → Signal → List KnownSheet → Option Row
first_row sheets signal [] = None
first_row sheets signal (sheet ∷ more) =
    option_map_or (λ row. Some row) (row_on sheets signal (interface_of sheet)) (first_row sheets signal more)

-- on an interface that no sheet names, else on the first of the others
abbrev pub row_of : List KnownSheet → Signal → Option Row
row_of sheets signal = option_map_or (λ row. Some row) (row_on sheets signal []) (first_row sheets signal sheets)

-- on no interface
abbrev pub is_missing : List KnownSheet → Signal → Bool
is_missing sheets signal = is_none (row_of sheets signal)

abbrev pub first_missing : List KnownSheet → List Signal → Option Signal
first_missing sheets signals = find (is_missing sheets) signals

-- its name
abbrev pub name_of : Option Row → List ℕ
name_of row = option_map_or (λ r. option_map_or (λ name. codes " " ++ name) (shown_name r) []) row []

-- `node 5 2001:01 Temperature`
unfoldable pub column_name : Option Row → Signal → List ℕ
column_name row signal = codes "node " ++ decimal signal.node ++ codes " " ++ key_text signal.key ++ name_of row

unfoldable pub column : List KnownSheet → Signal → List ℕ
column sheets signal = codes "," ++ csv_field (column_name (row_of sheets signal) signal)

-- `time`, the name of each column, and a line feed
unfoldable pub header : List KnownSheet → List Signal → List ℕ
header sheets signals = codes "time" ++ flat_map (column sheets) signals ++ codes "\n"

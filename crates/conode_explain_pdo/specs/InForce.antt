-- The mapping of a PDO that is in force, by the data sheet and by what the recording shows.
use Rattle.std.specs.Prelude.{ℕ, zero, suc, ◌+◌, ◌%◌, nat_le, Bool, ◌||◌, if◌then◌else◌, List, [], ◌∷◌, ◌++◌, take, codes}
use Rattle.std.specs.Prelude.{Option, Some, None, option_map, option_and_then}
use Rattle.std.specs.List.{flat_map, list_all}
use Rattle.std.specs.Option.{option_map_or}
use Rattle.co_text.specs.Printed.{byte_text}
use Rattle.conode_explain_entries.specs.declared.state.PdoState.{PdoState}
use Rattle.conode_explain_entries.specs.declared.state.Value.{Value}
use Rattle.conode_explain_entries.specs.declared.state.Value.TheVariants.{Assumed}
use Rattle.conode_text.specs.Filled.{filled}
use Rattle.conode_explain_cob_ids.specs.declared.origin.Origin.TheVariants.{Sheet, Transfer, Store}
use Rattle.conode_explain_cob_ids.specs.Content.{SheetMapping}
use Rattle.conode_explain_cob_ids.specs.Buses.{Bus}
use Rattle.conode_explain_cob_ids.specs.Origins.{is_from, number_by, value_at}
use Rattle.conode_explain_cob_ids.specs.SheetMappings.{is_assumed, sheet_count, sheet_word}
use Rattle.conode_explain_pdo.specs.Content.{Mapping}
use Rattle.conode_explain_pdo.specs.Mappings.{data_text}

-- ---- the mapping in force, by what its sub-indices have and by that of the sheet

-- the number of entries that are mapped
abbrev pub count_in_force : List Value → Option SheetMapping → Option ℕ
count_in_force values sheet = option_map (λ count. count % 256) (number_by (sheet_count sheet) (value_at values 0))

-- one of its words, counted from 0
abbrev pub word_in_force : List Value → Option SheetMapping → ℕ → Option ℕ
word_in_force values sheet place = number_by (sheet_word sheet place) (value_at values (place + 1))

-- the first words, if all of them are known
unfoldable pub words_in_force : List Value → Option SheetMapping → ℕ → Option (List ℕ)
words_in_force values sheet zero = Some []
words_in_force values sheet (suc count) =
    option_and_then (λ words. option_map (λ word. words ++ word ∷ []) (word_in_force values sheet count)) (words_in_force values sheet count)

-- a count above 64 maps no words: FEh and FFh are multiplexed PDOs
abbrev pub word_count : ℕ → ℕ
word_count count = if nat_le count 64 then count else 0

-- a count of 65 to 253 means nothing
abbrev pub is_count : ℕ → Bool
is_count count = nat_le count 64 || nat_le 0xFE count

abbrev pub mapping_with : List Value → Option SheetMapping → ℕ → Option Mapping
mapping_with values sheet count =
    if is_count count then option_map (λ words. record { count = count; words = words }) (words_in_force values sheet (word_count count))
    else None

-- the mapping, if all of it is known
unfoldable pub mapping_in_force : List Value → Option SheetMapping → Option Mapping
mapping_in_force values sheet = option_and_then (mapping_with values sheet) (count_in_force values sheet)

-- ---- where it is from

-- all of it is from the sheet; the recording shows all of it; all of it came back with a boot-up;
-- else some of it
abbrev pub origin_words : List Value → List ℕ
origin_words values =
    if list_all (is_from Sheet) values then []
    else (if list_all (is_from Transfer) values then codes " (mapping seen)"
    else (if list_all (is_from Store) values then codes " (mapping saved)" else codes " (mapping partly seen)"))

-- by the number of mapped entries, and the words of so many
abbrev pub origin_text : List Value → ℕ → List ℕ
origin_text values count = origin_words (take (count + 1) values)

-- ---- what data say

-- data of which no more is known, and why
abbrev pub digits_of : List ℕ → List ℕ
digits_of [] = []
digits_of (byte ∷ bytes) = codes " " ++ flat_map byte_text (byte ∷ bytes)

unfoldable pub raw_text : List ℕ → List ℕ → List ℕ
raw_text bytes why = codes ":" ++ digits_of bytes ++ filled (codes " (%)") (why ∷ [])

-- by the mapping in force
abbrev pub known_text : Bus → ℕ → List ℕ → List Value → Mapping → List ℕ
known_text bus node bytes values mapping = origin_text values (word_count mapping.count) ++ data_text bus node mapping bytes

-- by a mapping that isn't known; of a PDO without a COB-ID no more is said
abbrev pub unknown_text : Bool → List ℕ → List ℕ
unknown_text assumed bytes = if assumed then [] else raw_text bytes (codes "mapping is unknown")

-- the recording shows an entry of the PDO
unfoldable pub shown_text : Bus → ℕ → List ℕ → Option SheetMapping → PdoState → List ℕ
shown_text bus node bytes sheet state =
    if state.is_being_changed then raw_text bytes (codes "mapping is being changed")
    else option_map_or (known_text bus node bytes state.now.mapping) (mapping_in_force state.now.mapping sheet)
    (unknown_text (is_assumed sheet state.now.cob_id) bytes)

-- it shows none: the mapping is the sheet's, if the sheet has all of it
abbrev pub assumed_text : Bus → ℕ → List ℕ → Option SheetMapping → List ℕ
assumed_text bus node bytes sheet =
    option_map_or (λ mapping. data_text bus node mapping bytes) (mapping_in_force [] sheet)
    (unknown_text (is_assumed sheet Assumed) bytes)

-- the data of a node's PDO, by its mapping in the sheet and what the recording shows
unfoldable pub data_in_force : Bus → ℕ → List ℕ → Option SheetMapping → Option PdoState → List ℕ
data_in_force bus node bytes sheet state =
    option_map_or (shown_text bus node bytes sheet) state (assumed_text bus node bytes sheet)

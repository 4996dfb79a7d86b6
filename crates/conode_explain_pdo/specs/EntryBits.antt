-- The bits of an entry in the data of a PDO, by the mapping in force (CiA 301, 7.5.2.36).
use Rattle.std.specs.Prelude.{ℕ, ◌+◌, nat_lt, if◌then◌else◌, List, [], ◌∷◌, length, take, Option, Some, None, option_map, option_and_then}
use Rattle.std.specs.Option.{option_map_or}
use Rattle.co_value.specs.declared.key.Key.{Key}
use Rattle.co_value.specs.Keys.{same_key}
use Rattle.conode_explain_entries.specs.declared.state.PdoState.{PdoState}
use Rattle.conode_explain_cob_ids.specs.declared.claim.Claim.{Claim}
use Rattle.conode_explain_cob_ids.specs.Buses.{Bus, state_at}
use Rattle.conode_explain_cob_ids.specs.Content.{SheetMapping}
use Rattle.conode_explain_cob_ids.specs.SheetMappings.{sheet_mapping}
use Rattle.conode_explain_pdo.specs.declared.entry_bits.EntryBits.{EntryBits}
use Rattle.conode_explain_pdo.specs.declared.entry_bits.Place.{Place}
use Rattle.conode_explain_pdo.specs.Content.{Mapping}
use Rattle.conode_explain_pdo.specs.InForce.{mapping_in_force, word_count}
use Rattle.conode_explain_pdo.specs.Mappings.{bytes_for, part_bytes, total_bits, word_bits, word_key}

-- where the bits of an entry are: those of the first word that names it, from an offset on
unfoldable pub place_from : Key → ℕ → List ℕ → Option Place
place_from key offset [] = None
place_from key offset (word ∷ words) =
    if same_key key (word_key word) then Some (record { offset = offset; bits = word_bits word })
    else place_from key (offset + word_bits word) words

-- the bits at a place
abbrev pub bits_of : List ℕ → Place → EntryBits
bits_of bytes place = record { bits = place.bits; bytes = record { items = part_bytes bytes place.offset place.bits } }

-- the bits of an entry by the words of a mapping, where they name it; data that are shorter than
-- what is mapped have none
abbrev pub bits_by : Key → List ℕ → List ℕ → Option EntryBits
bits_by key bytes words =
    if nat_lt (length bytes) (bytes_for (total_bits words)) then None else option_map (bits_of bytes) (place_from key 0 words)

-- by a mapping; a multiplexed PDO has no words
unfoldable pub entry_bits : Key → List ℕ → Mapping → Option EntryBits
entry_bits key bytes mapping = bits_by key bytes (take (word_count mapping.count) mapping.words)

-- by the mapping of which the recording shows something: none while it is being changed
abbrev pub shown_bits : Key → List ℕ → Option SheetMapping → PdoState → Option EntryBits
shown_bits key bytes sheet state =
    if state.is_being_changed then None
    else option_and_then (entry_bits key bytes) (mapping_in_force state.now.mapping sheet)

-- by that of the sheet, if the sheet has all of it
abbrev pub assumed_bits : Key → List ℕ → Option SheetMapping → Option EntryBits
assumed_bits key bytes sheet = option_and_then (entry_bits key bytes) (mapping_in_force [] sheet)

-- by the mapping in force of a node's PDO, if all of it is known
unfoldable pub bits_in_force : Bus → Claim → Key → List ℕ → Option EntryBits
bits_in_force bus claim key bytes =
    option_map_or (shown_bits key bytes (sheet_mapping bus claim.node claim.index)) (state_at bus claim.node claim.index)
    (assumed_bits key bytes (sheet_mapping bus claim.node claim.index))

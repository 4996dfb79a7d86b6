-- What the parameter of an SDO channel has, by the data sheet and by what the recording shows (CiA
-- 301, 7.5.2.33 and 7.5.2.34): the COB-IDs of its requests and answers, and the node-ID of its other end.
use Rattle.std.specs.Prelude.{ℕ, Option, Some, None, option_map, option_and_then}
use Rattle.co_value.specs.declared.key.Key.{Key}
use Rattle.co_sheet_changes.specs.Names.{Names, entry_of}
use Rattle.conode_explain_entries.specs.declared.state.PdoState.{PdoState}
use Rattle.conode_explain_entries.specs.declared.state.Value.{Value}
use Rattle.conode_explain_entries.specs.declared.state.Value.TheVariants.{Assumed}
use Rattle.conode_explain_cob_ids.specs.Buses.{Bus, names_at, state_at}
use Rattle.conode_explain_cob_ids.specs.CobIds.{cob_id_of, word_for}
use Rattle.conode_explain_cob_ids.specs.Origins.{number_by, value_at}

-- the number that a node's sheet has, with the node-ID where that is added
unfoldable pub sheet_number : Names → ℕ → Key → Option ℕ
sheet_number names node key =
    option_map (λ cob_id. word_for cob_id node) (option_and_then (λ row. cob_id_of row.default) (entry_of names node key))

-- what the recording shows of a sub-index
abbrev pub shown_in : Option PdoState → ℕ → Value
shown_in None sub = Assumed
shown_in (Some state) sub = value_at state.now.mapping sub

unfoldable pub channel_word : Bus → ℕ → Key → Option ℕ
channel_word bus node key =
    number_by (sheet_number (names_at bus node) node key) (shown_in (state_at bus node key.index) key.sub)

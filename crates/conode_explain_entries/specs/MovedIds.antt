-- Identifiers of the pre-defined connection set whose node has another COB-ID for their service, as the recording shows it: of its
-- emergencies, and of its first four PDOs of each kind (CiA 301, 7.3.3, 7.5.2.17, 7.5.2.35 and 7.5.2.37).
use Rattle.std.specs.Prelude.{ℕ, ◌-◌, ◌/◌, ◌%◌, ◌^◌, ◌==◌, nat_lt, Bool, false, not, ◌&&◌, if◌then◌else◌, List, [], ◌∷◌, codes, decimal, find, slice_index_or, Option, Some, None, option_map, option_and_then}
use Rattle.conode_text.specs.Filled.{filled}
use Rattle.conode_explain_entries.specs.declared.entries.ShownPdo.{ShownPdo}
use Rattle.conode_explain_entries.specs.declared.moved.MovedId.{MovedId}
use Rattle.conode_explain_entries.specs.declared.state.PdoState.{PdoState}
use Rattle.conode_explain_entries.specs.declared.state.Value.{Value}
use Rattle.conode_explain_entries.specs.declared.state.Value.TheVariants.{Assumed, Seen, Saved}
use Rattle.conode_explain_entries.specs.Tables.{state_in}

-- ---- which entry has the COB-ID

-- the function codes of that set, which are identifiers in steps of 128, and the entries: 1014h, and the communication parameters of PDOs
abbrev pub indices : List (ℕ × ℕ)
indices =
    (1, 0x1014) ∷ (3, 0x1800) ∷ (4, 0x1400) ∷ (5, 0x1801) ∷ (6, 0x1401) ∷ (7, 0x1802) ∷ (8, 0x1402) ∷ (9, 0x1803) ∷ (10, 0x1403) ∷ []

unfoldable pub index_for : ℕ → Option ℕ
index_for code = option_map (λ row. row.1) (find (λ row. row.0 == code) indices)

-- what it has: 1014:00 is kept by its sub-index
abbrev pub cob_id_in : PdoState → ℕ → Value
cob_id_in state index = if index == 0x1014 then slice_index_or state.now.mapping 0 Assumed else state.now.cob_id

-- ---- whether it is another one

-- a COB-ID that is valid has this identifier of 11 bits: bits 31 and 29 are clear
abbrev pub has_identifier : ℕ → ℕ → Bool
has_identifier word id = (nat_lt word (2 ^ 31) && (word / 2 ^ 29 % 2 == 0)) && (word % 2 ^ 11 == id)

-- it is known, and hasn't the identifier
abbrev pub is_other : Value → ℕ → Bool
is_other (Seen word) id = not (has_identifier word id)
is_other (Saved word) id = not (has_identifier word id)
is_other _ id = false

abbrev pub moved_by : ℕ → ℕ → ℕ → PdoState → Option MovedId
moved_by node index id state =
    if is_other (cob_id_in state index) id then Some (record { node = node; index = index }) else None

-- of a node on an interface
abbrev pub moved_at : List ShownPdo → List ℕ → ℕ → ℕ → Option MovedId
moved_at table interface id index =
    option_and_then (moved_by (id % 128) index id) (state_in table interface (id % 128) index)

-- the node and the entry, where it has another COB-ID than this identifier
unfoldable pub moved_in : List ShownPdo → List ℕ → ℕ → Option MovedId
moved_in table interface id = option_and_then (moved_at table interface id) (index_for (id / 128))

-- ---- what is said of such a frame

unfoldable pub moved_words : MovedId → List ℕ
moved_words moved =
    if moved.index == 0x1014 then filled (codes "not EMCY node % (by its COB-ID)") (decimal moved.node ∷ [])
    else (if nat_lt moved.index 0x1800
    then filled (codes "not RPDO% node % (by its COB-ID)") (decimal (moved.index - 0x13FF) ∷ decimal moved.node ∷ [])
    else filled (codes "not TPDO% node % (by its COB-ID)") (decimal (moved.index - 0x17FF) ∷ decimal moved.node ∷ []))

-- Whose PDO an identifier is, by the COB-IDs of a data sheet (CiA 301, 7.5.2.35 and 7.5.2.37).
use Rattle.std.specs.Prelude.{ℕ, ◌+◌, ◌-◌, ◌/◌, ◌%◌, ◌^◌, ◌==◌, nat_lt, nat_le, Bool, true, false, not, ◌&&◌, if◌then◌else◌, pos, Option, Some, None}
use Rattle.co_dict.specs.CobIds.{is_restricted, is_default_sdo}
use Rattle.co_sheet.specs.Limits.{Default, number, node_id}
use Rattle.conode_explain_cob_ids.specs.declared.cob_id.SheetCobId.{SheetCobId}

-- the word of a PDO's COB-ID, and whether the node-ID is added to it
abbrev pub cob_id_of : Default → Option SheetCobId
cob_id_of (number (pos n)) = if nat_lt n (2 ^ 32) then Some (record { word = n; with_node = false }) else None
cob_id_of (node_id n) = if nat_lt n (2 ^ 32) then Some (record { word = n; with_node = true }) else None
cob_id_of other = None

-- an identifier that a PDO may have: no restricted one, and none of a default SDO channel
abbrev pub may_be_pdo : ℕ → Bool
may_be_pdo id = not (is_restricted id) && not (is_default_sdo id)

-- a PDO that exists, with this identifier of 11 bits: bits 31 and 29 are clear
abbrev pub has_identifier : ℕ → ℕ → Bool
has_identifier word id = (nat_lt word (2 ^ 31) && (word / 2 ^ 29 % 2 == 0)) && (word % 2 ^ 11 == id)

-- the node whose COB-ID an identifier would be: the one that the sheet is for; else by the sum with
-- the node-ID; without a sum the lower seven bits
abbrev pub node_for : Option ℕ → SheetCobId → ℕ → ℕ
node_for (Some node) cob_id id = node
node_for None cob_id id = if cob_id.with_node then id - cob_id.word % 2 ^ 11 else id % 128

-- an identifier that the pre-defined connection set has for an RPDO: 200h, 300h, 400h or 500h, and a
-- node-ID (CiA 301, 7.3.5)
abbrev pub is_default_rpdo : ℕ → Bool
is_default_rpdo id = (nat_le 2 (id / 256) && nat_le (id / 256) 5) && (id / 128 % 2 == 0)

abbrev pub word_for : SheetCobId → ℕ → ℕ
word_for cob_id node = if cob_id.with_node then cob_id.word + node else cob_id.word

abbrev pub is_node : ℕ → Bool
is_node node = nat_le 1 node && nat_le node 127

-- an identifier is that of a node's PDO
unfoldable pub is_of : SheetCobId → ℕ → ℕ → Bool
is_of cob_id id node = is_node node && has_identifier (word_for cob_id node) id

-- the node whose PDO has an identifier
unfoldable pub node_with : Option ℕ → SheetCobId → ℕ → Option ℕ
node_with only cob_id id = if is_of cob_id id (node_for only cob_id id) then Some (node_for only cob_id id) else None

-- Whose PDOs have an identifier, by the data sheets and by what the recording shows, else by the pre-defined connection set.
use Rattle.std.specs.Prelude.{ℕ, ◌/◌, ◌%◌, ◌==◌, Bool, false, not, ◌&&◌, ◌||◌, if◌then◌else◌, List, [], ◌∷◌, ◌++◌, filter_map, Option, Some, None, option_map, option_and_then, is_none, is_some}
use Rattle.std.specs.List.{list_any}
use Rattle.std.specs.Option.{option_map_or}
use Rattle.std.specs.Str.{bytes_eq}
use Rattle.co_profile.specs.declared.indices.IndexRange.{IndexRange}
use Rattle.co_profile.specs.Indices.{is_within, rpdo_communication, tpdo_communication}
use Rattle.conode_explain_entries.specs.declared.entries.ShownPdo.{ShownPdo}
use Rattle.conode_explain_entries.specs.declared.state.Value.{Value}
use Rattle.conode_explain_entries.specs.declared.state.Value.TheVariants.{Assumed, Seen, Saved}
use Rattle.conode_explain_cob_ids.specs.declared.claim.Claim.{Claim}
use Rattle.conode_explain_cob_ids.specs.declared.origin.Origin.TheVariants.{Sheet}
use Rattle.conode_explain_cob_ids.specs.declared.sheet.SheetPdo.{SheetPdo}
use Rattle.conode_explain_cob_ids.specs.Buses.{Bus, state_at}
use Rattle.conode_explain_cob_ids.specs.CobIds.{has_identifier, is_default_rpdo, may_be_pdo, node_with}
use Rattle.conode_explain_cob_ids.specs.Known.{KnownSheet, is_on, sheet_for}
use Rattle.conode_explain_cob_ids.specs.Named.{may_have}
use Rattle.conode_explain_cob_ids.specs.Origins.{is_from}
use Rattle.conode_explain_cob_ids.specs.ServiceIds.{service_with}
use Rattle.conode_explain_cob_ids.specs.SheetMappings.{is_assumed, sheet_mapping}

-- ---- by the data sheets

-- the recording shows the COB-ID of a node's PDO
abbrev pub is_cob_id_shown : Bus → ℕ → ℕ → Bool
is_cob_id_shown bus node index = option_map_or (λ state. not (is_from Sheet state.now.cob_id)) (state_at bus node index) false

-- the sheet that is for the node says it: no earlier one is for the node, and the recording doesn't
-- show the COB-ID
abbrev pub is_said : Bus → List KnownSheet → ℕ → ℕ → Bool
is_said bus earlier node index = is_none (sheet_for earlier bus.interface node) && not (is_cob_id_shown bus node index)

abbrev pub claim_of : Bus → List KnownSheet → ℕ → ℕ → Option Claim
claim_of bus earlier index node = if is_said bus earlier node index then Some (record { node = node; index = index }) else None

-- the node of a PDO follows from the sheet or the identifier: the sheet is for one node, or adds its
-- node-ID; or the node sends the PDO; or the pre-defined connection set has the identifier for an RPDO.
-- Another COB-ID of an RPDO is that of a sender, which the low bits name
abbrev pub names_node : Option ℕ → ℕ → SheetPdo → Bool
names_node only id pdo =
    (is_some only || pdo.cob_id.with_node) || (not (is_within rpdo_communication pdo.index) || is_default_rpdo id)

-- a sheet's PDO of a kind as one that has an identifier; the node that the sheet is for, if it is
-- for one
unfoldable pub sheet_claim : Bus → List KnownSheet → Option ℕ → IndexRange → ℕ → SheetPdo → Option Claim
sheet_claim bus earlier only range id pdo =
    if is_within range pdo.index && names_node only id pdo then option_and_then (claim_of bus earlier pdo.index) (node_with only pdo.cob_id id) else None

-- those of a sheet after earlier ones
abbrev pub sheet_claims : Bus → List KnownSheet → KnownSheet → IndexRange → ℕ → List Claim
sheet_claims bus earlier sheet range id =
    if is_on bus.interface sheet then filter_map (sheet_claim bus earlier sheet.names.only range id) sheet.pdos else []

-- those of all sheets after earlier ones
unfoldable pub sheets_claims : Bus → IndexRange → ℕ → List KnownSheet → List KnownSheet → List Claim
sheets_claims bus range id earlier [] = []
sheets_claims bus range id earlier (sheet ∷ sheets) =
    sheet_claims bus earlier sheet range id ++ sheets_claims bus range id (earlier ++ sheet ∷ []) sheets

-- ---- by what the recording shows

-- a COB-ID that is shown has the identifier
abbrev pub shows : Value → ℕ → Bool
shows (Seen word) id = has_identifier word id
shows (Saved word) id = has_identifier word id
shows _ id = false

-- a PDO of a kind has it on this bus
abbrev pub is_shown : Bus → IndexRange → ℕ → ShownPdo → Bool
is_shown bus range id pdo = is_within range pdo.index && (shows pdo.state.now.cob_id id && bytes_eq pdo.interface.items bus.interface)

unfoldable pub shown_claim : Bus → IndexRange → ℕ → ShownPdo → Option Claim
shown_claim bus range id pdo =
    if is_shown bus range id pdo then Some (record { node = pdo.node; index = pdo.index }) else None

-- the PDOs of a kind whose COB-IDs have an identifier
abbrev pub kind_claims : Bus → IndexRange → ℕ → List Claim
kind_claims bus range id = sheets_claims bus range id [] bus.sheets ++ filter_map (shown_claim bus range id) bus.entries

-- ---- by the pre-defined connection set, where no COB-ID is known

-- the PDO that it has an identifier for, by the function code: identifiers in steps of 128 (CiA 301, 7.3.3)
abbrev pub default_index : ℕ → Option ℕ
default_index code =
    if code == 3 then Some 0x1800
    else (if code == 4 then Some 0x1400
    else (if code == 5 then Some 0x1801
    else (if code == 6 then Some 0x1401
    else (if code == 7 then Some 0x1802
    else (if code == 8 then Some 0x1402
    else (if code == 9 then Some 0x1803
    else (if code == 10 then Some 0x1403 else None)))))))

abbrev pub default_claim : ℕ → Option Claim
default_claim id = option_map (λ index. record { node = id % 128; index = index }) (default_index (id / 128))

-- the recording shows another entry of it than its COB-ID, which its node's sheet doesn't have either
abbrev pub is_mapped : Bus → Claim → Bool
is_mapped bus claim =
    is_some (state_at bus claim.node claim.index)
    && (is_assumed (sheet_mapping bus claim.node claim.index) Assumed && not (is_cob_id_shown bus claim.node claim.index))

-- a service that a COB-ID names has the identifier in its place
abbrev pub free_claim : Bus → ℕ → Claim → List Claim
free_claim bus id claim = if is_some (service_with bus id) then [] else claim ∷ []

-- where it is of a kind
abbrev pub mapped_claim : Bus → IndexRange → ℕ → Option Claim → List Claim
mapped_claim bus range id None = []
mapped_claim bus range id (Some claim) = if is_within range claim.index && is_mapped bus claim then free_claim bus id claim else []

abbrev pub assumed_claims : Bus → IndexRange → ℕ → List Claim
assumed_claims bus range id = mapped_claim bus range id (default_claim id)

-- ---- all

-- those that nodes send: no two have the same identifier (CiA 301, 7.3.3), so one is assumed only where none has it by its COB-ID
abbrev pub or_assumed : List Claim → List Claim → List Claim
or_assumed [] assumed = assumed
or_assumed (claim ∷ claims) assumed = claim ∷ claims

abbrev pub sent_claims : Bus → ℕ → List Claim
sent_claims bus id = or_assumed (kind_claims bus tpdo_communication id) (assumed_claims bus tpdo_communication id)

-- those that nodes receive
abbrev pub received_claims : Bus → ℕ → List Claim
received_claims bus id = kind_claims bus rpdo_communication id ++ assumed_claims bus rpdo_communication id

-- a sender of which nothing is known: its node has no sheet, and the recording shows no entry of the PDO
abbrev pub is_unseen : Bus → Claim → Bool
is_unseen bus claim =
    not (claim.node == 0) && (is_none (sheet_for bus.sheets bus.interface claim.node) && is_none (state_at bus claim.node claim.index))

abbrev pub unseen_claim : Bus → Option Claim → List Claim
unseen_claim bus None = []
unseen_claim bus (Some claim) = if is_within tpdo_communication claim.index && is_unseen bus claim then claim ∷ [] else []

-- it is assumed where nodes receive an identifier, and none is known to send it
abbrev pub with_sender : List Claim → List Claim → List Claim → List Claim
with_sender unseen [] [] = []
with_sender unseen [] (claim ∷ claims) = unseen ++ claim ∷ claims
with_sender unseen (claim ∷ sent) received = (claim ∷ sent) ++ received

abbrev pub both_claims : Bus → ℕ → List Claim
both_claims bus id = with_sender (unseen_claim bus (default_claim id)) (sent_claims bus id) (received_claims bus id)

-- ---- a look before: most identifiers are no PDO's

abbrev pub sheet_may_have : ℕ → KnownSheet → Bool
sheet_may_have id sheet = list_any (may_have sheet.names.only id) sheet.pdos

-- it is the PDO that the pre-defined connection set has
abbrev pub is_claim_of : Option Claim → ShownPdo → Bool
is_claim_of None pdo = false
is_claim_of (Some claim) pdo = (pdo.node == claim.node) && (pdo.index == claim.index)

-- a PDO with it would be shown, on some bus
abbrev pub may_be_shown : ℕ → ShownPdo → Bool
may_be_shown id pdo = shows pdo.state.now.cob_id id || is_claim_of (default_claim id) pdo

abbrev pub may_be_claimed : Bus → ℕ → Bool
may_be_claimed bus id = list_any (sheet_may_have id) bus.sheets || list_any (may_be_shown id) bus.entries

-- ---- all that an identifier may be

-- all PDOs that have an identifier, if it is one that a PDO may have
unfoldable pub claims_with : Bus → ℕ → List Claim
claims_with bus id = if may_be_pdo id then both_claims bus id else []

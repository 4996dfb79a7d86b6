-- What data say as PDOs.
use Rattle.std.specs.Prelude.{ℕ, ◌-◌, nat_lt, Bool, if◌then◌else◌, List, [], ◌∷◌, ◌++◌, codes, decimal, Option, Some, None}
use Rattle.conode_explain_entries.specs.declared.state.PdoState.{PdoState}
use Rattle.conode_explain_entries.specs.declared.state.Value.{Value}
use Rattle.conode_explain_entries.specs.declared.state.Value.TheVariants.{Assumed}
use Rattle.conode_explain_cob_ids.specs.declared.claim.Claim.{Claim}
use Rattle.conode_explain_cob_ids.specs.Buses.{Bus, state_at}
use Rattle.conode_explain_cob_ids.specs.Content.{SheetMapping}
use Rattle.conode_explain_cob_ids.specs.SheetMappings.{is_assumed, sheet_mapping}
use Rattle.conode_explain_pdo.specs.InForce.{data_in_force}

-- the PDO and its node
unfoldable pub pdo_front : ℕ → ℕ → List ℕ
pdo_front index node =
    (if nat_lt index 0x1800 then codes "RPDO" ++ decimal (index - 0x13FF) else codes "TPDO" ++ decimal (index - 0x17FF))
    ++ codes " node " ++ decimal node

-- what is known of its COB-ID; of one of which the recording shows nothing the sheet's is assumed
abbrev pub cob_id_at : Option PdoState → Value
cob_id_at None = Assumed
cob_id_at (Some state) = state.now.cob_id

-- only the pre-defined connection set says that it has the identifier
abbrev pub assumed_mark : Bool → List ℕ
assumed_mark assumed = if assumed then codes "~" else []

-- by its mapping in the sheet and what the recording shows
unfoldable pub pdo_by : Bus → List ℕ → Claim → Option SheetMapping → Option PdoState → List ℕ
pdo_by bus bytes claim sheet state =
    assumed_mark (is_assumed sheet (cob_id_at state)) ++ pdo_front claim.index claim.node
    ++ data_in_force bus claim.node bytes sheet state

-- the PDO, its node, and what the data say
unfoldable pub pdo_text : Bus → List ℕ → Claim → List ℕ
pdo_text bus bytes claim =
    pdo_by bus bytes claim (sheet_mapping bus claim.node claim.index) (state_at bus claim.node claim.index)

-- each after a bar
unfoldable pub more_pdos : Bus → List ℕ → List Claim → List ℕ
more_pdos bus bytes [] = []
more_pdos bus bytes (claim ∷ claims) = codes " | " ++ pdo_text bus bytes claim ++ more_pdos bus bytes claims

-- what data say as these PDOs, with a bar between two
unfoldable pub pdos_text : Bus → List ℕ → List Claim → List ℕ
pdos_text bus bytes [] = []
pdos_text bus bytes (claim ∷ claims) = pdo_text bus bytes claim ++ more_pdos bus bytes claims

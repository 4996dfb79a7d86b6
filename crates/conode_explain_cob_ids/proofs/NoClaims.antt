-- Where no sheet and no COB-ID that is shown may have an identifier, it is no PDO's.
use Rattle.std.proofs.Common.{◌≡◌, ℕ, Bool, true, false, List, [], ◌∷◌, ◌++◌, Option, Some, None, refl, sym}
use Rattle.std.proofs.lemmas.List.{append-nil}
use Rattle.std.specs.Prelude.{◌&&◌, filter_map, ◌==◌, is_some, option_and_then, if◌then◌else◌}
use Rattle.std.specs.List.{list_any}
use Rattle.std.specs.Str.{bytes_eq}
use Rattle.std.proofs.lemmas.Bool.{or_parts}
use Rattle.co_profile.specs.declared.indices.IndexRange.{IndexRange}
use Rattle.co_profile.specs.Indices.{is_within, rpdo_communication, tpdo_communication}
use Rattle.conode_explain_entries.specs.declared.entries.ShownPdo.{ShownPdo}
use Rattle.conode_explain_entries.specs.Tables.{state_in}
use Rattle.conode_explain_cob_ids.specs.declared.claim.Claim.{Claim}
use Rattle.conode_explain_cob_ids.specs.declared.sheet.SheetPdo.{SheetPdo}
use Rattle.conode_explain_cob_ids.specs.Buses.{Bus, state_at}
use Rattle.conode_explain_cob_ids.specs.Claims.{assumed_claims, both_claims, claim_of, default_claim, free_claim, is_claim_of, sheet_may_have, may_be_shown, kind_claims, mapped_claim, may_be_claimed, names_node, sheet_claim, sheet_claims, sheets_claims, shown_claim, shows}
use Rattle.conode_explain_cob_ids.specs.CobIds.{node_with}
use Rattle.conode_explain_cob_ids.specs.Known.{KnownSheet, is_on}
use Rattle.conode_explain_cob_ids.specs.Named.{may_have}

if_none : {A B : Type 0} (test : Bool) (f : A → Option B) (found : Option A) → is_some found ≡ false
    → (if test then option_and_then f found else None) ≡ None
if_none true f None is = refl
if_none false f found is = refl
if_none true f (Some x) is = absurd cc

no_claim : (bus : Bus) (earlier : List KnownSheet) (only : Option ℕ) (range : IndexRange) (id : ℕ) (pdo : SheetPdo)
    → may_have only id pdo ≡ false → sheet_claim bus earlier only range id pdo ≡ None
unfolding sheet_claim
no_claim bus earlier only range id pdo is =
    if_none (is_within range pdo.index && names_node only id pdo) (claim_of bus earlier pdo.index) (node_with only pdo.cob_id id) is

no_pdos : (bus : Bus) (earlier : List KnownSheet) (only : Option ℕ) (range : IndexRange) (id : ℕ) (pdos : List SheetPdo)
    → list_any (may_have only id) pdos ≡ false → filter_map (sheet_claim bus earlier only range id) pdos ≡ []
no_pdos bus earlier only range id [] is = refl
no_pdos bus earlier only range id (pdo ∷ pdos) is =
    let parts = or_parts (may_have only id pdo) (list_any (may_have only id) pdos) is in
    rw (no_claim bus earlier only range id pdo parts.0) (no_pdos bus earlier only range id pdos parts.1)

if_nothing : {A : Type 0} (test : Bool) (xs : List A) → xs ≡ [] → (if test then xs else []) ≡ []
if_nothing true xs is = is
if_nothing false xs is = refl

no_sheet : (bus : Bus) (earlier : List KnownSheet) (sheet : KnownSheet) (range : IndexRange) (id : ℕ)
    → sheet_may_have id sheet ≡ false → sheet_claims bus earlier sheet range id ≡ []
no_sheet bus earlier sheet range id is =
    if_nothing (is_on bus.interface sheet) (filter_map (sheet_claim bus earlier sheet.names.only range id) sheet.pdos)
    (no_pdos bus earlier sheet.names.only range id sheet.pdos is)

pub no_sheets : (bus : Bus) (range : IndexRange) (id : ℕ) (earlier sheets : List KnownSheet)
    → list_any (sheet_may_have id) sheets ≡ false → sheets_claims bus range id earlier sheets ≡ []
unfolding sheets_claims
no_sheets bus range id earlier [] is = refl
no_sheets bus range id earlier (sheet ∷ sheets) is =
    let parts = or_parts (sheet_may_have id sheet) (list_any (sheet_may_have id) sheets) is in
    let here = no_sheet bus earlier sheet range id parts.0 in
    rw here (no_sheets bus range id (earlier ++ sheet ∷ []) sheets parts.1)

if_hidden : {A : Type 0} (first second third : Bool) (x : A) → second ≡ false → (if first && (second && third) then Some x else None) ≡ None
if_hidden true second third x is = rw is refl
if_hidden false second third x is = refl

not_shown : (bus : Bus) (range : IndexRange) (id : ℕ) (pdo : ShownPdo) → may_be_shown id pdo ≡ false → shown_claim bus range id pdo ≡ None
unfolding shown_claim
not_shown bus range id pdo is =
    let parts = or_parts (shows pdo.state.now.cob_id id) (is_claim_of (default_claim id) pdo) is in
    if_hidden (is_within range pdo.index) (shows pdo.state.now.cob_id id) _ _ parts.0

no_states : (bus : Bus) (range : IndexRange) (id : ℕ) (pdos : List ShownPdo)
    → list_any (may_be_shown id) pdos ≡ false → filter_map (shown_claim bus range id) pdos ≡ []
no_states bus range id [] is = refl
no_states bus range id (pdo ∷ pdos) is =
    let parts = or_parts (may_be_shown id pdo) (list_any (may_be_shown id) pdos) is in
    rw (not_shown bus range id pdo parts.0) (no_states bus range id pdos parts.1)

-- nor does the recording show the PDO that the pre-defined connection set has
other_order : (a b c : Bool) → a && b ≡ false → b && (a && c) ≡ false
other_order true true c is = absurd cc
other_order true false c is = refl
other_order false true c is = refl
other_order false false c is = refl

not_found : (interface : List ℕ) (id : ℕ) (claim : Claim) (pdos : List ShownPdo) → default_claim id ≡ Some claim
    → list_any (may_be_shown id) pdos ≡ false → state_in pdos interface claim.node claim.index ≡ None
not_found interface id claim [] at is = refl
not_found interface id claim (pdo ∷ pdos) at is =
    let parts = or_parts (may_be_shown id pdo) (list_any (may_be_shown id) pdos) is in
    let both = or_parts (shows pdo.state.now.cob_id id) (is_claim_of (default_claim id) pdo) parts.0 in
    let here : is_claim_of (Some claim) pdo ≡ false = rw at at both.1 in
    let hidden = other_order (pdo.node == claim.node) (pdo.index == claim.index) (bytes_eq pdo.interface.items interface) here in
    rw hidden (not_found interface id claim pdos at parts.1)

if_unknown : {A B : Type 0} (within known : Bool) (state : Option A) (xs : List B) → state ≡ None → (if within && (is_some state && known) then xs else []) ≡ []
if_unknown true known state xs is = rw is refl
if_unknown false known state xs is = refl

no_mapped : (bus : Bus) (range : IndexRange) (id : ℕ) (claim : Option Claim) → default_claim id ≡ claim
    → list_any (may_be_shown id) bus.entries ≡ false → mapped_claim bus range id claim ≡ []
no_mapped bus range id None at is = refl
no_mapped bus range id (Some claim) at is =
    if_unknown (is_within range claim.index) _ (state_at bus claim.node claim.index) (free_claim bus id claim) (not_found bus.interface id claim bus.entries at is)

no_assumed : (bus : Bus) (range : IndexRange) (id : ℕ) → may_be_claimed bus id ≡ false → assumed_claims bus range id ≡ []
no_assumed bus range id is =
    let parts = or_parts (list_any (sheet_may_have id) bus.sheets) (list_any (may_be_shown id) bus.entries) is in
    no_mapped bus range id (default_claim id) refl parts.1

no_kind : (bus : Bus) (range : IndexRange) (id : ℕ) → may_be_claimed bus id ≡ false → kind_claims bus range id ≡ []
no_kind bus range id is =
    let parts = or_parts (list_any (sheet_may_have id) bus.sheets) (list_any (may_be_shown id) bus.entries) is in
    let sheets = no_sheets bus range id [] bus.sheets parts.0 in
    let states = no_states bus range id bus.entries parts.1 in
    rw (sheets, states) refl

-- and nothing is added
pub none_added : (bus : Bus) (id : ℕ) (claims : List Claim) → may_be_claimed bus id ≡ false → claims ≡ claims ++ both_claims bus id
none_added bus id claims is =
    let sent = no_kind bus tpdo_communication id is in
    let received = no_kind bus rpdo_communication id is in
    let assumed = no_assumed bus tpdo_communication id is in
    let mapped = no_assumed bus rpdo_communication id is in
    rw (sent, received, assumed, mapped) (sym (append-nil claims))

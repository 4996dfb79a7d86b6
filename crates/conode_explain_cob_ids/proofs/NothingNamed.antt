-- Of an identifier that no data sheet names there is no PDO, no service, and no other COB-ID, where the recording shows device types alone.
use Rattle.std.proofs.Common.{◌≡◌, ℕ, Bool, true, false, List, [], ◌∷◌, Option, Some, None, eqb, refl, sym, ap, ◌∙◌}
use Rattle.std.specs.Prelude.{◌/◌, ◌%◌, ◌==◌, ◌&&◌, filter_map, find, if◌then◌else◌, is_some, not, option_and_then, option_map}
use Rattle.std.specs.List.{list_any}
use Rattle.std.specs.Str.{bytes_eq}
use Rattle.std.proofs.lemmas.Bool.{eqb-true, or_parts}
use Rattle.co_text.proofs.Tests.{by_test}
use Rattle.co_profile.specs.declared.indices.IndexRange.{IndexRange}
use Rattle.co_profile.specs.Indices.{is_within, rpdo_communication, tpdo_communication}
use Rattle.conode_explain_entries.specs.declared.entries.ShownPdo.{ShownPdo}
use Rattle.conode_explain_entries.specs.MovedIds.{index_for, indices, moved_at, moved_in}
use Rattle.conode_explain_entries.specs.Tables.{state_in}
use Rattle.conode_explain_cob_ids.specs.declared.claim.Claim.{Claim}
use Rattle.conode_explain_cob_ids.specs.Buses.{Bus, state_at}
use Rattle.conode_explain_cob_ids.specs.Claims.{assumed_claims, both_claims, claims_with, default_claim, free_claim, kind_claims, mapped_claim, sheet_may_have, shown_claim}
use Rattle.conode_explain_cob_ids.specs.CobIds.{may_be_pdo}
use Rattle.conode_explain_cob_ids.specs.Known.{KnownSheet}
use Rattle.conode_explain_cob_ids.specs.ServiceIds.{service_by_shown, service_on, service_with, sheet_may_serve}
use Rattle.conode_explain_cob_ids.specs.SheetServices.{is_service_index}
use Rattle.conode_explain_cob_ids.specs.Shown.{is_more, shows_more}
use Rattle.conode_explain_cob_ids.proofs.NamedIds.{no_service}
use Rattle.conode_explain_cob_ids.proofs.NoClaims.{no_sheets}

-- ---- tests

pub was_not : (test : Bool) → not test ≡ true → test ≡ false
was_not true is = absurd cc
was_not false is = refl

was : (test : Bool) → not test ≡ false → test ≡ true
was true is = refl
was false is = absurd cc

pub if_out : {A : Type 0} (test rest : Bool) (x : A) → test ≡ false → (if test && rest then Some x else None) ≡ None
if_out true rest x is = absurd cc
if_out false rest x is = refl

if_outside : {A : Type 0} (test rest : Bool) (xs : List A) → test ≡ false → (if test && rest then xs else []) ≡ []
if_outside true rest xs is = absurd cc
if_outside false rest xs is = refl

if_unknown : {A B : Type 0} (test known : Bool) (state : Option A) (xs : List B) → state ≡ None → (if test && (is_some state && known) then xs else []) ≡ []
if_unknown true known state xs is = rw is refl
if_unknown false known state xs is = refl

if_nothing : {A : Type 0} (test : Bool) (xs : List A) → xs ≡ [] → (if test then xs else []) ≡ []
if_nothing true xs is = is
if_nothing false xs is = refl

pub if_none : {A : Type 0} (test : Bool) (found : Option A) → found ≡ None → (if test then found else None) ≡ None
if_none true found is = is
if_none false found is = refl

hidden : (test rest : Bool) → test ≡ false → (test && rest) ≡ false
hidden true rest is = absurd cc
hidden false rest is = refl

-- ---- what is shown

pub type_index : (shown : ShownPdo) → is_more shown ≡ false → shown.index ≡ 0x1000
type_index shown is = eqb-true shown.index 0x1000 (was (eqb shown.index 0x1000) is)

-- no other entry is
not_in : (entries : List ShownPdo) (interface : List ℕ) (node index : ℕ) → shows_more entries ≡ false → eqb 0x1000 index ≡ false
    → state_in entries interface node index ≡ None
not_in [] interface node index only other = refl
not_in (shown ∷ entries) interface node index only other =
    let parts = or_parts (is_more shown) (shows_more entries) only in
    let differs : eqb shown.index index ≡ false = ap (λ (i : ℕ). eqb i index) (type_index shown parts.0) ∙ other in
    rw (hidden (eqb shown.index index) ((shown.node == node) && bytes_eq shown.interface.items interface) differs)
    (not_in entries interface node index parts.1 other)

-- ---- PDOs

not_shown : (bus : Bus) (range : IndexRange) (id : ℕ) (shown : ShownPdo) → is_within range 0x1000 ≡ false → is_more shown ≡ false
    → shown_claim bus range id shown ≡ None
unfolding shown_claim
not_shown bus range id shown out only =
    if_out (is_within range shown.index) _ _ (ap (λ (i : ℕ). is_within range i) (type_index shown only) ∙ out)

none_shown : (bus : Bus) (range : IndexRange) (id : ℕ) (entries : List ShownPdo) → is_within range 0x1000 ≡ false → shows_more entries ≡ false
    → filter_map (shown_claim bus range id) entries ≡ []
none_shown bus range id [] out only = refl
none_shown bus range id (shown ∷ entries) out only =
    let parts = or_parts (is_more shown) (shows_more entries) only in
    rw (not_shown bus range id shown out parts.0) (none_shown bus range id entries out parts.1)

other_index : (range : IndexRange) (index : ℕ) → is_within range 0x1000 ≡ false → is_within range index ≡ true → eqb 0x1000 index ≡ false
other_index range index out within = by_test (eqb 0x1000 index)
    (λ same.
    let is : 0x1000 ≡ index = eqb-true 0x1000 index same in
    let both : true ≡ false = sym within ∙ ap (λ (i : ℕ). is_within range i) (sym is) ∙ out in
    absurd cc)
    (λ differs. differs)

none_mapped : (bus : Bus) (range : IndexRange) (id : ℕ) (claim : Option Claim) → is_within range 0x1000 ≡ false → shows_more bus.entries ≡ false
    → mapped_claim bus range id claim ≡ []
none_mapped bus range id None out only = refl
none_mapped bus range id (Some claim) out only = by_test (is_within range claim.index)
    (λ within.
    let other = other_index range claim.index out within in
    if_unknown (is_within range claim.index) _ (state_at bus claim.node claim.index) (free_claim bus id claim)
    (not_in bus.entries bus.interface claim.node claim.index only other))
    (λ outside. if_outside (is_within range claim.index) _ (free_claim bus id claim) outside)

none_of_kind : (bus : Bus) (range : IndexRange) (id : ℕ) → is_within range 0x1000 ≡ false → list_any (sheet_may_have id) bus.sheets ≡ false
    → shows_more bus.entries ≡ false → kind_claims bus range id ≡ []
none_of_kind bus range id out sheets only =
    rw (no_sheets bus range id [] bus.sheets sheets, none_shown bus range id bus.entries out only) refl

none_of_both : (bus : Bus) (id : ℕ) → list_any (sheet_may_have id) bus.sheets ≡ false → shows_more bus.entries ≡ false → both_claims bus id ≡ []
none_of_both bus id sheets only =
    let sent = none_of_kind bus tpdo_communication id refl sheets only in
    let received = none_of_kind bus rpdo_communication id refl sheets only in
    let assumed : assumed_claims bus tpdo_communication id ≡ [] = none_mapped bus tpdo_communication id (default_claim id) refl only in
    let mapped : assumed_claims bus rpdo_communication id ≡ [] = none_mapped bus rpdo_communication id (default_claim id) refl only in
    rw (sent, received, assumed, mapped) refl

pub no_claims : (bus : Bus) (id : ℕ) → list_any (sheet_may_have id) bus.sheets ≡ false → shows_more bus.entries ≡ false → claims_with bus id ≡ []
unfolding claims_with
no_claims bus id sheets only = if_nothing (may_be_pdo id) (both_claims bus id) (none_of_both bus id sheets only)

-- ---- services

none_on : (bus : Bus) (id : ℕ) (sheets : List KnownSheet) → list_any (sheet_may_serve id) sheets ≡ false → filter_map (service_on bus id) sheets ≡ []
none_on bus id [] is = refl
none_on bus id (sheet ∷ sheets) is =
    let parts = or_parts (sheet_may_serve id sheet) (list_any (sheet_may_serve id) sheets) is in
    rw (sym (no_service bus id sheet parts.0)) (none_on bus id sheets parts.1)

not_served : (bus : Bus) (id : ℕ) (shown : ShownPdo) → is_more shown ≡ false → service_by_shown bus id shown ≡ None
unfolding service_by_shown
not_served bus id shown only =
    if_out (is_service_index shown.index) _ _ (ap (λ (i : ℕ). is_service_index i) (type_index shown only))

none_served : (bus : Bus) (id : ℕ) (entries : List ShownPdo) → shows_more entries ≡ false → filter_map (service_by_shown bus id) entries ≡ []
none_served bus id [] only = refl
none_served bus id (shown ∷ entries) only =
    let parts = or_parts (is_more shown) (shows_more entries) only in
    rw (not_served bus id shown parts.0) (none_served bus id entries parts.1)

pub serves_none : (bus : Bus) (id : ℕ) → list_any (sheet_may_serve id) bus.sheets ≡ false → shows_more bus.entries ≡ false → service_with bus id ≡ None
unfolding service_with
serves_none bus id sheets only =
    if_none (may_be_pdo id) _ (rw (none_on bus id bus.sheets sheets, none_served bus id bus.entries only) refl)

-- ---- other COB-IDs

moved_none : (entries : List ShownPdo) (interface : List ℕ) (id index : ℕ) → shows_more entries ≡ false → eqb 0x1000 index ≡ false
    → moved_at entries interface id index ≡ None
moved_none entries interface id index only other = rw (not_in entries interface (id % 128) index only other) refl

-- none of these entries is the device type
none_found : {A : Type 0} (rows : List (ℕ × ℕ)) (test : (ℕ × ℕ) → Bool) (f : ℕ → Option A)
    → ((index : ℕ) → eqb 0x1000 index ≡ false → f index ≡ None) → list_any (λ (row : ℕ × ℕ). eqb 0x1000 row.1) rows ≡ false
    → option_and_then f (option_map (λ (row : ℕ × ℕ). row.1) (find test rows)) ≡ None
none_found [] test f none other = refl
none_found (row ∷ rows) test f none other =
    let parts = or_parts (eqb 0x1000 row.1) (list_any (λ (r : ℕ × ℕ). eqb 0x1000 r.1) rows) other in
    by_test (test row) (λ yes. rw yes (none row.1 parts.0)) (λ no. rw no (none_found rows test f none parts.1))

pub not_moved : (entries : List ShownPdo) (interface : List ℕ) (id : ℕ) → shows_more entries ≡ false → moved_in entries interface id ≡ None
unfolding moved_in index_for
not_moved entries interface id only =
    none_found indices (λ (row : ℕ × ℕ). row.0 == (id / 128)) (moved_at entries interface id)
    (λ (index : ℕ) other. moved_none entries interface id index only other) refl

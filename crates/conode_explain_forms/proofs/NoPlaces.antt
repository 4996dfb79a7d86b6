-- Where nothing gives an SDO channel another COB-ID, no frame is of one.
use Rattle.std.proofs.Common.{◌≡◌, ℕ, Bool, true, false, List, [], ◌∷◌, length, Option, None, refl, sym, ap, arith}
use Rattle.std.specs.Prelude.{◌&&◌, filter_map, if◌then◌else◌}
use Rattle.std.proofs.lemmas.Bool.{or_parts}
use Rattle.conode_explain_entries.specs.declared.entries.ShownPdo.{ShownPdo}
use Rattle.conode_explain_forms.specs.declared.places.SheetChannel.{SheetChannel}
use Rattle.conode_explain_cob_ids.specs.Buses.{Bus}
use Rattle.conode_explain_cob_ids.specs.CobIds.{may_be_pdo}
use Rattle.conode_explain_cob_ids.specs.Shown.{is_more, shows_more}
use Rattle.conode_explain_cob_ids.proofs.NothingNamed.{if_none, type_index}
use Rattle.conode_explain_forms.specs.Places.{channels_of, is_parameter, place_by_shown, place_in}

none_there : {A : Type 0} (xs : List A) → length xs ≡ 0 → xs ≡ []
none_there [] none = refl
none_there (x ∷ xs) none = absurd (omega (arith, none))

if_hidden : {A : Type 0} (test rest : Bool) (found : Option A) → test ≡ false → (if test && rest then found else None) ≡ None
if_hidden true rest found is = absurd cc
if_hidden false rest found is = refl

not_placed : (bus : Bus) (id : ℕ) (shown : ShownPdo) → is_more shown ≡ false → place_by_shown bus id shown ≡ None
unfolding place_by_shown
not_placed bus id shown only =
    if_hidden (is_parameter shown.index) _ _ (ap (λ (i : ℕ). is_parameter i) (type_index shown only))

none_placed : (bus : Bus) (id : ℕ) (entries : List ShownPdo) → shows_more entries ≡ false → filter_map (place_by_shown bus id) entries ≡ []
none_placed bus id [] only = refl
none_placed bus id (shown ∷ entries) only =
    let parts = or_parts (is_more shown) (shows_more entries) only in
    rw (not_placed bus id shown parts.0) (none_placed bus id entries parts.1)

pub no_place : (bus : Bus) (channels : List SheetChannel) → channels ≡ channels_of bus.sheets → length channels ≡ 0 → shows_more bus.entries ≡ false
    → (id : ℕ) → place_in bus id ≡ None
unfolding place_in
no_place bus channels of none only id =
    let empty : channels_of bus.sheets ≡ [] = rw (sym of) (none_there channels none) in
    if_none (may_be_pdo id) _ (rw (empty, none_placed bus id bus.entries only) refl)

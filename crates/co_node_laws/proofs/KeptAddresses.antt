-- An input that is no reset and writes neither the COB-ID of SYNC nor a parameter of an RPDO leaves all of these as they are.
use Rattle.std.proofs.Common.{◌≡◌, ◌<◌, ◌≤◌, Bool, true, false, ◌∷◌, Option, Some, None, refl, sym, ◌∙◌, arith}
use Rattle.std.specs.Prelude.{◌||◌}
use Rattle.std.proofs.lemmas.Bool.Decides.{nat_tests}
use Rattle.co_value.specs.declared.key.Key.{Key}
use Rattle.co_value.specs.Keys.{same_key}
use Rattle.co_dict.specs.Rows.{Contents}
use Rattle.co_dict.specs.Stores.{Description}
use Rattle.co_node_model.specs.Inputs.{InputView, Inputs}
use Rattle.co_node_model.specs.Addresses.{is_address_set, is_rpdo_key, may_change_addresses}
use Rattle.co_profile.specs.Keys.{sync_key}
use Rattle.co_node_model.specs.Nmt.{is_reset}
use Rattle.co_node_model.specs.Moments.{Constants, contents_at}
use Rattle.co_node_model.specs.Device.{moment, moments, contents_of}
use Rattle.co_node_model.specs.Marks.{marked_key}
use Rattle.co_node_laws.proofs.Below.{Below}
use Rattle.co_node_laws.proofs.Received.{MayBecome, changed}
use Rattle.co_node_laws.proofs.SameSettings.{written_other}

both_off : (a b : Bool) → a || b ≡ false → (a ≡ false) × (b ≡ false)
both_off true b off = absurd (cc)
both_off false b off = (refl, off)

apart : (set key : Key) → is_rpdo_key set ≡ false → 0x1400 ≤ key.index → key.index < 0x1800 → same_key set key ≡ false
apart set key off low high = grind (arith, nat_tests)

rpdos_by_set : (d : Description) (set : Option Key) (c e : Contents) → MayBecome d set c e → is_address_set set ≡ false
    → (key : Key) → 0x1400 ≤ key.index → key.index < 0x1800 → c key ≡ e key
rpdos_by_set d None c e may off key low high = may.same key (omega arith) (omega arith)
rpdos_by_set d (Some set) c e may off key low high =
    sym (written_other c set key may.0 (apart set key (both_off (same_key set sync_key) (is_rpdo_key set) off).1 low high))
    ∙ may.1.same.same key (omega arith) (omega arith)

sync_by_set : (d : Description) (set : Option Key) (c e : Contents) → MayBecome d set c e → is_address_set set ≡ false
    → c sync_key ≡ e sync_key
sync_by_set d None c e may off = may.same sync_key (omega arith) (omega arith)
sync_by_set d (Some set) c e may off =
    sym (written_other c set sync_key may.0 (both_off (same_key set sync_key) (is_rpdo_key set) off).0)
    ∙ may.1.same.same sync_key (omega arith) (omega arith)

module _ (below : Below) (k : Constants) (inputs : Inputs) (input : InputView)
    (off : may_change_addresses (moment k (moments k inputs) input).mark ≡ false) where
  neither : (is_reset (moment k (moments k inputs) input).mark ≡ false) × (is_address_set (marked_key (moment k (moments k inputs) input).mark) ≡ false)
  neither = both_off (is_reset (moment k (moments k inputs) input).mark) (is_address_set (marked_key (moment k (moments k inputs) input).mark)) off

  may : MayBecome k.description (marked_key (moment k (moments k inputs) input).mark) (contents_at k (moments k inputs)) (moment k (moments k inputs) input).contents
  may = changed below k (moments k inputs) input neither.0

  pub kept_rpdos : (key : Key) → 0x1400 ≤ key.index → key.index < 0x1800
      → contents_of k inputs key ≡ contents_of k (input ∷ inputs) key
  kept_rpdos key low high = rpdos_by_set k.description _ _ _ may neither.1 key low high

  pub kept_sync : contents_of k inputs sync_key ≡ contents_of k (input ∷ inputs) sync_key
  kept_sync = sync_by_set k.description _ _ _ may neither.1

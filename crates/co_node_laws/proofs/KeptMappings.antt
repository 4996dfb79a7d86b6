-- An input that is no reset and writes no mapping parameter leaves all of them as they are.
use Rattle.std.proofs.Common.{◌≡◌, ◌≤◌, Bool, true, false, ◌∷◌, Option, Some, None, refl, sym, ◌∙◌, arith}
use Rattle.std.specs.Prelude.{◌||◌}
use Rattle.std.proofs.lemmas.Bool.Decides.{nat_tests}
use Rattle.co_value.specs.declared.key.Key.{Key}
use Rattle.co_value.specs.Keys.{same_key}
use Rattle.co_dict.specs.Rows.{Contents}
use Rattle.co_dict.specs.Stores.{Description}
use Rattle.co_node_model.specs.Inputs.{InputView, Inputs}
use Rattle.co_node_model.specs.Nmt.{is_reset}
use Rattle.co_node_model.specs.Moments.{Constants, contents_at}
use Rattle.co_node_model.specs.Device.{moment, moments, contents_of}
use Rattle.co_node_laws.proofs.Below.{Below}
use Rattle.co_node_laws.proofs.Received.{MayBecome, after_watched, changed_watched}
use Rattle.co_node_laws.proofs.SameSettings.{from_1600, same_mappings, to_1BFF, written_other}
use Rattle.co_node_model.specs.Mappings.{is_mapping_key, is_mapping_set, may_change_mappings, AgreeOnMappings}
use Rattle.co_node_model.specs.Marks.{marked_key}

both_off : (a b : Bool) → a || b ≡ false → (a ≡ false) × (b ≡ false)
both_off true b off = absurd (cc)
both_off false b off = (refl, off)

apart : (set key : Key) → is_mapping_key set ≡ false → is_mapping_key key ≡ true → same_key set key ≡ false
apart set key off there = grind (arith, nat_tests)

by_set : (d : Description) (set : Option Key) (c e : Contents) → MayBecome d set c e → is_mapping_set set ≡ false → AgreeOnMappings c e
by_set d None c e may off key there =
    let low : 0x1600 ≤ key.index = from_1600 key there in
    let high : key.index ≤ 0x1BFF = to_1BFF key there in
    may.same key (omega arith) (omega arith)
by_set d (Some set) c e may off key there =
    let low : 0x1600 ≤ key.index = from_1600 key there in
    let high : key.index ≤ 0x1BFF = to_1BFF key there in
    sym (written_other c set key may.0 (apart set key off there)) ∙ may.1.same.same key (omega arith) (omega arith)

pub kept_mappings : Below → (k : Constants) (inputs : Inputs) (input : InputView)
    → may_change_mappings (moment k (moments k inputs) input).mark ≡ false
    → AgreeOnMappings (contents_of k inputs) (moment k (moments k inputs) input).watched
kept_mappings below k inputs input off key there =
    let history = moments k inputs in
    let m = moment k history input in
    let both = both_off (is_reset m.mark) (is_mapping_set (marked_key m.mark)) off in
    by_set k.description (marked_key m.mark) (contents_at k history) m.watched (changed_watched below k history input both.0) both.1 key there

pub mappings_after : Below → (k : Constants) (inputs : Inputs) (input : InputView)
    → AgreeOnMappings (moment k (moments k inputs) input).watched (contents_of k (input ∷ inputs))
mappings_after below k inputs input = same_mappings _ _ (after_watched below k (moments k inputs) input)
